use Rattle.call.specs.Blocks.{ListPut}
use Rattle.image_words.proofs.Reading.{bytes_to}
use Rattle.image_words.proofs.put_bytes.Given as goal

-- `put_bytes` meets its contract. The loop's invariant: the bytes of the first k words are put.
abbrev pub invariant-loop-k : goal.invariant-loop-k
invariant-loop-k l = ListPut l.initial.bytes 0 l.bytes (bytes_to l.words l.k)
