use Rattle.call.specs.Blocks.{ListPut}
use Rattle.image_words.specs.Parts.{owners_from}
use Rattle.image_words.proofs.put_owners.Given as goal

-- `put_owners` meets its contract. The loop's invariant: the words of the first k owners are put.
abbrev pub invariant-loop-k : goal.invariant-loop-k
invariant-loop-k l = ListPut l.initial.image 5 l.image (owners_from l.owners l.numbers l.k)
