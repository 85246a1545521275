use Rattle.image_words.specs.Parts.{OwnersRead}
use Rattle.image_words.proofs.read_owners.Given as goal

-- `read_owners` meets its contract. The loop's invariant: the owners of the first k entries are read.
abbrev pub invariant-loop-k : goal.invariant-loop-k
invariant-loop-k l = OwnersRead l.image l.k l.owners l.numbers
