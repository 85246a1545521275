use Rattle.node_sets.proofs.Marking.{Raising}
use Rattle.node_sets.proofs.raise_marks.Given as goal

-- `raise_marks` meets its contract. The loop's invariant: k marks are raised, m is the last of them, and those behind it are as they were.
abbrev pub invariant-loop-k : goal.invariant-loop-k
invariant-loop-k l = Raising l.initial.at l.at l.sets l.n l.m l.k
