use Rattle.node_sets.proofs.Marking.{Marking}
use Rattle.node_sets.proofs.mark_ends.Given as goal

-- `mark_ends` meets its contract. The loop's invariant: the entries from cursor to i are marked.
abbrev pub invariant-loop-i : goal.invariant-loop-i
invariant-loop-i l = Marking l.numbers l.cursor l.count l.low.0 l.initial.at l.at l.sets l.end l.i
