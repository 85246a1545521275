use Rattle.node_sets.proofs.Moving.{Lowering}
use Rattle.node_sets.proofs.lower_marks.Given as goal

-- `lower_marks` meets its contract. The loop's invariant: the marks of k sets are lowered, and those behind them are as they were.
abbrev pub invariant-loop-k : goal.invariant-loop-k
invariant-loop-k l = Lowering l.initial.at l.at l.n l.d l.m l.by l.k
