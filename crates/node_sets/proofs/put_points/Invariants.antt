use Rattle.node_sets.proofs.Keeping.{Numbering}
use Rattle.node_sets.proofs.put_points.Given as goal

-- `put_points` meets its contract. The loop's invariant: the points of k sets are put, and next is behind them.
abbrev pub invariant-loop-k : goal.invariant-loop-k
invariant-loop-k l = Numbering l.at l.q l.n l.from.0 l.initial.numbers l.end l.numbers l.next l.k
