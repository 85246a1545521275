use Prim.Native.Nat.{◌-◌}
use Rattle.report.proofs.Entries.{Passed}
use Rattle.report.proofs.rows_ascend.Given as goal

-- `report::rows_ascend` meets its contract: after k turns the first k entries are passed, and `at` is where the rows of the next begin.
abbrev pub invariant-loop-k : goal.invariant-loop-k
invariant-loop-k l = Passed l.report l.at l.k

abbrev pub decreases-loop-k : goal.decreases-loop-k
decreases-loop-k l = l.points - l.k
