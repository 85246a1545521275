use Rattle.report.proofs.Runs.{Rising}
use Rattle.report.proofs.run_ascends.Given as goal

-- `report::run_ascends` meets its contract: each turn compares the first two of the rows that are left, and leaves the first of them behind.
abbrev pub invariant-loop-left : goal.invariant-loop-left
invariant-loop-left l = Rising l.words l.start l.stride l.width l.count l.at l.left

abbrev pub decreases-loop-left : goal.decreases-loop-left
decreases-loop-left l = l.left
