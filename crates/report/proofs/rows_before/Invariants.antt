use Prim.Native.Nat.{◌-◌, ◌≤◌}
use Rattle.report.specs.Form.{Sum}
use Rattle.report.proofs.rows_before.Given as goal

-- `report::rows_before` meets its contract: after j turns the sum is that of the first j counts, and at most j words large.
abbrev pub invariant-loop-j : goal.invariant-loop-j
invariant-loop-j l = Sum l.report l.j l.sum × (l.j ≤ l.k)

abbrev pub decreases-loop-j : goal.decreases-loop-j
decreases-loop-j l = l.k - l.j
