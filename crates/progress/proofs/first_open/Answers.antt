-- The scan gives from the start what it gives from `i` on, until it stops.
use native.Mathlib.Omega.{arith}
use mathlib.Core.Path.{◌∙◌}
use Rattle.progress.proofs.Scans.{scan_more}
use Rattle.progress.proofs.first_open.Goals as goal

pub loop-i-preserved : goal.loop-i-preserved
loop-i-preserved c = (c.loop-i.invariant.0 ∙ scan_more _ _ _ _ _ c.loop-i-test.true c.time.ensures c.ends_by.ensures c.if-not-ends_by.false, omega arith)
