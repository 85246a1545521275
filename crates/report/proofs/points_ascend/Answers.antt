-- `report::points_ascend` meets its contract: the points are rows of one word, three words apart.
use native.Mathlib.Omega.{arith}
use mathlib.Core.Path.{◌∙◌}
use Rattle.report.proofs.Runs.{points_run}
use Rattle.report.proofs.points_ascend.Goals as goal

pub returns : goal.returns
returns c = c.run_ascends.ensures ∙ points_run _ _ c.word-points.ensures.is (omega arith)
