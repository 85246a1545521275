-- The rows between the two marks, which don't fall.
use native.Mathlib.Omega.{arith}
use Rattle.writer.proofs.Reports.{rows_ordered}
use Rattle.writer.proofs.row_count.Goals as goal

pub overflow_sub-result : goal.overflow_sub-result
overflow_sub-result c = omega (arith, rows_ordered c.requires)
