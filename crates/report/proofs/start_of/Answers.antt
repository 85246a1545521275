-- `report::start_of` meets its contract: the place is computed as the definition has it, and no sum or product of it wraps.
use native.Mathlib.Omega.{arith}
use Rattle.report.proofs.Sums.{small_product}
use Rattle.report.proofs.start_of.Goals as goal

pub overflow_mul-result-2 : goal.overflow_mul-result-2
overflow_mul-result-2 c = omega (arith, small_product c.word-free.result c.rows_before-above.result (omega arith) (omega arith))

pub overflow_add-result-2 : goal.overflow_add-result-2
overflow_add-result-2 c = omega (arith, small_product c.word-free.result c.rows_before-above.result (omega arith) (omega arith))

pub returns : goal.returns
returns c = (cc)
