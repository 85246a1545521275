-- `report::sizes_fit` meets its contract: each `return` is one case of the test.
use native.Mathlib.Omega.{arith}
use Rattle.report.proofs.Forms.{too_short, points_out, free_out, words_test}
use Rattle.report.proofs.Sums.{small_product}
use Rattle.report.proofs.sizes_fit.Goals as goal

pub returns-then-report-lt3 : goal.returns-then-report-lt3
returns-then-report-lt3 c = too_short _ c.if-report-lt3.true

pub returns-then-points-gt-MOST_REPORTED : goal.returns-then-points-gt-MOST_REPORTED
returns-then-points-gt-MOST_REPORTED c = points_out _ (omega arith) (omega arith)

pub returns-then-free-gt4 : goal.returns-then-free-gt4
returns-then-free-gt4 c = free_out _ (omega arith) (omega arith) (omega arith)

pub overflow_mul-result-2 : goal.overflow_mul-result-2
overflow_mul-result-2 c = omega (arith, small_product c.word-free.result c.word-total.result (omega arith) (omega arith))

pub overflow_add-result-2 : goal.overflow_add-result-2
overflow_add-result-2 c = omega (arith, small_product c.word-free.result c.word-total.result (omega arith) (omega arith))

pub returns : goal.returns
returns c = words_test _ _ _ _ c.word-points.ensures.is c.word-free.ensures.is c.word-total.ensures.is (omega arith) (omega arith) c.if-free-gt4.false
