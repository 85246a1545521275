-- The sizes, three words a point and the free variables of each row.
use Prim.Native.Nat.{◌*◌, ◌^◌, ◌<◌}
use native.Mathlib.Omega.{arith}
use mathlib.Core.Path.{sym}
use Rattle.writer.proofs.Reports.{product_below, words_length}
use Rattle.writer.proofs.words_needed.Goals as goal

pub overflow_mul-result-2 : goal.overflow_mul-result-2
overflow_mul-result-2 c = record { fits = omega (arith, (let it : c.free_count-free.result * c.row_count-total.result < 2 ^ 34 = product_below c.free_count-free.ensures.1 (omega arith) in it)) }

pub overflow_add-result-2 : goal.overflow_add-result-2
overflow_add-result-2 c = record { fits = omega (arith, (let it : c.free_count-free.result * c.row_count-total.result < 2 ^ 34 = product_below c.free_count-free.ensures.1 (omega arith) in it)) }

pub returns : goal.returns
returns c rows times = rw (c.free_count-free.ensures.0, c.row_count-total.ensures) (sym (words_length rows _ times _ c.requires))
