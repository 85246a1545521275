-- `put_number` meets its contract: what is put are the digits of the definition.
use native.Mathlib.Omega.{arith}
use Rattle.lines.proofs.Digits.{decimal_digits}
use Rattle.lines.proofs.Spelling.{decimal_long}
use Rattle.lines.proofs.text.put_number.Goals as goal

pub put_digits-requires : goal.put_digits-requires
put_digits-requires c = omega (arith, decimal_long c.args.n _ (omega arith) c.digit_count-k.ensures)

pub overflow_add-result : goal.overflow_add-result
overflow_add-result c = omega (arith, decimal_long c.args.n _ (omega arith) c.digit_count-k.ensures)

pub returns : goal.returns
returns c = rw (decimal_digits _ _ (omega arith) c.digit_count-k.ensures) at c.put_digits.ensures
