-- `put_digits` meets its contract: after each turn one digit more is put, the last one first.
use native.Mathlib.Omega.{arith}
use mathlib.Core.Path.{refl}
use lib.ListN.{length-set}
use Rattle.lines.proofs.Spelling.{digit_low, spelling_none, spelling_more, spelling_all}
use Rattle.lines.proofs.text.put_digits.Goals as goal

pub loop-i-init : goal.loop-i-init
loop-i-init c = (omega arith, refl, spelling_none)

pub overflow_cast-out : goal.overflow_cast-out
overflow_cast-out c = omega (arith, digit_low c.loop-i.rest)

pub overflow_add-out : goal.overflow_add-out
overflow_add-out c = omega (arith, digit_low c.loop-i.rest)

pub loop-i-preserved : goal.loop-i-preserved
loop-i-preserved c = let more = spelling_more c.loop-i.invariant.2 c.loop-i-test.true in
    (omega arith, simp length-set c.loop-i.invariant.1, more)

pub returns : goal.returns
returns c = spelling_all c.loop-i.invariant.2 c.loop-i-test.false
