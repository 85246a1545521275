-- `children_weight` meets its contract, for no child, one and two.
use native.Mathlib.Omega.{arith}
use mathlib.Core.Path.{refl}
use mathlib.Core.List.Memᴰ
use Rattle.figures.proofs.Weighed.{sum_one, sum_two}
use Rattle.figures.proofs.children_weight.Goals as goal

pub bounds-words-a : goal.bounds-words-a
bounds-words-a c = c.requires.0 c.in-One.a (rw c.in-One.is (Memᴰ.head refl))

pub bounds-words-a-in-Two : goal.bounds-words-a-in-Two
bounds-words-a-in-Two c = c.requires.0 c.in-Two.a (rw c.in-Two.is (Memᴰ.head refl))

pub bounds-words-b : goal.bounds-words-b
bounds-words-b c = c.requires.0 c.in-Two.b (rw c.in-Two.is (Memᴰ.tail (Memᴰ.head refl)))

pub overflow_add-result : goal.overflow_add-result
overflow_add-result c = omega (arith, sum_two c.args.words.now c.in-Two.is, c.requires.1)

pub returns-in-One : goal.returns-in-One
returns-in-One c = sum_one c.args.words.now c.in-One.is

pub returns-in-Two : goal.returns-in-Two
returns-in-Two c = sum_two c.args.words.now c.in-Two.is
