-- `want_children` meets its contract, for no child, one and two.
use native.Mathlib.Omega.{arith}
use mathlib.Core.List.Memᴰ
use mathlib.Core.Path.{refl}
use Rattle.wanted.proofs.want_children.Goals as goal

pub want_child-requires : goal.want_child-requires
want_child-requires c = c.requires _ (rw c.in-One.is (Memᴰ.head refl))

pub want_child-requires-in-Two : goal.want_child-requires-in-Two
want_child-requires-in-Two c = c.requires _ (rw c.in-Two.is (Memᴰ.head refl))

pub want_child-requires-in-Two-2 : goal.want_child-requires-in-Two-2
want_child-requires-in-Two-2 c = let h = c.requires c.in-Two.b (rw c.in-Two.is (Memᴰ.tail (Memᴰ.head refl))) in
    (h.0, omega (arith, h.1))
