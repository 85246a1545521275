-- `rulefile::count_children` meets its contract, for no child, one and two.
use native.Mathlib.Omega.{arith}
use mathlib.Core.List.Memᴰ
use mathlib.Core.Path.{refl}
use lib.ListN.{length}
use Rattle.meaning.specs.declared.Children.TheVariants.{One, Two}
use Rattle.rulefile.proofs.Parents.{counted_no_child, counted_one, counted_two, counted_room, child_room}
use Rattle.rulefile.proofs.count_children.Goals as goal

pub count_child-requires : goal.count_child-requires
count_child-requires c = let args = c.args in
    let pre = c.requires in
    (child_room args.children (One c.in-One.a) c.in-One.a (length args.uses.now) c.in-One.is (Memᴰ.head refl) pre.0, omega (arith, pre.1 c.in-One.a))

pub count_child-requires-in-Two : goal.count_child-requires-in-Two
count_child-requires-in-Two c = let args = c.args in
    let pre = c.requires in
    (child_room args.children (Two c.in-Two.a c.in-Two.b) c.in-Two.a (length args.uses.now) c.in-Two.is (Memᴰ.head refl) pre.0, omega (arith, pre.1 c.in-Two.a))

pub count_child-requires-in-Two-2 : goal.count_child-requires-in-Two-2
count_child-requires-in-Two-2 c = let args = c.args in
    let pre = c.requires in
    (omega (arith, child_room args.children (Two c.in-Two.a c.in-Two.b) c.in-Two.b (length args.uses.now) c.in-Two.is (Memᴰ.tail (Memᴰ.head refl)) pre.0), counted_room args.uses.now c.count_child-in-Two.new.uses c.in-Two.a c.in-Two.b pre.1 c.count_child-in-Two.ensures)

pub returns-in-None : goal.returns-in-None
returns-in-None c = let args = c.args in counted_no_child args.uses.now args.children c.in-None.is

pub returns-in-One : goal.returns-in-One
returns-in-One c = let args = c.args in
    counted_one args.uses.now c.count_child.new.uses c.in-One.a args.children c.in-One.is c.count_child.ensures

pub returns-in-Two : goal.returns-in-Two
returns-in-Two c = let args = c.args in
    counted_two args.uses.now c.count_child-in-Two.new.uses c.count_child-in-Two-2.new.uses c.in-Two.a c.in-Two.b args.children c.in-Two.is c.count_child-in-Two.ensures c.count_child-in-Two-2.ensures
