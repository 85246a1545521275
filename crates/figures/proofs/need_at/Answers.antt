-- `need_at` meets its contract, for no child, one and two.
use native.Mathlib.Omega.{arith}
use mathlib.Core.Path.{refl}
use mathlib.Core.List.Memᴰ
use Rattle.meaning.proofs.Accepted.{accepted}
use Rattle.figures.proofs.Needs.{sized, child_sized, need_none, need_one, need_two}
use Rattle.figures.proofs.need_at.Goals as goal

pub children_at-children-requires : goal.children_at-children-requires
children_at-children-requires c = let r = c.requires.0 in
    omega (arith, (accepted _ r.0 r.1).long, c.requires.2)

pub rows_in-requires : goal.rows_in-requires
rows_in-requires c = let r = c.requires.0 in
    sized c.args.rule.now r.0 r.1 c.args.table.now c.requires.1 c.args.x c.requires.2

pub need_of_one-requires : goal.need_of_one-requires
need_of_one-requires c = let r = c.requires.0 in
    let k = child_sized c.args.rule.now r.0 r.1 c.args.table.now c.requires.1 c.args.needs.now c.args.x c.requires.2 c.requires.4 c.children_at-children.ensures c.requires.3 c.in-One.a (rw c.in-One.is (Memᴰ.head refl)) in
    (sized c.args.rule.now r.0 r.1 c.args.table.now c.requires.1 c.args.x c.requires.2, k.0, k.1)

pub need_of_two-requires : goal.need_of_two-requires
need_of_two-requires c = let r = c.requires.0 in
    let k = child_sized c.args.rule.now r.0 r.1 c.args.table.now c.requires.1 c.args.needs.now c.args.x c.requires.2 c.requires.4 c.children_at-children.ensures c.requires.3 c.in-Two.a (rw c.in-Two.is (Memᴰ.head refl)) in
    let j = child_sized c.args.rule.now r.0 r.1 c.args.table.now c.requires.1 c.args.needs.now c.args.x c.requires.2 c.requires.4 c.children_at-children.ensures c.requires.3 c.in-Two.b (rw c.in-Two.is (Memᴰ.tail (Memᴰ.head refl))) in
    (sized c.args.rule.now r.0 r.1 c.args.table.now c.requires.1 c.args.x c.requires.2, k.0, j.0, k.1, j.1, k.2, j.2)

pub returns-in-None : goal.returns-in-None
returns-in-None c = let r = c.requires.0 in
    need_none c.args.rule.now r.0 r.1 c.args.table.now c.requires.1 c.args.needs.now c.args.x c.requires.2 c.requires.4 c.children_at-children.ensures c.in-None.is c.rows_in.ensures

pub returns-in-One : goal.returns-in-One
returns-in-One c = let r = c.requires.0 in
    need_one c.args.rule.now r.0 r.1 c.args.table.now c.requires.1 c.args.needs.now c.args.x c.requires.2 c.requires.4 c.children_at-children.ensures c.in-One.is c.need_of_one.ensures

pub returns-in-Two : goal.returns-in-Two
returns-in-Two c = let r = c.requires.0 in
    need_two c.args.rule.now r.0 r.1 c.args.table.now c.requires.1 c.args.needs.now c.args.x c.requires.2 c.requires.4 c.children_at-children.ensures c.in-Two.is c.need_of_two.ensures
