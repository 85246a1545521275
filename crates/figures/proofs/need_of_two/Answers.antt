-- `need_of_two` meets its contract, by the test of the weights.
use mathlib.Core.List.{[]}
use lib.ListN.{get_or}
use Rattle.method.specs.Room.{need_of_two}
use Rattle.figures.specs.Tables.{rows_in}
use Rattle.figures.proofs.Needs.{right_first, left_first}
use Rattle.figures.proofs.need_of_two.Goals as goal

pub returns-then-weight_in : goal.returns-then-weight_in
returns-then-weight_in c = let a = c.args in
    right_first (need_of_two [] (rows_in a.table.now) (λ y. get_or a.needs.now y 0) a.x) a.a a.b c.weight_in.ensures c.weight_in-2.ensures c.if-weight_in.true c.need_in_order.ensures

pub returns-else-weight_in : goal.returns-else-weight_in
returns-else-weight_in c = let a = c.args in
    left_first (need_of_two [] (rows_in a.table.now) (λ y. get_or a.needs.now y 0) a.x) a.a a.b c.weight_in.ensures c.weight_in-2.ensures c.if-weight_in.false c.need_in_order-else-weight_in.ensures
