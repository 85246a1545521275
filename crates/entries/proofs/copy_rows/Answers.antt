-- `copy_rows` meets its contract. The loop's invariant: the rows before i are copied.
use Rattle.entries.proofs.Copies.{copied_none, copied_more, copied_all}
use Rattle.entries.proofs.copy_rows.Goals as goal

pub loop-i-init : goal.loop-i-init
loop-i-init c = let a = c.args in
    copied_none a.values.now a.from a.to a.rows.now a.end c.requires.0.ordered

pub loop-i-preserved : goal.loop-i-preserved
loop-i-preserved c = copied_more c.loop-i.invariant c.loop-i-test.true
    c.requires.1 c.row_at.result c.row_at.ensures c.put_row.ensures

pub shape_of-rows : goal.shape_of-rows
shape_of-rows c = c.loop-i.invariant.done.long

pub returns : goal.returns
returns c = copied_all c.loop-i.invariant c.loop-i-test.false
