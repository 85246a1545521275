-- After each turn the words of one row more are written.
use Prim.Native.Nat.{◌-◌}
use native.Mathlib.Omega.{arith}
use mathlib.Core.Path.{ap}
use Rattle.meaning.specs.Keeper.{report_row}
use Rattle.kinds.specs.Kinds.{in_mask}
use Rattle.writer.proofs.Putting.{put_long, putting_none, turn_room, turn_more, turn_all}
use Rattle.writer.proofs.Reports.{gather_rows}
use Rattle.writer.proofs.put_rows.Goals as goal
use Rattle.writer.proofs.put_rows.Invariants.{give}

pub loop-i-init : goal.loop-i-init
loop-i-init c = let a = c.args in
    (c.requires.run.ordered, putting_none (gather_rows (report_row (in_mask a.mask)) a.rows.now a.from (a.to - a.from)) c.requires.from_in_bounds)

pub put_row-k-requires : goal.put_row-k-requires
put_row-k-requires c = let a = c.args in
    turn_room (give a.mask a.rows.now) c.loop-i.invariant.1 c.loop-i-test.true (ap (report_row (in_mask a.mask)) c.row_at.ensures)

pub loop-i-preserved : goal.loop-i-preserved
loop-i-preserved c = let a = c.args in
    (omega arith, turn_more (give a.mask a.rows.now) c.loop-i.invariant.1 c.loop-i-test.true (ap (report_row (in_mask a.mask)) c.row_at.ensures) c.put_row-k.ensures)

pub shape_of-buf : goal.shape_of-buf
shape_of-buf c = put_long c.loop-i.invariant.1.put

pub returns : goal.returns
returns c = turn_all (give c.args.mask c.args.rows.now) c.loop-i.invariant.1 c.loop-i-test.false
