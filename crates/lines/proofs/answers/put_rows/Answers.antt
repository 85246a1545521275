-- `put_rows` meets its contract: after each turn the line of one row more is put.
use native.Mathlib.Nat.{add-sub_cancel_left}
use native.Mathlib.Omega.{arith}
use mathlib.Core.Path.{refl}
use Rattle.report.proofs.Runs.{one_row}
use Rattle.writer.proofs.Putting.{put_long, putting_none, putting_room, putting_more, putting_all}
use Rattle.lines.specs.Text.{row_line}
use Rattle.lines.proofs.Points.{rows_next, rows_end}
use Rattle.lines.proofs.answers.put_rows.Goals as goal

pub loop-left-init : goal.loop-left-init
loop-left-init c = (c.requires.count_in_bounds, refl, putting_none refl c.requires.count_in_bounds_2)

pub overflow_add-to : goal.overflow_add-to
overflow_add-to c = omega (arith, one_row c.args.width c.loop-left.left c.loop-left-test.true)

pub slice_bounds-put_row-end : goal.slice_bounds-put_row-end
slice_bounds-put_row-end c = omega (arith, one_row c.args.width c.loop-left.left c.loop-left-test.true)

pub put_row-end-requires : goal.put_row-end-requires
put_row-end-requires c = let a = c.args in
    rw add-sub_cancel_left (putting_room (row_line _) _ (rw (rows_next a.words.now c.loop-left.from a.width c.loop-left.left c.loop-left-test.true) at c.loop-left.invariant.2))

pub loop-left-preserved : goal.loop-left-preserved
loop-left-preserved c = let a = c.args in
    let more = putting_more (rw (rows_next a.words.now c.loop-left.from a.width c.loop-left.left c.loop-left-test.true) at c.loop-left.invariant.2) (rw add-sub_cancel_left at c.put_row-end.ensures) in
    (omega (arith, one_row a.width c.loop-left.left c.loop-left-test.true), put_long more.put, more)

pub returns : goal.returns
returns c = putting_all (rw (rows_end c.args.words.now c.loop-left.from c.args.width c.loop-left.left c.loop-left-test.false) at c.loop-left.invariant.2)
