-- `put_row` meets its contract: the first value, then after each turn one value more, then the line end.
use native.Mathlib.Omega.{arith}
use mathlib.Core.Path.{refl}
use lib.ListN.{length-append}
use Rattle.writer.proofs.Putting.{put_long, put_then, putting_none, putting_room, putting_more, putting_last}
use Rattle.lines.specs.Text.{figure, space}
use Rattle.lines.proofs.Putting.{row_none, row-some, values_next, values_end}
use Rattle.lines.proofs.text.put_row.Goals as goal

pub put_text-requires : goal.put_text-requires
put_text-requires c = omega (arith, rw (row_none c.args.row.now c.if-n-eq0.true) at c.requires)

pub returns-then-n-eq0 : goal.returns-then-n-eq0
returns-then-n-eq0 c = rw (row_none c.args.row.now c.if-n-eq0.true) c.put_text.ensures

pub put_number-end-requires : goal.put_number-end-requires
put_number-end-requires c = omega (arith, simp length-append at (rw (row-some c.args.row.now (omega arith)) at c.requires))

pub loop-k-init : goal.loop-k-init
loop-k-init c = let pre = rw (row-some c.args.row.now (omega arith)) at c.requires in
    (refl, omega arith, omega arith, refl, putting_none refl (simp length-append (omega (arith, simp length-append at pre, c.put_number-end.ensures.place, put_long c.put_number-end.ensures))))

pub put_figure-end-requires : goal.put_figure-end-requires
put_figure-end-requires c = putting_room (figure space _) _ (rw (values_next c.args.row.now c.loop-k.k c.loop-k-test.true) at c.loop-k.invariant.4)

pub loop-k-preserved : goal.loop-k-preserved
loop-k-preserved c = let more = putting_more (rw (values_next c.args.row.now c.loop-k.k c.loop-k-test.true) at c.loop-k.invariant.4) c.put_figure-end.ensures in
    (refl, omega arith, omega arith, put_long more.put, more)

pub put_text-requires-2 : goal.put_text-requires-2
put_text-requires-2 c = (rw (values_end c.args.row.now c.loop-k.k _ refl c.loop-k-test.false (omega arith)) at c.loop-k.invariant.4).room

pub returns : goal.returns
returns c = let rest = rw (values_end c.args.row.now c.loop-k.k _ refl c.loop-k-test.false (omega arith)) at c.loop-k.invariant.4 in
    rw (row-some c.args.row.now (omega arith)) (put_then c.put_number-end.ensures (putting_last rest c.put_text-2.ensures))
