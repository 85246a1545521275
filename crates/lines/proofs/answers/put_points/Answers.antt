-- `put_points` meets its contract: after each turn the text of one entry more is put.
use native.Mathlib.Omega.{arith}
use mathlib.Core.Path.{refl}
use lib.ListN.{length-append}
use Rattle.report.proofs.Forms.{summed_of}
use Rattle.writer.proofs.Putting.{put_long, put_then, putting_none, turn_room, turn_more, turn_all}
use Rattle.lines.proofs.Points.{give, text_whole, listed_none, listed_text, listed_room, listed_more}
use Rattle.lines.proofs.answers.put_points.Goals as goal

pub bounds-words-0 : goal.bounds-words-0
bounds-words-0 c = omega (arith, (summed_of _ c.requires.words_value).sized.head)

pub bounds-words-1 : goal.bounds-words-1
bounds-words-1 c = omega (arith, (summed_of _ c.requires.words_value).sized.head)

pub loop-k-init : goal.loop-k-init
loop-k-init c = (refl, listed_none (summed_of _ c.requires.words_value) c.size-points.ensures.0 c.size-width.ensures.0, putting_none (text_whole _ c.requires.words_value c.size-points.ensures.0) (omega (arith, c.requires.words_in_bounds)))

pub put_point-below-requires : goal.put_point-below-requires
put_point-below-requires c = let l = c.loop-k.invariant.1 in
    omega (arith, simp length-append at (turn_room (give c.args.words.now) c.loop-k.invariant.2 c.loop-k-test.true (listed_text l c.loop-k-test.true refl)))

pub put_rows-end-requires : goal.put_rows-end-requires
put_rows-end-requires c = let l = c.loop-k.invariant.1 in
    let n = c.size-rows.ensures.0 in
    let room = turn_room (give c.args.words.now) c.loop-k.invariant.2 c.loop-k-test.true (listed_text l c.loop-k-test.true n) in
    record { count_in_bounds = listed_room l c.loop-k-test.true n; count_in_bounds_2 = omega (arith, simp length-append at room, c.put_point-below.ensures.place, put_long c.put_point-below.ensures) }

pub overflow_mul-start-in-loop-k : goal.overflow_mul-start-in-loop-k
overflow_mul-start-in-loop-k c = omega (arith, listed_room c.loop-k.invariant.1 c.loop-k-test.true c.size-rows.ensures.0)

pub overflow_add-start-in-loop-k : goal.overflow_add-start-in-loop-k
overflow_add-start-in-loop-k c = omega (arith, listed_room c.loop-k.invariant.1 c.loop-k-test.true c.size-rows.ensures.0)

pub loop-k-preserved : goal.loop-k-preserved
loop-k-preserved c = let l = c.loop-k.invariant.1 in
    let n = c.size-rows.ensures.0 in
    let more = turn_more (give c.args.words.now) c.loop-k.invariant.2 c.loop-k-test.true (listed_text l c.loop-k-test.true n) (put_then c.put_point-below.ensures c.put_rows-end.ensures) in
    (put_long more.put, listed_more l c.loop-k-test.true n, more)

pub returns : goal.returns
returns c = turn_all (give c.args.words.now) c.loop-k.invariant.2 c.loop-k-test.false
