-- `take_all` meets its contract: a whole event is within what is unread, and its answer's text within the room that was made.
use native.Mathlib.Omega.{arith}
use mathlib.Core.Path.{sym, ◌∙◌}
use lib.Seq.{length-take-le}
use Rattle.writer.proofs.Putting.{put_long}
use Rattle.lines.proofs.Inputs.{event_there}
use Rattle.listing.proofs.Rests.{part_long}
use Rattle.listing.proofs.take_all.Goals as goal

pub slice_bounds-event-end : goal.slice_bounds-event-end
slice_bounds-event-end g c = omega (arith, (event_there _ _ (sym c.next_event-next.ensures.next ∙ c.in-Event.is)).0)

pub slice_bounds-take_event-end : goal.slice_bounds-take_event-end
slice_bounds-take_event-end g c = sym (length-take-le c.in-Event.n c.next_event-next.new.words (omega (arith, (event_there _ _ (sym c.next_event-next.ensures.next ∙ c.in-Event.is)).0)))

pub overflow_mul-from : goal.overflow_mul-from
overflow_mul-from g c = omega (arith, (event_there _ _ (sym c.next_event-next.ensures.next ∙ c.in-Event.is)).0)

pub overflow_add-from : goal.overflow_add-from
overflow_add-from g c = omega (arith, (event_there _ _ (sym c.next_event-next.ensures.next ∙ c.in-Event.is)).0, c.loop.invariant)

pub loop-preserved : goal.loop-preserved
loop-preserved g c =
    let i = c.loop.invariant in
    let text = put_long c.take_event-end.ensures.event_answered.put in
    let there = event_there _ _ (sym c.next_event-next.ensures.next ∙ c.in-Event.is) in
    let long = part_long c.loop.bytes c.loop.from c.loop.to i.1 (omega (arith, i.2)) in
    (omega (arith, i.0), omega (arith, there.1, long, i.1), i.2, omega (arith, c.make_room-at.ensures, text))
