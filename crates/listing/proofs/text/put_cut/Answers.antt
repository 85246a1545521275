-- `put_cut` meets its contract, cut short or not.
use native.Mathlib.Omega.{arith}
use Rattle.writer.proofs.Putting.{put_none}
use Rattle.lines.proofs.Lines.{refused_short}
use Rattle.listing.proofs.text.put_cut.Goals as goal

pub put_refused-requires : goal.put_refused-requires
put_refused-requires c = omega (arith, refused_short c.of_event.result.0 c.of_event.result.1)

pub returns-in-Cut : goal.returns-in-Cut
returns-in-Cut c = rw c.in-Cut.is (rw c.of_event.ensures at c.put_refused.ensures)

pub returns-in-Event : goal.returns-in-Event
returns-in-Event c = rw c.in-Event.is put_none

pub returns-in-Ended : goal.returns-in-Ended
returns-in-Ended c = rw c.in-Ended.is put_none
