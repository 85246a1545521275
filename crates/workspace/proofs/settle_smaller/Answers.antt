-- `settle_smaller` meets its contract. The check finds all of it alone; that the first room is one that there is stands here, so that an edit of `has_room` beside it doesn't hide a wrong size.
use mathlib.Core.Path.{refl}
use Rattle.workspace.proofs.settle_smaller.Goals as goal

pub settle_in-requires-clause-room : goal.settle_in-requires-clause-room
settle_in-requires-clause-room c = (refl, refl, refl)
