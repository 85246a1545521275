-- `move_down` meets its contract: rows moved and marks lowered together are sets moved.
use Rattle.node_sets.proofs.Moving.{down, down_rows, down_marks}
use Rattle.node_sets.proofs.move_down.Goals as goal

pub copy_down-requires : goal.copy_down-requires
copy_down-requires c = down_rows _ _ _ c.requires

pub lower_marks-requires : goal.lower_marks-requires
lower_marks-requires c = down_marks _ _ _ c.requires

pub returns : goal.returns
returns c = down _ _ _ c.requires c.copy_down.ensures c.lower_marks.ensures
