-- `settle_next` meets its contract: the rows that the point has, put behind the others, are its set.
use native.Mathlib.Omega.{arith}
use Rattle.node_step.proofs.Going.{next_settled}
use Rattle.node_step.proofs.settle_next.Goals as goal

pub settle_point-k-requires : goal.settle_point-k-requires
settle_point-k-requires c = record { asked = c.requires.next_ready.asks; set_room = c.requires.set_room }

pub push_set-requires : goal.push_set-requires
push_set-requires c = record { set_room = record { most = c.requires.set_room.most; there = omega (arith, c.requires.set_room.there, c.out-1.given) }; space = c.requires.next_ready.space }

pub shape_of-rows : goal.shape_of-rows
shape_of-rows c = c.push_set.ensures.stay.rows_long

pub shape_of-at : goal.shape_of-at
shape_of-at c = c.push_set.ensures.stay.at_long

pub shape_of-out : goal.shape_of-out
shape_of-out c = c.out-1.given

pub returns : goal.returns
returns c = next_settled c.settle_point-k.ensures c.push_set.ensures
