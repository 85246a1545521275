-- `settle_points` meets its contract. The loop's invariant: the points before i are settled.
use native.Mathlib.Omega.{arith}
use mathlib.Core.Path.{◌∙◌}
use Rattle.node_step.proofs.Going.{going_none, point_ready, going_crowded, going_more, going_all}
use Rattle.node_step.proofs.settle_points.Goals as goal

pub loop-i-init : goal.loop-i-init
loop-i-init c = (going_none c.requires.points_ready, omega arith)

pub overflow_sub-i : goal.overflow_sub-i
overflow_sub-i c = omega (arith, c.loop-i.invariant.0.begun)

pub overflow_add-sets : goal.overflow_add-sets
overflow_add-sets c = omega (arith, c.requires.points_ready.small, c.loop-i.invariant.0.begun, c.loop-i-test.true)

pub settle_next-done-requires : goal.settle_next-done-requires
settle_next-done-requires c = record { next_ready = point_ready c.requires.points_ready c.loop-i.invariant.0 c.loop-i-test.true; set_room = record { most = c.requires.set_room.most; there = omega (arith, c.requires.set_room.there, c.loop-i.invariant.1) } }

pub shape_of-rows-then-not-done : goal.shape_of-rows-then-not-done
shape_of-rows-then-not-done c = c.settle_next-done.ensures.stay.rows_long ∙ c.loop-i.invariant.0.more.rows_long

pub shape_of-at-then-not-done : goal.shape_of-at-then-not-done
shape_of-at-then-not-done c = c.settle_next-done.ensures.stay.at_long ∙ c.loop-i.invariant.0.more.at_long

pub shape_of-out-then-not-done : goal.shape_of-out-then-not-done
shape_of-out-then-not-done c = c.out-1.given ∙ c.loop-i.invariant.1

pub returns-then-not-done : goal.returns-then-not-done
returns-then-not-done c = going_crowded c.requires.points_ready c.loop-i.invariant.0 c.loop-i-test.true c.settle_next-done.ensures c.if-not-done.true

pub overflow_add-i : goal.overflow_add-i
overflow_add-i c = omega (arith, c.loop-i-test.true)

pub loop-i-smaller : goal.loop-i-smaller
loop-i-smaller c = omega (arith, c.loop-i-test.true)

pub loop-i-preserved : goal.loop-i-preserved
loop-i-preserved c = (going_more c.requires.points_ready c.loop-i.invariant.0 c.loop-i-test.true c.settle_next-done.ensures c.if-not-done.false, c.out-1.given ∙ c.loop-i.invariant.1)

pub shape_of-rows : goal.shape_of-rows
shape_of-rows c = c.loop-i.invariant.0.more.rows_long

pub shape_of-at : goal.shape_of-at
shape_of-at c = c.loop-i.invariant.0.more.at_long

pub shape_of-out : goal.shape_of-out
shape_of-out c = c.loop-i.invariant.1

pub returns : goal.returns
returns c = going_all c.requires.points_ready c.loop-i.invariant.0 c.loop-i-test.false
