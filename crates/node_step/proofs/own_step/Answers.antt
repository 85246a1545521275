-- `own_step` meets its contract: the node's kept sets are loaded, its new points settled, its block is kept, and its sets take the place of its children's.
use Prim.Native.Nat.{◌≤◌}
use native.Mathlib.Omega.{arith}
use mathlib.Core.Path.{◌∙◌}
use lib.ListN.{length}
use Rattle.meaning.proofs.Accepted.{accepted}
use Rattle.node_step.specs.Figures.{called}
use Rattle.node_step.specs.Walks.{set_words}
use Rattle.node_step.proofs.Numbers.{Numbers, figures_at, numbers, load_ready}
use Rattle.node_step.proofs.Seeing.{children_figures}
use Rattle.node_step.proofs.Keeping.{set_room, table_stays, room_stays}
use Rattle.node_step.proofs.Stepping.{Loads, points_ready, block_ready, down_laid}
use Rattle.node_step.proofs.Ending.{step-crowded, step_kept}
use Rattle.node_step.proofs.own_step.Goals as goal

pub node_at-node-requires : goal.node_at-node-requires
node_at-node-requires c = let (a, ok) = c.requires.call_ready.formed.accepted in
    ((accepted _ a ok).long, c.requires.x_bound.0)

pub children_at-children-requires : goal.children_at-children-requires
children_at-children-requires c = children_figures c.requires.call_ready c.args.x c.requires.x_bound.0 c.node_at-node.ensures

pub own_figures-own-requires : goal.own_figures-own-requires
own_figures-own-requires c = figures_at c.requires.call_ready c.args.x c.requires.x_bound.0

pub overflow_add-base : goal.overflow_add-base
overflow_add-base c = omega (arith, ((let it : Numbers c.args.log.points c.args.x (length c.args.stamps.now) (length c.args.owners.now) (length c.args.numbers.now) (length c.args.values.now) (length c.args.figures.now) c.own_figures-own.result = numbers c.requires.call_ready c.args.x c.requires.x_bound.0 c.own_figures-own.ensures in it)).few_points)

pub overflow_cast-base : goal.overflow_cast-base
overflow_cast-base c = omega (arith, ((let it : Numbers c.args.log.points c.args.x (length c.args.stamps.now) (length c.args.owners.now) (length c.args.numbers.now) (length c.args.values.now) (length c.args.figures.now) c.own_figures-own.result = numbers c.requires.call_ready c.args.x c.requires.x_bound.0 c.own_figures-own.ensures in it)).few_points, ((let it : Numbers c.args.log.points c.args.x (length c.args.stamps.now) (length c.args.owners.now) (length c.args.numbers.now) (length c.args.values.now) (length c.args.figures.now) c.own_figures-own.result = numbers c.requires.call_ready c.args.x c.requires.x_bound.0 c.own_figures-own.ensures in it)).few_stamps)

pub overflow_sub-base : goal.overflow_sub-base
overflow_sub-base c = omega (arith, ((let it : Numbers c.args.log.points c.args.x (length c.args.stamps.now) (length c.args.owners.now) (length c.args.numbers.now) (length c.args.values.now) (length c.args.figures.now) c.own_figures-own.result = numbers c.requires.call_ready c.args.x c.requires.x_bound.0 c.own_figures-own.ensures in it)).few_stamps)

pub overflow_sub-loaded : goal.overflow_sub-loaded
overflow_sub-loaded c = omega (arith, ((let it : Numbers c.args.log.points c.args.x (length c.args.stamps.now) (length c.args.owners.now) (length c.args.numbers.now) (length c.args.values.now) (length c.args.figures.now) c.own_figures-own.result = numbers c.requires.call_ready c.args.x c.requires.x_bound.0 c.own_figures-own.ensures in it)).low_before)

pub overflow_sub-made : goal.overflow_sub-made
overflow_sub-made c = omega (arith, ((let it : Numbers c.args.log.points c.args.x (length c.args.stamps.now) (length c.args.owners.now) (length c.args.numbers.now) (length c.args.values.now) (length c.args.figures.now) c.own_figures-own.result = numbers c.requires.call_ready c.args.x c.requires.x_bound.0 c.own_figures-own.ensures in it)).low_before, ((let it : Numbers c.args.log.points c.args.x (length c.args.stamps.now) (length c.args.owners.now) (length c.args.numbers.now) (length c.args.values.now) (length c.args.figures.now) c.own_figures-own.result = numbers c.requires.call_ready c.args.x c.requires.x_bound.0 c.own_figures-own.ensures in it)).before_after)

pub offset_bounds-numbers-from : goal.offset_bounds-numbers-from
offset_bounds-numbers-from c = omega (arith, (let it : Numbers c.args.log.points c.args.x (length c.args.stamps.now) (length c.args.owners.now) (length c.args.numbers.now) (length c.args.values.now) (length c.args.figures.now) c.own_figures-own.result = numbers c.requires.call_ready c.args.x c.requires.x_bound.0 c.own_figures-own.ensures in it))

pub slice_bounds-old_ages-count : goal.slice_bounds-old_ages-count
slice_bounds-old_ages-count c = omega (arith, (let it : Numbers c.args.log.points c.args.x (length c.args.stamps.now) (length c.args.owners.now) (length c.args.numbers.now) (length c.args.values.now) (length c.args.figures.now) c.own_figures-own.result = numbers c.requires.call_ready c.args.x c.requires.x_bound.0 c.own_figures-own.ensures in it))

pub slice_bounds-old_ages-start : goal.slice_bounds-old_ages-start
slice_bounds-old_ages-start c = omega (arith, (let it : Numbers c.args.log.points c.args.x (length c.args.stamps.now) (length c.args.owners.now) (length c.args.numbers.now) (length c.args.values.now) (length c.args.figures.now) c.own_figures-own.result = numbers c.requires.call_ready c.args.x c.requires.x_bound.0 c.own_figures-own.ensures in it))

pub slice_bounds-old_ages-end : goal.slice_bounds-old_ages-end
slice_bounds-old_ages-end c = omega (arith, (let it : Numbers c.args.log.points c.args.x (length c.args.stamps.now) (length c.args.owners.now) (length c.args.numbers.now) (length c.args.values.now) (length c.args.figures.now) c.own_figures-own.result = numbers c.requires.call_ready c.args.x c.requires.x_bound.0 c.own_figures-own.ensures in it))

pub overflow_mul-old_values : goal.overflow_mul-old_values
overflow_mul-old_values c = omega (arith, (let it : Numbers c.args.log.points c.args.x (length c.args.stamps.now) (length c.args.owners.now) (length c.args.numbers.now) (length c.args.values.now) (length c.args.figures.now) c.own_figures-own.result = numbers c.requires.call_ready c.args.x c.requires.x_bound.0 c.own_figures-own.ensures in it))

pub overflow_mul-old_values-2 : goal.overflow_mul-old_values-2
overflow_mul-old_values-2 c = omega (arith, (let it : Numbers c.args.log.points c.args.x (length c.args.stamps.now) (length c.args.owners.now) (length c.args.numbers.now) (length c.args.values.now) (length c.args.figures.now) c.own_figures-own.result = numbers c.requires.call_ready c.args.x c.requires.x_bound.0 c.own_figures-own.ensures in it))

pub offset_bounds-values-from : goal.offset_bounds-values-from
offset_bounds-values-from c = omega (arith, (let it : Numbers c.args.log.points c.args.x (length c.args.stamps.now) (length c.args.owners.now) (length c.args.numbers.now) (length c.args.values.now) (length c.args.figures.now) c.own_figures-own.result = numbers c.requires.call_ready c.args.x c.requires.x_bound.0 c.own_figures-own.ensures in it))

pub slice_bounds-old_values-count : goal.slice_bounds-old_values-count
slice_bounds-old_values-count c = omega (arith, (let it : Numbers c.args.log.points c.args.x (length c.args.stamps.now) (length c.args.owners.now) (length c.args.numbers.now) (length c.args.values.now) (length c.args.figures.now) c.own_figures-own.result = numbers c.requires.call_ready c.args.x c.requires.x_bound.0 c.own_figures-own.ensures in it))

pub slice_bounds-old_values-start : goal.slice_bounds-old_values-start
slice_bounds-old_values-start c = omega (arith, (let it : Numbers c.args.log.points c.args.x (length c.args.stamps.now) (length c.args.owners.now) (length c.args.numbers.now) (length c.args.values.now) (length c.args.figures.now) c.own_figures-own.result = numbers c.requires.call_ready c.args.x c.requires.x_bound.0 c.own_figures-own.ensures in it))

pub slice_bounds-old_values-end : goal.slice_bounds-old_values-end
slice_bounds-old_values-end c = omega (arith, (let it : Numbers c.args.log.points c.args.x (length c.args.stamps.now) (length c.args.owners.now) (length c.args.numbers.now) (length c.args.values.now) (length c.args.figures.now) c.own_figures-own.result = numbers c.requires.call_ready c.args.x c.requires.x_bound.0 c.own_figures-own.ensures in it))

pub load_sets-requires : goal.load_sets-requires
load_sets-requires c = load_ready c.requires.call_ready c.args.x c.requires.x_bound.0 c.own_figures-own.ensures c.requires.room_for

pub overflow_add-spot : goal.overflow_add-spot
overflow_add-spot c = omega (arith, (points_ready ((let it : Loads (called c.args.rule.now c.args.log c.args.stamps.now c.args.owners.now c.args.numbers.now c.args.values.now) c.args.event.now c.args.owners.now c.args.numbers.now c.args.values.now c.args.stamps.now c.args.figures.now c.args.x c.own_figures-own.result c.args.spot c.args.rows.now c.args.at.now c.children_at-children.result.left c.children_at-children.result.right c.node_at-node.result c.load_sets.new.rows c.load_sets.new.at = record { ready = c.requires.call_ready; here = c.requires.x_bound.0; below = c.requires.x_bound.1; room = c.requires.room_for; stand = c.requires.children_stand; figures = c.own_figures-own.ensures; decoded = c.node_at-node.ensures; children = c.children_at-children.ensures; read = c.load_sets.ensures } in it))).small)

pub slice_bounds-settle_points-start : goal.slice_bounds-settle_points-start
slice_bounds-settle_points-start c = omega (arith, (let it : set_words ≤ length c.args.blocks.now = omega (arith, c.requires.out_there.table) in it))

pub slice_bounds-settle_points-end : goal.slice_bounds-settle_points-end
slice_bounds-settle_points-end c = omega (arith, (let it : set_words ≤ length c.args.blocks.now = omega (arith, c.requires.out_there.table) in it))

pub settle_points-done-requires : goal.settle_points-done-requires
settle_points-done-requires c = record { points_ready = points_ready ((let it : Loads (called c.args.rule.now c.args.log c.args.stamps.now c.args.owners.now c.args.numbers.now c.args.values.now) c.args.event.now c.args.owners.now c.args.numbers.now c.args.values.now c.args.stamps.now c.args.figures.now c.args.x c.own_figures-own.result c.args.spot c.args.rows.now c.args.at.now c.children_at-children.result.left c.children_at-children.result.right c.node_at-node.result c.load_sets.new.rows c.load_sets.new.at = record { ready = c.requires.call_ready; here = c.requires.x_bound.0; below = c.requires.x_bound.1; room = c.requires.room_for; stand = c.requires.children_stand; figures = c.own_figures-own.ensures; decoded = c.node_at-node.ensures; children = c.children_at-children.ensures; read = c.load_sets.ensures } in it)); set_room = set_room c.args.blocks.now ((let it : set_words ≤ length c.args.blocks.now = omega (arith, c.requires.out_there.table) in it)) }

pub shape_of-rows-then-not-done : goal.shape_of-rows-then-not-done
shape_of-rows-then-not-done c = c.settle_points-done.ensures.stay.rows_long ∙ c.load_sets.ensures.more.rows_long

pub shape_of-at-then-not-done : goal.shape_of-at-then-not-done
shape_of-at-then-not-done c = c.settle_points-done.ensures.stay.at_long ∙ c.load_sets.ensures.more.at_long

pub shape_of-blocks-then-not-done : goal.shape_of-blocks-then-not-done
shape_of-blocks-then-not-done c = c.blocks-1.given.1

pub returns-then-not-done : goal.returns-then-not-done
returns-then-not-done c = step-crowded ((let it : Loads (called c.args.rule.now c.args.log c.args.stamps.now c.args.owners.now c.args.numbers.now c.args.values.now) c.args.event.now c.args.owners.now c.args.numbers.now c.args.values.now c.args.stamps.now c.args.figures.now c.args.x c.own_figures-own.result c.args.spot c.args.rows.now c.args.at.now c.children_at-children.result.left c.children_at-children.result.right c.node_at-node.result c.load_sets.new.rows c.load_sets.new.at = record { ready = c.requires.call_ready; here = c.requires.x_bound.0; below = c.requires.x_bound.1; room = c.requires.room_for; stand = c.requires.children_stand; figures = c.own_figures-own.ensures; decoded = c.node_at-node.ensures; children = c.children_at-children.ensures; read = c.load_sets.ensures } in it)) c.settle_points-done.ensures c.requires.out_there (table_stays c.args.blocks.now ((let it : set_words ≤ length c.args.blocks.now = omega (arith, c.requires.out_there.table) in it)) ((c.settle_points-done.new.out)) c.blocks-1.given.0) c.if-not-done.true

pub keep_node-kept-requires : goal.keep_node-kept-requires
keep_node-kept-requires c = block_ready ((let it : Loads (called c.args.rule.now c.args.log c.args.stamps.now c.args.owners.now c.args.numbers.now c.args.values.now) c.args.event.now c.args.owners.now c.args.numbers.now c.args.values.now c.args.stamps.now c.args.figures.now c.args.x c.own_figures-own.result c.args.spot c.args.rows.now c.args.at.now c.children_at-children.result.left c.children_at-children.result.right c.node_at-node.result c.load_sets.new.rows c.load_sets.new.at = record { ready = c.requires.call_ready; here = c.requires.x_bound.0; below = c.requires.x_bound.1; room = c.requires.room_for; stand = c.requires.children_stand; figures = c.own_figures-own.ensures; decoded = c.node_at-node.ensures; children = c.children_at-children.ensures; read = c.load_sets.ensures } in it)) c.settle_points-done.ensures c.if-not-done.false (room_stays (table_stays c.args.blocks.now ((let it : set_words ≤ length c.args.blocks.now = omega (arith, c.requires.out_there.table) in it)) ((c.settle_points-done.new.out)) c.blocks-1.given.0) c.requires.out_there)

pub overflow_sub-spot : goal.overflow_sub-spot
overflow_sub-spot c = c.requires.x_bound.1

pub move_down-requires : goal.move_down-requires
move_down-requires c = down_laid ((let it : Loads (called c.args.rule.now c.args.log c.args.stamps.now c.args.owners.now c.args.numbers.now c.args.values.now) c.args.event.now c.args.owners.now c.args.numbers.now c.args.values.now c.args.stamps.now c.args.figures.now c.args.x c.own_figures-own.result c.args.spot c.args.rows.now c.args.at.now c.children_at-children.result.left c.children_at-children.result.right c.node_at-node.result c.load_sets.new.rows c.load_sets.new.at = record { ready = c.requires.call_ready; here = c.requires.x_bound.0; below = c.requires.x_bound.1; room = c.requires.room_for; stand = c.requires.children_stand; figures = c.own_figures-own.ensures; decoded = c.node_at-node.ensures; children = c.children_at-children.ensures; read = c.load_sets.ensures } in it)) c.settle_points-done.ensures c.if-not-done.false

pub shape_of-rows : goal.shape_of-rows
shape_of-rows c = c.move_down.ensures.more.rows_long ∙ c.settle_points-done.ensures.stay.rows_long ∙ c.load_sets.ensures.more.rows_long

pub shape_of-at : goal.shape_of-at
shape_of-at c = c.move_down.ensures.more.at_long ∙ c.settle_points-done.ensures.stay.at_long ∙ c.load_sets.ensures.more.at_long

pub shape_of-blocks : goal.shape_of-blocks
shape_of-blocks c = c.blocks-2-1.given ∙ c.blocks-1.given.1

pub returns : goal.returns
returns c = step_kept ((let it : Loads (called c.args.rule.now c.args.log c.args.stamps.now c.args.owners.now c.args.numbers.now c.args.values.now) c.args.event.now c.args.owners.now c.args.numbers.now c.args.values.now c.args.stamps.now c.args.figures.now c.args.x c.own_figures-own.result c.args.spot c.args.rows.now c.args.at.now c.children_at-children.result.left c.children_at-children.result.right c.node_at-node.result c.load_sets.new.rows c.load_sets.new.at = record { ready = c.requires.call_ready; here = c.requires.x_bound.0; below = c.requires.x_bound.1; room = c.requires.room_for; stand = c.requires.children_stand; figures = c.own_figures-own.ensures; decoded = c.node_at-node.ensures; children = c.children_at-children.ensures; read = c.load_sets.ensures } in it)) c.settle_points-done.ensures c.requires.out_there (table_stays c.args.blocks.now ((let it : set_words ≤ length c.args.blocks.now = omega (arith, c.requires.out_there.table) in it)) ((c.settle_points-done.new.out)) c.blocks-1.given.0) c.if-not-done.false c.keep_node-kept.ensures c.move_down.ensures
