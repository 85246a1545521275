-- `walk` meets its contract: the last node's tree is all of the rule.
use native.Mathlib.Omega.{arith}
use mathlib.Core.Path.{◌∙◌}
use lib.ListN.{length-set}
use Rattle.meaning.proofs.Accepted.{accepted}
use Rattle.tree_walk.proofs.Whole.{last_node_lem, whole_ready, whole_walked}
use Rattle.tree_walk.proofs.walk.Goals as goal

pub bounds-rule-2 : goal.bounds-rule-2
bounds-rule-2 c = omega (arith, (accepted c.args.rule.now c.requires.call_ready.formed.accepted.0 c.requires.call_ready.formed.accepted.1).long)

pub overflow_sub-x : goal.overflow_sub-x
overflow_sub-x c = omega (arith, last_node_lem c.requires.call_ready)

pub tree-requires : goal.tree-requires
tree-requires c = record { call_ready = c.requires.call_ready; tree_ready = whole_ready c.requires.call_ready c.args.rows.now c.args.at.now c.args.out_numbers.now c.args.out_values.now c.args.blocks.now c.requires.event_in_bounds.0 c.requires.event_in_bounds.1 c.requires.out_there }

pub shape_of-rows : goal.shape_of-rows
shape_of-rows c = c.rows-1.given

pub shape_of-at : goal.shape_of-at
shape_of-at c = c.at-1.given ∙ length-set c.args.at.now 0 0

pub shape_of-out_numbers : goal.shape_of-out_numbers
shape_of-out_numbers c = c.out_numbers-1.given

pub shape_of-out_values : goal.shape_of-out_values
shape_of-out_values c = c.out_values-1.given

pub shape_of-blocks : goal.shape_of-blocks
shape_of-blocks c = c.blocks-1.given

pub returns : goal.returns
returns c = whole_walked c.requires.call_ready c.tree.ensures
