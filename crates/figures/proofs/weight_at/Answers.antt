-- `weight_at` meets its contract: the children's words, and one more where the node isn't "previous".
use native.Mathlib.Omega.{arith}
use Rattle.meaning.proofs.Accepted.{accepted}
use Rattle.figures.proofs.Weighed.{others_few, children_few, children_there, weight_previous, weight_other}
use Rattle.figures.proofs.weight_at.Goals as goal

pub children_at-requires : goal.children_at-requires
children_at-requires c = let r = c.requires.0 in
    omega (arith, (accepted _ r.0 r.1).long, c.requires.1)

pub children_weight-below-requires : goal.children_weight-below-requires
children_weight-below-requires c = let r = c.requires.0 in
    (children_there c.args.rule.now r.0 r.1 c.args.weights.now c.args.x c.requires.1 c.requires.3 c.children_at.ensures c.requires.2, children_few c.args.rule.now r.0 r.1 c.args.weights.now c.args.x c.requires.1 c.requires.3 c.children_at.ensures)

pub times_at-requires : goal.times_at-requires
times_at-requires c = let r = c.requires.0 in
    omega (arith, (accepted _ r.0 r.1).long, c.requires.1)

pub overflow_add-result : goal.overflow_add-result
overflow_add-result c = let r = c.requires.0 in
    omega (arith, others_few c.args.rule.now r.0 r.1 c.args.x c.requires.1, weight_other c.args.rule.now r.0 r.1 c.args.weights.now c.args.x c.requires.1 c.requires.3 c.children_at.ensures c.children_weight-below.ensures c.times_at.ensures c.is_previous.ensures c.if-is_previous.false)

pub returns-then-is_previous : goal.returns-then-is_previous
returns-then-is_previous c = let r = c.requires.0 in
    weight_previous c.args.rule.now r.0 r.1 c.args.weights.now c.args.x c.requires.1 c.requires.3 c.children_at.ensures c.children_weight-below.ensures c.times_at.ensures c.is_previous.ensures c.if-is_previous.true

pub returns-else-is_previous : goal.returns-else-is_previous
returns-else-is_previous c = let r = c.requires.0 in
    weight_other c.args.rule.now r.0 r.1 c.args.weights.now c.args.x c.requires.1 c.requires.3 c.children_at.ensures c.children_weight-below.ensures c.times_at.ensures c.is_previous.ensures c.if-is_previous.false
