-- `climb`, `second_tree` and `tree` meet their contracts: `climb` calls `second_tree` on a lower node, that calls `tree` on its own, and `tree` calls `climb` on nodes that are no higher.
use Prim.Native.Nat.{◌-◌, ◌<◌}
use native.Mathlib.Omega.{arith}
use mathlib.Core.Path.{◌≡◌, refl, sym, ap, ◌∙◌}
use mathlib.Core.List.{[], ◌∷◌}
use Rattle.meaning.specs.RuleFile.{node_at, children_of}
use Rattle.meaning.specs.View.{children_in}
use Rattle.tree_walk.proofs.Trees.{head_there}
use Rattle.tree_walk.proofs.Arms.{TwoOrdered, none_room, none_walks, weights_there, figure_there, sets_figured, stood_figured, low_first, first_calm, one_inside, one_room, one_stand, one_out, one_climbs, one_stuck, two_lower, two_ordered, first_inside, second_lower, second_inside, second_ready, first_few, two_few, two_room, two_stand, two_out, two_stuck, two_climbs}
use Rattle.tree_walk.proofs.Paths.{path_low}
use Rattle.tree_walk.proofs.Spine.{climbed_none, climbed_more, path_first, path_inside, leaf_room, path_walks, path_walked, path_end}
use Rattle.tree_walk.proofs.+climb_second_tree_tree.Goals as goal

pub climb-children_at-children-requires : goal.climb-children_at-children-requires
climb-children_at-children-requires t c = let x = c.args.x in let o = c.requires.first_walked.begun.inside in head_there c.args.rule.now c.requires.call_ready.formed.accepted.0 c.requires.call_ready.formed.accepted.1 x o

pub climb-returns-then-p-lt-NO_NODE : goal.climb-returns-then-p-lt-NO_NODE
climb-returns-then-p-lt-NO_NODE t c = let x = c.args.x in let o = c.requires.first_walked.begun.inside in let n = c.in-One.a in let k = (let it : children_of (node_at c.args.rule.now c.args.x) ≡ c.in-One.a ∷ [] = sym c.children_at-children.ensures ∙ ap children_in c.in-One.is in it) in one_stuck c.requires.call_ready x o n k c.if-p-lt-NO_NODE.true

pub climb-sets_of-d-requires : goal.climb-sets_of-d-requires
climb-sets_of-d-requires t c = let x = c.args.x in let o = c.requires.first_walked.begun.inside in let n = c.in-One.a in let k = (let it : children_of (node_at c.args.rule.now c.args.x) ≡ c.in-One.a ∷ [] = sym c.children_at-children.ensures ∙ ap children_in c.in-One.is in it) in (figure_there c.requires.call_ready n (one_inside c.requires.call_ready x o n k), low_first c.requires.call_ready n (one_inside c.requires.call_ready x o n k))

pub climb-overflow_add-spot : goal.climb-overflow_add-spot
climb-overflow_add-spot t c = let x = c.args.x in let o = c.requires.first_walked.begun.inside in let n = c.in-One.a in let k = (let it : children_of (node_at c.args.rule.now c.args.x) ≡ c.in-One.a ∷ [] = sym c.children_at-children.ensures ∙ ap children_in c.in-One.is in it) in let z = first_calm c.requires.call_ready x o c.requires.first_walked c.if-p-lt-NO_NODE.false in let e = c.sets_of-d.ensures ∙ sets_figured c.requires.call_ready n (one_inside c.requires.call_ready x o n k) in omega (arith, (one_room c.requires.call_ready x o n k c.requires.first_walked z).few, e)

pub climb-own_step-requires : goal.climb-own_step-requires
climb-own_step-requires t c = let x = c.args.x in let o = c.requires.first_walked.begun.inside in let n = c.in-One.a in let k = (let it : children_of (node_at c.args.rule.now c.args.x) ≡ c.in-One.a ∷ [] = sym c.children_at-children.ensures ∙ ap children_in c.in-One.is in it) in let z = first_calm c.requires.call_ready x o c.requires.first_walked c.if-p-lt-NO_NODE.false in let e = c.sets_of-d.ensures ∙ sets_figured c.requires.call_ready n (one_inside c.requires.call_ready x o n k) in record { call_ready = c.requires.call_ready; x_bound = (o, omega arith); room_for = rw e (one_room c.requires.call_ready x o n k c.requires.first_walked z); children_stand = rw e (one_stand c.requires.call_ready x o n k c.requires.first_walked z); out_there = one_out c.requires.call_ready x o n k c.requires.first_walked z }

pub climb-ordered-sides-requires : goal.climb-ordered-sides-requires
climb-ordered-sides-requires t c = let x = c.args.x in let o = c.requires.first_walked.begun.inside in let l = two_lower c.requires.call_ready x o _ _ (sym c.children_at-children.ensures ∙ ap children_in c.in-Two.is) in (figure_there c.requires.call_ready c.in-Two.a (omega (arith, l.0, o)), figure_there c.requires.call_ready c.in-Two.c (omega (arith, l.1, o)))

pub climb-stood-d-requires : goal.climb-stood-d-requires
climb-stood-d-requires t c = let x = c.args.x in let o = c.requires.first_walked.begun.inside in let k = (let it : TwoOrdered c.args.rule.now c.args.x c.in-Two.a c.in-Two.c c.ordered-sides.result.first c.ordered-sides.result.second c.ordered-sides.result.swapped = two_ordered c.requires.call_ready c.args.x c.requires.first_walked.begun.inside (sym c.children_at-children.ensures ∙ ap children_in c.in-Two.is) c.ordered-sides.ensures in it) in (figure_there c.requires.call_ready c.ordered-sides.result.first (first_inside c.requires.call_ready x o k), low_first c.requires.call_ready c.ordered-sides.result.first (first_inside c.requires.call_ready x o k))

pub climb-overflow_add-h : goal.climb-overflow_add-h
climb-overflow_add-h t c = let x = c.args.x in let o = c.requires.first_walked.begun.inside in let k = (let it : TwoOrdered c.args.rule.now c.args.x c.in-Two.a c.in-Two.c c.ordered-sides.result.first c.ordered-sides.result.second c.ordered-sides.result.swapped = two_ordered c.requires.call_ready c.args.x c.requires.first_walked.begun.inside (sym c.children_at-children.ensures ∙ ap children_in c.in-Two.is) c.ordered-sides.ensures in it) in let d = c.stood-d.result in let i = c.ordered-sides.result.first in let e = c.stood-d.ensures ∙ stood_figured c.requires.call_ready c.args.p.low i (first_inside c.requires.call_ready x o k) in omega (arith, first_few c.requires.call_ready x o k c.requires.first_walked d e)

pub climb-second_tree-q-requires : goal.climb-second_tree-q-requires
climb-second_tree-q-requires t c = let x = c.args.x in let o = c.requires.first_walked.begun.inside in let k = (let it : TwoOrdered c.args.rule.now c.args.x c.in-Two.a c.in-Two.c c.ordered-sides.result.first c.ordered-sides.result.second c.ordered-sides.result.swapped = two_ordered c.requires.call_ready c.args.x c.requires.first_walked.begun.inside (sym c.children_at-children.ensures ∙ ap children_in c.in-Two.is) c.ordered-sides.ensures in it) in let d = c.stood-d.result in let i = c.ordered-sides.result.first in let e = c.stood-d.ensures ∙ stood_figured c.requires.call_ready c.args.p.low i (first_inside c.requires.call_ready x o k) in (omega (arith, c.decreases, second_lower c.requires.call_ready x o k), (c.requires.call_ready, second_ready c.requires.call_ready x o k c.requires.first_walked d e))

pub climb-returns-then-p-q : goal.climb-returns-then-p-q
climb-returns-then-p-q t c = let x = c.args.x in let o = c.requires.first_walked.begun.inside in let k = (let it : TwoOrdered c.args.rule.now c.args.x c.in-Two.a c.in-Two.c c.ordered-sides.result.first c.ordered-sides.result.second c.ordered-sides.result.swapped = two_ordered c.requires.call_ready c.args.x c.requires.first_walked.begun.inside (sym c.children_at-children.ensures ∙ ap children_in c.in-Two.is) c.ordered-sides.ensures in it) in let d = c.stood-d.result in let i = c.ordered-sides.result.first in let e = c.stood-d.ensures ∙ stood_figured c.requires.call_ready c.args.p.low i (first_inside c.requires.call_ready x o k) in two_stuck c.requires.call_ready x o k d e c.second_tree-q.ensures (record { kept = c.second_tree-q.result.kept; low = c.args.p.low }) refl (omega (arith, c.if-p-q.true)) (omega (arith, c.second_tree-q.ensures.low, c.if-p-q.true))

pub climb-returns-then-q-lt-NO_NODE : goal.climb-returns-then-q-lt-NO_NODE
climb-returns-then-q-lt-NO_NODE t c = let x = c.args.x in let o = c.requires.first_walked.begun.inside in let k = (let it : TwoOrdered c.args.rule.now c.args.x c.in-Two.a c.in-Two.c c.ordered-sides.result.first c.ordered-sides.result.second c.ordered-sides.result.swapped = two_ordered c.requires.call_ready c.args.x c.requires.first_walked.begun.inside (sym c.children_at-children.ensures ∙ ap children_in c.in-Two.is) c.ordered-sides.ensures in it) in let d = c.stood-d.result in let i = c.ordered-sides.result.first in let e = c.stood-d.ensures ∙ stood_figured c.requires.call_ready c.args.p.low i (first_inside c.requires.call_ready x o k) in two_stuck c.requires.call_ready x o k d e c.second_tree-q.ensures c.second_tree-q.result refl (omega (arith, c.if-p-q.false)) c.if-q-lt-NO_NODE.true

pub climb-sets_of-e-requires : goal.climb-sets_of-e-requires
climb-sets_of-e-requires t c = let x = c.args.x in let o = c.requires.first_walked.begun.inside in let k = (let it : TwoOrdered c.args.rule.now c.args.x c.in-Two.a c.in-Two.c c.ordered-sides.result.first c.ordered-sides.result.second c.ordered-sides.result.swapped = two_ordered c.requires.call_ready c.args.x c.requires.first_walked.begun.inside (sym c.children_at-children.ensures ∙ ap children_in c.in-Two.is) c.ordered-sides.ensures in it) in (figure_there c.requires.call_ready c.ordered-sides.result.second (second_inside c.requires.call_ready x o k), low_first c.requires.call_ready c.ordered-sides.result.second (second_inside c.requires.call_ready x o k))

pub climb-behind_two-spot-requires : goal.climb-behind_two-spot-requires
climb-behind_two-spot-requires t c = let x = c.args.x in let o = c.requires.first_walked.begun.inside in let k = (let it : TwoOrdered c.args.rule.now c.args.x c.in-Two.a c.in-Two.c c.ordered-sides.result.first c.ordered-sides.result.second c.ordered-sides.result.swapped = two_ordered c.requires.call_ready c.args.x c.requires.first_walked.begun.inside (sym c.children_at-children.ensures ∙ ap children_in c.in-Two.is) c.ordered-sides.ensures in it) in let d = c.stood-d.result in let i = c.ordered-sides.result.first in let e = c.stood-d.ensures ∙ stood_figured c.requires.call_ready c.args.p.low i (first_inside c.requires.call_ready x o k) in let z : (c.args.p.low ≡ 32) × (c.second_tree-q.result.low ≡ 32) = (omega (arith, c.requires.first_walked.walked.low, c.if-p-q.false, c.if-q-lt-NO_NODE.false), omega (arith, c.second_tree-q.ensures.low, c.if-p-q.false, c.if-q-lt-NO_NODE.false)) in let u = c.sets_of-e.ensures ∙ sets_figured c.requires.call_ready c.ordered-sides.result.second (second_inside c.requires.call_ready x o k) in rw u (two_few c.requires.call_ready x o k c.requires.first_walked d e c.second_tree-q.ensures z.0 z.1)

pub climb-own_step-requires-in-Two : goal.climb-own_step-requires-in-Two
climb-own_step-requires-in-Two t c = let x = c.args.x in let o = c.requires.first_walked.begun.inside in let k = (let it : TwoOrdered c.args.rule.now c.args.x c.in-Two.a c.in-Two.c c.ordered-sides.result.first c.ordered-sides.result.second c.ordered-sides.result.swapped = two_ordered c.requires.call_ready c.args.x c.requires.first_walked.begun.inside (sym c.children_at-children.ensures ∙ ap children_in c.in-Two.is) c.ordered-sides.ensures in it) in let d = c.stood-d.result in let i = c.ordered-sides.result.first in let e = c.stood-d.ensures ∙ stood_figured c.requires.call_ready c.args.p.low i (first_inside c.requires.call_ready x o k) in let z : (c.args.p.low ≡ 32) × (c.second_tree-q.result.low ≡ 32) = (omega (arith, c.requires.first_walked.walked.low, c.if-p-q.false, c.if-q-lt-NO_NODE.false), omega (arith, c.second_tree-q.ensures.low, c.if-p-q.false, c.if-q-lt-NO_NODE.false)) in let u = c.sets_of-e.ensures ∙ sets_figured c.requires.call_ready c.ordered-sides.result.second (second_inside c.requires.call_ready x o k) in let b = c.behind_two-spot.ensures in record { call_ready = c.requires.call_ready; x_bound = (o, rw b (omega arith)); room_for = rw (b, u) (two_room c.requires.call_ready x o k c.requires.first_walked d e c.second_tree-q.ensures z.0 z.1); children_stand = rw (b, u) (two_stand c.requires.call_ready x o k c.requires.first_walked d e c.second_tree-q.ensures z.0 z.1); out_there = rw b (two_out c.requires.call_ready x o k c.requires.first_walked d e c.second_tree-q.ensures z.0 z.1) }

pub climb-returns-in-None : goal.climb-returns-in-None
climb-returns-in-None t c = let x = c.args.x in let o = c.requires.first_walked.begun.inside in let k = sym c.children_at-children.ensures ∙ ap children_in c.in-None.is in let l : x < x = rw k at c.requires.first_walked.lower in absurd (omega arith)

pub climb-returns-else-p-lt-NO_NODE : goal.climb-returns-else-p-lt-NO_NODE
climb-returns-else-p-lt-NO_NODE t c = let x = c.args.x in let o = c.requires.first_walked.begun.inside in let n = c.in-One.a in let k = (let it : children_of (node_at c.args.rule.now c.args.x) ≡ c.in-One.a ∷ [] = sym c.children_at-children.ensures ∙ ap children_in c.in-One.is in it) in let z = first_calm c.requires.call_ready x o c.requires.first_walked c.if-p-lt-NO_NODE.false in one_climbs c.requires.call_ready x o n k z c.own_step.ensures

pub climb-shape_of-rows-else-q-lt-NO_NODE : goal.climb-shape_of-rows-else-q-lt-NO_NODE
climb-shape_of-rows-else-q-lt-NO_NODE t c = c.rows-in-Two-2-1.given ∙ c.rows-in-Two-1.given

pub climb-shape_of-at-else-q-lt-NO_NODE : goal.climb-shape_of-at-else-q-lt-NO_NODE
climb-shape_of-at-else-q-lt-NO_NODE t c = c.at-in-Two-2-1.given ∙ c.at-in-Two-1.given

pub climb-shape_of-out_numbers-else-q-lt-NO_NODE : goal.climb-shape_of-out_numbers-else-q-lt-NO_NODE
climb-shape_of-out_numbers-else-q-lt-NO_NODE t c = c.out_numbers-in-Two-2-1.given ∙ c.out_numbers-in-Two-1.given

pub climb-shape_of-out_values-else-q-lt-NO_NODE : goal.climb-shape_of-out_values-else-q-lt-NO_NODE
climb-shape_of-out_values-else-q-lt-NO_NODE t c = c.out_values-in-Two-2-1.given ∙ c.out_values-in-Two-1.given

pub climb-shape_of-blocks-else-q-lt-NO_NODE : goal.climb-shape_of-blocks-else-q-lt-NO_NODE
climb-shape_of-blocks-else-q-lt-NO_NODE t c = c.blocks-in-Two-2-1.given ∙ c.blocks-in-Two-1.given

pub climb-returns-else-q-lt-NO_NODE : goal.climb-returns-else-q-lt-NO_NODE
climb-returns-else-q-lt-NO_NODE t c = let x = c.args.x in let o = c.requires.first_walked.begun.inside in let k = (let it : TwoOrdered c.args.rule.now c.args.x c.in-Two.a c.in-Two.c c.ordered-sides.result.first c.ordered-sides.result.second c.ordered-sides.result.swapped = two_ordered c.requires.call_ready c.args.x c.requires.first_walked.begun.inside (sym c.children_at-children.ensures ∙ ap children_in c.in-Two.is) c.ordered-sides.ensures in it) in let d = c.stood-d.result in let i = c.ordered-sides.result.first in let e = c.stood-d.ensures ∙ stood_figured c.requires.call_ready c.args.p.low i (first_inside c.requires.call_ready x o k) in let z : (c.args.p.low ≡ 32) × (c.second_tree-q.result.low ≡ 32) = (omega (arith, c.requires.first_walked.walked.low, c.if-p-q.false, c.if-q-lt-NO_NODE.false), omega (arith, c.second_tree-q.ensures.low, c.if-p-q.false, c.if-q-lt-NO_NODE.false)) in two_climbs c.requires.call_ready x o k d e c.second_tree-q.ensures z.0 z.1 (rw c.behind_two-spot.ensures at c.own_step-in-Two.ensures)

pub second_tree-children_at-children-requires : goal.second_tree-children_at-children-requires
second_tree-children_at-children-requires t c = let x = c.args.x in head_there c.args.rule.now c.requires.call_ready.formed.accepted.0 c.requires.call_ready.formed.accepted.1 x c.requires.tree_ready.inside

pub second_tree-tree-requires : goal.second_tree-tree-requires
second_tree-tree-requires t c = (omega (arith, c.decreases), (c.requires.call_ready, c.requires.tree_ready))

pub second_tree-returns-in_default : goal.second_tree-returns-in_default
second_tree-returns-in_default t c = c.tree.ensures

pub second_tree-leaf_step-requires : goal.second_tree-leaf_step-requires
second_tree-leaf_step-requires t c = let x = c.args.x in let k = (let it : children_of (node_at c.args.rule.now c.args.x) ≡ [] = sym c.children_at-children.ensures ∙ ap children_in c.in-None.is in it) in record { call_ready = c.requires.call_ready; x_bound = (c.requires.tree_ready.inside, k); room_for = none_room c.requires.call_ready x c.requires.tree_ready.inside k c.requires.tree_ready.room; out_there = c.requires.tree_ready.out }

pub second_tree-returns : goal.second_tree-returns
second_tree-returns t c = let x = c.args.x in none_walks c.requires.call_ready x c.requires.tree_ready.inside ((let it : children_of (node_at c.args.rule.now c.args.x) ≡ [] = sym c.children_at-children.ensures ∙ ap children_in c.in-None.is in it)) c.leaf_step.ensures

pub tree-descend-k-requires : goal.tree-descend-k-requires
tree-descend-k-requires t c = (weights_there c.requires.call_ready, c.requires.tree_ready.inside, omega arith)

pub tree-bounds-path-k : goal.tree-bounds-path-k
tree-bounds-path-k t c = omega (arith, c.descend-k.ensures.within, c.descend-k.auto.path)

pub tree-leaf_step-p-requires : goal.tree-leaf_step-p-requires
tree-leaf_step-p-requires t c = record { call_ready = c.requires.call_ready; x_bound = (path_inside c.requires.call_ready c.descend-k.ensures c.requires.tree_ready c.descend-k.result (omega arith), c.descend-k.ensures.leaf); room_for = leaf_room c.requires.call_ready c.descend-k.ensures c.requires.tree_ready; out_there = c.requires.tree_ready.out }

pub tree-loop-k-init : goal.tree-loop-k-init
tree-loop-k-init t c = (omega arith, climbed_none)

pub tree-bounds-path-k-in-loop-k : goal.tree-bounds-path-k-in-loop-k
tree-bounds-path-k-in-loop-k t c = let l = c.loop-k in omega (arith, l.invariant.0, c.descend-k.ensures.within, c.descend-k.auto.path)

pub tree-climb-p-requires : goal.tree-climb-p-requires
tree-climb-p-requires t c = let l = c.loop-k in (omega (arith, c.decreases, path_low c.descend-k.ensures (l.k - 1) (omega (arith, l.invariant.0))), (c.requires.call_ready, path_walked c.requires.call_ready c.descend-k.ensures c.requires.tree_ready l.k l.invariant.0 c.leaf_step-p.ensures l.invariant.1 c.loop-k-test.true))

pub tree-loop-k-preserved : goal.tree-loop-k-preserved
tree-loop-k-preserved t c = let l = c.loop-k in (omega (arith, l.invariant.0), climbed_more l.invariant.1 (path_first c.requires.call_ready c.descend-k.ensures l.k c.loop-k-test.true l.invariant.0) c.climb-p.ensures)

pub tree-shape_of-rows : goal.tree-shape_of-rows
tree-shape_of-rows t c = let l = c.loop-k in (path_walks c.requires.call_ready c.descend-k.ensures c.requires.tree_ready l.k l.invariant.0 c.leaf_step-p.ensures l.invariant.1).more.rows_long

pub tree-shape_of-at : goal.tree-shape_of-at
tree-shape_of-at t c = let l = c.loop-k in (path_walks c.requires.call_ready c.descend-k.ensures c.requires.tree_ready l.k l.invariant.0 c.leaf_step-p.ensures l.invariant.1).more.at_long

pub tree-shape_of-out_numbers : goal.tree-shape_of-out_numbers
tree-shape_of-out_numbers t c = let l = c.loop-k in (path_walks c.requires.call_ready c.descend-k.ensures c.requires.tree_ready l.k l.invariant.0 c.leaf_step-p.ensures l.invariant.1).on_long

pub tree-shape_of-out_values : goal.tree-shape_of-out_values
tree-shape_of-out_values t c = let l = c.loop-k in (path_walks c.requires.call_ready c.descend-k.ensures c.requires.tree_ready l.k l.invariant.0 c.leaf_step-p.ensures l.invariant.1).ov_long

pub tree-shape_of-blocks : goal.tree-shape_of-blocks
tree-shape_of-blocks t c = let l = c.loop-k in (path_walks c.requires.call_ready c.descend-k.ensures c.requires.tree_ready l.k l.invariant.0 c.leaf_step-p.ensures l.invariant.1).bl_long

pub tree-returns : goal.tree-returns
tree-returns t c = let l = c.loop-k in path_end c.requires.call_ready c.descend-k.ensures c.requires.tree_ready l.k l.invariant.0 c.leaf_step-p.ensures l.invariant.1 (omega (arith, c.loop-k-test.false))
