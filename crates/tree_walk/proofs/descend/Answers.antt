-- `descend` meets its contract: each node is lower than the one before it.
use Prim.Native.Nat.{◌+◌}
use native.Mathlib.Omega.{arith}
use mathlib.Core.Path.{refl, ◌∙◌}
use lib.ListN.{length-set}
use lib.Seq.{get_or-set_same}
use Rattle.meaning.proofs.Accepted.{nodes_most}
use Rattle.tree_walk.proofs.Paths.{noted_none, noted_more, noted_all}
use Rattle.tree_walk.proofs.descend.Goals as goal

pub bounds-path-0 : goal.bounds-path-0
bounds-path-0 c = omega (arith, c.requires.2)

pub first_child-y-requires : goal.first_child-y-requires
first_child-y-requires c = (c.requires.0, c.requires.1)

pub loop-y-init : goal.loop-y-init
loop-y-init c = (refl, omega (arith, c.requires.2, length-set c.args.path.now 0 c.args.x), noted_none c.args.rule.now c.args.path.now c.first_child-y.result c.args.x (omega (arith, c.requires.2)) c.first_child-y.ensures)

pub bounds-path-k : goal.bounds-path-k
bounds-path-k c = let w = c.requires.0 in let a = w.accepted.0 in let ok = w.accepted.1 in let b = c.args.rule.now in let l = c.loop-y in omega (arith, c.requires.1, l.invariant.1, l.invariant.2.falls, nodes_most b a ok)

pub overflow_add-k : goal.overflow_add-k
overflow_add-k c = let w = c.requires.0 in let a = w.accepted.0 in let ok = w.accepted.1 in let b = c.args.rule.now in let l = c.loop-y in omega (arith, c.requires.1, l.invariant.2.falls, nodes_most b a ok)

pub bounds-path-k-in-loop-y : goal.bounds-path-k-in-loop-y
bounds-path-k-in-loop-y c = let w = c.requires.0 in let a = w.accepted.0 in let ok = w.accepted.1 in let b = c.args.rule.now in let l = c.loop-y in omega (arith, c.requires.1, l.invariant.1, l.invariant.2.falls, nodes_most b a ok, c.loop-y-test.true)

pub first_child-y-requires-in-loop-y : goal.first_child-y-requires-in-loop-y
first_child-y-requires-in-loop-y c = let l = c.loop-y in (c.requires.0, omega (arith, c.requires.1, l.invariant.2.falls, c.loop-y-test.true))

pub loop-y-smaller : goal.loop-y-smaller
loop-y-smaller c = let w = c.requires.0 in let a = w.accepted.0 in let ok = w.accepted.1 in let b = c.args.rule.now in let l = c.loop-y in let e = get_or-set_same l.path (l.k + 1) l.y 0 (omega (arith, c.requires.1, l.invariant.1, l.invariant.2.falls, nodes_most b a ok, c.loop-y-test.true)) in omega (arith, e, c.loop-y-test.true)

pub loop-y-preserved : goal.loop-y-preserved
loop-y-preserved c = let w = c.requires.0 in let a = w.accepted.0 in let ok = w.accepted.1 in let b = c.args.rule.now in let l = c.loop-y in let e = length-set l.path (l.k + 1) l.y in (e ∙ l.invariant.0, omega (arith, e, l.invariant.1), noted_more l.invariant.2 c.first_child-y-in-loop-y.result c.loop-y-test.true (omega (arith, c.requires.1, l.invariant.1, l.invariant.2.falls, nodes_most b a ok, c.loop-y-test.true)) c.first_child-y-in-loop-y.ensures)

pub shape_of-path : goal.shape_of-path
shape_of-path c = let l = c.loop-y in l.invariant.0 ∙ length-set c.args.path.now 0 c.args.x

pub returns : goal.returns
returns c = let w = c.requires.0 in let a = w.accepted.0 in let ok = w.accepted.1 in let b = c.args.rule.now in let l = c.loop-y in noted_all l.invariant.2 a ok c.requires.1 l.invariant.1 (λ u. omega (arith, c.loop-y-test.false))
