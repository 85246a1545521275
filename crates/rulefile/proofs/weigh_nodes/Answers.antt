-- `rulefile::weigh_nodes` meets its contract. The loop keeps `WeighedTo` and `UsesCounted`: the nodes passed so far fit, their masks are in the lent bytes, and their children are counted.
use Prim.Native.Nat.{◌<◌}
use native.Mathlib.Omega.{arith}
use mathlib.Core.Path.{sym, ap, ◌∙◌}
use lib.ListN.{length-set}
use borrow.Author.Rules.{rules}
use Rattle.std.proofs.lemmas.Result.{err_from_is_err_and}
use Rattle.meaning.specs.RuleFile.{children_of}
use Rattle.meaning.specs.View.{children_in}
use Rattle.rulefile.proofs.Nodes.{node_read, weighed_none, weighed_more, weighed_all, node_refused, passing_lower}
use Rattle.rulefile.proofs.Parents.{counted_none, counted_more, counted_all}
use Rattle.rulefile.proofs.weigh_nodes.Goals as goal

pub loop-x-init : goal.loop-x-init
loop-x-init c = (search rules, search rules, weighed_none c.args.rule.now c.args.masks.now, counted_none c.args.rule.now c.args.uses.now c.requires.3)

pub returns-in_err-mask : goal.returns-in_err-mask
returns-in_err-mask c =
    let read = node_read c.args.rule.now c.loop-x.x c.loop-x.masks _ _ _ _ _ c.head_at-h.ensures c.body_of-w.ensures c.arity_at.ensures c.node_of-node.ensures c.in_err-mask.ensures in
    let p = err_from_is_err_and c.from_residual.result c.from_residual.ensures.1 in
    rw (p.1, p.2) (node_refused c.args.rule.now c.loop-x.masks c.loop-x.x c.loop-x.invariant.2 (search rules) _ (sym read.1))

pub count_children-requires : goal.count_children-requires
count_children-requires c =
    let loop = c.loop-x in
    let read = node_read c.args.rule.now loop.x loop.masks _ _ _ _ _ c.head_at-h.ensures c.body_of-w.ensures c.arity_at.ensures c.node_of-node.ensures c.in_ok-mask.ensures in (
      λ d m.
          let l : d < loop.x = passing_lower c.args.rule.now loop.masks loop.x loop.invariant.2 _ (sym read.1) (children_in c.children_of.result) (c.children_of.ensures ∙ ap children_of read.0) d m in
          omega (arith, c.requires.0.few, c.requires.2),
      λ y. omega (arith, loop.invariant.3.few y, c.requires.0.few),
    )

pub loop-x-preserved : goal.loop-x-preserved
loop-x-preserved c =
    let b = c.args.rule.now in
    let loop = c.loop-x in
    let read = node_read b loop.x loop.masks _ _ _ _ _ c.head_at-h.ensures c.body_of-w.ensures c.arity_at.ensures c.node_of-node.ensures c.in_ok-mask.ensures in (
      simp length-set (omega arith),
      search rules,
      weighed_more b loop.masks loop.x loop.invariant.2 (search rules) (omega (arith, c.requires.0.few, c.requires.1)) _ (sym read.1),
      counted_more b loop.uses c.count_children.new.uses loop.x c.children_of.result loop.invariant.3 (c.children_of.ensures ∙ ap children_of read.0) c.count_children.ensures,
    )

pub returns : goal.returns
returns c = let b = c.args.rule.now in
    let loop = c.loop-x in
    weighed_all b loop.masks loop.uses loop.x (search rules) (search rules) loop.invariant.2 (counted_all b loop.uses loop.x (search rules) loop.invariant.3)
