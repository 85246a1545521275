-- `wanted` meets its contract. The loop keeps `Handed`: the children of the nodes passed so far have their words.
use Prim.Native.Nat.{◌<◌}
use native.Mathlib.Omega.{arith}
use borrow.Author.Rules.{rules}
use Rattle.meaning.specs.RuleFile.{node_count}
use Rattle.meaning.proofs.Accepted.{accepted, lower, last_is_node}
use Rattle.wanted.proofs.Handed.{handed_more, handed_all}
use Rattle.wanted.proofs.wanted.Goals as goal

pub bounds-rule-2 : goal.bounds-rule-2
bounds-rule-2 c = let r = c.requires.rule_value in omega (arith, (accepted _ r.0 r.1).long)

pub first_wanted-first-requires : goal.first_wanted-first-requires
first_wanted-first-requires c = let r = c.requires.rule_value in
    let loop = c.loop-x in
    (omega (arith, (accepted _ r.0 r.1).long, loop.invariant.0), omega (arith, c.requires.rule_in_bounds.2 loop.x))

pub children_at-children-requires : goal.children_at-children-requires
children_at-children-requires c = let r = c.requires.rule_value in
    let loop = c.loop-x in
    omega (arith, (accepted _ r.0 r.1).long, loop.invariant.0)

pub want_children-requires : goal.want_children-requires
want_children-requires c d m = let r = c.requires.rule_value in
    let loop = c.loop-x in
    let rule = c.args.rule.now in
    let under : d < loop.x = lower rule (node_count rule) (accepted rule r.0 r.1).each loop.x (omega arith) loop.x (omega arith) d (rw c.children_at-children.ensures at m) in
    (omega arith, omega arith)

pub loop-x-preserved : goal.loop-x-preserved
loop-x-preserved c = let r = c.requires.rule_value in
    let loop = c.loop-x in
    (loop.invariant.0, search rules, search rules, handed_more c.args.rule.now r.0 r.1 c.args.counts.now loop.invariant.3 (omega arith) c.first_wanted-first.ensures c.children_at-children.ensures c.want_children.ensures)

pub overflow_sub-last : goal.overflow_sub-last
overflow_sub-last c = let r = c.requires.rule_value in
    let loop = c.loop-x in
    omega (arith, loop.invariant.0, last_is_node _ r.0 r.1)

pub bounds-counts-last : goal.bounds-counts-last
bounds-counts-last c = let r = c.requires.rule_value in
    let loop = c.loop-x in
    omega (arith, loop.invariant.0, last_is_node _ r.0 r.1)

pub bounds-out-last : goal.bounds-out-last
bounds-out-last c = let r = c.requires.rule_value in
    let loop = c.loop-x in
    omega (arith, loop.invariant.0, last_is_node _ r.0 r.1)

pub returns : goal.returns
returns c = let r = c.requires.rule_value in
    let loop = c.loop-x in
    handed_all c.args.rule.now r.0 r.1 c.args.counts.now (omega (arith, loop.invariant.0)) (omega (arith, loop.invariant.0)) (omega (arith, loop.invariant.0, last_is_node c.args.rule.now r.0 r.1)) loop.invariant.3
