-- `first_child` meets its contract.
use native.Mathlib.Omega.{arith}
use mathlib.Core.Path.{sym, ap, ◌∙◌}
use Rattle.meaning.specs.View.{children_in}
use Rattle.method.proofs.Bounds.{below}
use Rattle.tree_walk.specs.Tree.{first_among}
use Rattle.tree_walk.proofs.Trees.{first_in, second_in, head_there, sides_are}
use Rattle.tree_walk.proofs.first_child.Goals as goal

pub children_at-children-requires : goal.children_at-children-requires
children_at-children-requires c = let b = c.args.rule.now in let x = c.args.x in let w = c.requires.0 in let o = c.requires.1 in head_there b w.accepted.0 w.accepted.1 x o

pub ordered-requires : goal.ordered-requires
ordered-requires c = let b = c.args.rule.now in let x = c.args.x in let w = c.requires.0 in let o = c.requires.1 in let e = sym (ap children_in c.in-Two.is) ∙ c.children_at-children.ensures in let l = below b w.accepted.0 w.accepted.1 x o c.in-Two.a (rw (sym e) first_in) in let m = below b w.accepted.0 w.accepted.1 x o c.in-Two.c (rw (sym e) second_in) in (omega (arith, l, w.there), omega (arith, m, w.there))

pub returns-in-None : goal.returns-in-None
returns-in-None c = let b = c.args.rule.now in let x = c.args.x in let w = c.requires.0 in let o = c.requires.1 in ap (first_among b x) (sym (ap children_in c.in-None.is) ∙ c.children_at-children.ensures)

pub returns-in-One : goal.returns-in-One
returns-in-One c = let b = c.args.rule.now in let x = c.args.x in let w = c.requires.0 in let o = c.requires.1 in ap (first_among b x) (sym (ap children_in c.in-One.is) ∙ c.children_at-children.ensures)

pub returns-in-Two : goal.returns-in-Two
returns-in-Two c = let b = c.args.rule.now in let x = c.args.x in let w = c.requires.0 in let o = c.requires.1 in let e = sym (ap children_in c.in-Two.is) ∙ c.children_at-children.ensures in (sides_are b w.accepted.0 w.accepted.1 c.args.figures.now w x c.in-Two.a c.in-Two.c o (sym e) c.ordered.ensures).1 ∙ ap (first_among b x) e
