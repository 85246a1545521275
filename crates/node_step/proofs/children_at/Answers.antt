-- `children_at` meets its contract, for no child, one and two.
use Rattle.node_step.proofs.Reading.{children_none, figures_one, figures_two, children_one, children_two}
use Rattle.node_step.proofs.children_at.Goals as goal

pub child_at-left-requires : goal.child_at-left-requires
child_at-left-requires c = figures_one _ _ c.children_of-children.ensures c.requires c.in-One.is

pub child_at-left-requires-in-Two : goal.child_at-left-requires-in-Two
child_at-left-requires-in-Two c = (figures_two _ _ c.children_of-children.ensures c.requires c.in-Two.is).0

pub child_at-right-requires : goal.child_at-right-requires
child_at-right-requires c = (figures_two _ _ c.children_of-children.ensures c.requires c.in-Two.is).1

pub returns-in-None : goal.returns-in-None
returns-in-None c = children_none _ _ c.children_of-children.ensures _ _ _ _ c.in-None.is

pub returns-in-One : goal.returns-in-One
returns-in-One c = children_one _ _ c.children_of-children.ensures _ _ c.in-One.is c.child_at-left.ensures

pub returns-in-Two : goal.returns-in-Two
returns-in-Two c = children_two _ _ c.children_of-children.ensures c.in-Two.is c.child_at-left-in-Two.ensures c.child_at-right.ensures
