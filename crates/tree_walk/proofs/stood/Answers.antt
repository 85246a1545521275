-- `stood` meets its contract.
use borrow.Author.Tests.{ne_eqb}
use Rattle.tree_walk.proofs.stood.Goals as goal

pub returns-then-low-eq-NO_NODE : goal.returns-then-low-eq-NO_NODE
returns-then-low-eq-NO_NODE c = rw c.if-low-eq-NO_NODE.true c.sets_of.ensures

pub returns : goal.returns
returns c = rw (ne_eqb _ _ c.if-low-eq-NO_NODE.false)
