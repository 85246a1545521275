-- `behind_two` meets its contract.
use Rattle.tree_walk.proofs.behind_two.Goals as goal

pub returns-then-swapped : goal.returns-then-swapped
returns-then-swapped c = rw c.if-swapped.true

pub returns : goal.returns
returns c = rw c.if-swapped.false
