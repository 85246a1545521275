-- `climb`, `second_tree` and `tree` meet their contracts: `climb` calls `second_tree` on a lower node, that calls `tree` on its own, and `tree` calls `climb` on nodes that are no higher.
use Prim.Native.Nat.{◌+◌, ◌*◌, ◌≤◌}
use lib.ListN.{get_or}
use Rattle.node_step.specs.Figures.{called}
use Rattle.tree_walk.proofs.Spine.{Climbed}
use Rattle.tree_walk.proofs.+climb_second_tree_tree.Given as goal

-- the loop of `tree`: k steps are left of the k₀ that the path has, and its node k's tree is walked
abbrev pub invariant-tree-loop-k : goal.invariant-tree-loop-k
invariant-tree-loop-k l = (l.k ≤ l.initial.k) × Climbed (called l.rule l.log l.stamps l.owners l.numbers l.values) l.event l.h (get_or l.path l.initial.k 0) (get_or l.path l.k 0) l.initial.rows l.initial.at l.initial.out_numbers l.initial.out_values l.initial.blocks l.initial.p l.rows l.at l.out_numbers l.out_values l.blocks l.p

abbrev pub decreases-tree-loop-k : goal.decreases-tree-loop-k
decreases-tree-loop-k l = l.k

-- three times the node's number, and one more for `tree`, two for `second_tree`
abbrev pub decreases-climb : goal.decreases-climb
decreases-climb l = l.x * 3

abbrev pub decreases-second_tree : goal.decreases-second_tree
decreases-second_tree l = l.x * 3 + 2

abbrev pub decreases-tree : goal.decreases-tree
decreases-tree l = l.x * 3 + 1
