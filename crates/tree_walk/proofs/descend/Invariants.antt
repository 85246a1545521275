use Prim.Native.Nat.{◌≤◌}
use mathlib.Core.Path.{◌≡◌}
use lib.ListN.{length, get_or}
use Rattle.tree_walk.proofs.Paths.{Noted}
use Rattle.tree_walk.proofs.descend.Given as goal

-- `descend` meets its contract: each node is lower than the one before it.
abbrev pub invariant-loop-y : goal.invariant-loop-y
invariant-loop-y l = (length l.path ≡ length l.initial.path) × (32 ≤ length l.path) × Noted l.rule l.path l.k l.y l.x

abbrev pub decreases-loop-y : goal.decreases-loop-y
decreases-loop-y l = get_or l.path l.k 0
