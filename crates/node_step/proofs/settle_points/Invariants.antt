use Prim.Native.Nat.{◌-◌}
use mathlib.Core.Path.{◌≡◌}
use lib.ListN.{length}
use Rattle.meaning.specs.Log.{point}
use Rattle.node_step.proofs.Going.{Going}
use Rattle.node_step.proofs.settle_points.Given as goal

-- `settle_points` meets its contract. The loop's invariant: the points before i are settled.
abbrev pub invariant-loop-i : goal.invariant-loop-i
invariant-loop-i l = Going l.rule l.event l.initial.rows l.initial.at l.times l.base l.old_ages l.old_values l.left l.right l.sets l.lowest l.start l.end l.node l.rows l.at (point l.i) × (length l.out ≡ length l.initial.out)

abbrev pub decreases-loop-i : goal.decreases-loop-i
decreases-loop-i l = l.end.0 - l.i
