use Prim.Native.Nat.{◌-◌}
use Rattle.meaning.specs.Log.{point}
use Rattle.progress.specs.Stamps.{stamps_of}
use Rattle.room.specs.Room.{sets_of}
use Rattle.untils.proofs.DueRuns.{Going}
use Rattle.untils.proofs.eventually.Given as goal

-- `eventually` meets its contract. The loop's invariant: the points before j are taken.
abbrev pub invariant-loop-j : goal.invariant-loop-j
invariant-loop-j l = Going (stamps_of l.retained) l.w (sets_of l.sets l.right) (point l.initial.j) l.lowest l.m l.initial.out l.n l.out l.k l.j

abbrev pub decreases-loop-j : goal.decreases-loop-j
decreases-loop-j l = l.m - l.j
