use Prim.Native.Nat.{◌-◌, ◌≤◌, max}
use mathlib.Core.Path.{◌≡◌}
use Rattle.meaning.specs.Log.{point}
use Rattle.progress.specs.Stamps.{stamps_of}
use Rattle.method.specs.Counts.{scan}
use Rattle.progress.proofs.first_open.Given as goal

-- The scan gives from the start what it gives from `i` on, until it stops.
abbrev pub invariant-loop-i : goal.invariant-loop-i
invariant-loop-i l = (scan (stamps_of l.retained) l.d l.bound (point l.initial.i) (l.i-end - l.initial.i) ≡ scan (stamps_of l.retained) l.d l.bound (point l.i) (l.i-end - l.i)) × (l.i ≤ max l.initial.i l.i-end)
