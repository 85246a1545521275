use Prim.Native.Nat.{ℕ, ◌<◌}
use mathlib.Core.Path.{◌≡◌}
use lib.ListN.{get_or}
use Rattle.method.specs.Room.{others_in}
use Rattle.figures.proofs.weights.Given as goal

-- The loop keeps that the nodes passed so far have their words.
abbrev pub invariant-loop-x : goal.invariant-loop-x
invariant-loop-x l = (y : ℕ) → y < l.x → get_or l.out y 0 ≡ others_in l.rule y
