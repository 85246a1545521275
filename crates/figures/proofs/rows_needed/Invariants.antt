use Prim.Native.Nat.{ℕ, ◌<◌}
use mathlib.Core.Path.{◌≡◌}
use lib.ListN.{get_or}
use Rattle.method.specs.Room.{need}
use Rattle.figures.specs.Tables.{rows_in}
use Rattle.figures.proofs.rows_needed.Given as goal

-- The loop keeps what the trees of the nodes passed so far need.
abbrev pub invariant-loop-x : goal.invariant-loop-x
invariant-loop-x l = (y : ℕ) → y < l.x → get_or l.needs y 0 ≡ need l.rule (rows_in l.table) y
