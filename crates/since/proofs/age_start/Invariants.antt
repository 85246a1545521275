use Prim.Native.Nat.{ℕ, ◌+◌, ◌-◌, ◌≤◌, ◌<◌}
use mathlib.Core.Path.{◌≡◌}
use mathlib.Core.List.{List}
use lib.ListN.{get_or}
use Rattle.since.proofs.age_start.Given as goal

-- the ages from number x on, before number to, are that of the last of them
abbrev pub OneAge : List ℕ → ℕ → ℕ → Type 0
OneAge ages to x = (k : ℕ) → x ≤ k → k < to → get_or ages k 0 ≡ get_or ages (to - 1) 0

-- The next place looked at is l.x - 1: the ages from there on are that of the last.
abbrev pub invariant-loop-x : goal.invariant-loop-x
invariant-loop-x l = (l.fn.from + 1 ≤ l.x) × OneAge l.ages l.fn.to (l.x - 1)
