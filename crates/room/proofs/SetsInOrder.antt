-- Sets laid one after the other: their marks rise, and where some stand fewer do.
use Prim.Native.Nat.{ℕ, zero, suc, ◌+◌, ◌-◌, ◌≤◌, ◌<◌}
use native.Mathlib.Omega.{arith}
use mathlib.Core.Path.{◌≡◌}
use mathlib.Core.List.{List}
use lib.ListN.{get_or}
use Rattle.room.specs.Room.{SetsInOrder}

pub marks_rise : (at : List ℕ) (q n : ℕ) → ((s : ℕ) → s < q + n → get_or at s 0 ≤ get_or at (s + 1) 0) → get_or at q 0 ≤ get_or at (q + n) 0
marks_rise at q zero h = let e : q + 0 ≡ q = omega arith in rw e (omega arith)
marks_rise at q (suc n) h = let e : q + suc n ≡ q + n + 1 = omega arith in rw e (omega (arith, marks_rise at q n (λ s l. h s (omega arith)), h (q + n) (omega arith)))

module _ {rows at : List ℕ} {n : ℕ} (l : SetsInOrder rows at n) where
  -- a set begins where the last one ends, or before
  pub mark_before : (q : ℕ) → q ≤ n → get_or at q 0 ≤ get_or at n 0
  mark_before q h = let e : q + (n - q) ≡ n = omega arith in rw e at (marks_rise at q (n - q) (λ s k. l.steps s (omega arith)))

  pub laid_fewer : (k : ℕ) → k ≤ n → SetsInOrder rows at k
  laid_fewer k h = record { marks = omega (arith, l.marks); steps = λ q b. l.steps q (omega arith); words = omega (arith, l.words, mark_before k h) }
