-- How far a test passes: one number more, where it stops, that it passes all the way, and the same for tests that agree.
use Prim.Native.Nat.{ℕ, zero, suc, ◌+◌, ◌-◌, ◌≤◌, ◌<◌}
use mathlib.Core.Path.{◌≡◌, refl, ap₂}
use mathlib.Core.Bool.{Bool, true, false, cond}
use native.Mathlib.Nat.{add-zero}
use native.Mathlib.Numerals.{add-one}
use native.Mathlib.Omega.{arith}
use Rattle.meaning.proofs.Points.{Tested, passed, failed, tested}
use Rattle.entries.specs.Entries.{streak}

module _ (p : ℕ → Bool) where
  pub streak_more : (to i : ℕ) → i < to → p i ≡ true → streak p i (to - i) ≡ suc (streak p (i + 1) (to - (i + 1)))
  streak_more to i l h =
      let e : to - i ≡ suc (to - (i + 1)) = omega arith in
      rw (e, h, add-one i)

  pub streak_stops : (to i : ℕ) → p i ≡ false → streak p i (to - i) ≡ 0
  streak_stops to i h = go (to - i)
    where
      go : (left : ℕ) → streak p i left ≡ 0
      go zero = refl
      go (suc left) = rw h

  pub streak_ends : (to i : ℕ) → to ≤ i → streak p i (to - i) ≡ 0
  streak_ends to i l =
      let e : to - i ≡ 0 = omega arith in
      rw e

  pub streak-within : (i left : ℕ) → streak p i left ≤ left
  streak-within i zero = omega arith
  streak-within i (suc left) = go (p i) (streak-within (suc i) left)
    where
      go : (t : Bool) → streak p (suc i) left ≤ left → cond t (suc (streak p (suc i) left)) 0 ≤ suc left
      go true h = omega arith
      go false h = omega arith

  pub streak_all : (i left k : ℕ) → k < streak p i left → p (i + k) ≡ true
  streak_all i zero k l = absurd (omega arith)
  streak_all i (suc left) k l = go (tested (p i)) (streak_all (suc i) left) k l
    where
      go : Tested (p i) → ((k : ℕ) → k < streak p (suc i) left → p (suc i + k) ≡ true) → (k : ℕ) → k < streak p i (suc left) → p (i + k) ≡ true
      go (passed e) rest zero l = rw add-zero e
      go (passed e) rest (suc k) l =
          let m : suc k < suc (streak p (suc i) left) = rw e at l in
          let f : suc i + k ≡ i + suc k = omega arith in
          rw f at (rest k (omega arith))
      go (failed e) rest k l =
          let m : k < 0 = rw e at l in
          absurd (omega arith)

-- two tests that agree
pub streak_same : (p q : ℕ → Bool) → ((k : ℕ) → p k ≡ q k) → (i left : ℕ) → streak p i left ≡ streak q i left
streak_same p q h i zero = refl
streak_same p q h i (suc left) = ap₂ (λ t n. cond t (suc n) 0) (h i) (streak_same p q h (suc i) left)
