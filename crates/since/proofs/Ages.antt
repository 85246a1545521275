-- An age against a window's bounds: below the one that stands for no end, an age is in the window, before its end and counted as the definitions say.
use Prim.Native.Nat.{ℕ, min, ◌<◌}
use mathlib.Core.Path.{◌≡◌, refl, ap}
use mathlib.Core.Bool.{Bool, true, false, cond, ◌&&◌, ◌||◌}
use mathlib.Core.List.{List, []}
use native.Mathlib.Omega.{arith}
use lib.Dec.{ltb, leb, eqb}
use borrow.Author.Tests.{ltb-true, lt-ltb}
use Rattle.meaning.specs.Formula.{in_window}
use Rattle.meaning.specs.Kept.{below_end, counted_age}
use Rattle.meaning.specs.declared.Window.{Window}
use Rattle.meaning.proofs.Points.{Tested, passed, failed, tested}
use Rattle.since.specs.Parts.{below_of, most_of}

module _ (w : Window) (age : ℕ) (few : age < 8589934592) where
  pub below_end_lem : ltb age (below_of w) ≡ below_end w age
  below_end_lem = go (eqb w.end 0)
    where
      go : (t : Bool) → ltb age (cond t 8589934592 w.end) ≡ (t || ltb age w.end)
      go true = lt-ltb age 8589934592 few
      go false = refl

  pub in_window_lem : {from below : ℕ} → from ≡ w.start → below ≡ below_of w → (leb from age && ltb age below) ≡ in_window w age
  in_window_lem e f = rw (e, f) (ap (λ t. leb w.start age && t) below_end_lem)

  -- an age before the end counts as it is, and where there is none, as at most the start
  pub counted : below_end w age ≡ true → min age (most_of w) ≡ counted_age w age
  counted = go (eqb w.end 0)
    where
      go : (t : Bool) → (t || ltb age w.end) ≡ true → min age (cond t w.start w.end) ≡ cond t (min age w.start) age
      go true e = refl
      go false e = omega (arith, ltb-true age w.end e)

  -- what is put in at that age, where it is before the end
  pub counted_as : {A : Type 0} (f : ℕ → List A) (t : Bool) {below most : ℕ} → below ≡ below_of w → most ≡ most_of w
      → cond (ltb age below && t) (f (min age most)) [] ≡ cond (below_end w age && t) (f (counted_age w age)) []
  counted_as f t e g = rw (e, g, below_end_lem) (go (tested (below_end w age)))
    where
      go : Tested (below_end w age) → cond (below_end w age && t) (f (min age (most_of w))) [] ≡ cond (below_end w age && t) (f (counted_age w age)) []
      go (passed p) = ap (λ a. cond (below_end w age && t) (f a) []) (counted p)
      go (failed p) = rw p
