-- Whether an age fits a window, by whether the window has an end.
use Prim.Native.Nat.{ℕ, ◌-◌, ◌≤◌, ◌<◌, min}
use native.Mathlib.Omega.{arith}
use mathlib.Core.Path.{◌≡◌, refl, sym, ◌∙◌}
use mathlib.Core.Bool.{and-true}
use lib.Dec.{leb, ltb, eqb}
use borrow.Author.Tests.{leb-true, leb-false, lt-ltb, le-ltb, eq-eqb, ne_eqb}
use Rattle.meaning.specs.declared.Window.{Window}
use Rattle.meaning.proofs.Points.{Tested, passed, failed, tested}
use Rattle.formed.specs.Tests.{age_fits}

-- an age at most the start is the lesser of the two
at_most : (age start : ℕ) → leb age start ≡ eqb (min age start) age
at_most age start = go (tested (leb age start))
  where
    go : Tested (leb age start) → leb age start ≡ eqb (min age start) age
    go (passed e) = e ∙ sym (eq-eqb (min age start) age (let l : age ≤ start = leb-true age start e in omega arith))
    go (failed e) = e ∙ sym (ne_eqb (min age start) age (λ q. let l : start < age = leb-false age start e in omega arith))

-- an age at most the last before the end is below the end
below : (age end : ℕ) → 0 < end → leb age (end - 1) ≡ ltb age end
below age end some = go (tested (leb age (end - 1)))
  where
    go : Tested (leb age (end - 1)) → leb age (end - 1) ≡ ltb age end
    go (passed e) = e ∙ sym (lt-ltb age end (let l : age ≤ end - 1 = leb-true age (end - 1) e in omega arith))
    go (failed e) = e ∙ sym (le-ltb age end (let l : end - 1 < age = leb-false age (end - 1) e in omega arith))

module _ (w : Window) (age : ℕ) where
  pub fits_no_end : w.end ≡ 0 → leb age w.start ≡ age_fits w age
  fits_no_end none = rw (eq-eqb w.end 0 none) (at_most age w.start)

  pub fits_end : (w.end ≡ 0 → ⊥) → leb age (w.end - 1) ≡ age_fits w age
  fits_end some = rw (ne_eqb w.end 0 some, eq-eqb age age refl, and-true (ltb age w.end)) (below age w.end (omega (arith, some)))
