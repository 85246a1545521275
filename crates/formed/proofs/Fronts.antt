-- A list in two parts: those at its front that pass a test, and those behind them.
use mathlib.Core.Path.{◌≡◌, refl, ap}
use mathlib.Core.Bool.{Bool, true, false}
use mathlib.Core.List.{List, [], ◌∷◌, ◌++◌, Memᴰ}
use Rattle.meaning.specs.Lists.{all}
use Rattle.meaning.proofs.Points.{Tested, passed, failed, tested, both, first, second}
use Rattle.entries.specs.Entries.{begins}
use Rattle.formed.specs.Walk.{front, behind}

module _ {A : Type 0} (q : A → Bool) where
  pub two_parts : (xs : List A) → front q xs ++ behind q xs ≡ xs
  two_parts [] = refl
  two_parts (x ∷ xs) = go (tested (q x)) (two_parts xs)
    where
      go : Tested (q x) → front q xs ++ behind q xs ≡ xs → front q (x ∷ xs) ++ behind q (x ∷ xs) ≡ x ∷ xs
      go (passed t) h = rw t (ap (λ ys. x ∷ ys) h)
      go (failed t) h = rw t

  pub front-passes : (xs : List A) → all q (front q xs) ≡ true
  front-passes [] = refl
  front-passes (x ∷ xs) = go (tested (q x)) (front-passes xs)
    where
      go : Tested (q x) → all q (front q xs) ≡ true → all q (front q (x ∷ xs)) ≡ true
      go (passed t) h = rw t (both t h)
      go (failed t) h = rw t

  pub behind_stops : (xs : List A) → begins q (behind q xs) ≡ false
  behind_stops [] = refl
  behind_stops (x ∷ xs) = go (tested (q x)) (behind_stops xs)
    where
      go : Tested (q x) → begins q (behind q xs) ≡ false → begins q (behind q (x ∷ xs)) ≡ false
      go (passed t) h = rw t h
      go (failed t) h = rw t t

  -- behind some that pass, and what doesn't begin with one
  pub behind_these : (xs rest : List A) → all q xs ≡ true → begins q rest ≡ false → behind q (xs ++ rest) ≡ rest
  behind_these [] [] a b = refl
  behind_these [] (x ∷ rest) a b = rw b
  behind_these (x ∷ xs) rest a b = rw (first (q x) (all q xs) a) (behind_these xs rest (second (q x) (all q xs) a) b)

  pub begins_none : (xs : List A) → ((x : A) → Memᴰ x xs → q x ≡ false) → begins q xs ≡ false
  begins_none [] h = refl
  begins_none (x ∷ xs) h = h x (Memᴰ.head refl)
