-- What an accessor gives over a range of numbers: in two parts, one more at the end, the same where the accessors agree, on the same range or another, and by two functions.
use Prim.Native.Nat.{ℕ, zero, suc, ◌+◌, ◌≤◌, ◌<◌}
use mathlib.Core.Path.{◌≡◌, refl, ap, ap₂}
use mathlib.Core.List.{List, [], ◌∷◌, ◌++◌, map}
use native.Mathlib.Nat.{zero-add, add-zero}
use native.Mathlib.Omega.{arith}
use Rattle.meaning.specs.Lists.{range}

module _ {A : Type 0} where
  pub listed_append : (f : ℕ → A) (a m n : ℕ) → map f (range a (m + n)) ≡ map f (range a m) ++ map f (range (a + m) n)
  listed_append f a zero n = rw (zero-add, add-zero)
  listed_append f a (suc m) n =
      let e : suc m + n ≡ suc (m + n) = omega arith in
      let g : suc a + m ≡ a + suc m = omega arith in
      rw e (ap (λ xs. f a ∷ xs) (rw g at (listed_append f (suc a) m n)))

  pub listed_more : (f : ℕ → A) (a m : ℕ) → map f (range a (m + 1)) ≡ map f (range a m) ++ f (a + m) ∷ []
  listed_more f a m = listed_append f a m 1

  pub listed_same : (f g : ℕ → A) (a n : ℕ) → ((k : ℕ) → a ≤ k → k < a + n → f k ≡ g k) → map f (range a n) ≡ map g (range a n)
  listed_same f g a zero h = refl
  listed_same f g a (suc n) h = ap₂ (λ x xs. x ∷ xs) (h a (omega arith) (omega arith)) (listed_same f g (suc a) n (λ k l m. h k (omega arith) (omega arith)))

  pub listed_moved : (f g : ℕ → A) (a b n : ℕ) → ((k : ℕ) → k < n → f (a + k) ≡ g (b + k)) → map f (range a n) ≡ map g (range b n)
  listed_moved f g a b zero h = refl
  listed_moved f g a b (suc n) h =
      let e : a + 0 ≡ a = omega arith in
      let d : b + 0 ≡ b = omega arith in
      ap₂ (λ x xs. x ∷ xs) (rw (e, d) at (h 0 (omega arith)))
      (listed_moved f g (suc a) (suc b) n
      (λ k l.
      let i : suc a + k ≡ a + suc k = omega arith in
      let j : suc b + k ≡ b + suc k = omega arith in
      rw (i, j) (h (suc k) (omega arith))))

module _ {A B C : Type 0} where
  pub map_twice : (g : B → C) (f : A → B) (xs : List A) → map g (map f xs) ≡ map (λ x. g (f x)) xs
  map_twice g f [] = refl
  map_twice g f (x ∷ xs) = ap (λ ys. g (f x) ∷ ys) (map_twice g f xs)
