-- The least of some nodes' counts.
use Prim.Native.Nat.{ℕ, ◌≤◌, min}
use native.Mathlib.Omega.{arith}
use mathlib.Core.Path.{◌≡◌, refl, ap, ap₂}
use mathlib.Core.Logic.{◌⊎◌, inl, inr}
use mathlib.Core.List.Memᴰ
use mathlib.Core.List.{List, [], ◌∷◌, map, Memᴰ}
use Rattle.method.specs.Stored.{least_of}

pub least_most : (n : ℕ) (cs : List ℕ) → least_of n cs ≤ n
least_most n [] = omega arith
least_most n (c ∷ cs) = omega (arith, least_most n cs)

pub least_below : (n : ℕ) (c : ℕ → ℕ) (xs : List ℕ) (y : ℕ) → Memᴰ y xs → least_of n (map c xs) ≤ c y
least_below n c [] y m = absurd (Memᴰ.not-nil m)
least_below n c (x ∷ xs) y m = go (Memᴰ.cases_cons m) (least_below n c xs y)
  where
    go : (y ≡ x) ⊎ Memᴰ y xs → (Memᴰ y xs → least_of n (map c xs) ≤ c y) → min (c x) (least_of n (map c xs)) ≤ c y
    go (inl e) rest = let h : c y ≡ c x = ap c e in omega arith
    go (inr k) rest = omega (arith, rest k)

pub least_above : (v n : ℕ) (c : ℕ → ℕ) (xs : List ℕ) → v ≤ n → ((x : ℕ) → Memᴰ x xs → v ≤ c x) → v ≤ least_of n (map c xs)
least_above v n c [] h g = h
least_above v n c (x ∷ xs) h g = omega (arith, g x (Memᴰ.head refl), least_above v n c xs h (λ y m. g y (Memᴰ.tail m)))

pub least_grows : (n n' : ℕ) (c c' : ℕ → ℕ) (xs : List ℕ) → n ≤ n' → ((x : ℕ) → Memᴰ x xs → c x ≤ c' x) → least_of n (map c xs) ≤ least_of n' (map c' xs)
least_grows n n' c c' [] h g = h
least_grows n n' c c' (x ∷ xs) h g = omega (arith, g x (Memᴰ.head refl), least_grows n n' c c' xs h (λ y m. g y (Memᴰ.tail m)))

pub least_same : (n : ℕ) (c c' : ℕ → ℕ) (xs : List ℕ) → ((x : ℕ) → Memᴰ x xs → c x ≡ c' x) → least_of n (map c xs) ≡ least_of n (map c' xs)
least_same n c c' [] h = refl
least_same n c c' (x ∷ xs) h = ap₂ min (h x (Memᴰ.head refl)) (least_same n c c' xs (λ y m. h y (Memᴰ.tail m)))
