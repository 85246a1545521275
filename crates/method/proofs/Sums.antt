-- Sums over lists of numbers. Nothing here is about rules or logs.
use Prim.Native.Nat.{ℕ, zero, suc, ◌+◌, ◌-◌, ◌*◌, ◌≤◌, ◌<◌}
use native.Mathlib.Nat.{eq-or-lt_of_le}
use native.Mathlib.Omega.{arith}
use mathlib.Core.Path.{◌≡◌, refl, sym, ◌∙◌, ap, ap₂}
use mathlib.Core.Logic.{◌⊎◌, inl, inr}
use mathlib.Core.List.{List, [], ◌∷◌, ◌++◌, map, Memᴰ}
use lib.ListN.{length, length-append}
use lib.Dec.{eqb}
use borrow.Author.Tests.{eqb-true, eqb-false, eq-eqb, ne_eqb}
use Rattle.meaning.specs.Lists.{range, gather, total, occurrences}
use Rattle.meaning.proofs.Rows.{range_at}
use Rattle.meaning.proofs.Points.{Tested, passed, failed, tested}

abbrev pub sum : (ℕ → ℕ) → List ℕ → ℕ
sum f xs = total (map f xs)

pub sum_same : (f g : ℕ → ℕ) (xs : List ℕ) → ((x : ℕ) → Memᴰ x xs → f x ≡ g x) → sum f xs ≡ sum g xs
sum_same f g [] e = refl
sum_same f g (x ∷ xs) e = ap₂ (λ p q. p + q) (e x (Memᴰ.head refl)) (sum_same f g xs (λ y m. e y (Memᴰ.tail m)))

pub sum_plus : (f g : ℕ → ℕ) (xs : List ℕ) → sum (λ x. f x + g x) xs ≡ sum f xs + sum g xs
sum_plus f g [] = refl
sum_plus f g (x ∷ xs) = omega (arith, sum_plus f g xs)

pub sum_each : (k : ℕ) (xs : List ℕ) → sum (λ x. k) xs ≡ length xs * k
sum_each k [] = omega arith
sum_each k (x ∷ xs) = omega (arith, sum_each k xs)

pub total_append : {A : Type 0} (f : A → ℕ) (xs ys : List A) → total (map f (xs ++ ys)) ≡ total (map f xs) + total (map f ys)
total_append f [] ys = omega arith
total_append f (x ∷ xs) ys = omega (arith, total_append f xs ys)

pub sum_gather : (f : ℕ → ℕ) (g : ℕ → List ℕ) (xs : List ℕ) → sum f (gather g xs) ≡ sum (λ x. sum f (g x)) xs
sum_gather f g [] = refl
sum_gather f g (x ∷ xs) = omega (arith, total_append f (g x) (gather g xs), sum_gather f g xs)

pub length_gather : {A : Type 0} (g : ℕ → List A) (xs : List ℕ) → length (gather g xs) ≡ sum (λ x. length (g x)) xs
length_gather g [] = refl
length_gather g (x ∷ xs) = omega (arith, length-append (g x) (gather g xs), length_gather g xs)

pub sum_last : (f : ℕ → ℕ) (a n : ℕ) → sum f (range a (suc n)) ≡ sum f (range a n) + f (a + n)
sum_last f a zero = let e : a + 0 ≡ a = omega arith in omega (arith, ap f e)
sum_last f a (suc n) = let e : suc a + n ≡ a + suc n = omega arith in omega (arith, sum_last f (suc a) n, ap f e)

-- a number of a run and those after it add up to no more than the run
pub sum_after : (f : ℕ → ℕ) (x a n : ℕ) → a ≤ x → x < a + n → f x + sum f (range (suc x) (a + n - suc x)) ≤ sum f (range a n)
sum_after f x a zero u o = absurd (omega arith)
sum_after f x a (suc n) u o = go (eq-or-lt_of_le u) (λ v. sum_after f x (suc a) n v (omega arith))
  where
    go : (a ≡ x) ⊎ (a < x) → (a < x → f x + sum f (range (suc x) (suc a + n - suc x)) ≤ sum f (range (suc a) n)) → f x + sum f (range (suc x) (a + suc n - suc x)) ≤ f a + sum f (range (suc a) n)
    go (inl e) rest = let k : x + suc n - suc x ≡ n = omega arith in rw (e, k) (omega arith)
    go (inr v) rest = let k : a + suc n - suc x ≡ suc a + n - suc x = omega arith in rw k (omega (arith, rest v))

-- ---- two lists, each number counted as often as it stands in the other

range_none : (x a n : ℕ) → x < a → occurrences x (range a n) ≡ 0
range_none x a zero u = refl
range_none x a (suc n) u = rw (ne_eqb x a (omega arith)) (range_none x (suc a) n (omega arith))

range_once : (x a n : ℕ) → a ≤ x → x < a + n → occurrences x (range a n) ≡ 1
range_once x a zero u o = absurd (omega arith)
range_once x a (suc n) u o = go (eq-or-lt_of_le u) (λ v. range_once x (suc a) n v (omega arith))
  where
    go : (a ≡ x) ⊎ (a < x) → (a < x → occurrences x (range (suc a) n) ≡ 1) → occurrences x (range a (suc n)) ≡ 1
    go (inl e) rest = rw (eq-eqb x a (sym e)) (ap suc (range_none x (suc a) n (omega arith)))
    go (inr v) rest = rw (ne_eqb x a (omega arith)) (rest v)

module _ (f : ℕ → ℕ) where
  -- f of each number of xs, as often as it stands in ys
  abbrev counted : List ℕ → List ℕ → ℕ
  counted ys xs = sum (λ x. occurrences x ys * f x) xs

  counted_none : (xs : List ℕ) → counted [] xs ≡ 0
  counted_none [] = refl
  counted_none (x ∷ xs) = omega (arith, counted_none xs)

  counted_more : (y : ℕ) (ys xs : List ℕ) → counted (y ∷ ys) xs ≡ occurrences y xs * f y + counted ys xs
  counted_more y ys [] = omega arith
  counted_more y ys (x ∷ xs) = go (tested (eqb x y)) (counted_more y ys xs)
    where
      go : Tested (eqb x y) → counted (y ∷ ys) xs ≡ occurrences y xs * f y + counted ys xs → counted (y ∷ ys) (x ∷ xs) ≡ occurrences y (x ∷ xs) * f y + counted ys (x ∷ xs)
      go (passed e) h = let q : x ≡ y = eqb-true x y e in rw (e, eq-eqb y x (sym q)) (omega (arith, ap f q, ap (λ z. occurrences z ys * f z) q))
      go (failed e) h = let q : x ≡ y → ⊥ = eqb-false x y e in rw (e, ne_eqb y x (λ r. q (sym r))) (omega arith)

  counted_swap : (xs ys : List ℕ) → counted ys xs ≡ counted xs ys
  counted_swap xs [] = counted_none xs
  counted_swap xs (y ∷ ys) = omega (arith, counted_more y ys xs, counted_swap xs ys)

  once_all : (xs ys : List ℕ) → ((x : ℕ) → Memᴰ x xs → occurrences x ys ≡ 1) → counted ys xs ≡ sum f xs
  once_all xs ys once = sum_same (λ x. occurrences x ys * f x) f xs (λ x m. rw (once x m) (omega arith))

  -- a list of all numbers below n, each once
  pub sum_once : (xs : List ℕ) (n : ℕ) → ((x : ℕ) → Memᴰ x xs → x < n) → ((x : ℕ) → x < n → occurrences x xs ≡ 1) → sum f xs ≡ sum f (range 0 n)
  sum_once xs n low once =
      sym (once_all xs (range 0 n) (λ x m. range_once x 0 n (omega arith) (omega (arith, low x m))))
      ∙ counted_swap xs (range 0 n) ∙ once_all (range 0 n) xs (λ x m. once x (omega (arith, (range_at 0 n m).1)))
