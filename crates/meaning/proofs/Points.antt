-- Tests joined by && and ||, and tests over a run of points: when two runs give the same.
use Prim.Native.Nat.{ℕ, zero, suc, ◌+◌, ◌≤◌, ◌<◌}
use mathlib.Core.Path.{◌≡◌, refl, sym, ap, ap₂, fun_ext}
use mathlib.Core.Bool.{Bool, true, false, cond, ◌&&◌, ◌||◌, false≢true}
use mathlib.Core.Logic.{◌⊎◌, inl, inr}
use mathlib.Core.List.{List, [], ◌∷◌, ◌++◌}
use native.Mathlib.Nat.{eq-or-lt_of_le, zero-add, add-zero}
use native.Mathlib.Omega.{arith}
use lib.ListN.{length}
use Rattle.meaning.specs.Lists.{all, select, gather}
use Rattle.meaning.specs.Log.{point, point_after, points_from}
use Rattle.meaning.specs.declared.Point.{Point}

pub both : {a b : Bool} → a ≡ true → b ≡ true → (a && b) ≡ true
both {a} {b} p q = rw (p, q)

pub first : (a b : Bool) → (a && b) ≡ true → a ≡ true
first true b e = refl
first false b e = absurd (false≢true e)

pub second : (a b : Bool) → (a && b) ≡ true → b ≡ true
second true b e = e
second false b e = absurd (false≢true e)

pub or_left : (a b : Bool) → a ≡ true → (a || b) ≡ true
or_left a b e = rw e

pub or_right : (a b : Bool) → b ≡ true → (a || b) ≡ true
or_right true b e = refl
or_right false b e = e

-- a test, and what it gave
pub data Tested (t : Bool) : Type 0 where
  passed : t ≡ true → Tested t
  failed : t ≡ false → Tested t

pub tested : (t : Bool) → Tested t
tested true = passed refl
tested false = failed refl

-- what holds of a number and of the run after it holds of the run from it on
pub from_first : (P : ℕ → Type 0) (a n : ℕ) → P a → ((x : ℕ) → suc a ≤ x → x < suc a + n → P x) → (x : ℕ) → a ≤ x → x < a + suc n → P x
from_first P a n here rest x u o = go (eq-or-lt_of_le u)
  where
    go : (a ≡ x) ⊎ (a < x) → P x
    go (inl e) = rw e at here
    go (inr h) = rest x h (omega arith)

-- two tests that give the same at every point of a run
pub all_same : (p q : Point → Bool) (a n : ℕ) → ((j : Point) → a ≤ j.0 → j.0 < a + n → p j ≡ q j) → all p (points_from (point a) n) ≡ all q (points_from (point a) n)
all_same p q a zero h = refl
all_same p q a (suc n) h =
    ap₂ (λ s t. s && t) (h (point a) (omega arith) (omega arith)) (all_same p q (suc a) n (λ j u o. h j (omega arith) (omega arith)))

-- a run in two parts
pub points_from_append : (a : Point) (m n : ℕ) → points_from a (m + n) ≡ points_from a m ++ points_from (point (a.0 + m)) n
points_from_append a zero n = rw (zero-add, add-zero)
points_from_append a (suc m) n =
    let e : suc m + n ≡ suc (m + n) = omega arith in
    let f : suc a.0 + m ≡ a.0 + suc m = omega arith in
    rw e (ap (λ ps. a ∷ ps) (rw f at (points_from_append (point_after a) m n)))

module _ {A : Type 0} where
  pub select_same : (p q : A → Bool) (xs : List A) → ((x : A) → p x ≡ q x) → select p xs ≡ select q xs
  select_same p q xs h = ap (λ t. select t xs) (fun_ext h)

  pub select_append : (p : A → Bool) (xs ys : List A) → select p (xs ++ ys) ≡ select p xs ++ select p ys
  select_append p [] ys = refl
  select_append p (x ∷ xs) ys = go (p x) (select_append p xs ys)
    where
      go : (t : Bool) → select p (xs ++ ys) ≡ select p xs ++ select p ys → cond t (x ∷ select p (xs ++ ys)) (select p (xs ++ ys)) ≡ cond t (x ∷ select p xs) (select p xs) ++ select p ys
      go true e = ap (λ zs. x ∷ zs) e
      go false e = e

-- nothing is selected where the test fails at every point
pub select_none : (p : Point → Bool) (a n : ℕ) → ((j : Point) → a ≤ j.0 → j.0 < a + n → p j ≡ false) → select p (points_from (point a) n) ≡ []
select_none p a zero h = refl
select_none p a (suc n) h = rw (h (point a) (omega arith) (omega arith)) (select_none p (suc a) n (λ j u o. h j (omega arith) (omega arith)))

-- two tests that give the same at every point of a run, and two functions that give the same where the test passes
pub gather_same : {B : Type 0} (p q : Point → Bool) (f g : Point → List B) (a n : ℕ)
    → ((j : Point) → a ≤ j.0 → j.0 < a + n → p j ≡ q j)
    → ((j : Point) → a ≤ j.0 → j.0 < a + n → p j ≡ true → f j ≡ g j)
    → gather f (select p (points_from (point a) n)) ≡ gather g (select q (points_from (point a) n))
gather_same p q f g a zero h k = refl
gather_same p q f g a (suc n) h k =
    go (p (point a)) (q (point a)) (h (point a) (omega arith) (omega arith)) (λ e. k (point a) (omega arith) (omega arith) e)
    (gather_same p q f g (suc a) n (λ j u o. h j (omega arith) (omega arith)) (λ j u o. k j (omega arith) (omega arith)))
  where
    ps : List Point
    ps = select p (points_from (point (suc a)) n)

    qs : List Point
    qs = select q (points_from (point (suc a)) n)

    go : (s t : Bool) → s ≡ t → (s ≡ true → f (point a) ≡ g (point a)) → gather f ps ≡ gather g qs → gather f (cond s (point a ∷ ps) ps) ≡ gather g (cond t (point a ∷ qs) qs)
    go true true e here rest = ap₂ (λ xs ys. xs ++ ys) (here refl) rest
    go true false e here rest = absurd (false≢true (sym e))
    go false true e here rest = absurd (false≢true e)
    go false false e here rest = rest

-- no more are selected than there are
pub select_most : {A : Type 0} (f : A → Bool) (xs : List A) → length (select f xs) ≤ length xs
select_most f [] = omega arith
select_most f (x ∷ xs) = go (f x) (select_most f xs)
  where
    go : (t : Bool) → length (select f xs) ≤ length xs → length (cond t (x ∷ select f xs) (select f xs)) ≤ suc (length xs)
    go true e = omega arith
    go false e = omega arith
