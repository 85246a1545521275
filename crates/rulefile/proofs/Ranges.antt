-- The numbers of a range one by one, and how often a number stands in what they give.
use Prim.Native.Nat.{ℕ, zero, suc, ◌+◌, ◌-◌, ◌<◌, ◌≤◌}
use native.Mathlib.Numerals.{add-one}
use native.Mathlib.Omega.{arith}
use mathlib.Core.Path.{◌≡◌, sym, ap, ◌∙◌}
use mathlib.Core.Bool.{Bool, true, false, cond}
use mathlib.Core.List.{List, [], ◌∷◌, ◌++◌, append-nil, append_assoc}
use lib.ListN.{length}
use lib.Dec.{eqb}
use Rattle.meaning.specs.Lists.{range, gather, occurrences}

-- the first number of what is left of a range
pub range_first : (x n : ℕ) → x < n → range x (n - x) ≡ x ∷ range (x + 1) (n - (x + 1))
range_first x n l =
    let e : n - x ≡ suc (n - (x + 1)) = omega arith in
    ap (range x) e ∙ ap (λ k. x ∷ range k (n - (x + 1))) (sym (add-one x))

-- one number more at a range's end
pub gather_last : {A : Type 0} (f : ℕ → List A) (a n : ℕ) → gather f (range a (n + 1)) ≡ gather f (range a n) ++ f (a + n)
gather_last f a zero = ap (λ k. f k ++ []) (let e : a ≡ a + 0 = omega arith in e) ∙ append-nil (f (a + 0))
gather_last f a (suc n) =
    ap (λ k. gather f (range a k)) (add-one (suc n))
    ∙ ap (λ l. f a ++ l) (ap (λ k. gather f (range (suc a) k)) (sym (add-one n)) ∙ gather_last f (suc a) n)
    ∙ sym (append_assoc (f a) (gather f (range (suc a) n)) (f (suc a + n)))
    ∙ ap (λ k. (f a ++ gather f (range (suc a) n)) ++ f k) (let e : suc a + n ≡ a + suc n = omega arith in e)

pub occurrences-bound : (x : ℕ) (s : List ℕ) → occurrences x s ≤ length s
occurrences-bound x [] = omega arith
occurrences-bound x (y ∷ s) = go (eqb x y) (occurrences-bound x s)
  where
    go : (b : Bool) → occurrences x s ≤ length s → cond b (suc (occurrences x s)) (occurrences x s) ≤ suc (length s)
    go true h = omega arith
    go false h = omega arith
