-- Laws of the functions on lists that the definitions share.
use Prim.Native.Nat.{ℕ, zero, suc, ◌+◌}
use native.Mathlib.Omega.{arith}
use mathlib.Core.Path.{◌≡◌, refl, sym, ap, ◌∙◌}
use mathlib.Core.Bool.{Bool, true, false, cond}
use mathlib.Core.List.{List, [], ◌∷◌, ◌++◌, append_assoc}
use lib.ListN.{length}
use lib.Dec.{eqb}
use Rattle.meaning.specs.Lists.{range, gather, occurrences}

pub range_length : (a n : ℕ) → length (range a n) ≡ n
range_length a zero = refl
range_length a (suc n) = ap suc (range_length (suc a) n)

pub gather_append : {A B : Type 0} (f : A → List B) (xs ys : List A) → gather f (xs ++ ys) ≡ gather f xs ++ gather f ys
gather_append f [] ys = refl
gather_append f (x ∷ xs) ys = ap (λ zs. f x ++ zs) (gather_append f xs ys) ∙ sym (append_assoc (f x) (gather f xs) (gather f ys))

pub occurrences_append : (x : ℕ) (s t : List ℕ) → occurrences x (s ++ t) ≡ occurrences x s + occurrences x t
occurrences_append x [] t = let e : occurrences x t ≡ 0 + occurrences x t = omega arith in e
occurrences_append x (y ∷ s) t = go (eqb x y) (occurrences_append x s t)
  where
    go : (b : Bool) → occurrences x (s ++ t) ≡ occurrences x s + occurrences x t → cond b (suc (occurrences x (s ++ t))) (occurrences x (s ++ t)) ≡ cond b (suc (occurrences x s)) (occurrences x s) + occurrences x t
    go true h = omega arith
    go false h = h
