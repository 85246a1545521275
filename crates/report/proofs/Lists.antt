-- Laws of the functions on lists that the definitions share: gathered lists end to end, sums, tests of each element, and elements taken by their number.
use Prim.Native.Nat.{ℕ, zero, suc, ◌+◌, ◌*◌, ◌<◌}
use native.Mathlib.Nat.{mul-suc, mul-zero}
use native.Mathlib.Omega.{arith}
use mathlib.Core.Bool.{Bool, true, ◌&&◌}
use mathlib.Core.List.{List, [], ◌∷◌, ◌++◌, map}
use mathlib.Core.Path.{◌≡◌, refl, sym, ap, ap₂, ◌∙◌}
use lib.Dec.{eqb}
use lib.ListN.{length, get_or, take, drop, length-append}
use lib.Seq.{split_at}
use borrow.Author.Tests.{eqb-true}
use Rattle.meaning.specs.Lists.{all, range, gather}
use Rattle.meaning.proofs.Lists.{gather_append}
use Rattle.report.proofs.Forms.{both}

module _ {A : Type 0} where
  module _ (p : A → Bool) where
    pub all_at : (xs : List A) (d : A) (k : ℕ) → k < length xs → all p xs ≡ true → p (get_or xs k d) ≡ true
    all_at [] d k l e = absurd (omega arith)
    all_at (x ∷ xs) d zero l e = (both (p x) (all p xs) e).0
    all_at (x ∷ xs) d (suc k) l e = all_at xs d k (omega arith) (both (p x) (all p xs) e).1

    pub all_take : (xs : List A) (k : ℕ) → all p xs ≡ true → all p (take k xs) ≡ true
    all_take [] zero e = refl
    all_take [] (suc k) e = refl
    all_take (x ∷ xs) zero e = refl
    all_take (x ∷ xs) (suc k) e =
        let s = both (p x) (all p xs) e in
        rw s.0 (all_take xs k s.1)

    pub all_map : (xs : List A) → all p xs ≡ all (λ (b : Bool). b) (map p xs)
    all_map [] = refl
    all_map (x ∷ xs) = ap (λ (b : Bool). p x && b) (all_map xs)

  -- a function of the numbers of a range that goes by the elements with those numbers
  pub map_range : {B : Type 0} (h : ℕ → B) (g : A → B) (d : A) (xs : List A) (first : ℕ)
      → ((k : ℕ) → k < length xs → h (first + k) ≡ g (get_or xs k d)) → map h (range first (length xs)) ≡ map g xs
  map_range h g d [] first e = refl
  map_range h g d (x ∷ xs) first e =
      let z : first + 0 ≡ first = omega arith in
      ap₂ ◌∷◌ (rw z at (e 0 (omega arith)))
      (map_range h g d xs (suc first) (λ k l.
      let s : first + suc k ≡ suc first + k = omega arith in
      rw s at (e (suc k) (omega arith))))

module _ {A B : Type 0} (f : A → List B) where
  -- what one element gives, between what the others give
  pub gather_split : (xs : List A) (d : A) (k : ℕ) → k < length xs
      → gather f xs ≡ gather f (take k xs) ++ (f (get_or xs k d) ++ gather f (drop (suc k) xs))
  gather_split xs d k l = ap (gather f) (split_at xs k d l) ∙ gather_append f (take k xs) (get_or xs k d ∷ drop (suc k) xs)

-- lists of one length, end to end
pub equal_lengths : (n : ℕ) (rows : List (List ℕ)) → all (λ (r : List ℕ). eqb (length r) n) rows ≡ true
    → length (gather (λ (r : List ℕ). r) rows) ≡ n * length rows
equal_lengths n [] e = sym (mul-zero n)
equal_lengths n (r ∷ rows) e =
    let s = both (eqb (length r) n) (all (λ (q : List ℕ). eqb (length q) n) rows) e in
    omega (arith, length-append r (gather (λ (q : List ℕ). q) rows), eqb-true (length r) n s.0, equal_lengths n rows s.1, mul-suc n (length rows))
