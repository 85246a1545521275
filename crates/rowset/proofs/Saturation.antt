-- A set that takes rows up to 33: rows put in one list after another, and when it is the whole set.
use Prim.Native.Nat.{ℕ, suc, ◌≤◌, ◌<◌}
use mathlib.Core.Path.{◌≡◌, refl, sym, ap, ◌∙◌}
use mathlib.Core.Bool.{Bool, true, false, cond}
use mathlib.Core.List.{List, [], ◌∷◌, ◌++◌}
use native.Mathlib.Omega.{arith}
use lib.ListN.{length}
use lib.Dec.{ltb}
use borrow.Author.Tests.{ltb-true, ltb-false, lt-ltb, le-ltb}
use Rattle.meaning.specs.Order.{before}
use Rattle.meaning.specs.Evaluator.{insert, insert_all}
use Rattle.meaning.proofs.Points.{Tested, passed, failed, tested}
use Rattle.rowset.specs.Rows.{most_held, add_capped, add_all_capped}

-- items put into something one by one: one list after another
pub in_turn : {S A : Type 0} (all : S → List A → S) (one : S → A → S) → ((s : S) → all s [] ≡ s) → ((s : S) (x : A) (xs : List A) → all s (x ∷ xs) ≡ all (one s x) xs) → (s : S) (xs ys : List A) → all s (xs ++ ys) ≡ all (all s xs) ys
in_turn all one none more s [] ys = ap (λ t. all t ys) (sym (none s))
in_turn all one none more s (x ∷ xs) ys = more s x (xs ++ ys) ∙ in_turn all one none more (one s x) xs ys ∙ ap (λ t. all t ys) (sym (more s x xs))

module _ (lowest : ℕ) where
  -- a set with room, and a full one
  pub with_room : (set : List (List ℕ)) (r : List ℕ) → length set < most_held → add_capped lowest set r ≡ insert lowest r set
  with_room set r l = ap (λ t. cond t (insert lowest r set) set) (lt-ltb (length set) most_held l)

  pub when_full : (set : List (List ℕ)) (r : List ℕ) → most_held ≤ length set → add_capped lowest set r ≡ set
  when_full set r l = ap (λ t. cond t (insert lowest r set) set) (le-ltb (length set) most_held l)

  pub full_stays : (set rows : List (List ℕ)) → most_held ≤ length set → add_all_capped lowest set rows ≡ set
  full_stays set [] l = refl
  full_stays set (r ∷ rows) l = ap (λ s. add_all_capped lowest s rows) (when_full set r l) ∙ full_stays set rows l

  -- a row more lengthens a set by one at most, and never shortens it
  pub insert_longer : (r : List ℕ) (set : List (List ℕ)) → length set ≤ length (insert lowest r set)
  insert_longer r [] = omega arith
  insert_longer r (s ∷ set) = go (before lowest r s) (before lowest s r) (insert_longer r set)
    where
      go : (p q : Bool) → length set ≤ length (insert lowest r set) → length (s ∷ set) ≤ length (cond p (r ∷ s ∷ set) (cond q (s ∷ insert lowest r set) (s ∷ set)))
      go true q h = omega arith
      go false true h = omega arith
      go false false h = omega arith

  pub insert_by_one : (r : List ℕ) (set : List (List ℕ)) → length (insert lowest r set) ≤ suc (length set)
  insert_by_one r [] = omega arith
  insert_by_one r (s ∷ set) = go (before lowest r s) (before lowest s r) (insert_by_one r set)
    where
      go : (p q : Bool) → length (insert lowest r set) ≤ suc (length set) → length (cond p (r ∷ s ∷ set) (cond q (s ∷ insert lowest r set) (s ∷ set))) ≤ suc (length (s ∷ set))
      go true q h = omega arith
      go false true h = omega arith
      go false false h = omega arith

  pub insert_all_longer : (set rows : List (List ℕ)) → length set ≤ length (insert_all lowest set rows)
  insert_all_longer set [] = omega arith
  insert_all_longer set (r ∷ rows) =
      let h = insert_longer r set in
      let k = insert_all_longer (insert lowest r set) rows in
      omega arith

  pub exact_from : (set rows : List (List ℕ)) → length (insert_all lowest set rows) < most_held → add_all_capped lowest set rows ≡ insert_all lowest set rows
  exact_from set [] l = refl
  exact_from set (r ∷ rows) l =
      let h = insert_longer r set in
      let k = insert_all_longer (insert lowest r set) rows in
      ap (λ s. add_all_capped lowest s rows) (with_room set r (omega arith)) ∙ exact_from (insert lowest r set) rows l

  pub full_from : (set rows : List (List ℕ)) → length set ≤ most_held → most_held ≤ length (insert_all lowest set rows) → length (add_all_capped lowest set rows) ≡ most_held
  full_from set [] l m = omega arith
  full_from set (r ∷ rows) l m = go (tested (ltb (length set) most_held)) (full_from (insert lowest r set) rows)
    where
      go : Tested (ltb (length set) most_held)
          → (length (insert lowest r set) ≤ most_held → most_held ≤ length (insert_all lowest (insert lowest r set) rows) → length (add_all_capped lowest (insert lowest r set) rows) ≡ most_held)
          → length (add_all_capped lowest (add_capped lowest set r) rows) ≡ most_held
      go (passed p) rest =
          let q = ltb-true (length set) most_held p in
          let h = insert_by_one r set in
          ap (λ s. length (add_all_capped lowest s rows)) (with_room set r q) ∙ rest (omega arith) m
      go (failed p) rest =
          let q = ltb-false (length set) most_held p in
          let e : length set ≡ most_held = omega arith in
          ap length (full_stays set (r ∷ rows) q) ∙ e
