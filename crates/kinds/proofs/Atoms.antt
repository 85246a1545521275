-- An atom's terms and a row's columns: the first of four, as many as the arity says, tested one by one; four words of an event;
-- and an atom reads an event's rows as the log has them.
use Prim.Native.Nat.{ℕ, zero, suc, ◌+◌, ◌≤◌, ◌<◌}
use mathlib.Core.Path.{◌≡◌, refl, sym, ap, ap₂, ◌∙◌}
use mathlib.Core.Bool.{Bool, true, false, cond, ◌&&◌}
use mathlib.Core.List.{List, [], ◌∷◌, ◌++◌, map}
use native.Mathlib.Omega.{arith}
use lib.ListN.{get_or, take}
use lib.Seq.{take-nil}
use lib.Dec.{ltb, eqb}
use borrow.Author.Tests.{lt-ltb, ltb-true, ltb-false, eq-eqb, eqb-true}
use Rattle.meaning.specs.Lists.{range, select, same_row}
use Rattle.meaning.specs.Log.{Row, relation_in}
use Rattle.meaning.specs.Formula.{is_variable, variables}
use Rattle.meaning.specs.Event.{row_count, relation_of, columns_of, row_of}
use Rattle.meaning.specs.RuleFile.{arity}
use Rattle.meaning.specs.Evaluator.{bound, matches, atom_rows}
use Rattle.meaning.specs.declared.Term.{Term}
use Rattle.meaning.specs.declared.Terms.{Terms}
use Rattle.meaning.proofs.Points.{Tested, passed, failed, tested}
use Rattle.rowset.specs.Rows.{words_of}
use Rattle.rowset.specs.declared.Row.{Row as Words}
use Rattle.meaning.proofs.Order.{apart}
use Rattle.rowset.proofs.Growing.{map_select_one}
use Rattle.kinds.specs.Kinds.{row_with, rows_with}

abbrev pub all_terms : Terms → List Term
all_terms ts = ts.first ∷ ts.second ∷ ts.third ∷ ts.fourth ∷ []

-- the term and the column at place k, the fourth for every place after it
abbrev pub term_at : Terms → ℕ → Term
term_at ts k = get_or (ts.first ∷ ts.second ∷ ts.third ∷ []) k ts.fourth

abbrev pub column_at : Words → ℕ → ℕ
column_at c k = get_or (c.v0 ∷ c.v1 ∷ c.v2 ∷ []) k c.v3

-- the value of a variable, column by column
pub bound-four : (ts : Terms) (c : Words) (n x : ℕ)
    → bound (take n (all_terms ts)) (take n (words_of c)) x
    ≡ cond (ltb 0 n && is_variable x ts.first) c.v0 (cond (ltb 1 n && is_variable x ts.second) c.v1 (cond (ltb 2 n && is_variable x ts.third) c.v2 (cond (ltb 3 n && is_variable x ts.fourth) c.v3 0)))
bound-four ts c zero x = refl
bound-four ts c (suc zero) x = refl
bound-four ts c (suc (suc zero)) x = refl
bound-four ts c (suc (suc (suc zero))) x = refl
bound-four ts c (suc (suc (suc (suc n)))) x =
    let m : ℕ = suc (suc (suc (suc n))) in
    rw (lt-ltb 0 m (omega arith), lt-ltb 1 m (omega arith), lt-ltb 2 m (omega arith), lt-ltb 3 m (omega arith), take-nil {A = Term} n)

-- where the terms' values are the columns, they are so at each place
module _ (ts : Terms) (c : Words) (v : Term → ℕ) where
  equal_at : (n k : ℕ) → k < n → map v (take n (all_terms ts)) ≡ take n (words_of c) → v (term_at ts k) ≡ column_at c k
  equal_at zero k l e = absurd (omega (arith, l))
  equal_at (suc n) zero l e = ap (λ (us : List ℕ). get_or us 0 0) e
  equal_at (suc zero) (suc k) l e = absurd (omega (arith, l))
  equal_at (suc (suc n)) (suc zero) l e = ap (λ (us : List ℕ). get_or us 1 0) e
  equal_at (suc (suc zero)) (suc (suc k)) l e = absurd (omega (arith, l))
  equal_at (suc (suc (suc n))) (suc (suc zero)) l e = ap (λ (us : List ℕ). get_or us 2 0) e
  equal_at (suc (suc (suc zero))) (suc (suc (suc k))) l e = absurd (omega (arith, l))
  equal_at (suc (suc (suc (suc n)))) (suc (suc (suc k))) l e = ap (λ (us : List ℕ). get_or us 3 0) e

-- the columns before place k are their terms' values
pub record Matching (ts : Terms) (c : Words) (v : Term → ℕ) (k : ℕ) : Type 0 where
  pub equal : (j : ℕ) → j < k → v (term_at ts j) ≡ column_at c j

module _ {ts : Terms} {c : Words} {v : Term → ℕ} where
  pub matching_none : Matching ts c v 0
  matching_none = record { equal = λ j l. absurd (omega (arith, l)) }

  pub matching_more : {k : ℕ} → Matching ts c v k → v (term_at ts k) ≡ column_at c k → Matching ts c v (k + 1)
  matching_more {k} h e = record { equal = λ j l. go j l (tested (ltb j k)) }
    where
      go : (j : ℕ) → j < k + 1 → Tested (ltb j k) → v (term_at ts j) ≡ column_at c j
      go j l (passed p) = h.equal j (ltb-true j k p)
      go j l (failed p) =
          let o : k ≤ j = ltb-false j k p in
          let q : j ≡ k = omega arith in
          rw q e

  pub matching_all : {k : ℕ} (n : ℕ) → Matching ts c v k → n ≤ k → same_row (map v (take n (all_terms ts))) (take n (words_of c)) ≡ true
  matching_all zero h l = refl
  matching_all (suc zero) h l = rw (eq-eqb _ _ (h.equal 0 (omega arith)))
  matching_all (suc (suc zero)) h l = rw (eq-eqb _ _ (h.equal 0 (omega arith)), eq-eqb _ _ (h.equal 1 (omega arith)))
  matching_all (suc (suc (suc zero))) h l = rw (eq-eqb _ _ (h.equal 0 (omega arith)), eq-eqb _ _ (h.equal 1 (omega arith)), eq-eqb _ _ (h.equal 2 (omega arith)))
  matching_all (suc (suc (suc (suc n)))) h l =
      rw (eq-eqb _ _ (h.equal 0 (omega arith)), eq-eqb _ _ (h.equal 1 (omega arith)), eq-eqb _ _ (h.equal 2 (omega arith)), eq-eqb _ _ (h.equal 3 (omega arith)), take-nil {A = Term} n, take-nil {A = ℕ} n)

  pub matching_ends : {n k : ℕ} → Matching ts c v k → k < n → (v (term_at ts k) ≡ column_at c k → ⊥) → same_row (map v (take n (all_terms ts))) (take n (words_of c)) ≡ false
  matching_ends {n} {k} h l d = apart _ _ (λ e. d (equal_at ts c v n k l e))

-- one row more: where it is of the relation and matches, it is put in as the values of its variables
pub atom_more : (r : ℕ) (ts : List Term) (row : Row) (rows : List Row)
    → atom_rows ts (relation_in r (row ∷ rows)) ≡ cond (eqb row.relation r && matches ts row.values) (map (bound ts row.values) variables ∷ []) [] ++ atom_rows ts (relation_in r rows)
atom_more r ts row rows = go (eqb row.relation r) (matches ts row.values)
  where
    gives : List ℕ → List ℕ
    gives columns = map (bound ts columns) variables

    go : (t u : Bool)
        → map gives (select (matches ts) (map (λ row. row.values) (cond t (row ∷ select (λ row. eqb row.relation r) rows) (select (λ row. eqb row.relation r) rows))))
        ≡ cond (t && matches ts row.values) (gives row.values ∷ []) [] ++ atom_rows ts (relation_in r rows)
    go true u = map_select_one (matches ts) gives row.values (relation_in r rows)
    go false u = refl

-- rows of other relations don't count, so their arity doesn't either
module _ (r : ℕ) (f g : ℕ → Row) (same : (k : ℕ) → (f k).relation ≡ (g k).relation) (equal : (k : ℕ) → (f k).relation ≡ r → f k ≡ g k) where
  relation_agrees : (ks : List ℕ) → relation_in r (map f ks) ≡ relation_in r (map g ks)
  relation_agrees [] = refl
  relation_agrees (k ∷ ks) = go (relation_agrees ks) (tested (eqb (f k).relation r))
    where
      go : relation_in r (map f ks) ≡ relation_in r (map g ks) → Tested (eqb (f k).relation r) → relation_in r (map f (k ∷ ks)) ≡ relation_in r (map g (k ∷ ks))
      go rest (passed e) = rw (e, ap (λ x. eqb x r) (sym (same k)) ∙ e) (ap₂ (λ (row : Row) rows. row.values ∷ rows) (equal k (eqb-true (f k).relation r e)) rest)
      go rest (failed e) = rw (e, ap (λ x. eqb x r) (sym (same k)) ∙ e) rest

pub atom_reads : (b w : List ℕ) (r n : ℕ) → arity b r ≡ n → relation_in r (rows_with n w) ≡ relation_in r (map (row_of b w) (range 0 (row_count w)))
atom_reads b w r n e =
    relation_agrees r (row_with n w) (row_of b w) (λ k. refl)
    (λ k h. ap (λ a. record { relation = relation_of w k; values = take a (columns_of w k) }) (sym e ∙ ap (arity b) (sym h)))
    (range 0 (row_count w))
