-- The columns of a row one by one, the test of a row, and the rows one by one.
use Prim.Native.Nat.{ℕ, zero, suc, ◌+◌, ◌-◌, ◌*◌, ◌≤◌, ◌<◌}
use mathlib.Core.Path.{◌≡◌, refl}
use mathlib.Core.Bool.{true, false}
use mathlib.Core.List.{List, [], ◌∷◌}
use native.Mathlib.Numerals.{add-one}
use native.Mathlib.Omega.{arith}
use lib.ListN.{take, drop}
use lib.Dec.{eqb}
use borrow.Author.Tests.{lt-ltb, le-ltb, ne_eqb}
use Rattle.meaning.specs.Lists.{all, range}
use Rattle.meaning.specs.RuleFile.{relation_count, arity}
use Rattle.meaning.specs.Event.{row_count, relation_of, row_fits}
use Rattle.std.specs.Prelude.{Ok, Err}
use Rattle.std.specs.List.{list_all}
use Rattle.events.specs.Answers.{rows_of}

-- the test of a column, as code has it
zeros : (s : List ℕ) → list_all (λ x. eqb x 0) s ≡ all (eqb 0) s
zeros [] = refl
zeros (zero ∷ s) = zeros s
zeros (suc x ∷ s) = rw (ne_eqb (suc x) 0 (λ e. omega arith), ne_eqb 0 (suc x) (λ e. omega arith))

module _ (b w : List ℕ) (k : ℕ) where
  -- a relation that isn't the rule's
  pub fits_not : relation_count b ≤ relation_of w k → row_fits b w k ≡ false
  unfolding row_fits
  fits_not h = rw (le-ltb (relation_of w k) (relation_count b) h)

  -- the part of the words that holds the row's columns, as code cuts it out
  pub fits_columns : {m : ℕ} → m ≡ row_count w → relation_of w k < relation_count b → row_fits b w k ≡ list_all (λ x. eqb x 0) (drop (arity b (relation_of w k)) (take ((2 + m + 4 * k) + 4 - (2 + m + 4 * k)) (drop (2 + m + 4 * k) w)))
  unfolding row_fits
  fits_columns {m} e h =
      let four : (2 + m + 4 * k) + 4 - (2 + m + 4 * k) ≡ 4 = omega arith in
      rw (four, e, lt-ltb (relation_of w k) (relation_count b) h, zeros)

pub rows_start : (b w : List ℕ) (m : ℕ) → rows_of b w (range 0 m) ≡ rows_of b w (range 0 (m - 0))
rows_start b w m =
    let s : m - 0 ≡ m = omega arith in
    rw s

module _ (b w : List ℕ) (m k : ℕ) where
  pub rows_more : k < m → row_fits b w k ≡ true → rows_of b w (range k (m - k)) ≡ rows_of b w (range (k + 1) (m - (k + 1)))
  rows_more h e =
      let s : m - k ≡ suc (m - (k + 1)) = omega arith in
      rw (s, e, add-one k)

  pub rows_out : k < m → row_fits b w k ≡ false → rows_of b w (range k (m - k)) ≡ Err k
  rows_out h e =
      let s : m - k ≡ suc (m - (k + 1)) = omega arith in
      rw (s, e)

  pub rows_end : m ≤ k → rows_of b w (range k (m - k)) ≡ Ok tt
  rows_end h =
      let s : m - k ≡ 0 = omega arith in
      rw s
