-- What the laws of the rows' order say of two rows told apart: nothing here looks into the order itself.
use Prim.Native.Nat.{ℕ}
use mathlib.Core.Path.{◌≡◌, sym, ◌∙◌}
use mathlib.Core.Bool.{true, false, true≢false}
use mathlib.Core.List.{List}
use lib.ListN.{length}
use Rattle.meaning.specs.Lists.{same_row}
use Rattle.meaning.specs.Order.{before}
use Rattle.meaning.proofs.Points.{Tested, passed, failed, tested}
use Rattle.meaning.proofs.Rows.{before_irreflexive, before_transitive, before-total, before_apart, same_row_lem}

-- rows that aren't equal aren't the same
pub apart : (x y : List ℕ) → (x ≡ y → ⊥) → same_row x y ≡ false
apart x y d = go (tested (same_row x y))
  where
    go : Tested (same_row x y) → same_row x y ≡ false
    go (passed e) = absurd (d ((same_row_lem x y).0 e))
    go (failed e) = e

module _ (lowest : ℕ) where
  pub asymmetric : (x y : List ℕ) → before lowest x y ≡ true → before lowest y x ≡ false
  asymmetric x y e = go (tested (before lowest y x))
    where
      go : Tested (before lowest y x) → before lowest y x ≡ false
      go (passed d) = absurd (true≢false (sym (before_transitive lowest x y x e d) ∙ before_irreflexive lowest x))
      go (failed d) = d

  pub total : (x y : List ℕ) → length x ≡ length y → before lowest x y ≡ false → before lowest y x ≡ false → same_row x y ≡ true
  total x y n p q = (same_row_lem x y).1 (before-total lowest x y n p q)

  -- a row that stands before another isn't the same, either way round
  pub before_other : (x y : List ℕ) → before lowest x y ≡ true → same_row x y ≡ false
  before_other x y p = apart x y (before_apart lowest x y p)

  pub after_other : (x y : List ℕ) → before lowest y x ≡ true → same_row x y ≡ false
  after_other x y p = apart x y (λ e. before_apart lowest y x p (sym e))

  -- nor does a row stand before or after the same one
  pub same_not-before : (x y : List ℕ) → same_row x y ≡ true → before lowest x y ≡ false
  same_not-before x y e = rw ((same_row_lem x y).0 e) (before_irreflexive lowest y)

  pub same_not_after : (x y : List ℕ) → same_row x y ≡ true → before lowest y x ≡ false
  same_not_after x y e = rw ((same_row_lem x y).0 e) (before_irreflexive lowest y)
