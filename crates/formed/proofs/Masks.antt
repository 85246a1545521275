-- Rows and pairs tested with the mask of a node's free variables are tested as the node's.
use Prim.Native.Nat.{ℕ, zero, suc, ◌+◌, ◌*◌, ◌/◌, ◌%◌, ◌<◌}
use native.Mathlib.Omega.{arith}
use mathlib.Core.Path.{◌≡◌, refl, sym, ap, ap₂, fun_ext, ◌∙◌}
use mathlib.Core.Bool.{Bool, cond, ◌&&◌, and-true}
use mathlib.Core.List.{List}
use lib.ListN.{length, drop, get_or}
use lib.Dec.{leb, eqb}
use borrow.Author.Tests.{le-leb, lt-leb, eq-eqb, ne_eqb}
use Rattle.meaning.specs.Lists.{all, same_row}
use Rattle.meaning.specs.Outcome.{most_rows}
use Rattle.meaning.specs.Order.{ascending}
use Rattle.meaning.specs.Formula.{free, lowest_of}
use Rattle.meaning.specs.RuleFile.{mask_of, formula_at}
use Rattle.meaning.specs.declared.Window.{Window}
use Rattle.meaning.proofs.Rows.{words_same}
use Rattle.meaning.proofs.OrderLaws.{lowest_same}
use Rattle.method.specs.WellFormed.{row_of_node, set_fits, pair_fits}
use Rattle.rulefree.proofs.Free.{bits}
use Rattle.rowset.specs.Rows.{row_at}
use Rattle.kinds.specs.Kinds.{in_mask}
use Rattle.formed.specs.Tests.{MaskOf, row_cut, rows_fit, age_fits, aged_fit, most_of, row_under}

-- the mask of a set of variables has these
pub mask_has : (f : ℕ → Bool) (v : ℕ) → v < 4 → in_mask (mask_of f) v ≡ f v
mask_has f zero l = (bits (f 0) (f 1) (f 2) (f 3)).0
mask_has f (suc zero) l = (bits (f 0) (f 1) (f 2) (f 3)).1
mask_has f (suc (suc zero)) l = (bits (f 0) (f 1) (f 2) (f 3)).2
mask_has f (suc (suc (suc zero))) l = (bits (f 0) (f 1) (f 2) (f 3)).3
mask_has f (suc (suc (suc (suc v)))) l = absurd (omega arith)

-- a word is as a bit leaves it where it is at most the largest such word
word_cut : (b x : ℕ) → b < 2 → x < 4294967296 → eqb x (cond (eqb b 1) x 0) ≡ leb x (b * 4294967295)
word_cut zero zero l m = refl
word_cut zero (suc x) l m = ne_eqb (suc x) 0 (λ e. omega arith) ∙ sym (lt-leb (suc x) 0 (omega arith))
word_cut (suc zero) x l m = eq-eqb x x refl ∙ sym (le-leb x 4294967295 (omega arith))
word_cut (suc (suc b)) x l m = absurd (omega arith)

-- a row is cut down to a mask where no word is above the largest that its bit leaves
pub row_under_lem : (mask : ℕ) (vs : List ℕ) → ((i : ℕ) → get_or vs i 0 < 4294967296) → (k : ℕ) → row_under (most_of mask) (row_at vs k) ≡ row_cut mask (row_at vs k)
row_under_lem mask vs l k =
    sym
    (ap₂ ◌&&◌ (word_cut (mask / 1 % 2) (get_or vs (k * 4) 0) (omega arith) (l (k * 4)))
    (ap₂ ◌&&◌ (word_cut (mask / 2 % 2) (get_or vs (k * 4 + 1) 0) (omega arith) (l (k * 4 + 1)))
    (ap₂ ◌&&◌ (word_cut (mask / 4 % 2) (get_or vs (k * 4 + 2) 0) (omega arith) (l (k * 4 + 2)))
    (and-true (eqb (get_or vs (k * 4 + 3) 0) (cond (in_mask mask 3) (get_or vs (k * 4 + 3) 0) 0)) ∙ word_cut (mask / 8 % 2) (get_or vs (k * 4 + 3) 0) (omega arith) (l (k * 4 + 3))))))

module _ {b : List ℕ} {x mask : ℕ} (m : MaskOf b x mask) where
  row_same : (u : List ℕ) → row_cut mask u ≡ row_of_node b x u
  row_same u = ap (same_row u) (words_same (λ v l. ap (λ t. cond t (get_or u v 0) 0) (m.each v l)))

  -- the lowest free variable of the node
  lowest_is : lowest_of (in_mask mask) ≡ lowest_of (free (formula_at b x))
  lowest_is = lowest_same (in_mask mask) (free (formula_at b x)) m.each

  pub rows_same : (rows : List (List ℕ)) → rows_fit mask rows ≡ set_fits b x rows
  rows_same rows = ap₂ (λ k p. leb (length rows) most_rows && ascending k rows && all p rows) lowest_is (fun_ext row_same)

  pub aged_same : (w : Window) (pairs : List (List ℕ)) → aged_fit mask w pairs ≡ (ascending (suc (lowest_of (free (formula_at b x)))) pairs && all (pair_fits b x w) pairs)
  aged_same w pairs = ap₂ (λ k p. ascending (suc k) pairs && all p pairs) lowest_is (fun_ext (λ p. ap (λ t. age_fits w (get_or p 0 0) && t) (row_same (drop 1 p))))
