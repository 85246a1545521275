-- Rows at equal distances: their ascent is found pair by pair from the front, and a report's points and the rows of its entries are such runs.
use Prim.Native.Nat.{ℕ, zero, suc, ◌+◌, ◌-◌, ◌*◌, ◌≤◌, ◌<◌}
use native.Mathlib.Nat.{mul-suc}
use native.Mathlib.Omega.{arith}
use mathlib.Core.Bool.{Bool, true, false, ◌&&◌}
use mathlib.Core.List.{List, [], ◌∷◌, map}
use mathlib.Core.Path.{◌≡◌, refl, sym, ap, ◌∙◌}
use lib.ListN.{length, take, drop}
use lib.Seq.{drop-cons}
use Rattle.meaning.specs.Lists.{range}
use Rattle.meaning.specs.Order.{before, ascending}
use Rattle.meaning.specs.Report.{points_in, free_in, point_in, count_in, rows_before, row_in, rows_in}
use Rattle.report.specs.Form.{rows_from}
use Rattle.report.proofs.Compare.{none_before}

-- ---- the loop

-- what is left to compare: `left` rows from word `at` on
pub record Rising (w : List ℕ) (start stride width count at left : ℕ) : Type 0 where
  pub room : at + stride * left ≤ length w
  pub same : ascending 0 (rows_from w start stride width count) ≡ ascending 0 (rows_from w at stride width left)

pub rising_none : (w : List ℕ) (start stride width count : ℕ) → start + stride * count ≤ length w → Rising w start stride width count start count
rising_none w start stride width count h = record { room = h; same = refl }

pair : (w : List ℕ) (stride width at left : ℕ) → 1 < left
    → ascending 0 (rows_from w at stride width left) ≡ (before 0 (take width (drop at w)) (take width (drop (at + stride) w)) && ascending 0 (rows_from w (at + stride) stride width (left - 1)))
pair w stride width at zero h = absurd (omega arith)
pair w stride width at (suc zero) h = absurd (omega arith)
pair w stride width at (suc (suc m)) h =
    let e : suc (suc m) - 1 ≡ suc m = omega arith in
    rw e

single : (w : List ℕ) (stride width at left : ℕ) → left ≤ 1 → ascending 0 (rows_from w at stride width left) ≡ true
single w stride width at zero h = refl
single w stride width at (suc zero) h = refl
single w stride width at (suc (suc m)) h = absurd (omega arith)

-- one row fewer takes up one stride less
pub one_row : (stride left : ℕ) → 0 < left → stride * left ≡ stride + stride * (left - 1)
one_row stride left h =
    let e : left ≡ suc (left - 1) = omega arith in
    ap (λ (n : ℕ). stride * n) e ∙ (mul-suc stride (left - 1) ∙ omega arith)

-- two rows lie within the words while two are left
pub two_rows : (stride width at left len : ℕ) → width ≤ stride → at + stride * left ≤ len → 1 < left → at + stride + width ≤ len
two_rows stride width at left len h room l =
    let a = one_row stride left (omega arith) in
    let b = one_row stride (left - 1) (omega arith) in
    omega arith

module _ {w : List ℕ} {start stride width count at left : ℕ} (r : Rising w start stride width count at left) where
  pub rising_all : left ≤ 1 → true ≡ ascending 0 (rows_from w start stride width count)
  rising_all h = sym (r.same ∙ single w stride width at left h)

  module _ (h : 1 < left) {b : Bool} (e : b ≡ before 0 (take width (drop at w)) (take width (drop (at + stride) w))) where
    opened : ascending 0 (rows_from w start stride width count) ≡ (b && ascending 0 (rows_from w (at + stride) stride width (left - 1)))
    opened = r.same ∙ (pair w stride width at left h ∙ rw e)

    pub rising_broken : b ≡ false → false ≡ ascending 0 (rows_from w start stride width count)
    rising_broken f = sym (opened ∙ rw f)

    pub rising_more : b ≡ true → Rising w start stride width count (at + stride) (left - 1)
    rising_more f = record {
      room = omega (arith, r.room, one_row stride left (omega arith));
      same = opened ∙ rw f;
    }

-- ---- the runs of a report

-- rows that are numbered from a first one
run_of_lem : (w : List ℕ) (start stride width first n : ℕ)
    → map (λ (q : ℕ). take width (drop (start + stride * q) w)) (range first n) ≡ rows_from w (start + stride * first) stride width n
run_of_lem w start stride width first zero = refl
run_of_lem w start stride width first (suc n) =
    let e : start + stride * suc first ≡ start + stride * first + stride = omega (arith, mul-suc stride first) in
    ap (λ (rows : List (List ℕ)). take width (drop (start + stride * first) w) ∷ rows) (run_of_lem w start stride width (suc first) n ∙ ap (λ (at : ℕ). rows_from w at stride width n) e)

pub rows_run : (r : List ℕ) (k : ℕ) → rows_in r k ≡ rows_from r (3 + 3 * points_in r + free_in r * rows_before r k) (free_in r) (free_in r) (count_in r k)
unfolding rows_in row_in
rows_run r k = run_of_lem r (3 + 3 * points_in r) (free_in r) (free_in r) (rows_before r k) (count_in r k)

points_from_lem : (r : List ℕ) (first n : ℕ) → 3 + 3 * (first + n) ≤ length r
    → map (λ (k : ℕ). point_in r k ∷ []) (range first n) ≡ map (λ (k : ℕ). take 1 (drop (3 + 3 * k) r)) (range first n)
points_from_lem r first zero h = refl
points_from_lem r first (suc n) h =
    let l : 3 + 3 * first < length r = omega arith in
    rw (drop-cons r (3 + 3 * first) 0 l) (ap (λ (rows : List (List ℕ)). (point_in r first ∷ []) ∷ rows) (points_from_lem r (suc first) n (omega arith)))

pub points_run : (r : List ℕ) (n : ℕ) → n ≡ points_in r → 3 + 3 * points_in r ≤ length r
    → ascending 0 (rows_from r 3 3 1 n) ≡ ascending 0 (map (λ (k : ℕ). point_in r k ∷ []) (range 0 (points_in r)))
points_run r n e h = rw e (sym (ap (ascending 0) (points_from_lem r 0 (points_in r) (omega arith) ∙ run_of_lem r 3 3 1 0 (points_in r))))

-- with no free variable a count above 1 is a fault of ascent, whatever the count: the first pair shows it
pub no_words : (r : List ℕ) (k : ℕ) → free_in r ≡ 0 → 1 < count_in r k → ascending 0 (rows_in r k) ≡ false
no_words r k e h = ap (ascending 0) (rows_run r k) ∙ rw e (pair r 0 0 _ (count_in r k) h ∙ rw (none_before []))
