-- The counts of a report's first entries, added one by one, and where the rows of an entry lie when the counts add to the total.
use Prim.Native.Nat.{ℕ, zero, suc, ◌+◌, ◌-◌, ◌*◌, ◌≤◌, ◌<◌}
use native.Mathlib.Nat.{mul-add, mul-le-mul, mul-le-mul_left, le_antisymm}
use native.Mathlib.Numerals.{add-one}
use native.Mathlib.Omega.{arith}
use mathlib.Core.Bool.{Bool, true, ◌&&◌}
use mathlib.Core.List.{List, map}
use mathlib.Core.Path.{◌≡◌, refl, ap, ◌∙◌, subst}
use lib.ListN.{length}
use Rattle.meaning.specs.Lists.{all, range, total}
use Rattle.meaning.specs.Report.{points_in, free_in, total_in, count_in, rows_before}
use Rattle.report.specs.Form.{Summed, Sum}

-- ---- sums over a range

total_next : (f : ℕ → ℕ) (first n : ℕ) → total (map f (range first (suc n))) ≡ total (map f (range first n)) + f (first + n)
total_next f first zero =
    let e : first + 0 ≡ first = omega arith in
    rw e (omega arith)
total_next f first (suc n) =
    let e : suc first + n ≡ first + suc n = omega arith in
    let s = total_next f (suc first) n in
    let t = ap f e in
    omega arith

pub before_next : (r : List ℕ) (k : ℕ) → rows_before r (k + 1) ≡ rows_before r k + count_in r k
unfolding rows_before
before_next r k = rw (add-one k) (total_next (count_in r) 0 k ∙ ap (λ (i : ℕ). total (map (count_in r) (range 0 k)) + count_in r i) (omega arith))

-- more entries have no fewer rows
before_add : (r : List ℕ) (k d : ℕ) → rows_before r k ≤ rows_before r (k + d)
before_add r k zero =
    let e : k + 0 ≡ k = omega arith in
    rw e (omega arith)
before_add r k (suc d) =
    let e : k + suc d ≡ k + d + 1 = omega arith in
    rw e (omega (arith, before_add r k d, before_next r (k + d)))

before-within : (r : List ℕ) (k n : ℕ) → k < n → rows_before r k + count_in r k ≤ rows_before r n
before-within r k n h =
    let e : n ≡ k + 1 + (n - (k + 1)) = omega arith in
    rw e (omega (arith, before_add r (k + 1) (n - (k + 1)), before_next r k))

-- ---- the loop that adds

pub sum_none : (r : List ℕ) → Sum r 0 0
unfolding rows_before
sum_none r = record { is = refl; bound = omega arith }

pub sum_more : {r : List ℕ} {k s n : ℕ} → Sum r k s → n ≡ count_in r k → n < 4294967296 → Sum r (k + 1) (s + n)
sum_more {r} {k} {s} {n} h e l = record { is = omega (arith, h.is, before_next r k); bound = omega (arith, h.bound) }

pub sum_all : {r : List ℕ} {j k s : ℕ} → Sum r j s → j ≤ k → k ≤ j → Sum r k s
sum_all {r} {j} {k} {s} h l m = subst (λ (n : ℕ). Sum r n s) (le_antisymm l m) h

-- F words for each of the rows of 33 entries: the product stays far below 2 to the 64
pub small_product : (f t : ℕ) → f ≤ 4 → t ≤ 141733920735 → f * t ≤ 566935682940
small_product f t h l = mul-le-mul h l

-- ---- where the rows of an entry lie

module _ {r : List ℕ} (h : Summed r) (k : ℕ) (l : k < points_in r) where
  pub rows_room : 3 + 3 * points_in r + free_in r * rows_before r k + free_in r * count_in r k ≤ length r
  rows_room =
      let a = mul-add (free_in r) (rows_before r k) (count_in r k) in
      let b : rows_before r k + count_in r k ≤ total_in r = omega (arith, before-within r k (points_in r) l, h.sum) in
      omega (arith, h.sized.words, mul-le-mul_left (free_in r) b)

  pub next_rows : 3 + 3 * points_in r + free_in r * rows_before r k + free_in r * count_in r k ≡ 3 + 3 * points_in r + free_in r * rows_before r (k + 1)
  next_rows = rw (before_next r k) (omega (arith, mul-add (free_in r) (rows_before r k) (count_in r k)))

-- ---- a test of each number of a range, taken from the front

module _ (p : ℕ → Bool) where
  pub all_next : (k n : ℕ) → k < n → all p (range k (n - k)) ≡ (p k && all p (range (k + 1) (n - (k + 1))))
  all_next k n h =
      let e : n - k ≡ suc (n - (k + 1)) = omega arith in
      rw (e, add-one k)

  pub all_none : (k n : ℕ) → n ≤ k → all p (range k (n - k)) ≡ true
  all_none k n h =
      let e : n - k ≡ 0 = omega arith in
      rw e
