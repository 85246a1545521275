-- A report of at most 4,326 words has a text of at most 53,504 bytes.
use Prim.Native.Nat.{ℕ, zero, suc, ◌+◌, ◌*◌, ◌≤◌, ◌<◌}
use native.Mathlib.Nat.{lt_of_not-le, sub-zero, mul-add, add-mul, mul_assoc, suc-mul, mul-suc, mul-zero}
use native.Mathlib.Omega.{arith}
use mathlib.Core.Path.{◌≡◌, refl, sym, ◌∙◌}
use mathlib.Core.Bool.{Bool, true, false, true≢false}
use mathlib.Core.List.{List, [], ◌∷◌, map}
use lib.ListN.{length, drop, length-append, length-take}
use Rattle.meaning.specs.Lists.{all, range, gather, total}
use Rattle.meaning.specs.Order.{ascending}
use Rattle.meaning.specs.Report.{points_in, free_in, total_in, count_in, rows_before, row_in, rows_in, in_form}
use Rattle.meaning.proofs.Lists.{range_length}
use Rattle.report.proofs.Forms.{both, summed_of, rows_test_lem}
use Rattle.report.proofs.Runs.{no_words}
use Rattle.lines.specs.Text.{point_line, row_line}
use Rattle.lines.specs.Answers.{reported_text, entry_in, report_text}
use Rattle.lines.proofs.Lines.{point_short, row_short}
use Rattle.lines.proofs.Points.{text_whole, text_none}

-- the bytes of so many rows, of f values each; rows of no values are no more than the points
few_bytes : (f rows points words : ℕ) → (f ≡ 0 → rows ≤ points) → points ≤ 33 → 3 + 3 * points + f * rows ≤ words → words ≤ 4326 → (11 * f + 1) * rows ≤ 51876
few_bytes zero rows points words h p w l = omega (arith, h refl)
few_bytes (suc f) rows points words h p w l = omega (arith, add-mul (11 * suc f) 1 rows, mul_assoc 11 (suc f) rows, suc-mul f rows)

-- lists end to end, of at most n elements and m for each of so many parts
sums_short : (f : ℕ → List ℕ) (c : ℕ → ℕ) (n m : ℕ) → ((k : ℕ) → length (f k) ≤ n + m * c k) → (ks : List ℕ) → length (gather f ks) ≤ n * length ks + m * total (map c ks)
sums_short f c n m h [] = omega (arith, mul-zero n, mul-zero m)
sums_short f c n m h (k ∷ ks) = omega (arith, length-append (f k) (gather f ks), h k, sums_short f c n m h ks, mul-suc n (length ks), mul-add m (c k) (total (map c ks)))

module _ (r : List ℕ) where
  row_fits : (q : ℕ) → length (row_line (row_in r q)) ≤ 11 * free_in r + 1
  unfolding row_in
  row_fits q = omega (arith, row_short (row_in r q), length-take (free_in r) (drop (3 + 3 * points_in r + free_in r * q) r))

  rows_fit_lem : (qs : List ℕ) → length (gather row_line (map (row_in r) qs)) ≤ (11 * free_in r + 1) * length qs
  rows_fit_lem [] = omega (arith, mul-zero (11 * free_in r + 1))
  rows_fit_lem (q ∷ qs) = omega (arith, length-append (row_line (row_in r q)) (gather row_line (map (row_in r) qs)), row_fits q, rows_fit_lem qs, mul-suc (11 * free_in r + 1) (length qs))

  entry_fits : (k : ℕ) → length (reported_text (entry_in r k)) ≤ 49 + (11 * free_in r + 1) * count_in r k
  unfolding rows_in
  entry_fits k =
      rw (length-append (point_line (entry_in r k).at (entry_in r k).time (length (rows_in r k))) (gather row_line (rows_in r k)))
      (omega (arith, point_short (entry_in r k).at (entry_in r k).time (length (rows_in r k)), rw (range_length (rows_before r k) (count_in r k)) at (rows_fit_lem (range (rows_before r k) (count_in r k)))))

  -- with no free variable a point has at most one row
  few_rows : free_in r ≡ 0 → (ks : List ℕ) → all (λ k. ascending 0 (rows_in r k)) ks ≡ true → total (map (count_in r) ks) ≤ length ks
  few_rows e [] h = omega arith
  few_rows e (k ∷ ks) h =
      let s = both (ascending 0 (rows_in r k)) (all (λ j. ascending 0 (rows_in r j)) ks) h in
      omega (arith, one s.0, few_rows e ks s.1)
    where
      one : ascending 0 (rows_in r k) ≡ true → count_in r k ≤ 1
      one a =
          let few : count_in r k < 2 = lt_of_not-le (λ (more : 2 ≤ count_in r k). true≢false (sym a ∙ no_words r k e more)) in
          omega arith

  pub report_short : in_form r ≡ true → length r ≤ 4326 → length (report_text r) ≤ 53504
  unfolding rows_before
  report_short form long =
      let s = summed_of r form in
      let few : free_in r ≡ 0 → total_in r ≤ points_in r = λ e. rw (s.sum, range_length) at (few_rows e (range 0 (points_in r)) (rows_test_lem r form)) in
      let bytes = sums_short (λ k. reported_text (entry_in r k)) (count_in r) 49 (11 * free_in r + 1) entry_fits (range 0 (points_in r)) in
      let whole = text_whole r form refl in
      rw (← whole, sub-zero)
      (omega (arith, rw (s.sum, range_length) at bytes, few_bytes (free_in r) (total_in r) (points_in r) (length r) few s.sized.points s.sized.words long, s.sized.points))

  -- what isn't a report has no text
  pub report_fits : length r ≤ 4326 → length (report_text r) ≤ 53504
  report_fits long = by_form (in_form r) refl
    where
      by_form : (t : Bool) → in_form r ≡ t → length (report_text r) ≤ 53504
      by_form true e = report_short e long
      by_form false e = rw (text_none r e) (omega arith)
