-- A report's entries as they are put: the rows from a word on, one entry, and the entries one by one.
use Prim.Native.Nat.{ℕ, zero, suc, ◌+◌, ◌-◌, ◌*◌, ◌≤◌, ◌<◌}
use native.Mathlib.Nat.{mul-zero}
use native.Mathlib.Omega.{arith}
use mathlib.Core.Path.{◌≡◌, refl}
use mathlib.Core.Bool.{true, false}
use mathlib.Core.List.{List, [], ◌∷◌, ◌++◌}
use lib.ListN.{length, get_or, take, drop, length-map}
use Rattle.meaning.specs.Lists.{range, gather}
use Rattle.meaning.specs.Log.{point, stamp}
use Rattle.meaning.specs.Report.{points_in, free_in, count_in, point_in, rows_before, rows_in, in_form}
use Rattle.meaning.proofs.Lists.{range_length}
use Rattle.report.specs.Form.{rows_from, Summed}
use Rattle.report.proofs.Runs.{rows_run}
use Rattle.report.proofs.Sums.{rows_room, next_rows}
use Rattle.lines.specs.Text.{point_line, row_line}
use Rattle.lines.specs.Answers.{reported_text, entry_in, report_text}

rows_first : (words : List ℕ) (at width left : ℕ) → 0 < left → rows_from words at width width left ≡ take width (drop at words) ∷ rows_from words (at + width) width width (left - 1)
rows_first words at width zero h = absurd (omega arith)
rows_first words at width (suc left) h =
    let e : suc left - 1 ≡ left = omega arith in
    rw e

module _ (words : List ℕ) (at width : ℕ) where
  pub rows_next : (left : ℕ) → 0 < left → gather row_line (rows_from words at width width left) ≡ row_line (take width (drop at words)) ++ gather row_line (rows_from words (at + width) width width (left - 1))
  rows_next left h = rw (rows_first words at width left h)

  pub rows_end : (left : ℕ) → left ≤ 0 → gather row_line (rows_from words at width width left) ≡ []
  rows_end zero h = refl
  rows_end (suc left) h = absurd (omega arith)

pub count_is : (r : List ℕ) (k : ℕ) → length (rows_in r k) ≡ count_in r k
unfolding rows_in
count_is r k = rw length-map (range_length (rows_before r k) (count_in r k))

-- what entry k prints
abbrev pub give : List ℕ → ℕ → List ℕ
give r k = reported_text (entry_in r k)

module _ (r : List ℕ) where
  pub text_whole : {points : ℕ} → in_form r ≡ true → points ≡ points_in r → gather (give r) (range 0 (points - 0)) ≡ report_text r
  unfolding report_text
  text_whole {points} form e =
      let n : points - 0 ≡ points_in r = omega arith in
      rw (n, form)

  pub text_none : in_form r ≡ false → report_text r ≡ []
  unfolding report_text
  text_none e = rw e

-- k entries are put, and the rows of the next begin at word `start`
pub record Listed (r : List ℕ) (points width start k : ℕ) : Type 0 where
  pub summed : Summed r
  pub points_are : points ≡ points_in r
  pub width_is : width ≡ free_in r
  pub triples : 3 + 3 * points ≤ length r
  pub within : k ≤ points
  pub place : start ≡ 3 + 3 * points_in r + free_in r * rows_before r k

pub listed_none : {r : List ℕ} {points width : ℕ} → Summed r → points ≡ points_in r → width ≡ free_in r → Listed r points width (3 + 3 * points) 0
unfolding rows_before
listed_none {r} s p w = record { summed = s; points_are = p; width_is = w; triples = omega (arith, s.sized.words); within = omega arith; place = omega (arith, mul-zero (free_in r)) }

module _ {r : List ℕ} {points width start k count : ℕ} (p : Listed r points width start k) (l : k < points) (n : count ≡ count_in r k) where
  -- what is put for entry k
  pub listed_text : point_line (point (point_in r k)) (stamp (get_or r (3 + 3 * k + 1) 0)) (count_in r k) ++ gather row_line (rows_from r start width width count) ≡ give r k
  listed_text = rw (p.place, p.width_is, n, ← rows_run r k, count_is r k)

  pub listed_room : start + width * count ≤ length r
  listed_room = rw (n, p.width_is, p.place) (rows_room p.summed k (rw p.points_are at l))

  pub listed_more : Listed r points width (start + width * count) (k + 1)
  listed_more = record { summed = p.summed; points_are = p.points_are; width_is = p.width_is; triples = p.triples; within = omega arith; place = rw (n, p.width_is, p.place) (next_rows p.summed k (rw p.points_are at l)) }
