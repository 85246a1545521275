-- What is read of entry k, by the one test that the words are a report and have that entry: its count, the run of its rows, and the rows.
use Prim.Native.Nat.{ℕ, ◌+◌, ◌-◌, ◌*◌, ◌≤◌, ◌<◌}
use native.Mathlib.Nat.{add-sub_cancel_left}
use native.Mathlib.Omega.{arith}
use mathlib.Core.Bool.{Bool, true, false, ◌&&◌}
use mathlib.Core.List.{List}
use mathlib.Core.Path.{◌≡◌, refl}
use lib.Dec.{ltb}
use lib.ListN.{length, take, drop}
use borrow.Author.Tests.{ltb-true}
use Rattle.meaning.specs.Outcome.{given, refused, not_a_report}
use Rattle.meaning.specs.Report.{points_in, free_in, count_in, rows_before, in_form, read_rows, read_count}
use Rattle.report.specs.Answer.{part_of}
use Rattle.report.specs.Form.{Summed}
use Rattle.report.specs.declared.Part.{Part}
use Rattle.report.proofs.Forms.{both, summed_of}
use Rattle.report.proofs.Sums.{rows_room}

-- the words are a report that has entry k
abbrev pub entry_test : List ℕ → ℕ → Bool
entry_test r k = in_form r && ltb k (points_in r)

module _ (r : List ℕ) (k : ℕ) where
  pub entry_of : entry_test r k ≡ true → Summed r × (k < points_in r)
  entry_of e =
      let s = both (in_form r) (ltb k (points_in r)) e in
      (summed_of r s.0, ltb-true _ _ s.1)

  pub count_given : entry_test r k ≡ true → given (count_in r k) ≡ read_count r k
  unfolding read_count
  count_given e = rw e

  pub count_refused : entry_test r k ≡ false → refused not_a_report 0 ≡ read_count r k
  unfolding read_count
  count_refused e = rw e

  pub part_given : (start free count : ℕ) → start ≡ 3 + 3 * points_in r + free_in r * rows_before r k → free ≡ free_in r → count ≡ count_in r k
      → entry_test r k ≡ true → ◌≡◌ {A = Part} (record { start = start; len = free * count }) (part_of r k)
  unfolding part_of
  part_given start free count es ef ec e = rw (es, ef, ec, e)

  pub part_refused : entry_test r k ≡ false → ◌≡◌ {A = Part} (record { start = 0; len = 0 }) (part_of r k)
  unfolding part_of
  part_refused e = rw e

  pub part_room : (part_of r k).start + (part_of r k).len ≤ length r
  unfolding part_of
  part_room = go (entry_test r k) refl
    where
      go : (t : Bool) → entry_test r k ≡ t → (part_of r k).start + (part_of r k).len ≤ length r
      go true e =
          let f = entry_of e in
          rw e (rows_room f.0 k f.1)
      go false e = rw e (omega arith)

  -- the run's words are the rows
  pub part_read : take ((part_of r k).start + (part_of r k).len - (part_of r k).start) (drop (part_of r k).start r) ≡ read_rows r k
  unfolding part_of read_rows
  part_read = rw (add-sub_cancel_left (part_of r k).start (part_of r k).len) (go (entry_test r k) refl)
    where
      go : (t : Bool) → entry_test r k ≡ t → take (part_of r k).len (drop (part_of r k).start r) ≡ read_rows r k
      go true e = rw e
      go false e = rw e
