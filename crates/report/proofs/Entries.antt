-- The entries of a report whose counts add to the total, passed one by one: where the rows of the next entry lie, and what is left to test.
use Prim.Native.Nat.{ℕ, ◌+◌, ◌-◌, ◌*◌, ◌≤◌, ◌<◌}
use native.Mathlib.Nat.{mul-zero}
use native.Mathlib.Omega.{arith}
use mathlib.Core.Bool.{Bool, true, false, ◌&&◌}
use mathlib.Core.List.{List}
use mathlib.Core.Path.{◌≡◌, sym, ◌∙◌}
use lib.ListN.{length}
use Rattle.meaning.specs.Lists.{all, range}
use Rattle.meaning.specs.Order.{ascending}
use Rattle.meaning.specs.Report.{points_in, free_in, count_in, rows_before, rows_in}
use Rattle.report.specs.Form.{rows_from, Summed}
use Rattle.report.proofs.Forms.{rows_test}
use Rattle.report.proofs.Runs.{rows_run}
use Rattle.report.proofs.Sums.{rows_room, next_rows, all_next, all_none}

-- k entries are passed, and the rows of the next begin at word `at`
pub record Passed (r : List ℕ) (at k : ℕ) : Type 0 where
  pub within : k ≤ points_in r
  pub place : at ≡ 3 + 3 * points_in r + free_in r * rows_before r k
  pub same : rows_test r ≡ all (λ (j : ℕ). ascending 0 (rows_in r j)) (range k (points_in r - k))

pub passed_none : (r : List ℕ) (points : ℕ) → points ≡ points_in r → Passed r (3 + 3 * points) 0
unfolding rows_before
passed_none r points e =
    let n : points_in r - 0 ≡ points_in r = omega arith in
    record { within = omega arith; place = omega (arith, mul-zero (free_in r)); same = rw n }

pub passed_all : {r : List ℕ} {at k : ℕ} → Passed r at k → points_in r ≤ k → true ≡ rows_test r
passed_all {r} {at} {k} p h = sym (p.same ∙ all_none (λ (j : ℕ). ascending 0 (rows_in r j)) k (points_in r) h)

module _ {r : List ℕ} {at k free count : ℕ} (p : Passed r at k) (l : k < points_in r) (f : free ≡ free_in r) (n : count ≡ count_in r k) where
  pub entry_room : Summed r → at + free * count ≤ length r
  entry_room s = rw (f, n, p.place) (rows_room s k l)

  module _ {b : Bool} (e : b ≡ ascending 0 (rows_from r at free free count)) where
    entry_is : b ≡ ascending 0 (rows_in r k)
    entry_is = e ∙ rw (f, n, p.place, ← rows_run r k)

    opened : rows_test r ≡ (b && all (λ (j : ℕ). ascending 0 (rows_in r j)) (range (k + 1) (points_in r - (k + 1))))
    opened = p.same ∙ (all_next (λ (j : ℕ). ascending 0 (rows_in r j)) k (points_in r) l ∙ rw (← entry_is))

    pub passed_broken : b ≡ false → false ≡ rows_test r
    passed_broken w = sym (opened ∙ rw w)

    pub passed_more : Summed r → b ≡ true → Passed r (at + free * count) (k + 1)
    passed_more s w = record {
      within = omega arith;
      place = rw (f, n, p.place) (next_rows s k l);
      same = opened ∙ rw w;
    }
