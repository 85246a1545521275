-- A report on few points has few words, and a refusal is no report.
use Prim.Native.Nat.{ℕ, zero, suc, ◌+◌, ◌-◌, ◌*◌, ◌^◌, ◌≤◌, ◌<◌}
use native.Mathlib.Nat.{mul-le-mul_right}
use native.Mathlib.Omega.{arith}
use mathlib.Core.Path.{◌≡◌}
use mathlib.Core.List.{List}
use lib.ListN.{length, get_or}
use Rattle.meaning.specs.Outcome.{most_rows}
use Rattle.meaning.specs.Formula.{variables}
use Rattle.meaning.proofs.Points.{select_most}
use Rattle.kinds.specs.Kinds.{in_mask}
use Rattle.writer.specs.declared.Points.{Points}
use Rattle.writer.specs.Words.{free_count, first_set, end_set, first_row, end_row, words, Reportable}
use Rattle.writer.proofs.Reports.{words_length, marked}
use Rattle.limits.specs.declared.Refusal.{Refusal}
use Rattle.limits.specs.declared.Written.{Written}
use Rattle.std.specs.Prelude.{Result, Ok, Err}

-- n sets of at most 32 rows each
run_few : (at : List ℕ) (a n : ℕ) → ((q : ℕ) → a ≤ q → q < a + n → get_or at (q + 1) 0 - get_or at q 0 ≤ most_rows) → get_or at (a + n) 0 - get_or at a 0 ≤ 32 * n
run_few at a zero h = let e : a + 0 ≡ a = omega arith in rw e (omega arith)
run_few at a (suc n) h = let e : a + suc n ≡ a + n + 1 = omega arith in rw e (omega (arith, run_few at a n (λ q u o. h q u (omega arith)), h (a + n) (omega arith) (omega arith)))

-- the report on 65 points of 32 rows of 4 values has few words
pub words_few : {rows at : List ℕ} {p : Points} → Reportable rows at p → ((q : ℕ) → first_set p ≤ q → q < end_set p → get_or at (q + 1) 0 - get_or at q 0 ≤ most_rows) → p.count ≤ 65 → (times : List ℕ) → length (words rows at times p) < 2 ^ 32
words_few {rows} {at} {p} h few_rows few_points times =
    let total = end_row at p - first_row at p in
    let few : total ≤ 32 * p.count = run_few at (first_set p) p.count few_rows in
    let four : free_count p.mask ≤ 4 = select_most (in_mask p.mask) variables in
    omega (arith, words_length rows at times p (marked h), mul-le-mul_right total four)

-- a refusal isn't a report
pub not_written : {A : Type 0} {r : Refusal} {w : Written} → ◌≡◌ {A = Result Written Refusal} (Err r) (Ok w) → A
not_written d = cc
