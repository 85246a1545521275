-- What is printed for a report that a taking leaves: the points that the keeper reports, and their rows.
use Prim.Native.Nat.{ℕ, suc, ◌+◌, ◌<◌}
use native.Mathlib.Omega.{arith}
use mathlib.Core.Path.{◌≡◌, refl, ap₂}
use mathlib.Core.Bool.{true}
use mathlib.Core.List.{List, [], ◌∷◌, ◌++◌}
use lib.ListN.{length, get_or}
use Rattle.meaning.specs.Lists.{range, gather}
use Rattle.meaning.specs.Log.{log_of}
use Rattle.meaning.specs.Outcome.{refused, given, cut}
use Rattle.meaning.specs.RuleFile.{Accepted, checking, pattern}
use Rattle.meaning.specs.Report.{Reported, report_words, points_in, in_form}
use Rattle.meaning.specs.Keeper.{Taking, reported, report, grown, answer, answered, keeper_log}
use Rattle.report.specs.Reports.{ReadsBack, nothing}
use Rattle.report.proofs.Written.{written_in_form, written_reads_back}
use Rattle.lines.specs.Answers.{reported_text, entry_in, report_text}

-- what the numbers of a range give, where each gives what the entry of that number does
gather_range : (h : ℕ → List ℕ) (g : Reported → List ℕ) (es : List Reported) (first : ℕ) → ((k : ℕ) → k < length es → h (first + k) ≡ g (get_or es k nothing)) → gather h (range first (length es)) ≡ gather g es
gather_range h g [] first e = refl
gather_range h g (x ∷ es) first e =
    let z : first + 0 ≡ first = omega arith in
    ap₂ ◌++◌ (rw z at (e 0 (omega arith)))
    (gather_range h g es (suc first) (λ k l.
    let s : first + suc k ≡ suc first + k = omega arith in
    rw s at (e (suc k) (omega arith))))

read_text : (r : List ℕ) (es : List Reported) → in_form r ≡ true → points_in r ≡ length es → ((k : ℕ) → k < length es → ReadsBack r k (get_or es k nothing)) → report_text r ≡ gather reported_text es
unfolding report_text
read_text r es form n reads = rw (form, n) (gather_range (λ k. reported_text (entry_in r k)) reported_text es 0 (λ k l.
    let z : 0 + k ≡ k = omega arith in
    let e = reads k l in
    rw (z, e.point_is, e.time_is, e.rows_are)))

-- For every accepted rule, every list of takings and one more that is taken: "each point settled for the last node now and not before", one after the other.
module _ (b : List ℕ) (a : Accepted) (ok : checking b ≡ given a) (ts : List Taking) (t : Taking) (n : ℕ) (taken : answer b (keeper_log b [] ts) t ≡ given n) where
  abbrev entries_now : List Reported
  entries_now = reported (log_of (keeper_log b [] ts)) (log_of (grown b (keeper_log b [] ts) t.fed)) (pattern b)

  points_are : points_in (answered b (keeper_log b [] ts) t).buffer ≡ length entries_now
  unfolding answered report report_words
  points_are = rw taken

  pub written_text : report_text (answered b (keeper_log b [] ts) t).buffer ≡ gather reported_text entries_now
  written_text = read_text _ entries_now (written_in_form b a ok ts t n taken) points_are (written_reads_back b a ok ts t n taken)

-- a rule of no bytes, for one that is cut short or too long, is refused by 1 with place 0
pub no_bytes : checking [] ≡ refused cut 0
unfolding checking
no_bytes = refl
