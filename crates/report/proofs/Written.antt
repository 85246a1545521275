-- What the keeper writes is a report: for every accepted rule and every list of takings, the words that a taking writes are in form, whatever words trail them, and read back to the points, times and rows reported. What holds of every well-formed state holds of those that its logs store.
use Prim.Native.Nat.{ℕ, ◌<◌}
use mathlib.Core.Bool.{true}
use mathlib.Core.List.{List, [], ◌++◌}
use mathlib.Core.Path.{◌≡◌}
use lib.ListN.{length, get_or, drop}
use Rattle.meaning.specs.Log.{Log, Taken, log_of}
use Rattle.meaning.specs.Outcome.{given}
use Rattle.meaning.specs.RuleFile.{Accepted, checking, pattern}
use Rattle.meaning.specs.Report.{Reported, in_form}
use Rattle.meaning.specs.Keeper.{Taking, reported, report, grown, answer, answered, keeper_log}
use Rattle.meaning.proofs.Takings.{Accepts, accepts, keeper_ordered}
use Rattle.method.specs.Stored.{stored_of}
use Rattle.method.specs.Step.{words_of, report_now}
use Rattle.method.proofs.Stepped.{Joins, reported_now_lem, report_now_lem}
use Rattle.method.proofs.Whole.{joins}
use Rattle.method.proofs.Reached.{Reached, reached, stored_well_formed}
use Rattle.report.specs.Reports.{ReadsBack, nothing, Reports}
use Rattle.report.proofs.Reports.{reports}

-- For every accepted rule, every list of takings and one more: where that one is answered with words written, its buffer is a report in form, and each entry reads back to the point, time and rows that are reported.
module _ (b : List ℕ) (a : Accepted) (ok : checking b ≡ given a) (ts : List Taking) (t : Taking) (n : ℕ) (taken : answer b (keeper_log b [] ts) t ≡ given n) where
  abbrev held : List Taken
  held = keeper_log b [] ts

  abbrev log_now : Log
  log_now = log_of held

  abbrev log_next : Log
  log_next = log_of (grown b held t.fed)

  abbrev entries_now : List Reported
  entries_now = reported log_now log_next (pattern b)

  abbrev buffer_now : List ℕ
  buffer_now = (answered b held t).buffer

  r : Reached b log_now
  r = reached b a ok ts

  joined : Joins b log_now (words_of t.fed) log_next
  joined = let p : Accepts b held t n = accepts b held t n taken in joins b held t.fed p.form (keeper_ordered b ts) p.later

  told : Reports (stored_of b log_now) t.fed
  told = reports (stored_of b log_now) (stored_well_formed b a ok log_now r) t.fed

  buffer_is : buffer_now ≡ report_now (stored_of b log_now) (words_of t.fed) ++ drop (length (report b log_now log_next)) t.buffer
  unfolding answered
  buffer_is = rw (taken, report_now_lem b a ok log_now r.ordered (words_of t.fed) log_next joined)

  pub written_in_form : in_form buffer_now ≡ true
  written_in_form = rw buffer_is (told.is_in_form _)

  pub written_reads_back : (k : ℕ) → k < length entries_now → ReadsBack buffer_now k (get_or entries_now k nothing)
  written_reads_back = rw (buffer_is, ← reported_now_lem b a ok log_now r.ordered (words_of t.fed) log_next joined) (told.reads_back _)
