-- What a call on a well-formed state reports, whether or not a log reaches the state.
use Rattle.std.specs.Prelude.{ℕ, ◌+◌, ◌*◌, ◌≤◌, ◌<◌, ◌≡◌, true, false, List, [], ◌++◌, length, get_or}
use Rattle.meaning.specs.Lists.{gather}
use Rattle.meaning.specs.Outcome.{refused, given, buffer_short, most_reported}
use Rattle.meaning.specs.Log.{point, stamp}
use Rattle.meaning.specs.RuleFile.{last_node}
use Rattle.meaning.specs.Report.{Reported, points_in, point_in, count_in, rows_in, in_form, read_count, read_rows}
use Rattle.method.specs.Stored.{Stored}
use Rattle.meaning.specs.Keeper.{Fed}
use Rattle.method.specs.Step.{words_of, crowded_now, reported_now, report_now, answer_now}

-- "The report buffer has 4,326 words, so 16 is never printed": 3 words, and 33 points of 3 words and 32 rows of 4
abbrev pub longest_report : ℕ
longest_report = 4326

-- entry k of the words r is the reported point e
pub record ReadsBack (r : List ℕ) (k : ℕ) (e : Reported) : Type 0 where
  pub point_is : point_in r k ≡ e.at.0
  pub time_is : get_or r (3 + 3 * k + 1) 0 ≡ e.time.0
  pub count_is : count_in r k ≡ length e.rows
  pub rows_are : rows_in r k ≡ e.rows
  pub count_read : read_count r k ≡ given (length e.rows)
  pub rows_read : read_rows r k ≡ gather (λ (row : List ℕ). row) e.rows

-- stands for an entry past the last
abbrev pub nothing : Reported
nothing = record { at = point 0; time = stamp 0; rows = [] }

-- The report of a call with what is fed, an event's words or a notice's time, for any of them.
pub record Reports (s : Stored) (f : Fed) : Type 0 where
  -- "P points (0 to 33)"
  pub few_points : points_in (report_now s (words_of f)) ≤ most_reported
  -- "trailing words are ignored": in form, and read back, whatever words follow
  pub is_in_form : (rest : List ℕ) → in_form (report_now s (words_of f) ++ rest) ≡ true
  pub reads_back : (rest : List ℕ) (k : ℕ) → k < length (reported_now s (words_of f)) → ReadsBack (report_now s (words_of f) ++ rest) k (get_or (reported_now s (words_of f)) k nothing)
  -- where 13 doesn't apply to the last node
  pub few_words : crowded_now s (words_of f) (last_node s.rule) ≡ false → length (report_now s (words_of f)) ≤ longest_report
  -- a buffer of so many words never meets 16
  pub never_short : (room place : ℕ) → longest_report ≤ room → answer_now s f room ≡ refused buffer_short place → ⊥
