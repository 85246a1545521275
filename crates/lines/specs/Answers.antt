-- What the programs print for an answer: of checking a rule, and of taking an event.
use Rattle.std.specs.Prelude.{ℕ, ◌+◌, ◌*◌, cond, List, [], ◌++◌, length, get_or}
use Rattle.meaning.specs.Lists.{range, gather}
use Rattle.meaning.specs.Outcome.{Outcome, refused, given}
use Rattle.meaning.specs.RuleFile.{Accepted}
use Rattle.meaning.specs.Report.{Reported, points_in, point_in, rows_in, in_form}
use Rattle.lines.specs.Text.{accepted_line, refused_line, point_line, row_line}

-- "An accepted one prints `rule ok reach` and its reach"; "Any other refused rule prints its number and place"
abbrev pub checked_text : Outcome Accepted → List ℕ
checked_text (refused number place) = refused_line number place
checked_text (given a) = accepted_line a.reach

-- "Each reported point prints .. its row count, and below it its rows"
abbrev pub reported_text : Reported → List ℕ
reported_text e = point_line e.at e.time (length e.rows) ++ gather row_line e.rows

-- entry k of a report, read off its words
abbrev pub entry_in : List ℕ → ℕ → Reported
entry_in r k = record { at = record { 0 = point_in r k }; time = record { 0 = get_or r (3 + 3 * k + 1) 0 }; rows = rows_in r k }

-- the points of a report in their order; nothing where the words aren't a report, which no taking leaves (`written_text` of proofs/Written.antt)
unfoldable pub report_text : List ℕ → List ℕ
report_text r = cond (in_form r) (gather (λ k. reported_text (entry_in r k)) (range 0 (points_in r))) []

-- what a taking's answer prints, with the words of its buffer after it: its report's points, or "A later refusal prints `refused`, number, `place`, place"
abbrev pub answer_text : Outcome ℕ → List ℕ → List ℕ
answer_text (refused number place) buffer = refused_line number place
answer_text (given words) buffer = report_text buffer
