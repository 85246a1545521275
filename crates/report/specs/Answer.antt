-- What this crate's answers say in 01's terms: a row count or refusal 17 with place 0, and the run of words that holds an entry's rows.
use Rattle.std.specs.Prelude.{ℕ, ◌+◌, ◌*◌, cond, ◌&&◌, List, ltb}
use Rattle.meaning.specs.Outcome.{Outcome, refused, given, not_a_report}
use Rattle.meaning.specs.Report.{points_in, free_in, count_in, rows_before, in_form}
use Rattle.report.specs.declared.RowCount.{RowCount}
use Rattle.report.specs.declared.RowCount.TheVariants.{Rows, Refused}
use Rattle.report.specs.declared.Part.{Part}

abbrev pub answer_of : RowCount → Outcome ℕ
answer_of (Rows n) = given n
answer_of Refused = refused not_a_report 0

-- where `read_rows` takes the rows of entry k from; no words on 17
unfoldable pub part_of : List ℕ → ℕ → Part
part_of r k =
    cond (in_form r && ltb k (points_in r))
    (record { start = 3 + 3 * points_in r + free_in r * rows_before r k; len = free_in r * count_in r k })
    (record { start = 0; len = 0 })
