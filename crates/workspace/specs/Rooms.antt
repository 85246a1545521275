-- The sizes of the rooms, in rows and in marks, and when a call fits into one.
use Rattle.std.specs.Prelude.{ℕ, ◌+◌, ◌*◌, ◌≤◌, ◌<◌, ◌≡◌, Bool, true, ◌&&◌, ◌||◌, eqb, List}
use Rattle.meaning.specs.Outcome.{most_rows, most_kept}
use Rattle.method.specs.Stored.{Stored}
use Rattle.method.specs.Room.{most_sets, most_marks, rows_needed, marks_needed}
use Rattle.workspace.specs.declared.Needs.{Needs}

abbrev pub small_rows : ℕ
small_rows = 104

abbrev pub double_rows : ℕ
double_rows = 176

abbrev pub medium_rows : ℕ
medium_rows = 224

abbrev pub usual_rows : ℕ
usual_rows = 704

abbrev pub large_rows : ℕ
large_rows = 2688

-- all kept rows and the most new sets of 32 rows each, 8,512: enough for every well-formed state
abbrev pub largest_rows : ℕ
largest_rows = most_kept + most_rows * most_sets

abbrev pub few_marks : ℕ
few_marks = 64

abbrev pub some_marks : ℕ
some_marks = 200

-- one more than any call needs, 391
abbrev pub marks : ℕ
marks = most_marks + 1

-- for how many entries that are kept a room is, but for those with room for all
abbrev pub few_kept : ℕ
few_kept = 32

abbrev pub some_kept : ℕ
some_kept = 128

abbrev pub many_kept : ℕ
many_kept = 384

-- the rooms that there are, by their rows, their marks and the entries that may be kept
abbrev pub is_room : ℕ → ℕ → ℕ → Bool
is_room rows m kept =
    eqb kept few_kept && eqb m few_marks && (eqb rows small_rows || eqb rows double_rows)
    || eqb kept some_kept && (eqb m few_marks && eqb rows small_rows || eqb m some_marks && eqb rows medium_rows)
    || eqb kept many_kept && eqb m marks && (eqb rows medium_rows || eqb rows usual_rows)
    || eqb kept most_kept && eqb m marks && (eqb rows large_rows || eqb rows largest_rows)

-- a room that there is, whose rows have so many words, and the values of its entries so many
abbrev pub IsRoom : ℕ → ℕ → ℕ → ℕ → ℕ → Type 0
IsRoom rows m kept row_words values = (is_room rows m kept ≡ true) × (row_words ≡ rows * 4) × (values ≡ kept * 4)

-- a call needs no more than so many rows, and one mark less than so many
abbrev pub CallFits : Stored → List ℕ → ℕ → ℕ → Type 0
CallFits s w rows marks = (rows_needed s w ≤ rows) × (marks_needed s w < marks)

-- what a call needs at most
abbrev pub NeedsAre : Stored → List ℕ → Needs → Type 0
NeedsAre s w n = (rows_needed s w ≤ n.rows) × (marks_needed s w ≤ n.marks)
