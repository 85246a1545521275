-- "The report" and "Read rows": the words of a report, and what may be read off any words.
use Rattle.std.specs.Prelude.{ℕ, ◌+◌, ◌*◌, Bool, not, cond, ◌&&◌, List, [], ◌∷◌, ◌++◌, map, length, get_or, take, drop, ltb, leb, eqb}
use Rattle.meaning.specs.Lists.{all, range, gather, total}
use Rattle.meaning.specs.Outcome.{Outcome, given, when, not_a_report, most_reported}
use Rattle.meaning.specs.Order.{ascending}
use Rattle.meaning.specs.declared.Point.{Point}
use Rattle.meaning.specs.declared.Stamp.{Stamp}

-- one reported point, with its time and its rows of F words
pub record Reported : Type 0 where
  pub at : Point
  pub time : Stamp
  pub rows : List (List ℕ)

abbrev pub triple : Reported → List ℕ
triple e = e.at.0 ∷ e.time.0 ∷ length e.rows ∷ []

abbrev pub row_words : Reported → List ℕ
row_words e = gather (λ r. r) e.rows

-- "Sizes first: P points .., F free variables of the pattern .., total rows; then two parallel arrays: P triples (point, time, row count) and the rows of F words"
unfoldable pub report_words : ℕ → List Reported → List ℕ
report_words f es = length es ∷ f ∷ total (map (λ e. length e.rows) es) ∷ (gather triple es ++ gather row_words es)

-- The same fields, read off any words.
abbrev pub points_in : List ℕ → ℕ
points_in r = get_or r 0 0

abbrev pub free_in : List ℕ → ℕ
free_in r = get_or r 1 0

abbrev pub total_in : List ℕ → ℕ
total_in r = get_or r 2 0

abbrev pub point_in : List ℕ → ℕ → ℕ
point_in r k = get_or r (3 + 3 * k) 0

abbrev pub count_in : List ℕ → ℕ → ℕ
count_in r k = get_or r (3 + 3 * k + 2) 0

-- the rows of the entries before entry k
unfoldable pub rows_before : List ℕ → ℕ → ℕ
rows_before r k = total (map (count_in r) (range 0 k))

-- row q of all the rows
unfoldable pub row_in : List ℕ → ℕ → List ℕ
row_in r q = take (free_in r) (drop (3 + 3 * points_in r + free_in r * q) r)

-- the rows of entry k
unfoldable pub rows_in : List ℕ → ℕ → List (List ℕ)
rows_in r k = map (row_in r) (range (rows_before r k) (count_in r k))

-- "For 17 a report's form is sizes in range, words enough, the total and these two ascents, and no more"; of the rows: "In a report column 0 ascends and columns 1 to 3 descend"
unfoldable pub in_form : List ℕ → Bool
in_form r =
    leb 3 (length r) && leb (points_in r) most_reported && leb (free_in r) 4
    && leb (3 + 3 * points_in r + free_in r * total_in r) (length r)
    && eqb (rows_before r (points_in r)) (total_in r)
    && ascending 0 (map (λ k. point_in r k ∷ []) (range 0 (points_in r)))
    && all (λ k. ascending 0 (rows_in r k)) (range 0 (points_in r))

-- "17: not a report by the next section, or no such entry. The row count of entry k is answered or refused"
unfoldable pub read_count : List ℕ → ℕ → Outcome ℕ
read_count r k = when (not (in_form r && ltb k (points_in r))) not_a_report 0 (given (count_in r k))

-- "the rows themselves are handed back as that run of the caller's report, of no length on 17"
unfoldable pub read_rows : List ℕ → ℕ → List ℕ
read_rows r k =
    cond (in_form r && ltb k (points_in r))
    (take (free_in r * count_in r k) (drop (3 + 3 * points_in r + free_in r * rows_before r k) r))
    []
