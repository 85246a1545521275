-- The parts of a report's form that the functions test one after the other, and what each part gives the functions after it.
use Rattle.std.specs.Prelude.{ℕ, zero, suc, ◌+◌, ◌*◌, ◌≤◌, ◌<◌, Bool, ◌&&◌, List, [], ◌∷◌, ◌≡◌, leb, length, get_or, take, drop}
use Rattle.meaning.specs.Outcome.{most_reported}
use Rattle.meaning.specs.Report.{points_in, free_in, total_in, rows_before}

-- the rows of `width` words that begin at word `at` and at each `stride` words after it, so many as the last argument says
abbrev pub rows_from : List ℕ → ℕ → ℕ → ℕ → ℕ → List (List ℕ)
rows_from words at stride width zero = []
rows_from words at stride width (suc count) = take width (drop at words) ∷ rows_from words (at + stride) stride width count

-- a row of at most four words, made up to four with zeros
abbrev pub four : List ℕ → List ℕ
four row = get_or row 0 0 ∷ get_or row 1 0 ∷ get_or row 2 0 ∷ get_or row 3 0 ∷ []

-- a word of the report, which is below 2 to the 32
pub record WordAt (r : List ℕ) (i word : ℕ) : Type 0 where
  pub is : word ≡ get_or r i 0
  pub below : word < 4294967296

-- sizes in range and words enough, as a test
unfoldable pub sizes_fit : List ℕ → Bool
sizes_fit r =
    leb 3 (length r) && leb (points_in r) most_reported && leb (free_in r) 4
    && leb (3 + 3 * points_in r + free_in r * total_in r) (length r)

-- the same as facts
pub record Sized (r : List ℕ) : Type 0 where
  pub head : 3 ≤ length r
  pub points : points_in r ≤ most_reported
  pub free : free_in r ≤ 4
  pub words : 3 + 3 * points_in r + free_in r * total_in r ≤ length r

-- and the counts add to the total
pub record Summed (r : List ℕ) : Type 0 where
  pub sized : Sized r
  pub sum : rows_before r (points_in r) ≡ total_in r

-- the rows of the first k entries, and a bound by which their sum fits
pub record Sum (r : List ℕ) (k sum : ℕ) : Type 0 where
  pub is : sum ≡ rows_before r k
  pub bound : sum ≤ 4294967295 * k
