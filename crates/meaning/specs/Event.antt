-- An event's words, and the point that they make.
use Rattle.std.specs.Prelude.{ℕ, ◌+◌, ◌*◌, Bool, ◌&&◌, List, map, length, get_or, take, drop, ltb, leb, eqb}
use Rattle.meaning.specs.Lists.{all, range}
use Rattle.meaning.specs.Outcome.{most_rows}
use Rattle.meaning.specs.Log.{Row, LogPoint, stamp}
use Rattle.meaning.specs.RuleFile.{relation_count, arity}

-- "time, row count m (0 to 32); then two parallel arrays: m relation numbers, and m rows of 4 words with unused columns 0. Its length is 2 + 5m"
abbrev pub row_count : List ℕ → ℕ
row_count w = get_or w 1 0

unfoldable pub is_event : List ℕ → Bool
is_event w = leb 2 (length w) && leb (row_count w) most_rows && eqb (length w) (2 + 5 * row_count w)

abbrev pub relation_of : List ℕ → ℕ → ℕ
relation_of w k = get_or w (2 + k) 0

abbrev pub columns_of : List ℕ → ℕ → List ℕ
columns_of w k = take 4 (drop (2 + row_count w + 4 * k) w)

-- "10: a relation not below R or an unused column not 0": neither
unfoldable pub row_fits : List ℕ → List ℕ → ℕ → Bool
row_fits b w k = ltb (relation_of w k) (relation_count b) && all (eqb 0) (drop (arity b (relation_of w k)) (columns_of w k))

abbrev pub row_of : List ℕ → List ℕ → ℕ → Row
row_of b w k = record { relation = relation_of w k; values = take (arity b (relation_of w k)) (columns_of w k) }

unfoldable pub point_of : List ℕ → List ℕ → LogPoint
point_of b w = record { time = stamp (get_or w 0 0); rows = map (row_of b w) (range 0 (row_count w)) }
