-- What the kinds read beside sets of rows: variables by a mask, an event's rows as an atom reads them, and pairs of an age and a row.
use Rattle.std.specs.Prelude.{ℕ, ◌+◌, ◌*◌, ◌/◌, ◌%◌, ◌^◌, ◌≤◌, ◌<◌, Bool, List, ◌∷◌, map, length, get_or, take, eqb}
use Rattle.meaning.specs.Lists.{range}
use Rattle.meaning.specs.Log.{Row}
use Rattle.meaning.specs.Event.{row_count, relation_of, columns_of}
use Rattle.rowset.specs.Rows.{row_at}

-- variable x is in the set where bit x of the mask is
abbrev pub in_mask : ℕ → ℕ → Bool
in_mask mask x = eqb (mask / 2 ^ x % 2) 1

-- an event's words have all its rows, 32 at most; a notice's one word has none
pub record EventThere (w : List ℕ) : Type 0 where
  pub most : row_count w ≤ 32
  pub there : 0 < row_count w → 2 + 5 * row_count w ≤ length w

-- a row of an event, with as many of its four columns as the arity says; and row k
abbrev pub row_from : ℕ → ℕ → List ℕ → Row
row_from arity relation columns = record { relation = relation; values = take arity columns }

abbrev pub row_with : ℕ → List ℕ → ℕ → Row
row_with arity w k = row_from arity (relation_of w k) (columns_of w k)

abbrev pub rows_with : ℕ → List ℕ → List Row
rows_with arity w = map (row_with arity w) (range 0 (row_count w))

-- pair k: an age and the row beside it
abbrev pub pair_at : List ℕ → List ℕ → ℕ → List ℕ
pair_at ages values k = get_or ages k 0 ∷ row_at values k

unfoldable pub pairs_from : List ℕ → List ℕ → ℕ → ℕ → List (List ℕ)
pairs_from ages values from count = map (pair_at ages values) (range from count)

-- so many pairs stand in the words
pub record PairsThere (ages values : List ℕ) (n : ℕ) : Type 0 where
  pub ages_there : n ≤ length ages
  pub values_there : n * 4 ≤ length values
