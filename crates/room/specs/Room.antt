-- The sets of one call, one after the other: their rows in one run of words, four to a row, and for each set the row where it begins; after the last stands where the next would begin.
use Rattle.std.specs.Prelude.{ℕ, ◌+◌, ◌-◌, ◌*◌, ◌≤◌, ◌<◌, List, length, get_or}
use Rattle.meaning.specs.Outcome.{most_rows}
use Rattle.meaning.specs.declared.Point.{Point}
use Rattle.rowset.specs.Rows.{rows_from}
use Rattle.room.specs.declared.Child.{Child}
use Rattle.room.specs.declared.CallSets.{CallSets}

-- set q
abbrev pub set_in : List ℕ → List ℕ → ℕ → List (List ℕ)
set_in rows at q = rows_from rows (get_or at q 0) (get_or at (q + 1) 0 - get_or at q 0)

-- a node's set at point j, where set `first` is the node's set at point `low`
abbrev pub set_at : List ℕ → List ℕ → ℕ → Point → Point → List (List ℕ)
set_at rows at first low j = set_in rows at (first + (j.0 - low.0))

-- n sets stand in the words
pub record SetsInOrder (rows at : List ℕ) (n : ℕ) : Type 0 where
  pub marks : n < length at
  pub steps : (q : ℕ) → q < n → get_or at q 0 ≤ get_or at (q + 1) 0
  pub words : get_or at n 0 * 4 ≤ length rows

-- n sets stand in the words, of at most 32 rows each
pub record Sets (rows at : List ℕ) (n : ℕ) : Type 0 where
  pub laid : SetsInOrder rows at n
  pub few : (q : ℕ) → q < n → get_or at (q + 1) 0 - get_or at q 0 ≤ most_rows

-- a child's set at point j
abbrev pub sets_of : CallSets → Child → Point → List (List ℕ)
sets_of s c = set_at s.rows.now s.at.now c.first c.low
