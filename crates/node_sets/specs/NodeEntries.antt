-- A node's kept sets and pairs as entries, and its sets read from its entries.
use Rattle.std.specs.Prelude.{ℕ, ◌+◌, ◌-◌, ◌*◌, ◌≤◌, ◌<◌, ◌≡◌, List, map, length, get_or, drop}
use Rattle.meaning.specs.Lists.{gather}
use Rattle.meaning.specs.Log.{point, points_from}
use Rattle.meaning.specs.Kept.{Entry, entry_of}
use Rattle.meaning.specs.declared.Point.{Point}
use Rattle.room.specs.Room.{set_in, SetsInOrder}
use Rattle.entries.specs.Entries.{entries_from}
use Rattle.entries.specs.Appended.{Extended}
use Rattle.node_sets.specs.Parts.{PointsStand}

-- the entries of node x at n points from low on, where S gives the sets
abbrev pub set_entries : ℕ → (Point → List (List ℕ)) → Point → ℕ → List Entry
set_entries x S low n = gather (λ j. map (entry_of x 0 j.0) (S j)) (points_from low n)

-- the entries of node x's pairs, each its age and then its row
abbrev pub aged_entries : ℕ → List (List ℕ) → List Entry
aged_entries x pairs = map (λ p. entry_of x 1 (get_or p 0 0) (drop 1 p)) pairs

-- behind n sets there is room for m more, of count rows in all
pub record Spaces (rows at : List ℕ) (n m count : ℕ) : Type 0 where
  pub laid : SetsInOrder rows at n
  pub marks : n + m < length at
  pub words : (get_or at n 0 + count) * 4 ≤ length rows
  pub small : get_or at n 0 + count < 4294967296

-- the numbers from cursor on before count are those of n points from low on
pub record NumbersWithin (ns : List ℕ) (cursor count low n : ℕ) : Type 0 where
  pub least : (i : ℕ) → cursor ≤ i → i < count → low ≤ get_or ns i 0
  pub most : (i : ℕ) → cursor ≤ i → i < count → get_or ns i 0 < low + n

-- behind `sets` sets, which stay, stand n more, of as many rows as there are entries from cursor to count, or fewer; where these entries are those of a node at n points from low on, the sets are the node's, and the numbers from cursor on their rows' points
pub record Loaded (ns vs : List ℕ) (cursor count : ℕ) (low : Point) (n : ℕ) (rows at rows' at' : List ℕ) (sets : ℕ) : Type 0 where
  pub end : get_or at' (sets + n) 0 ≤ get_or at sets 0 + (count - cursor)
  pub more : Extended rows at rows' at' sets n (λ k. set_in rows' at' (sets + k))
  pub read : (os : List ℕ) (x : ℕ) (S : Point → List (List ℕ)) → entries_from os ns vs cursor (count - cursor) ≡ set_entries x S low n → Extended rows at rows' at' sets n (λ k. S (point (low.0 + k)))
  pub numbered : (os : List ℕ) (x : ℕ) (S : Point → List (List ℕ)) → entries_from os ns vs cursor (count - cursor) ≡ set_entries x S low n → PointsStand at' sets n low.0 ns cursor
