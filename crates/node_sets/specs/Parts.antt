-- The parts of loading, moving and keeping sets: marks where each point's rows end, and raised; rows moved within one slice, marks lowered, and points put as numbers.
use Rattle.std.specs.Prelude.{ℕ, ◌+◌, ◌-◌, ◌*◌, ◌≤◌, ◌<◌, ◌≡◌, List, length, get_or}
use Rattle.rowset.specs.Rows.{rows_from}

-- for each entry from cursor on before count the mark behind its point's set, that of point low being set `sets`, is the row behind its own, or behind that of a later entry; a mark is no higher than it was or than such rows make it
pub record EndsMarked (ns : List ℕ) (cursor count low : ℕ) (old new : List ℕ) (sets end : ℕ) : Type 0 where
  pub long : length new ≡ length old
  pub below : (q : ℕ) → q ≤ sets → get_or new q 0 ≡ get_or old q 0
  pub over : (i k : ℕ) → cursor ≤ i → i < count → get_or ns i 0 ≡ low + k → end + (i + 1 - cursor) ≤ get_or new (sets + k + 1) 0
  pub most : (k b : ℕ) → get_or old (sets + k + 1) 0 ≤ b → ((i : ℕ) → cursor ≤ i → i < count → get_or ns i 0 ≡ low + k → end + (i + 1 - cursor) ≤ b) → get_or new (sets + k + 1) 0 ≤ b

-- each of n marks behind mark `sets` is the highest of those up to it
pub record MarksRaised (old new : List ℕ) (sets n : ℕ) : Type 0 where
  pub long : length new ≡ length old
  pub below : (q : ℕ) → q ≤ sets → get_or new q 0 ≡ get_or old q 0
  pub over : (j k : ℕ) → j ≤ k → k ≤ n → get_or old (sets + j) 0 ≤ get_or new (sets + k) 0
  pub most : (k b : ℕ) → k ≤ n → ((j : ℕ) → j ≤ k → get_or old (sets + j) 0 ≤ b) → get_or new (sets + k) 0 ≤ b

-- count rows copied to row end and on, within one slice; no word before them has changed
pub record Moved (old : List ℕ) (end : ℕ) (new : List ℕ) (from count : ℕ) : Type 0 where
  pub long : length new ≡ length old
  pub below : (j : ℕ) → j < end * 4 → get_or new j 0 ≡ get_or old j 0
  pub there : rows_from new end count ≡ rows_from old from count

-- the marks of m sets from set n + d on lowered to n, by the rows between
pub record MarksLowered (old new : List ℕ) (n d m : ℕ) : Type 0 where
  pub long : length new ≡ length old
  pub below : (q : ℕ) → q ≤ n → get_or new q 0 ≡ get_or old q 0
  pub there : (k : ℕ) → k ≤ m → get_or new (n + k) 0 ≡ get_or old (n + d + k) 0 - (get_or old (n + d) 0 - get_or old n 0)

-- the words from word end on are the points of the rows of n sets from set q on: the point `from` for those of set q, the one behind it for those of the next
abbrev pub PointsStand : List ℕ → ℕ → ℕ → ℕ → List ℕ → ℕ → Type 0
PointsStand at q n from words end = (k j : ℕ) → k < n → j < get_or at (q + k + 1) 0 - get_or at (q + k) 0 → get_or words (end + (get_or at (q + k) 0 - get_or at q 0) + j) 0 ≡ from + k

-- these points put at word end and on; no word before them has changed
pub record PointsPut (at : List ℕ) (q n from : ℕ) (old : List ℕ) (end : ℕ) (new : List ℕ) : Type 0 where
  pub long : length new ≡ length old
  pub below : (j : ℕ) → j < end → get_or new j 0 ≡ get_or old j 0
  pub there : PointsStand at q n from new end

-- the points of the rows of n sets from set q on are within the words from word end on
pub record Numbered (at : List ℕ) (q n from : ℕ) (words : List ℕ) (end : ℕ) : Type 0 where
  pub points : PointsStand at q n from words end
  pub within : end + (get_or at (q + n) 0 - get_or at q 0) ≤ length words
