-- Words put behind others, rows copied behind others, and sets appended to those of a call.
use Rattle.std.specs.Prelude.{ℕ, ◌+◌, ◌*◌, ◌≤◌, ◌<◌, ◌≡◌, List, ◌++◌, length, get_or, drop}
use Rattle.rowset.specs.Rows.{rows_from}
use Rattle.room.specs.Room.{set_in, SetsInOrder}

-- words at the front of others, of which the rest stay behind them
abbrev pub at_front : List ℕ → List ℕ → List ℕ
at_front words old = words ++ drop (length words) old

-- count words put at word end and on, of which f says each; no word before or behind them has changed
pub record WordsPut (old : List ℕ) (end : ℕ) (new : List ℕ) (count : ℕ) (f : ℕ → ℕ) : Type 0 where
  pub long : length new ≡ length old
  pub below : (j : ℕ) → j < end → get_or new j 0 ≡ get_or old j 0
  pub there : (k : ℕ) → k < count → get_or new (end + k) 0 ≡ f k
  pub behind : (j : ℕ) → end + count ≤ j → get_or new j 0 ≡ get_or old j 0

-- count rows copied to row end and on; no word before them has changed
pub record Copied (old : List ℕ) (end : ℕ) (new : List ℕ) (count : ℕ) (rows : List (List ℕ)) : Type 0 where
  pub long : length new ≡ length old
  pub below : (j : ℕ) → j < end * 4 → get_or new j 0 ≡ get_or old j 0
  pub there : rows_from new end count ≡ rows

-- behind n sets there is room for one more of count rows
pub record Space (rows at : List ℕ) (n count : ℕ) : Type 0 where
  pub laid : SetsInOrder rows at n
  pub mark : n + 1 < length at
  pub words : (get_or at n 0 + count) * 4 ≤ length rows
  pub small : get_or at n 0 + count < 4294967296

-- behind n sets, which stay, stand m more: F 0, F 1, ..
pub record Extended (rows at rows' at' : List ℕ) (n m : ℕ) (F : ℕ → List (List ℕ)) : Type 0 where
  pub rows_long : length rows' ≡ length rows
  pub at_long : length at' ≡ length at
  pub laid : SetsInOrder rows' at' (n + m)
  pub marks : (q : ℕ) → q ≤ n → get_or at' q 0 ≡ get_or at q 0
  pub earlier : (q : ℕ) → q < n → set_in rows' at' q ≡ set_in rows at q
  pub sets : (k : ℕ) → k < m → set_in rows' at' (n + k) ≡ F k

-- one set of count rows more
pub record Pushed (rows at rows' at' : List ℕ) (n count : ℕ) (set : List (List ℕ)) : Type 0 where
  pub more : Extended rows at rows' at' n 1 (λ _. set)
  pub end : get_or at' (n + 1) 0 ≡ get_or at n 0 + count
