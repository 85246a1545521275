-- Sets moved to lower places, and a node's rows and pairs put behind what is kept, as many as there is room for.
use Rattle.std.specs.Prelude.{ℕ, ◌+◌, ◌-◌, ◌*◌, ◌≤◌, ◌<◌, min, ◌≡◌, List, map, length, get_or}
use Rattle.meaning.specs.Lists.{range}
use Rattle.meaning.specs.Outcome.{most_kept}
use Rattle.meaning.specs.Kept.{Entry, entry_of}
use Rattle.rowset.specs.Rows.{row_at}
use Rattle.room.specs.Room.{set_in}
use Rattle.entries.specs.Appended.{Extended}

-- the m sets from set n + d on in the place of set n and those behind it
pub record MovedDown (rows at rows' at' : List ℕ) (n d m : ℕ) : Type 0 where
  pub more : Extended rows at rows' at' n m (λ k. set_in rows at (n + d + k))
  pub end : get_or at' (n + m) 0 ≡ get_or at n 0 + (get_or at (n + d + m) 0 - get_or at (n + d) 0)

-- words for numbers and for rows, of at most 512 entries; so many are kept, or one more than there is room for
pub record RoomToKeep (on ov : List ℕ) (kept : ℕ) : Type 0 where
  pub few : length on ≤ most_kept
  pub rows : length on * 4 ≤ length ov
  pub counted : kept ≤ length on + 1

-- node x's entries with a mark, put behind kept others; where there isn't room for all, one more than there is room for are counted
pub record EntriesPut (x mark : ℕ) (on ov on' ov' : List ℕ) (kept kept' : ℕ) (es : List Entry) : Type 0 where
  pub on_long : length on' ≡ length on
  pub ov_long : length ov' ≡ length ov
  pub counted : kept' ≡ min (length on + 1) (kept + length es)
  pub numbers_below : (j : ℕ) → j < kept → get_or on' j 0 ≡ get_or on j 0
  pub rows_below : (j : ℕ) → j < kept * 4 → get_or ov' j 0 ≡ get_or ov j 0
  pub there : kept' ≤ length on → map (λ k. entry_of x mark (get_or on' k 0) (row_at ov' k)) (range kept (kept' - kept)) ≡ es
