-- Entries stored at the front of a state's words, and the blocks that they come from.
use Rattle.std.specs.Prelude.{ℕ, ◌+◌, ◌*◌, ◌≤◌, ◌<◌, ◌≡◌, List, map, length}
use Rattle.meaning.specs.Outcome.{most_nodes}
use Rattle.meaning.specs.Lists.{range, gather}
use Rattle.meaning.specs.Kept.{Entry}
use Rattle.entries.specs.Appended.{at_front}
use Rattle.node_step.specs.Walks.{set_words, block_word, block_in}

-- an entry's owner in one word: its node twice, and its mark
abbrev pub owner_of : Entry → ℕ
owner_of e = e.node * 2 + e.mark

-- entries at the front of the words, every word behind them as it was
pub record EntriesStored (os ns vs os' ns' vs' : List ℕ) (es : List Entry) : Type 0 where
  pub owners : os' ≡ at_front (map owner_of es) os
  pub numbers : ns' ≡ at_front (map (λ e. e.number) es) ns
  pub values : vs' ≡ at_front (gather (λ e. e.values) es) vs

-- the blocks of n nodes stand in the out words, and there is room for them all in a state's
pub record Storable (on ov bl : List ℕ) (n : ℕ) (os ns vs : List ℕ) : Type 0 where
  pub nodes : n ≤ most_nodes
  pub table : set_words + n * 3 ≤ length bl
  pub rows_first : (x : ℕ) → x < n → block_word bl x 0 ≤ block_word bl x 1
  pub pairs_last : (x : ℕ) → x < n → block_word bl x 1 ≤ block_word bl x 2
  pub numbers_are_there : (x : ℕ) → x < n → block_word bl x 2 ≤ length on
  pub rows_there : (x : ℕ) → x < n → block_word bl x 2 * 4 ≤ length ov
  pub owners_room : length (gather (block_in on ov bl) (range 0 n)) ≤ length os
  pub numbers_room : length (gather (block_in on ov bl) (range 0 n)) ≤ length ns
  pub values_room : length (gather (block_in on ov bl) (range 0 n)) * 4 ≤ length vs
