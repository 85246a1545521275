-- The step of a node and the walk over the tree: where sets stand and blocks of entries, what must be there, and what is left.
use Rattle.std.specs.Prelude.{ℕ, ◌+◌, ◌-◌, ◌*◌, ◌≤◌, ◌<◌, min, ◌≡◌, true, false, cond, List, [], ◌∷◌, ◌++◌, map, length, get_or, eqb}
use Rattle.meaning.specs.Lists.{range}
use Rattle.meaning.specs.Outcome.{most_kept, most_nodes}
use Rattle.meaning.specs.RuleFile.{node_count, last_node}
use Rattle.meaning.specs.Kept.{Entry, entry_of}
use Rattle.method.specs.Stored.{Stored}
use Rattle.method.specs.Step.{turn, entries_now, stored_now, crowded_now}
use Rattle.method.specs.Room.{rows_most, sets_most}
use Rattle.rowset.specs.Rows.{row_at, most_held}
use Rattle.room.specs.Room.{set_in, Sets}
use Rattle.entries.specs.Appended.{Extended}
use Rattle.node_step.specs.declared.Place.{Place}

-- the words in which a set is made: the rows that it takes, of four words
abbrev pub set_words : ℕ
set_words = most_held * 4

-- What each node keeps goes to words for numbers and words for rows. A table, behind the words of a set, has three words to a node: where its rows begin there, where its pairs begin, and the entry behind them.
abbrev pub block_word : List ℕ → ℕ → ℕ → ℕ
block_word bl x k = get_or bl (set_words + x * 3 + k) 0

abbrev pub block_in : List ℕ → List ℕ → List ℕ → ℕ → List Entry
block_in on ov bl x =
    map (λ k. entry_of x 0 (get_or on k 0) (row_at ov k)) (range (block_word bl x 0) (block_word bl x 1 - block_word bl x 0))
    ++ map (λ k. entry_of x 1 (get_or on k 0) (row_at ov k)) (range (block_word bl x 1) (block_word bl x 2 - block_word bl x 1))

-- room behind n sets for so many more, of so many rows in all
pub record RoomFor (rows at : List ℕ) (n sets more : ℕ) : Type 0 where
  pub stand : Sets rows at n
  pub marks : n + sets < length at
  pub words : (get_or at n 0 + more) * 4 ≤ length rows
  pub small : get_or at n 0 + more < 4294967296
  pub few : n + sets < 4294967296

module _ (s : Stored) (w : List ℕ) where
  -- set k of node x in this call
  abbrev pub turn_set : ℕ → ℕ → List (List ℕ)
  turn_set x k = get_or (turn s w x).rows k []

  -- node y's sets stand among the first n, from set first on
  pub record ChildStands (rows at : List ℕ) (n y first : ℕ) : Type 0 where
    pub placed : first + sets_most s w y ≤ n
    pub there : (k : ℕ) → k < sets_most s w y → set_in rows at (first + k) ≡ turn_set y k

  -- the same of a node's children, of which there are none, one or two
  abbrev pub ChildrenStand : List ℕ → List ℕ → ℕ → List ℕ → ℕ → ℕ → Type 0
  ChildrenStand rows at n [] left right = Unit
  ChildrenStand rows at n (y ∷ []) left right = ChildStands rows at n y left
  ChildrenStand rows at n (y ∷ z ∷ zs) left right = ChildStands rows at n y left × ChildStands rows at n z right

  -- words for what is kept, as many entries as there are numbers, 512 at most, and a table of blocks; so many are kept so far, or one more than there is room for
  pub record OutThere (on ov bl : List ℕ) (kept : ℕ) : Type 0 where
    pub few : length on ≤ most_kept
    pub rows : length on * 4 ≤ length ov
    pub table : set_words + node_count s.rule * 3 ≤ length bl
    pub counted : kept ≤ length on + 1

  -- what node x keeps stands where the table says
  pub record BlockStands (on ov bl : List ℕ) (kept x : ℕ) : Type 0 where
    pub rows_first : block_word bl x 0 ≤ block_word bl x 1
    pub pairs_last : block_word bl x 1 ≤ block_word bl x 2
    pub within : block_word bl x 2 ≤ kept
    pub there : block_in on ov bl x ≡ entries_now s w x

  -- how many of node x's sets stand: none where a node of its tree is crowded; low is the lowest such node, `most_nodes` where there is none
  abbrev pub standing : ℕ → ℕ → ℕ
  standing low x = cond (eqb low most_nodes) (sets_most s w x) 0

  -- what is kept where none of the nodes P is crowded: W entries more, or one more than there is room for
  pub record Keeps (P : ℕ → Type 0) (W : ℕ) (on ov bl on' ov' bl' : List ℕ) (kept kept' : ℕ) : Type 0 where
    pub counted : kept' ≡ min (length on + 1) (kept + W)
    pub stay : kept' ≤ length on → (y : ℕ) → BlockStands on ov bl kept y → BlockStands on' ov' bl' kept' y
    pub new : kept' ≤ length on → (y : ℕ) → P y → BlockStands on' ov' bl' kept' y

  -- what a tree's walk, or its node's own step, leaves behind h sets: these stay, and x's sets stand behind them; or low is the lowest of the nodes P that is crowded
  pub record Walks (P : ℕ → Type 0) (W x h : ℕ) (rows at rows' at' on ov bl on' ov' bl' : List ℕ) (kept : ℕ) (r : Place) : Type 0 where
    pub more : Extended rows at rows' at' h (standing r.low x) (turn_set x)
    pub stand : Sets rows' at' (h + standing r.low x)
    pub row_end : get_or at' (h + standing r.low x) 0 ≤ get_or at h 0 + cond (eqb r.low most_nodes) (rows_most s w x) 0
    pub low : r.low ≤ most_nodes
    pub inside : r.low < most_nodes → r.low ≤ x
    pub told : r.low < most_nodes → crowded_now s w r.low ≡ true
    pub calm : (y : ℕ) → P y → y < r.low → crowded_now s w y ≡ false
    pub few : r.kept ≤ length on + 1
    pub on_long : length on' ≡ length on
    pub ov_long : length ov' ≡ length ov
    pub bl_long : length bl' ≡ length bl
    pub keeps : r.low ≡ most_nodes → Keeps P W on ov bl on' ov' bl' kept r.kept

  -- what the walk over the whole tree leaves: the lowest crowded node; or the last node's sets from set 0 on, and each node's block
  pub record Walked (rows at on ov bl : List ℕ) (room : ℕ) (r : Place) : Type 0 where
    pub low : r.low ≤ most_nodes
    pub told : r.low < most_nodes → (r.low < node_count s.rule) × (crowded_now s w r.low ≡ true)
    pub calm : (y : ℕ) → y < node_count s.rule → y < r.low → crowded_now s w y ≡ false
    pub stand : r.low ≡ most_nodes → Sets rows at (sets_most s w (last_node s.rule))
    pub there : r.low ≡ most_nodes → (k : ℕ) → k < sets_most s w (last_node s.rule) → set_in rows at k ≡ turn_set (last_node s.rule) k
    pub counted : r.low ≡ most_nodes → r.kept ≡ min (room + 1) (length (stored_now s w).entries)
    pub blocks : r.low ≡ most_nodes → r.kept ≤ room → (y : ℕ) → y < node_count s.rule → BlockStands on ov bl r.kept y
    pub on_long : length on ≡ room
