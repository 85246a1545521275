-- What the steps of a walk through the nodes' entries in slices ensure.
use Rattle.std.specs.Prelude.{ℕ, ◌+◌, ◌-◌, ◌≤◌, ◌<◌, ◌≡◌, true, false, List, get_or, Option, Some, None}
use Rattle.meaning.specs.Kept.{Entry}
use Rattle.meaning.specs.declared.Point.{Point}
use Rattle.method.specs.Stored.{held, held_pairs}
use Rattle.entries.specs.Entries.{entries_from, begins, has_owner}
use Rattle.node_sets.specs.NodeEntries.{set_entries, aged_entries}
use Rattle.formed.specs.declared.Ends.{Ends}
use Rattle.formed.specs.Walk.{behind, sets_rest, runs_fit}

-- the entries from cursor on
abbrev pub rest_at : List ℕ → List ℕ → List ℕ → ℕ → ℕ → List Entry
rest_at os ns vs count cursor = entries_from os ns vs cursor (count - cursor)

-- what is asked of entries from node x's first on: that its runs fit it, and that none of its rows is behind them
pub record OwnFirst (b : List ℕ) (x : ℕ) (low : Point) (n : ℕ) (es : List Entry) : Type 0 where
  pub fit : runs_fit b x low n es ≡ true
  pub ends : begins (has_owner x 0) (sets_rest x low n es) ≡ false

-- node x's pairs begin at p, and r is behind them; all its entries fit it
pub record NodeTo (os ns vs : List ℕ) (count cursor : ℕ) (b : List ℕ) (x : ℕ) (low : Point) (n p r : ℕ) : Type 0 where
  pub rows_first : cursor ≤ p
  pub pairs_last : p ≤ r
  pub within : r ≤ count
  pub paired : rest_at os ns vs count p ≡ sets_rest x low n (rest_at os ns vs count cursor)
  pub rest : rest_at os ns vs count r ≡ behind (has_owner x 1) (sets_rest x low n (rest_at os ns vs count cursor))
  pub fit : runs_fit b x low n (rest_at os ns vs count cursor) ≡ true

abbrev pub NodeEnded : List ℕ → List ℕ → List ℕ → ℕ → ℕ → List ℕ → ℕ → Point → ℕ → Option Ends → Type 0
NodeEnded os ns vs count cursor b x low n (Some e) = NodeTo os ns vs count cursor b x low n e.pairs e.end
NodeEnded os ns vs count cursor b x low n None = OwnFirst b x low n (rest_at os ns vs count cursor) → ⊥

-- where each node's entries begin, and its pairs among them, with those that are read off all entries for it; node y's rows are kept from point low y on and up to point end y
pub record EntriesPlaced (os ns vs : List ℕ) (count : ℕ) (low : ℕ → Point) (end : ℕ → ℕ) (nodes : ℕ) (begins pairs : List ℕ) : Type 0 where
  pub rows_first : (x : ℕ) → x < nodes → get_or begins x 0 ≤ get_or pairs x 0
  pub pairs_last : (x : ℕ) → x < nodes → get_or pairs x 0 ≤ get_or begins (x + 1) 0
  pub within : (x : ℕ) → x < nodes → get_or begins (x + 1) 0 ≤ count
  pub rows_there : (x : ℕ) → x < nodes
      → entries_from os ns vs (get_or begins x 0) (get_or pairs x 0 - get_or begins x 0) ≡ set_entries x (held (entries_from os ns vs 0 count) x) (low x) (end x - (low x).0)
  pub pairs_there : (x : ℕ) → x < nodes → entries_from os ns vs (get_or pairs x 0) (get_or begins (x + 1) 0 - get_or pairs x 0) ≡ aged_entries x (held_pairs (entries_from os ns vs 0 count) x)
