-- What is stored, as it stands in slices, and what the test of it leaves where it passes.
use Rattle.std.specs.Prelude.{ℕ, ◌+◌, ◌-◌, ◌≤◌, ◌<◌, ◌≡◌, List, get_or, take}
use Rattle.meaning.specs.Formula.{free}
use Rattle.meaning.specs.RuleFile.{node_count, formula_at}
use Rattle.meaning.specs.declared.LogEnd.{LogEnd}
use Rattle.method.specs.Stored.{Stored, held, held_pairs}
use Rattle.method.specs.Step.{wanted_from, counts_stored, count_before}
use Rattle.kinds.specs.Kinds.{in_mask}
use Rattle.entries.specs.Entries.{entries_from}
use Rattle.node_sets.specs.NodeEntries.{set_entries, aged_entries}

abbrev pub stored_in : List ℕ → LogEnd → List ℕ → List ℕ → List ℕ → List ℕ → ℕ → Stored
stored_in b e times os ns vs count = record { rule = b; points = e.points; latest = e.latest; times = times; entries = entries_from os ns vs 0 count }

-- for each node the mask of its free variables, how many points it has settled, and from which point on its rows are kept
pub record StateFigures (s : Stored) (masks counts lows : List ℕ) : Type 0 where
  pub masks_free : (x : ℕ) → x < node_count s.rule → (v : ℕ) → v < 4 → in_mask (get_or masks x 0) v ≡ free (formula_at s.rule x) v
  pub counts_are_stored : take (node_count s.rule) counts ≡ counts_stored s
  pub lows_wanted : (x : ℕ) → x < node_count s.rule → get_or lows x 0 ≡ (wanted_from s.rule (count_before s) x).0

-- where each node's entries begin, and its pairs among them; the next node's begin behind them, and the last node's end with the last entry
pub record EntryPlaces (s : Stored) (os ns vs : List ℕ) (count : ℕ) (begins pairs : List ℕ) : Type 0 where
  pub rows_first : (x : ℕ) → x < node_count s.rule → get_or begins x 0 ≤ get_or pairs x 0
  pub pairs_last : (x : ℕ) → x < node_count s.rule → get_or pairs x 0 ≤ get_or begins (x + 1) 0
  pub within : (x : ℕ) → x < node_count s.rule → get_or begins (x + 1) 0 ≤ count
  pub rows_there : (x : ℕ) → x < node_count s.rule
      → entries_from os ns vs (get_or begins x 0) (get_or pairs x 0 - get_or begins x 0) ≡ set_entries x (held s.entries x) (wanted_from s.rule (count_before s) x) (count_before s x - (wanted_from s.rule (count_before s) x).0)
  pub pairs_there : (x : ℕ) → x < node_count s.rule → entries_from os ns vs (get_or pairs x 0) (get_or begins (x + 1) 0 - get_or pairs x 0) ≡ aged_entries x (held_pairs s.entries x)
