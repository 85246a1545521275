-- Entries walked through from the first: of each node a run for each of its points, and then one of its pairs.
use Rattle.std.specs.Prelude.{ℕ, zero, suc, ◌+◌, ◌-◌, Bool, cond, ◌&&◌, List, [], ◌∷◌, ◌++◌, map}
use Rattle.meaning.specs.Lists.{all, range, gather}
use Rattle.meaning.specs.Log.{points_from}
use Rattle.meaning.specs.View.{view_of}
use Rattle.meaning.specs.RuleFile.{node_at}
use Rattle.meaning.specs.Kept.{Entry}
use Rattle.meaning.specs.declared.Point.{Point}
use Rattle.method.specs.Stored.{held, held_pairs}
use Rattle.method.specs.WellFormed.{same_entries, set_fits, pairs_fit}
use Rattle.entries.specs.Entries.{has_owner, is_entry}
use Rattle.node_sets.specs.NodeEntries.{set_entries, aged_entries}

module _ {A : Type 0} where
  -- those at the front that pass, one after the other; and those behind them
  abbrev pub front : (A → Bool) → List A → List A
  front q [] = []
  front q (x ∷ xs) = cond (q x) (x ∷ front q xs) []

  abbrev pub behind : (A → Bool) → List A → List A
  behind q [] = []
  behind q (x ∷ xs) = cond (q x) (behind q xs) (x ∷ xs)

-- what is behind node x's runs at n points from low on
abbrev pub sets_rest : ℕ → Point → ℕ → List Entry → List Entry
sets_rest x low zero es = es
sets_rest x low (suc n) es = behind (is_entry x 0 (low.0 + n)) (sets_rest x low n es)

-- the rows of node x's run at point j, where the first of its runs is at point low
abbrev pub rows_found : ℕ → Point → List Entry → Point → List (List ℕ)
rows_found x low es j = map (λ e. e.values) (front (is_entry x 0 j.0) (sets_rest x low (j.0 - low.0) es))

-- the pairs of node x, each its age and then its row
abbrev pub pairs_found : ℕ → List Entry → List (List ℕ)
pairs_found x es = map (λ e. e.number ∷ e.values) (front (has_owner x 1) es)

-- the runs of node x at n points from low on, and that of its pairs, fit it
unfoldable pub runs_fit : List ℕ → ℕ → Point → ℕ → List Entry → Bool
runs_fit b x low n es = all (λ j. set_fits b x (rows_found x low es j)) (points_from low n) && pairs_fit b x (view_of (node_at b x)) (pairs_found x (sets_rest x low n es))

-- what is behind the entries of the nodes below x, where node y's rows are kept from point low y on and up to point end y
abbrev pub nodes_rest : (ℕ → Point) → (ℕ → ℕ) → List Entry → ℕ → List Entry
nodes_rest low end es zero = es
nodes_rest low end es (suc x) = behind (has_owner x 1) (sets_rest x (low x) (end x - (low x).0) (nodes_rest low end es x))

-- The entries are those that are read off them for each node, and these fit it.
module _ (b : List ℕ) (low : ℕ → Point) (end : ℕ → ℕ) (es : List Entry) where
  unfoldable pub own_runs : ℕ → List Entry
  own_runs x = set_entries x (held es x) (low x) (end x - (low x).0) ++ aged_entries x (held_pairs es x)

  unfoldable pub own_fit : ℕ → Bool
  own_fit x = all (λ j. set_fits b x (held es x j)) (points_from (low x) (end x - (low x).0)) && pairs_fit b x (view_of (node_at b x)) (held_pairs es x)

  unfoldable pub entries_fit : ℕ → Bool
  unfolding own_runs own_fit
  entries_fit nodes = same_entries es (gather own_runs (range 0 nodes)) && all own_fit (range 0 nodes)
