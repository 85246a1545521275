-- The test in two parts beside the rule's: what is stored of times, and what is stored of entries.
use Rattle.std.specs.Prelude.{ℕ, ◌-◌, ◌≡◌, Bool, ◌&&◌, List, [], ◌∷◌, ◌++◌, length, get_or, take, leb, eqb}
use Rattle.meaning.specs.Outcome.{most_points, most_open, most_kept}
use Rattle.meaning.specs.RuleFile.{node_count, last_node}
use Rattle.meaning.specs.Log.{point}
use Rattle.meaning.specs.Kept.{Entry}
use Rattle.meaning.specs.declared.LogEnd.{LogEnd}
use Rattle.method.specs.Stored.{stamp_in, first_retained}
use Rattle.method.specs.Counts.{counts_to}
use Rattle.method.specs.Step.{wanted_from}
use Rattle.method.specs.WellFormed.{most_times, not_falling}
use Rattle.progress.specs.Bounds.{Within}
use Rattle.formed.specs.Walk.{entries_fit}

-- how many points each node has settled, from the retained times of a log that ends so
unfoldable pub counts_in : List ℕ → LogEnd → List ℕ → List ℕ
counts_in b e times = counts_to b (stamp_in (point (e.points - length times)) times) e (λ x. e.points - length times) (node_count b)

-- these counts stand in front, and none is above the number of points
pub record CountsStand (b : List ℕ) (e : LogEnd) (times counts : List ℕ) : Type 0 where
  pub exact : take (node_count b) counts ≡ counts_in b e times
  pub bounded : Within e.points (take (node_count b) counts)

-- few points and times, few points that the last node has not settled, as many times as the counts ask, and none that falls, nor the latest known time
unfoldable pub times_fit : List ℕ → LogEnd → List ℕ → Bool
times_fit b e times =
    leb e.points most_points && leb (length times) most_times
    && leb (e.points - get_or (counts_in b e times) (last_node b) 0) most_open
    && eqb (length times) (e.points - (first_retained e.points (counts_in b e times)).0) && not_falling (times ++ e.latest.0 ∷ [])

-- few entries, and they are those of the nodes, where each has settled as many points as counts says
unfoldable pub kept_fit : List ℕ → List ℕ → List Entry → ℕ → Bool
kept_fit b counts es count = leb count most_kept && entries_fit b (wanted_from b (λ y. get_or counts y 0)) (λ y. get_or counts y 0) es (node_count b)
