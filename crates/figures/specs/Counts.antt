-- The figures of a call, as they stand in slices.
use Rattle.std.specs.Prelude.{ℕ, ◌+◌, ◌-◌, ◌≤◌, ◌<◌, ◌≡◌, List, [], ◌∷◌, ◌++◌, length, get_or, take}
use Rattle.meaning.specs.Outcome.{given, most_points}
use Rattle.meaning.specs.RuleFile.{Accepted, checking, node_count}
use Rattle.meaning.specs.declared.LogEnd.{LogEnd}
use Rattle.method.specs.Stored.{Stored, first_retained}
use Rattle.method.specs.Step.{wanted_from, counts_stored, counts_after, count_after}
use Rattle.method.specs.WellFormed.{most_times}

-- what is stored but for the entries, on which no count depends
abbrev pub bare : List ℕ → LogEnd → List ℕ → Stored
bare b e times = record { rule = b; points = e.points; latest = e.latest; times = times; entries = [] }

-- what the counts of a call start from
pub record Counting (s : Stored) (before : List ℕ) : Type 0 where
  pub accepted : (a : Accepted) × (checking s.rule ≡ given a)
  pub few_points : s.points ≤ most_points
  pub few_times : length s.times ≤ most_times
  pub times_many : length s.times ≡ s.points - (first_retained s.points (counts_stored s)).0
  pub counts : before ≡ counts_stored s

-- the retained times with that of what is fed behind them, how many points each node has settled after the call, and from which point on its rows are then kept
pub record Figured (s : Stored) (w stamps after wants : List ℕ) : Type 0 where
  pub times_now : take (length s.times + 1) stamps ≡ s.times ++ get_or w 0 0 ∷ []
  pub counts_now : take (node_count s.rule) after ≡ counts_after s w
  pub wants_now : (x : ℕ) → x < node_count s.rule → get_or wants x 0 ≡ (wanted_from s.rule (count_after s w) x).0
