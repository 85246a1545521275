-- The figures of a call's nodes in one slice, nine words to a node, and what is stored as a call begins.
use Rattle.std.specs.Prelude.{ℕ, ◌+◌, ◌-◌, ◌*◌, ◌≤◌, ◌<◌, ◌≡◌, List, [], ◌∷◌, ◌++◌, length, get_or, take}
use Rattle.meaning.specs.Outcome.{most_points}
use Rattle.meaning.specs.Formula.{free}
use Rattle.meaning.specs.RuleFile.{node_count, formula_at}
use Rattle.meaning.specs.declared.LogEnd.{LogEnd}
use Rattle.method.specs.Stored.{Stored, held, held_pairs}
use Rattle.method.specs.Step.{points_added, wanted_from, count_before, count_after}
use Rattle.method.specs.WellFormed.{Formed}
use Rattle.method.specs.Room.{others_in}
use Rattle.kinds.specs.Kinds.{in_mask, EventThere}
use Rattle.entries.specs.Entries.{entries_from}
use Rattle.node_sets.specs.NodeEntries.{set_entries, aged_entries}

-- the words of a node's figures
abbrev pub node_words : ℕ
node_words = 9

abbrev pub figure : List ℕ → ℕ → ℕ → ℕ
figure f x k = get_or f (x * node_words + k) 0

-- the mask of its free variables
abbrev pub mask_in : List ℕ → ℕ → ℕ
mask_in f x = figure f x 0

-- the point of its first set
abbrev pub low_in : List ℕ → ℕ → ℕ
low_in f x = figure f x 1

-- how many points it had settled, and has settled now
abbrev pub before_in : List ℕ → ℕ → ℕ
before_in f x = figure f x 2

abbrev pub after_in : List ℕ → ℕ → ℕ
after_in f x = figure f x 3

-- the point from which on its rows are then kept
abbrev pub want_in : List ℕ → ℕ → ℕ
want_in f x = figure f x 4

-- where its entries begin, and its pairs among them, and the entry behind them
abbrev pub begin_in : List ℕ → ℕ → ℕ
begin_in f x = figure f x 5

abbrev pub pairs_in : List ℕ → ℕ → ℕ
pairs_in f x = figure f x 6

abbrev pub end_in : List ℕ → ℕ → ℕ
end_in f x = figure f x 7

-- the nodes of its tree that aren't "previous"
abbrev pub weight_in : List ℕ → ℕ → ℕ
weight_in f x = figure f x 8

-- what is stored as a call begins: where the log ended, the times before that of what is fed, which is the last stamp, and all entries that stand in os, ns and vs
abbrev pub called : List ℕ → LogEnd → List ℕ → List ℕ → List ℕ → List ℕ → Stored
called b e stamps os ns vs = record { rule = b; points = e.points; latest = e.latest; times = take (length stamps - 1) stamps; entries = entries_from os ns vs 0 (length os) }

-- the figures of node x
pub record NodeFigures (s : Stored) (w os ns vs f : List ℕ) (x : ℕ) : Type 0 where
  pub mask : (v : ℕ) → v < 4 → in_mask (mask_in f x) v ≡ free (formula_at s.rule x) v
  pub mask_small : mask_in f x < 256
  pub low : low_in f x ≡ (wanted_from s.rule (count_before s) x).0
  pub before : before_in f x ≡ count_before s x
  pub after : after_in f x ≡ count_after s w x
  pub want : want_in f x ≡ (wanted_from s.rule (count_after s w) x).0
  pub weight : weight_in f x ≡ others_in s.rule x
  pub sets_first : begin_in f x ≤ pairs_in f x
  pub pairs_last : pairs_in f x ≤ end_in f x
  pub within : end_in f x ≤ length os
  pub sets :
      entries_from os ns vs (begin_in f x) (pairs_in f x - begin_in f x)
      ≡ set_entries x (held s.entries x) (wanted_from s.rule (count_before s) x) (count_before s x - (wanted_from s.rule (count_before s) x).0)
  pub pairs : entries_from os ns vs (pairs_in f x) (end_in f x - pairs_in f x) ≡ aged_entries x (held_pairs s.entries x)

-- what holds as a call with the words w goes through the nodes: a well-formed state, an event that 9 to 12 don't refuse or a notice, and the figures of all nodes
pub record CallReady (s : Stored) (w os ns vs stamps f : List ℕ) : Type 0 where
  pub formed : Formed s
  pub event : EventThere w
  pub not_full : s.points + points_added w ≤ most_points
  pub stamps_are_now : stamps ≡ s.times ++ get_or w 0 0 ∷ []
  pub entries_are : s.entries ≡ entries_from os ns vs 0 (length os)
  pub numbers_are_there : length os ≤ length ns
  pub values_are_there : length os * 4 ≤ length vs
  pub figures_there : node_count s.rule * node_words ≤ length f
  pub each : (x : ℕ) → x < node_count s.rule → NodeFigures s w os ns vs f x
