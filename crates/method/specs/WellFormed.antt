-- When what is stored is well formed: the conditions of refusal 8, as docs/STATE.md lists them. What a log stores is so (proofs/Reached.antt).
use Rattle.std.specs.Prelude.{ℕ, suc, ◌+◌, ◌-◌, ◌≤◌, ◌<◌, ◌≡◌, Bool, true, false, cond, ◌&&◌, List, [], ◌∷◌, ◌++◌, map, length, get_or, drop}
use lib.Dec.{leb, eqb}
use Rattle.meaning.specs.Lists.{all, range, gather, same_row}
use Rattle.meaning.specs.Outcome.{given, most_points, most_rows, most_open, most_kept}
use Rattle.meaning.specs.Order.{ascending}
use Rattle.meaning.specs.Log.{points_from}
use Rattle.meaning.specs.Formula.{free, lowest_of}
use Rattle.meaning.specs.Evaluator.{cut_to, valuation_of}
use Rattle.meaning.specs.View.{view_of}
use Rattle.meaning.specs.RuleFile.{Accepted, checking, node_count, node_at, formula_at, is_accepted}
use Rattle.meaning.specs.Kept.{below_end, counted_age, Entry, entry_of}
use Rattle.meaning.specs.declared.Point.{Point}
use Rattle.meaning.specs.declared.Window.{Window}
use Rattle.meaning.specs.declared.View.{View}
use Rattle.method.specs.Stored.{Stored, held, held_pairs, first_retained}
use Rattle.method.specs.Settle.{has_pairs}
use Rattle.method.specs.Step.{wanted_from, counts_stored, count_before, open_stored}

-- times at most: 32 open points, one more for each step down the tree, and the last that all nodes have settled
abbrev pub most_times : ℕ
most_times = 64

-- the words for them: one more is at hand in a call
abbrev pub time_words : ℕ
time_words = most_times + 1

-- each number is at most the next
abbrev pub not_falling : List ℕ → Bool
not_falling [] = true
not_falling (t ∷ []) = true
not_falling (t ∷ u ∷ ts) = leb t u && not_falling (u ∷ ts)

abbrev pub same_entry : Entry → Entry → Bool
same_entry e f = eqb e.node f.node && eqb e.mark f.mark && eqb e.number f.number && same_row e.values f.values

abbrev pub same_entries : List Entry → List Entry → Bool
same_entries [] [] = true
same_entries [] (f ∷ fs) = false
same_entries (e ∷ es) [] = false
same_entries (e ∷ es) (f ∷ fs) = same_entry e f && same_entries es fs

-- the row is 0 at variables that aren't free in node x
abbrev pub row_of_node : List ℕ → ℕ → List ℕ → Bool
row_of_node b x u = same_row u (cut_to (free (formula_at b x)) (valuation_of u))

-- the rows of node x at a point: at most 32, strictly ascending in the order of its valuations
abbrev pub set_fits : List ℕ → ℕ → List (List ℕ) → Bool
set_fits b x rows = leb (length rows) most_rows && ascending (lowest_of (free (formula_at b x))) rows && all (row_of_node b x) rows

-- a pair of a node with a window: an age and a row; the age is below the end, and with no end at most the start
abbrev pub pair_fits : List ℕ → ℕ → Window → List ℕ → Bool
pair_fits b x w p = below_end w (get_or p 0 0) && eqb (counted_age w (get_or p 0 0)) (get_or p 0 0) && row_of_node b x (drop 1 p)

-- pairs are strictly ascending, by age and then in the order of valuations, and only kinds 9, 10 and 13 have any
abbrev pub pairs_fit : List ℕ → ℕ → View → List (List ℕ) → Bool
pairs_fit b x v ps = cond (has_pairs v.times) (ascending (suc (lowest_of (free (formula_at b x)))) ps && all (pair_fits b x v.window) ps) (eqb (length ps) 0)

module _ (s : Stored) where
  -- the entries of node x, in their order: its rows at each point that is still consulted, and its pairs
  unfoldable pub own_entries : ℕ → List Entry
  own_entries x =
      gather (λ j. map (entry_of x 0 j.0) (held s.entries x j)) (points_from (wanted_from s.rule (count_before s) x) (count_before s x - (wanted_from s.rule (count_before s) x).0))
      ++ map (λ p. entry_of x 1 (get_or p 0 0) (drop 1 p)) (held_pairs s.entries x)

  unfoldable pub node_fits : ℕ → Bool
  node_fits x =
      all (λ j. set_fits s.rule x (held s.entries x j)) (points_from (wanted_from s.rule (count_before s) x) (count_before s x - (wanted_from s.rule (count_before s) x).0))
      && pairs_fit s.rule x (view_of (node_at s.rule x)) (held_pairs s.entries x)

  unfoldable pub well_formed : Bool
  unfolding own_entries node_fits
  well_formed =
      is_accepted (checking s.rule)
      && leb s.points most_points
      && leb (length s.times) most_times
      && leb (open_stored s) most_open
      && eqb (length s.times) (s.points - (first_retained s.points (counts_stored s)).0)
      && not_falling (s.times ++ s.latest.0 ∷ [])
      && leb (length s.entries) most_kept
      && same_entries s.entries (gather own_entries (range 0 (node_count s.rule)))
      && all node_fits (range 0 (node_count s.rule))

-- what the parts say of a stored state
pub record Formed (s : Stored) : Type 0 where
  pub accepted : (a : Accepted) × (checking s.rule ≡ given a)
  pub few_points : s.points ≤ most_points
  pub few_times : length s.times ≤ most_times
  pub few_open : open_stored s ≤ most_open
  pub times_many : length s.times ≡ s.points - (first_retained s.points (counts_stored s)).0
  pub rising : not_falling (s.times ++ s.latest.0 ∷ []) ≡ true
  pub few_kept : length s.entries ≤ most_kept
  pub entries_own : s.entries ≡ gather (own_entries s) (range 0 (node_count s.rule))
  pub nodes_fit : (x : ℕ) → x < node_count s.rule → node_fits s x ≡ true
  pub sets_few : (x : ℕ) → x < node_count s.rule → (j : Point) → (wanted_from s.rule (count_before s) x).0 ≤ j.0 → j.0 < count_before s x → length (held s.entries x j) ≤ most_rows
