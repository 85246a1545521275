-- How much room a walk over the rule's tree takes. Children are walked before their parent, of two the heavier first; a node's sets stand until its parent has made its own from them, and are dropped then.
use Rattle.std.specs.Prelude.{ℕ, zero, suc, ◌+◌, ◌-◌, ◌*◌, ◌^◌, ◌≤◌, ◌<◌, max, Bool, true, false, not, cond, List, [], ◌∷◌, map, length, ltb}
use Rattle.meaning.specs.Lists.{gather, total}
use Rattle.meaning.specs.Log.{points_from}
use Rattle.meaning.specs.Outcome.{most_rows, most_open, most_kept}
use Rattle.meaning.specs.View.{view_of}
use Rattle.meaning.specs.RuleFile.{node_count, node_at, children_of, last_node, one_if}
use Rattle.meaning.specs.declared.Times.{Times}
use Rattle.meaning.specs.declared.Times.TheVariants.{Here, Before, After, Past, Future}
use Rattle.method.specs.Stored.{Stored, held}
use Rattle.method.specs.Step.{wanted_from, count_before, count_after}

-- a node's figure, made from its children's, so many nodes deep; in an accepted rule children are lower, so that x + 1 deep is all of node x
abbrev pub made_within : ((ℕ → ℕ) → ℕ → ℕ) → ℕ → ℕ → ℕ
made_within make zero x = 0
made_within make (suc depth) x = make (made_within make depth) x

-- a figure of a whole tree: its nodes' own figures, added up
unfoldable pub weight : List ℕ → (ℕ → ℕ) → ℕ → ℕ
weight b own x = made_within (λ below y. own y + total (map below (children_of (node_at b y)))) (suc x) x

-- only "previous" looks at the point before
abbrev pub is_previous : Times → Bool
is_previous Here = false
is_previous Before = true
is_previous After = false
is_previous Past = false
is_previous Future = false

abbrev pub previous_at : List ℕ → ℕ → ℕ
previous_at b x = one_if (is_previous (view_of (node_at b x)).times)

abbrev pub other_at : List ℕ → ℕ → ℕ
other_at b x = one_if (not (is_previous (view_of (node_at b x)).times))

-- how many nodes of a tree are "previous", and how many are others. Each "previous" adds a point to what the nodes below it newly settle, and none to the number of nodes whose sets stand at once; so they are counted apart.
abbrev pub previous_in : List ℕ → ℕ → ℕ
previous_in b = weight b (previous_at b)

abbrev pub others_in : List ℕ → ℕ → ℕ
others_in b = weight b (other_at b)

-- of two children the heavier is the one with more others in its tree, the left where they have as many
abbrev pub left_lighter : List ℕ → ℕ → ℕ → Bool
left_lighter b left right = ltb (others_in b left) (others_in b right)

abbrev pub heavier : List ℕ → ℕ → ℕ → ℕ
heavier b left right = cond (left_lighter b left right) right left

abbrev pub lighter : List ℕ → ℕ → ℕ → ℕ
lighter b left right = cond (left_lighter b left right) left right

module _ (b : List ℕ) (size : ℕ → ℕ) where
  -- the most of: the first child's tree; its sets while the second's tree is walked; the sets of both with node x's own
  abbrev pub need_of_two : (ℕ → ℕ) → ℕ → ℕ → ℕ → ℕ
  need_of_two below x first second = max (below first) (max (size first + below second) (size first + size second + size x))

  -- the room of node x's tree, from the room of its children's trees; no node has more than two
  abbrev pub need_of : (ℕ → ℕ) → ℕ → List ℕ → ℕ
  need_of below x [] = size x
  need_of below x (a ∷ []) = max (below a) (size a + size x)
  need_of below x (a ∷ c ∷ cs) = need_of_two below x (heavier b a c) (lighter b a c)

  -- the room that the walk of node x's tree takes, where the sets of each node y take size y
  unfoldable pub need : ℕ → ℕ
  need x = made_within (λ below y. need_of below y (children_of (node_at b y))) (suc x) x

-- One call on what is stored, with the words of what is fed. "How much room a call needs is known from times alone, before any valuation"
module _ (s : Stored) (w : List ℕ) where
  -- how many points node x newly settles, and so has new sets
  abbrev pub new_points : ℕ → ℕ
  new_points x = count_after s w x - count_before s x

  -- the rows that are kept of it
  abbrev pub kept_rows : ℕ → List (List ℕ)
  kept_rows x = gather (held s.entries x) (points_from (wanted_from s.rule (count_before s) x) (count_before s x - (wanted_from s.rule (count_before s) x).0))

  -- its rows at most: those that are kept, and 32 in each new set
  abbrev pub rows_most : ℕ → ℕ
  rows_most x = length (kept_rows x) + most_rows * new_points x

  -- how many sets it has: at the points from which on its rows are kept, and at the new ones
  abbrev pub sets_most : ℕ → ℕ
  sets_most x = count_after s w x - (wanted_from s.rule (count_before s) x).0

  -- the room that the call takes, in sets and in rows
  abbrev pub sets_needed : ℕ
  sets_needed = need s.rule new_points (last_node s.rule)

  abbrev pub rows_needed : ℕ
  rows_needed = need s.rule rows_most (last_node s.rule)

  -- the marks that it takes, one for each set that stands
  abbrev pub marks_needed : ℕ
  marks_needed = need s.rule sets_most (last_node s.rule)

  -- no node newly settles more than so many points
  abbrev pub SettlesAtMost : ℕ → Type 0
  SettlesAtMost most = (x : ℕ) → x < node_count s.rule → new_points x ≤ most

-- the largest room, in sets: five times 33 + 17, where 17 of 32 nodes are "previous"
abbrev pub most_sets : ℕ
most_sets = 250

-- and in marks: six for each time, of which there are 65 at most
abbrev pub marks_to_time : ℕ
marks_to_time = 6

abbrev pub most_marks : ℕ
most_marks = 390

-- "That the largest room is enough for every well-formed state is proved": what is claimed of a call
pub record RoomEnough (s : Stored) (w : List ℕ) : Type 0 where
  -- the points that may be open, the new one, and one for each "previous"
  pub points : SettlesAtMost s w (most_open + 1 + previous_in s.rule (last_node s.rule))
  -- where each node has at most so many new sets, m times as many are room for fewer than 2 ^ m - 1 others: twice for up to 2 of them, three times for 6, four times for 14, five times for 30, six times for 62
  pub by_points : (most m : ℕ) → SettlesAtMost s w most → others_in s.rule (last_node s.rule) + 1 < 2 ^ m → sets_needed s w ≤ m * most
  pub calm : SettlesAtMost s w 1 → sets_needed s w ≤ 6
  pub sets : sets_needed s w ≤ most_sets
  pub rows : rows_needed s w ≤ most_kept + most_rows * most_sets
  -- a node has no more sets than there are retained times and the new one; for 32 nodes six times as many
  pub by_times : marks_needed s w ≤ marks_to_time * (length s.times + 1)
  pub marks : marks_needed s w ≤ most_marks
