-- "What is kept": the entries that a rule keeps of a log, each with its owner, and the figure `open`.
use Rattle.std.specs.Prelude.{ℕ, suc, ◌+◌, ◌-◌, min, Bool, true, false, not, cond, ◌&&◌, ◌||◌, List, [], ◌∷◌, ◌++◌, map, length, get_or, drop, ltb, leb, eqb}
use Rattle.meaning.specs.Lists.{any, range, select, first_or, gather}
use Rattle.meaning.specs.Log.{Log, point, time, elapsed, points_from, points_of}
use Rattle.meaning.specs.Formula.{Formula, atom, and, and_not, keep, or, exists, previous, next, since, not_since, until, not_until, once, eventually, free, lowest_of}
use Rattle.meaning.specs.Evaluator.{set_of, lasting, among, vals}
use Rattle.meaning.specs.Settled.{settled, settled_count}
use Rattle.meaning.specs.RuleFile.{node_count, node_at, children_of, formula_at, last_node, pattern, is_one_of}
use Rattle.meaning.specs.declared.Point.{Point}
use Rattle.meaning.specs.declared.Stamp.{Stamp}
use Rattle.meaning.specs.declared.Window.{Window}

-- Lemma 9(i): the age y = τi − τj is below d
abbrev pub below_end : Window → ℕ → Bool
below_end w age = eqb w.end 0 || ltb age w.end

-- "where the window has no end, an age above c counts as c"
abbrev pub counted_age : Window → ℕ → ℕ
counted_age w age = cond (eqb w.end 0) (min age w.start) age

-- "the distinct pairs (valuation, age) that Lemma 9(i) of document 003 gives": each as its age and then its row, so that they ascend by age first, and with one age stand in the order of valuations
abbrev pub pair_rows : (Point → Stamp) → Window → (List ℕ → Point → Bool) → (Point → List (List ℕ)) → Point → List (List ℕ)
pair_rows τ w left right i =
    gather (λ j. map (λ u. counted_age w (elapsed (τ j) (τ i)) ∷ u) (lasting left right i j))
    (select (λ j. below_end w (elapsed (τ j) (τ i))) (points_from (point 0) (suc i.0)))

-- "left denied for 10 and true for 13"
abbrev pub pairs : Log → Formula → Point → List (List ℕ)
pairs l (atom r ts) i = []
pairs l (and a b) i = []
pairs l (and_not a b) i = []
pairs l (keep a c s t) i = []
pairs l (or a b) i = []
pairs l (exists a x) i = []
pairs l (previous a w) i = []
pairs l (next a w) i = []
pairs l (since a b w) i = set_of (suc (lowest_of (free (since a b w)))) (pair_rows (time l) w (among (free a) (vals l a)) (vals l b) i)
pairs l (not_since a b w) i = set_of (suc (lowest_of (free (not_since a b w)))) (pair_rows (time l) w (λ u k. not (among (free a) (vals l a) u k)) (vals l b) i)
pairs l (until a b w) i = []
pairs l (not_until a b w) i = []
pairs l (once a w) i = set_of (suc (lowest_of (free (once a w)))) (pair_rows (time l) w (λ u k. true) (vals l a) i)
pairs l (eventually a w) i = []

-- "with i its last settled point"; before any settled point there are none
unfoldable pub last_pairs : Log → Formula → List (List ℕ)
last_pairs l φ = cond (eqb (settled_count l φ) 0) [] (pairs l φ (point (settled_count l φ - 1)))

-- the point j of a child that a point i of its parent consults: "which is i; i−1 for previous; i+1 for next; every j ≥ i for 11, 12 and 14"
abbrev pub consults : Formula → Point → Point → Bool
consults (atom r ts) i j = false
consults (and a b) i j = eqb j.0 i.0
consults (and_not a b) i j = eqb j.0 i.0
consults (keep a c s t) i j = eqb j.0 i.0
consults (or a b) i j = eqb j.0 i.0
consults (exists a x) i j = eqb j.0 i.0
consults (previous a w) i j = eqb (suc j.0) i.0
consults (next a w) i j = eqb j.0 (suc i.0)
consults (since a b w) i j = eqb j.0 i.0
consults (not_since a b w) i j = eqb j.0 i.0
consults (until a b w) i j = leb i.0 j.0
consults (not_until a b w) i j = leb i.0 j.0
consults (once a w) i j = eqb j.0 i.0
consults (eventually a w) i j = leb i.0 j.0

-- "that an unsettled or future point i of its parent consults": none above j + 1 consults j
unfoldable pub consulted : Log → Formula → Point → Bool
consulted l parent j = any (λ i. not (settled l parent (point i)) && consults parent (point i) j) (range 0 (j.0 + 2))

-- An entry and its owner: a node, and 0 for a point or 1 for an age, and that number.
pub record Entry : Type 0 where
  pub node : ℕ
  pub mark : ℕ
  pub number : ℕ
  pub values : List ℕ

abbrev pub entry_of : ℕ → ℕ → ℕ → List ℕ → Entry
entry_of x mark number values = record { node = x; mark = mark; number = number; values = values }

-- the node that has x as a child
unfoldable pub parent_of : List ℕ → ℕ → ℕ
parent_of b x = first_or (λ y. is_one_of (children_of (node_at b y)) x) (range 0 (node_count b)) 0

-- "its valuations at each settled point that an unsettled or future point i of its parent consults"
unfoldable pub point_entries : List ℕ → Log → ℕ → List Entry
point_entries b l x =
    gather (λ j. map (entry_of x 0 j.0) (vals l (formula_at b x) j))
    (select (λ j. settled l (formula_at b x) j && consulted l (formula_at b (parent_of b x)) j) (points_of l))

unfoldable pub age_entries : List ℕ → Log → ℕ → List Entry
age_entries b l x = map (λ p. entry_of x 1 (get_or p 0 0) (drop 1 p)) (last_pairs l (formula_at b x))

-- the entries of node x: "For each other-than-last node" its valuations, and its pairs
unfoldable pub entries_of : List ℕ → Log → ℕ → List Entry
entries_of b l x = cond (eqb x (last_node b)) [] (point_entries b l x) ++ age_entries b l x

unfoldable pub entries : List ℕ → Log → List Entry
entries b l = gather (entries_of b l) (range 0 (node_count b))

-- "Kept is the sum of these sizes"
unfoldable pub kept : List ℕ → Log → ℕ
kept b l = length (entries b l)

-- "`open` counts accepted points not settled"
unfoldable pub open_points : List ℕ → Log → ℕ
open_points b l = length (select (λ i. not (settled l (pattern b) i)) (points_of l))
