-- One node at a newly settled point: its valuations, and the pairs of since, from its children's rows and the pairs that were held before.
use Rattle.std.specs.Prelude.{ℕ, zero, suc, ◌+◌, ◌-◌, min, Bool, true, false, not, cond, ◌&&◌, List, [], ◌∷◌, ◌++◌, map, get_or, drop, ltb, eqb}
use Rattle.meaning.specs.Lists.{all, select, gather}
use Rattle.meaning.specs.Log.{elapsed, point_before, point_after, points_from}
use Rattle.meaning.specs.Formula.{terms_of, in_window, compares, lowest_of}
use Rattle.meaning.specs.Definition2.{value}
use Rattle.meaning.specs.Evaluator.{cut_to, valuation_of, set_of, atom_rows, and_rows, lasting, until_rows}
use Rattle.meaning.specs.LookUp.{look_up, is_there}
use Rattle.meaning.specs.View.{passes}
use Rattle.meaning.specs.Kept.{below_end, counted_age}
use Rattle.meaning.specs.declared.Point.{Point}
use Rattle.meaning.specs.declared.Stamp.{Stamp}
use Rattle.meaning.specs.declared.Window.{Window}
use Rattle.meaning.specs.declared.Children.{Children}
use Rattle.meaning.specs.declared.Children.TheVariants.{None, One, Two}
use Rattle.meaning.specs.declared.Times.{Times}
use Rattle.meaning.specs.declared.Times.TheVariants.{Here, Before, After, Past, Future}
use Rattle.meaning.specs.declared.View.{View}
use Rattle.meaning.specs.declared.Node.{Node}
use Rattle.meaning.specs.declared.Node.TheVariants.{Atom, And, AndNot, Keep, Or, Exists, Previous, Next, Since, NotSince, Until, NotUntil, Once, Eventually}

-- What a node's turn can look at: the free variables, counts and rows of lower nodes, the time stamps, and the rows of the event by relation.
pub record Inputs : Type 0 where
  pub stamps : Point → Stamp
  pub free : ℕ → ℕ → Bool
  pub count : ℕ → ℕ
  pub rows : ℕ → Point → List (List ℕ)
  pub event : ℕ → List (List ℕ)

-- a child's rows at a point, asked for a row cut down to the child's variables
abbrev pub found : Inputs → ℕ → List ℕ → Point → Bool
found v a u k = is_there (look_up (lowest_of (v.free a)) (cut_to (v.free a) (valuation_of u)) (v.rows a k))

-- as many points as the second argument says, from the first back
abbrev pub back_from : Point → ℕ → List Point
back_from i zero = []
back_from i (suc count) = i ∷ back_from (point_before i) count

-- since at point i, from right's rows from point start on, and the pairs that were held at the point before start: each an age and a row
module _ (τ : Point → Stamp) (w : Window) (left : List ℕ → Point → Bool) (right : Point → List (List ℕ)) (held : List (List ℕ)) (start i : Point) where
  -- the points from start on up to i, the last first
  abbrev pub fresh : List Point
  fresh = back_from i (suc i.0 - start.0)

  -- a held pair's age at point i, and whether left has passed for it at every point since
  abbrev pub age_now : List ℕ → ℕ
  age_now p = get_or p 0 0 + cond (eqb start.0 0) 0 (elapsed (τ (point_before start)) (τ i))

  abbrev pub outlasts : List ℕ → Bool
  outlasts p = all (left (drop 1 p)) (points_from start (suc i.0 - start.0))

  -- the rows at point i
  unfoldable pub rows_since : List (List ℕ)
  rows_since =
      gather (lasting left right i) (select (λ j. in_window w (elapsed (τ j) (τ i))) fresh)
      ++ map (drop 1) (select (λ p. in_window w (age_now p) && outlasts p) held)

  -- the pairs at point i
  unfoldable pub pairs_since : List (List ℕ)
  pairs_since =
      gather (λ j. map (λ u. counted_age w (elapsed (τ j) (τ i)) ∷ u) (lasting left right i j)) (select (λ j. below_end w (elapsed (τ j) (τ i))) fresh)
      ++ map (λ p. counted_age w (age_now p) ∷ drop 1 p) (select (λ p. below_end w (age_now p) && outlasts p) held)

-- the rows that node's kind gives at a newly settled point i; the first such point is start, and held are the node's pairs at the point before it
abbrev pub candidates : Inputs → List (List ℕ) → Point → Point → Node → List (List ℕ)
candidates v held start i (Atom r t) = atom_rows (terms_of t) (v.event r)
candidates v held start i (And a b) = and_rows (v.free a) (v.free b) (v.rows a i) (v.rows b i)
candidates v held start i (AndNot a b) = select (λ u. not (found v b u i)) (v.rows a i)
candidates v held start i (Keep a c s) = select (λ u. compares c (value (valuation_of u) s.first) (value (valuation_of u) s.second)) (v.rows a i)
candidates v held start i (Or a b) = v.rows a i ++ v.rows b i
candidates v held start i (Exists a x) = map (λ u. cut_to (λ y. not (eqb y x)) (valuation_of u)) (v.rows a i)
candidates v held start i (Previous a w) = cond (ltb 0 i.0 && in_window w (elapsed (v.stamps (point_before i)) (v.stamps i))) (v.rows a (point_before i)) []
candidates v held start i (Next a w) = cond (in_window w (elapsed (v.stamps i) (v.stamps (point_after i)))) (v.rows a (point_after i)) []
candidates v held start i (Since a b w) = rows_since v.stamps w (found v a) (v.rows b) held start i
candidates v held start i (NotSince a b w) = rows_since v.stamps w (λ u k. not (found v a u k)) (v.rows b) held start i
candidates v held start i (Until a b w) = until_rows v.stamps (min (v.count a) (v.count b)) w (found v a) (v.rows b) i
candidates v held start i (NotUntil a b w) = until_rows v.stamps (min (v.count a) (v.count b)) w (λ u k. not (found v a u k)) (v.rows b) i
candidates v held start i (Once a w) = rows_since v.stamps w (λ u k. true) (v.rows a) held start i
candidates v held start i (Eventually a w) = until_rows v.stamps (v.count a) w (λ u k. true) (v.rows a) i

-- the valuations there, of a node with this lowest free variable
unfoldable pub settle : Inputs → ℕ → List (List ℕ) → Point → Point → Node → List (List ℕ)
settle v lowest held start i node = set_of lowest (candidates v held start i node)

-- left and right of since and until; where there is one child, it is right, and nothing is asked of left
abbrev pub left_of : Children → ℕ
left_of None = 0
left_of (One a) = a
left_of (Two a b) = a

abbrev pub right_of : Children → ℕ
right_of None = 0
right_of (One a) = a
right_of (Two a b) = b

-- only since has pairs
abbrev pub has_pairs : Times → Bool
has_pairs Here = false
has_pairs Before = false
has_pairs After = false
has_pairs Past = true
has_pairs Future = false

-- the pairs there
abbrev pub pairs_after : Inputs → ℕ → List (List ℕ) → Point → Point → View → List (List ℕ)
pairs_after v lowest held start i node =
    cond (has_pairs node.times) (set_of (suc lowest) (pairs_since v.stamps node.window (λ u k. passes node.left (found v (left_of node.children) u k)) (v.rows (right_of node.children)) held start i)) []

-- What a node's turn gives: its rows from point low on, and its pairs at its last settled point.
pub record Turn : Type 0 where
  pub low : Point
  pub rows : List (List (List ℕ))
  pub pairs : List (List ℕ)

abbrev pub rows_of_turn : Turn → Point → List (List ℕ)
rows_of_turn t j = get_or t.rows (j.0 - t.low.0) []
