-- The tests of a point and of left that until makes, over a node's sets, and where these sets stand.
use Rattle.std.specs.Prelude.{ℕ, ◌+◌, ◌-◌, ◌≤◌, ◌<◌, ◌≡◌, Bool, not, List}
use Rattle.meaning.specs.Lists.{all}
use Rattle.meaning.specs.Log.{elapsed, points_from}
use Rattle.meaning.specs.Formula.{in_window}
use Rattle.meaning.specs.Evaluator.{cut_to, valuation_of}
use Rattle.meaning.specs.LookUp.{look_up, is_there}
use Rattle.meaning.specs.declared.Point.{Point}
use Rattle.meaning.specs.declared.Stamp.{Stamp}
use Rattle.meaning.specs.declared.Window.{Window}
use Rattle.meaning.specs.View.{passes}
use Rattle.meaning.specs.declared.Left.{Left}
use Rattle.kinds.specs.Kinds.{in_mask}
use Rattle.room.specs.Room.{SetsInOrder}
use Rattle.room.specs.declared.Child.{Child}
use Rattle.room.specs.declared.CallSets.{CallSets}
use Rattle.room.specs.declared.Operands.{Operands}

-- the window holds what has elapsed from a stamp to point j's
abbrev pub due_at : (Point → Stamp) → Window → Stamp → Point → Bool
due_at τ w start j = in_window w (elapsed start (τ j))

-- the points from j on before r pass a test as is wanted, and r doesn't, or is m
pub record DueRun (p : Point → Bool) (j : Point) (m : ℕ) (want : Bool) (r : Point) : Type 0 where
  pub begun : j.0 ≤ r.0
  pub reached : r.0 ≤ m
  pub passes : (k : Point) → j.0 ≤ k.0 → k.0 < r.0 → p k ≡ want
  pub stops : r.0 < m → p r ≡ not want

-- left, which has this lowest free variable, passes at point k for a row that is cut down already
abbrev pub passes_at : Left → ℕ → (Point → List (List ℕ)) → List ℕ → Point → Bool
passes_at l lowest sets r k = passes l (is_there (look_up lowest r (sets k)))

-- left's test of row u at a point, over left's sets, where a has left's variables
abbrev pub left_test : Left → Child → (Point → List (List ℕ)) → List ℕ → Point → Bool
left_test l a sets u = passes_at l a.lowest sets (cut_to (in_mask a.mask) (valuation_of u))

-- left's test of row u passes at every point from i on before j
abbrev pub leads : Left → Child → (Point → List (List ℕ)) → Point → Point → List ℕ → Bool
leads l a sets i j u = all (left_test l a sets u) (points_from i (j.0 - i.0))

-- a node's sets at the points from i on before m stand in the words, where set `first` is its set at point `low`
pub record Stand (rows at : List ℕ) (first : ℕ) (low i : Point) (m : ℕ) : Type 0 where
  pub low_most : low.0 ≤ i.0
  pub ordered : i.0 ≤ m
  pub laid : SetsInOrder rows at (first + (m - low.0))

-- the same of a child's sets
abbrev pub Stands : CallSets → Child → Point → ℕ → Type 0
Stands s c i m = Stand s.rows.now s.at.now c.first c.low i m

-- the same of both children's, where the points are numbers of a word
pub record BothStand (s : CallSets) (of : Operands) (i : Point) (m : ℕ) : Type 0 where
  pub left : Stands s of.left i m
  pub right : Stands s of.right i m
  pub word : m < 4294967296
