-- What a node's formula says, by the node's view: which points are settled and consulted, and what pairs there are. Each kind has its clause in `viewed`; what goes by the view cites that.
use Prim.Native.Nat.{ℕ, suc, ◌<◌, min}
use native.Mathlib.Omega.{arith}
use mathlib.Core.Path.{◌≡◌, refl, sym}
use mathlib.Core.Bool.{Bool, true, false, ◌&&◌, ◌||◌}
use mathlib.Core.List.Memᴰ
use mathlib.Core.List.{List, [], ◌∷◌, Memᴰ}
use lib.Dec.{ltb, leb, eqb}
use Rattle.meaning.specs.Order.{ascending}
use Rattle.meaning.specs.Log.{Log, size, point_before, point_after}
use Rattle.meaning.specs.Formula.{Formula, free, lowest_of}
use Rattle.meaning.specs.Definition2.{Valuation}
use Rattle.meaning.specs.Evaluator.{cut_to}
use Rattle.meaning.specs.Settled.{settled, settled_since, settled_until}
use Rattle.meaning.specs.View.{view_of}
use Rattle.meaning.specs.RuleFile.{children_of, formula_of}
use Rattle.meaning.specs.Kept.{below_end, counted_age, pairs, consults}
use Rattle.meaning.specs.declared.Point.{Point}
use Rattle.meaning.specs.declared.Window.{Window}
use Rattle.meaning.specs.declared.Node.{Node}
use Rattle.meaning.specs.declared.Node.TheVariants.{Atom, And, AndNot, Keep, Or, Exists, Previous, Next, Since, NotSince, Until, NotUntil, Once, Eventually}
use Rattle.meaning.specs.declared.Children.{Children}
use Rattle.meaning.specs.declared.Children.TheVariants.{None, One, Two}
use Rattle.meaning.specs.declared.Times.{Times}
use Rattle.meaning.specs.declared.Times.TheVariants.{Here, Before, After, Past, Future}
use Rattle.meaning.specs.declared.View.{View}
use Rattle.meaning.proofs.Points.{Tested, passed, failed, tested}
use Rattle.meaning.proofs.Fine.{Fine}
use Rattle.meaning.proofs.Lemma9.{ExactPairs, Aged, since_pairs, not_since_pairs, once_pairs}
use Rattle.meaning.proofs.Settles.{twin}
use Rattle.method.specs.Settle.{has_pairs}
use Rattle.method.specs.Room.{is_previous}

-- how many children a node has; one with none looks at its point, and one with two isn't "previous"
pub data Branches (v : View) : Type 0 where
  none : v.children ≡ None → v.times ≡ Here → Branches v
  single : (a : ℕ) → v.children ≡ One a → Branches v
  double : (a b : ℕ) → v.children ≡ Two a b → is_previous v.times ≡ false → Branches v

-- a point is settled for all children; where there are none, it is there
abbrev pub children_settled : Log → (ℕ → Formula) → Children → Point → Bool
children_settled l F None = λ i. ltb i.0 (size l)
children_settled l F (One a) = settled l (F a)
children_settled l F (Two a b) = twin l (F a) (F b)

-- the test at the point before, if there is one
abbrev pub earlier : (Point → Bool) → Point → Bool
earlier p i = eqb i.0 0 || p (point_before i)

-- point i is settled, by a test of the children
abbrev pub settled_by : Log → (Point → Bool) → Window → Times → Point → Bool
settled_by l p w Here i = p i
settled_by l p w Before i = ltb i.0 (size l) && earlier p i
settled_by l p w After i = p (point_after i)
settled_by l p w Past i = settled_since p i
settled_by l p w Future i = settled_until l w p i

-- point i consults point j of a child
abbrev pub consults_by : Times → Point → Point → Bool
consults_by Here i j = eqb j.0 i.0
consults_by Before i j = eqb (suc j.0) i.0
consults_by After i j = eqb j.0 (suc i.0)
consults_by Past i j = eqb j.0 i.0
consults_by Future i j = leb i.0 j.0

-- until's window has an end
abbrev pub Ended : Window → Times → Type 0
Ended w Here = Unit
Ended w Before = Unit
Ended w After = Unit
Ended w Past = Unit
Ended w Future = 0 < w.end

-- since's pairs: they ascend, and each is an age that counts and a valuation cut down to f
pub record AgedRows (f : ℕ → Bool) (w : Window) (rows : List (List ℕ)) : Type 0 where
  pub ascends : ascending (suc (lowest_of f)) rows ≡ true
  pub each : (p : List ℕ) → Memᴰ p rows → (y : ℕ) × (v : Valuation) × (p ≡ y ∷ cut_to f v) × (below_end w y ≡ true) × (counted_age w y ≡ y)

-- where a node has pairs, and where it has none
abbrev pub PairsBy : (ℕ → Bool) → Window → List (List ℕ) → Bool → Type 0
PairsBy f w rows true = AgedRows f w rows
PairsBy f w rows false = rows ≡ []

-- an age that counts is in range
age_counts : (w : Window) (a y : ℕ) → below_end w a ≡ true → y ≡ counted_age w a → (below_end w y ≡ true) × (counted_age w y ≡ y)
age_counts w a y e h = go (tested (eqb w.end 0))
  where
    go : Tested (eqb w.end 0) → (below_end w y ≡ true) × (counted_age w y ≡ y)
    go (passed z) = let k : y ≡ min a w.start = rw z at h in (rw z, rw z (omega arith))
    go (failed z) = let k : y ≡ a = rw z at h in (rw k e, rw z)

aged_rows : {f : ℕ → Bool} {w : Window} {l : Log} {i : Point} {left right : Valuation → Point → Type 0} {rows : List (List ℕ)} → ExactPairs f (λ y v. Aged l w (left v) (right v) i y) rows → AgedRows f w rows
aged_rows {f} {w} {l} {i} {left} {right} {rows} e = record { ascends = e.ascends; each = one }
  where
    one : (p : List ℕ) → Memᴰ p rows → (y : ℕ) × (v : Valuation) × (p ≡ y ∷ cut_to f v) × (below_end w y ≡ true) × (counted_age w y ≡ y)
    one p m =
        let (y, v, d) = e.cut p m in
        let g : Aged l w (left v) (right v) i y = (e.same y v).0 (Memᴰ.cast (sym d) m) in
        let k = age_counts w _ y g.below g.age in
        (y, v, d, k.0, k.1)

pub record Viewed (F : ℕ → Formula) (n : Node) : Type 0 where
  pub shape : Branches (view_of n)
  pub settles : (l : Log) (i : Point) → settled l (formula_of F n) i ≡ settled_by l (children_settled l F (view_of n).children) (view_of n).window (view_of n).times i
  pub asks : (y : ℕ) → Memᴰ y (children_of n) → (i j : Point) → consults (formula_of F n) i j ≡ consults_by (view_of n).times i j
  pub ended : Fine (formula_of F n) → Ended (view_of n).window (view_of n).times
  pub paired : Fine (formula_of F n) → (l : Log) (i : Point) → PairsBy (free (formula_of F n)) (view_of n).window (pairs l (formula_of F n) i) (has_pairs (view_of n).times)

pub viewed : (F : ℕ → Formula) (n : Node) → Viewed F n
viewed F (Atom r t) = record { shape = none refl refl; settles = λ l i. refl; asks = λ y m i j. absurd (Memᴰ.not-nil m); ended = λ f. tt; paired = λ f l i. refl }
viewed F (And a b) = record { shape = double a b refl refl; settles = λ l i. refl; asks = λ y m i j. refl; ended = λ f. tt; paired = λ f l i. refl }
viewed F (AndNot a b) = record { shape = double a b refl refl; settles = λ l i. refl; asks = λ y m i j. refl; ended = λ f. tt; paired = λ f l i. refl }
viewed F (Keep a c s) = record { shape = single a refl; settles = λ l i. refl; asks = λ y m i j. refl; ended = λ f. tt; paired = λ f l i. refl }
viewed F (Or a b) = record { shape = double a b refl refl; settles = λ l i. refl; asks = λ y m i j. refl; ended = λ f. tt; paired = λ f l i. refl }
viewed F (Exists a x) = record { shape = single a refl; settles = λ l i. refl; asks = λ y m i j. refl; ended = λ f. tt; paired = λ f l i. refl }
viewed F (Previous a w) = record { shape = single a refl; settles = λ l i. refl; asks = λ y m i j. refl; ended = λ f. tt; paired = λ f l i. refl }
viewed F (Next a w) = record { shape = single a refl; settles = λ l i. refl; asks = λ y m i j. refl; ended = λ f. tt; paired = λ f l i. refl }
viewed F (Since a b w) = record { shape = double a b refl refl; settles = λ l i. refl; asks = λ y m i j. refl; ended = λ f. tt; paired = λ f l i. aged_rows (since_pairs l i (F a) (F b) w f) }
viewed F (NotSince a b w) = record { shape = double a b refl refl; settles = λ l i. refl; asks = λ y m i j. refl; ended = λ f. tt; paired = λ f l i. aged_rows (not_since_pairs l i (F a) (F b) w f) }
viewed F (Until a b w) = record { shape = double a b refl refl; settles = λ l i. refl; asks = λ y m i j. refl; ended = λ f. f.3; paired = λ f l i. refl }
viewed F (NotUntil a b w) = record { shape = double a b refl refl; settles = λ l i. refl; asks = λ y m i j. refl; ended = λ f. f.3; paired = λ f l i. refl }
viewed F (Once a w) = record { shape = single a refl; settles = λ l i. refl; asks = λ y m i j. refl; ended = λ f. tt; paired = λ f l i. aged_rows (once_pairs l i (F a) w f) }
viewed F (Eventually a w) = record { shape = single a refl; settles = λ l i. refl; asks = λ y m i j. refl; ended = λ f. f.1; paired = λ f l i. refl }
