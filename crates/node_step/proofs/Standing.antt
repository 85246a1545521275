-- What stands at a newly settled point: from where its children's sets are to what the node asks for.
use Prim.Native.Nat.{ℕ, ◌+◌, ◌-◌, ◌≤◌, ◌<◌}
use native.Mathlib.Omega.{arith}
use mathlib.Core.Path.{◌≡◌}
use mathlib.Core.Bool.{true}
use mathlib.Core.List.{List, [], ◌∷◌, Memᴰ}
use lib.ListN.{length}
use Rattle.meaning.specs.Formula.{free, lowest_of}
use Rattle.meaning.specs.Log.{point, point_before}
use Rattle.meaning.specs.View.{view_of, children_in}
use Rattle.meaning.specs.RuleFile.{formula_at, arity, children_of}
use Rattle.meaning.specs.declared.Point.{Point}
use Rattle.meaning.specs.declared.Terms.{Terms}
use Rattle.meaning.specs.declared.Node.{Node}
use Rattle.meaning.specs.declared.Node.TheVariants.{Atom}
use Rattle.meaning.specs.declared.Children.{Children}
use Rattle.meaning.specs.declared.Children.TheVariants.{None, One, Two}
use Rattle.meaning.specs.declared.Times.{Times}
use Rattle.meaning.specs.declared.Times.TheVariants.{Here, Before, After, Past, Future}
use Rattle.method.specs.Counts.{ConsultsBy, Consults}
use Rattle.method.specs.Step.{first_wanted}
use Rattle.method.specs.WellFormed.{pairs_fit}
use Rattle.method.proofs.Inputs.{one, two}
use Rattle.method.proofs.Rowed.{pairs_each}
use Rattle.kinds.specs.Kinds.{EventThere, PairsThere}
use Rattle.room.specs.Room.{SetsInOrder}
use Rattle.room.specs.declared.Child.{Child}
use Rattle.room.proofs.SetsInOrder.{laid_fewer}
use Rattle.untils.specs.Until.{Stand}
use Rattle.since.specs.Since.{held_in}
use Rattle.settling.specs.Inputs.{ChildThere, ChildrenThere, asked}

-- a child that has settled count points has its sets among the first n, from a point on that is at most `wanted`
pub record Reaches (n wanted count : ℕ) (c : Child) : Type 0 where
  pub sets : c.first + (c.count - c.low.0) ≤ n
  pub consulted : c.low.0 ≤ wanted
  pub counted : c.count ≡ count

-- the same of a node's children, of which there are none, one or two
abbrev pub ChildrenReach : ℕ → ℕ → (ℕ → ℕ) → List ℕ → Child → Child → Type 0
ChildrenReach n wanted counts [] left right = Unit
ChildrenReach n wanted counts (y ∷ []) left right = Reaches n wanted (counts y) left
ChildrenReach n wanted counts (y ∷ z ∷ zs) left right = Reaches n wanted (counts y) left × Reaches n wanted (counts z) right

module _ {rows at : List ℕ} {n wanted count : ℕ} {c : Child} (laid : SetsInOrder rows at n) (h : Reaches n wanted count c) where
  child_stands : (j : Point) (k : ℕ) → wanted ≤ j.0 → j.0 ≤ k → k ≤ count → Stand rows at c.first c.low j k
  child_stands j k l o u =
      let d = h.consulted in
      let e = h.counted in
      record { low_most = omega arith; ordered = o; laid = laid_fewer laid (c.first + (k - c.low.0)) (omega (arith, h.sets)) }

  child_at : (j : Point) → wanted ≤ j.0 → j.0 < count → Stand rows at c.first c.low j (j.0 + 1)
  child_at j l o = child_stands j (j.0 + 1) l (omega arith) (omega arith)

module _ (b w : List ℕ) {rows at : List ℕ} (old_ages old_values : List ℕ) (left right : Child) (start i : Point) {n : ℕ} (counts : ℕ → ℕ)
    (laid : SetsInOrder rows at n) (pairs : PairsThere old_ages old_values (length old_ages)) (event : EventThere w) (l : start.0 ≤ i.0) where
  -- a child's sets, as the node's times look at them
  child_there : (t : Times) {count : ℕ} {c : Child} → Reaches n (first_wanted t start.0).0 count c → ConsultsBy count i t → ChildThere rows at start i t c
  child_there Here r u = record { sets = child_at laid r i l u; settled = omega (arith, r.counted) }
  child_there Before r u = record { sets = λ o. child_at laid r (point_before i) (omega arith) (u o); settled = λ o. omega (arith, r.counted, u o) }
  child_there After r u = record { sets = child_at laid r (point (i.0 + 1)) (omega arith) u; settled = omega (arith, r.counted) }
  child_there Past r u = record { sets = child_stands laid r start (i.0 + 1) (omega arith) (omega arith) (omega arith); settled = omega (arith, r.counted) }
  child_there Future {count} {c} r u = record { sets = child_stands laid r i c.count l (omega (arith, r.counted)) (omega (arith, r.counted)); settled = omega (arith, r.counted) }

  children_there : (t : Times) (cs : Children) → ChildrenReach n (first_wanted t start.0).0 counts (children_in cs) left right → ((y : ℕ) → Memᴰ y (children_in cs) → ConsultsBy (counts y) i t) → ChildrenThere rows at start i t left right cs
  children_there t None s u = tt
  children_there t (One x) s u = child_there t s (u x one)
  children_there t (Two x y) s u = (child_there t s.0 (u x one), child_there t s.1 (u y two))

  pub point_asks : (x : ℕ) (node : Node) → ((r : ℕ) (t : Terms) → node ≡ Atom r t → arity b r ≡ t.count) → ChildrenReach n (first_wanted (view_of node).times start.0).0 counts (children_of node) left right → Consults counts i (view_of node)
      → pairs_fit b x (view_of node) (held_in old_ages old_values) ≡ true → asked b w rows at old_ages old_values left right (lowest_of (free (formula_at b x))) start i node
  point_asks x node a s u fit = record { event = event; terms = a; pairs = pairs; ascends = (pairs_each b x (view_of node) (held_in old_ages old_values) fit).0; children = children_there (view_of node).times (view_of node).children s u }
