-- What a node's evaluation at a newly settled point reads, as it stands in slices, what must stand there for the node, and what it gives.
use Rattle.std.specs.Prelude.{ℕ, suc, ◌+◌, ◌≤◌, ◌<◌, ◌≡◌, true, List, [], ◌∷◌, map, length}
use Rattle.meaning.specs.Lists.{range}
use Rattle.meaning.specs.Log.{relation_in, point, point_before}
use Rattle.meaning.specs.Order.{ascending}
use Rattle.meaning.specs.Formula.{lowest_of}
use Rattle.meaning.specs.Event.{row_count, row_of}
use Rattle.meaning.specs.View.{view_of}
use Rattle.meaning.specs.RuleFile.{arity, children_of}
use Rattle.meaning.specs.declared.Point.{Point}
use Rattle.meaning.specs.declared.Terms.{Terms}
use Rattle.meaning.specs.declared.Node.{Node}
use Rattle.meaning.specs.declared.Node.TheVariants.{Atom}
use Rattle.meaning.specs.declared.Children.{Children}
use Rattle.meaning.specs.declared.Children.TheVariants.{None, One, Two}
use Rattle.meaning.specs.declared.Times.{Times}
use Rattle.meaning.specs.declared.Times.TheVariants.{Here, Before, After, Past, Future}
use Rattle.method.specs.Stored.{stamp_in}
use Rattle.method.specs.Counts.{ConsultsBy}
use Rattle.method.specs.Settle.{Inputs, settle, pairs_after}
use Rattle.rowset.specs.Sets.{SetMade}
use Rattle.kinds.specs.Kinds.{in_mask, EventThere, PairsThere}
use Rattle.room.specs.Room.{set_at}
use Rattle.room.specs.declared.Child.{Child}
use Rattle.untils.specs.Until.{Stand}
use Rattle.since.specs.Since.{held_in, PairsPut}

-- Inputs say of node y what stands in the words of a child's sets
pub record ChildInputs (v : Inputs) (rows at : List ℕ) (y : ℕ) (c : Child) : Type 0 where
  pub free : (x : ℕ) → x < 4 → v.free y x ≡ in_mask c.mask x
  pub lowest : lowest_of (v.free y) ≡ c.lowest
  pub counted : v.count y ≡ c.count
  pub sets : (j : Point) → c.low.0 ≤ j.0 → j.0 < c.count → v.rows y j ≡ set_at rows at c.first c.low j

-- the same of a node's children, of which there are none, one or two
abbrev pub ChildrenInputs : Inputs → List ℕ → List ℕ → List ℕ → Child → Child → Type 0
ChildrenInputs v rows at [] left right = Unit
ChildrenInputs v rows at (x ∷ []) left right = ChildInputs v rows at x left
ChildrenInputs v rows at (x ∷ y ∷ ys) left right = ChildInputs v rows at x left × ChildInputs v rows at y right

-- Inputs say of the log, the event and the node's children what stands in the words; b is the rule's bytes and w the event's words
pub record InputsStand (v : Inputs) (b w rows at times : List ℕ) (base : Point) (left right : Child) (node : Node) : Type 0 where
  pub stamps : v.stamps ≡ stamp_in base times
  pub event : (r : ℕ) → v.event r ≡ relation_in r (map (row_of b w) (range 0 (row_count w)))
  pub children : ChildrenInputs v rows at (children_of node) left right

-- what must stand of a child's sets for a node at point i, whose first newly settled point is start
module _ (rows at : List ℕ) (start i : Point) where
  -- the sets at the points that the node's times look at; for since those before start are in its pairs, and until looks as far as the child has settled
  abbrev pub sets_there : Times → Child → Type 0
  sets_there Here c = Stand rows at c.first c.low i (i.0 + 1)
  sets_there Before c = 0 < i.0 → Stand rows at c.first c.low (point_before i) ((point_before i).0 + 1)
  sets_there After c = Stand rows at c.first c.low (point (i.0 + 1)) (i.0 + 1 + 1)
  sets_there Past c = Stand rows at c.first c.low start (i.0 + 1)
  sets_there Future c = Stand rows at c.first c.low i c.count

  pub record ChildThere (t : Times) (c : Child) : Type 0 where
    pub sets : sets_there t c
    pub settled : ConsultsBy c.count i t

  -- the same of all children
  abbrev pub ChildrenThere : Times → Child → Child → Children → Type 0
  ChildrenThere t left right None = Unit
  ChildrenThere t left right (One x) = ChildThere t left
  ChildrenThere t left right (Two x y) = ChildThere t left × ChildThere t right

-- what must stand for a node with this lowest free variable at point i; its pairs before point start are held in the old words, and ascend strictly
pub record asked (b w rows at old_ages old_values : List ℕ) (left right : Child) (lowest : ℕ) (start i : Point) (node : Node) : Type 0 where
  pub event : EventThere w
  pub terms : (r : ℕ) (t : Terms) → node ≡ Atom r t → arity b r ≡ t.count
  pub pairs : PairsThere old_ages old_values (length old_ages)
  pub ascends : ascending (suc lowest) (held_in old_ages old_values) ≡ true
  pub children : ChildrenThere rows at start i (view_of node).times left right (view_of node).children

-- the sets of right of since and until: those of the one child where there is one
abbrev pub right_in : Children → Child → Child → Child
right_in None left right = right
right_in (One x) left right = left
right_in (Two x y) left right = right

-- the node's valuations at point i, for any Inputs that say what stands in the words
pub record PointSettled (b w rows at times : List ℕ) (base : Point) (old_ages old_values : List ℕ) (left right : Child) (lowest : ℕ) (start i : Point) (node : Node) (out : List ℕ) (k : ℕ) : Type 0 where
  pub gives : (v : Inputs) → InputsStand v b w rows at times base left right node → SetMade out k (settle v lowest (held_in old_ages old_values) start i node)

-- its pairs there, put into the words
pub record PairsSettled (rows at times : List ℕ) (base : Point) (old_ages old_values : List ℕ) (left right : Child) (lowest : ℕ) (start i : Point) (node : Node) (ages values ages' values' : List ℕ) (k : ℕ) : Type 0 where
  pub gives : (v : Inputs) (b w : List ℕ) → InputsStand v b w rows at times base left right node → PairsPut ages values ages' values' k (pairs_after v lowest (held_in old_ages old_values) start i (view_of node))
