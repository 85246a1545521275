-- The trees of a rule's nodes, the order in which they are walked, and what the walk of a tree asks and leaves.
use Rattle.std.specs.Prelude.{ℕ, ◌+◌, ◌*◌, ◌≤◌, ◌<◌, ◌≡◌, cond, length, get_or, ltb}
use mathlib.Core.List.{List, [], ◌∷◌, Memᴰ}
use Rattle.meaning.specs.Outcome.{given}
use Rattle.meaning.specs.RuleFile.{Accepted, checking, node_count, node_at, children_of}
use Rattle.method.specs.Stored.{Stored}
use Rattle.method.specs.Step.{entries_now}
use Rattle.method.specs.Room.{weight, others_in, heavier, need, sets_most, rows_most}
use Rattle.node_step.specs.declared.Place.{Place}
use Rattle.node_step.specs.Figures.{weight_in, node_words}
use Rattle.node_step.specs.Walks.{RoomFor, OutThere, Walks}
use Rattle.tree_walk.specs.declared.Sides.{Sides}

-- node y stands in the tree of node x
pub data Below (b : List ℕ) : ℕ → ℕ → Type 0 where
  here : {x : ℕ} → Below b x x
  under : {y c x : ℕ} → Memᴰ c (children_of (node_at b x)) → Below b y c → Below b y x

-- of a node's children the one that is walked first, the heavier of two; the node itself where it has none
abbrev pub first_among : List ℕ → ℕ → List ℕ → ℕ
first_among b x [] = x
first_among b x (a ∷ []) = a
first_among b x (a ∷ c ∷ cs) = heavier b a c

abbrev pub first_of : List ℕ → ℕ → ℕ
first_of b x = first_among b x (children_of (node_at b x))

-- an accepted rule, and its trees' weights among the figures
pub record WeightsThere (b f : List ℕ) : Type 0 where
  pub accepted : (a : Accepted) × (checking b ≡ given a)
  pub there : node_count b * node_words ≤ length f
  pub weights : (x : ℕ) → x < node_count b → weight_in f x ≡ others_in b x

-- two children in the order of the walk, by the figures
pub record Ordered (f : List ℕ) (left right : ℕ) (r : Sides) : Type 0 where
  pub swapped : r.swapped ≡ ltb (weight_in f left) (weight_in f right)
  pub first : r.first ≡ cond (ltb (weight_in f left) (weight_in f right)) right left
  pub second : r.second ≡ cond (ltb (weight_in f left) (weight_in f right)) left right

-- the nodes from x down to one without children, so many steps, each the first child of the one before
pub record HeavyPath (b path : List ℕ) (steps x : ℕ) : Type 0 where
  pub within : steps < length path
  pub top : get_or path 0 0 ≡ x
  pub down : (k : ℕ) → k < steps → get_or path (k + 1) 0 ≡ first_of b (get_or path k 0)
  pub lower : (k : ℕ) → k < steps → get_or path (k + 1) 0 < get_or path k 0
  pub leaf : children_of (node_at b (get_or path steps 0)) ≡ []

module _ (s : Stored) (w : List ℕ) where
  -- how many entries node x keeps
  abbrev pub kept_of : ℕ → ℕ
  kept_of x = length (entries_now s w x)

  -- room behind h sets for the walk of node x's tree, and words for what is kept
  pub record TreeReady (rows at on ov bl : List ℕ) (x h kept : ℕ) : Type 0 where
    pub inside : x < node_count s.rule
    pub room : RoomFor rows at h (need s.rule (sets_most s w) x) (need s.rule (rows_most s w) x)
    pub out : OutThere s w on ov bl kept

  -- what it leaves
  abbrev pub TreeWalks : ℕ → ℕ → List ℕ → List ℕ → List ℕ → List ℕ → List ℕ → List ℕ → List ℕ → List ℕ → List ℕ → List ℕ → ℕ → Place → Type 0
  TreeWalks x h rows at rows' at' on ov bl on' ov' bl' kept r =
      Walks s w (λ y. Below s.rule y x) (weight s.rule kept_of x) x h rows at rows' at' on ov bl on' ov' bl' kept r

  -- node x has children, and the tree of the first has been walked behind h sets, from where the walk of x's tree began, and left off at p
  pub record FirstWalked (rows at on ov bl : List ℕ) (x h : ℕ) (p : Place) : Type 0 where
    pub lower : first_of s.rule x < x
    pub rows_begun : List ℕ
    pub at_begun : List ℕ
    pub on_begun : List ℕ
    pub ov_begun : List ℕ
    pub bl_begun : List ℕ
    pub kept_begun : ℕ
    pub begun : TreeReady rows_begun at_begun on_begun ov_begun bl_begun x h kept_begun
    pub walked : TreeWalks (first_of s.rule x) h rows_begun at_begun rows at on_begun ov_begun bl_begun on ov bl kept_begun p

  -- the rest of node x's tree, walked from where its first child's tree left off at p: with that it is the walk of x's tree, wherever it began
  pub record Climbs (x h : ℕ) (rows at on ov bl : List ℕ) (p : Place) (rows' at' on' ov' bl' : List ℕ) (r : Place) : Type 0 where
    pub whole :
        (rows0 at0 on0 ov0 bl0 : List ℕ) (kept0 : ℕ)
        → TreeWalks (first_of s.rule x) h rows0 at0 rows at on0 ov0 bl0 on ov bl kept0 p
        → TreeWalks x h rows0 at0 rows' at' on0 ov0 bl0 on' ov' bl' kept0 r
