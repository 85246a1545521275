-- Trees of an accepted rule: a node's first child, and the nodes that stand in a tree.
use Prim.Native.Nat.{ℕ, zero, suc, ◌+◌, ◌-◌, ◌*◌, ◌≤◌, ◌<◌}
use native.Mathlib.Omega.{arith}
use mathlib.Core.Path.{◌≡◌, refl, ap₂, ◌∙◌}
use mathlib.Core.Bool.{Bool, true, false, cond}
use mathlib.Core.Logic.{◌⊎◌, inl, inr}
use mathlib.Core.List.Memᴰ
use mathlib.Core.List.{List, [], ◌∷◌, Memᴰ}
use lib.ListN.{length}
use lib.Dec.{ltb}
use borrow.Author.Tests.{ltb-true, ltb-false}
use Rattle.meaning.specs.Outcome.{given}
use Rattle.meaning.specs.RuleFile.{Accepted, checking, node_count, node_at, children_of, last_node}
use Rattle.meaning.proofs.Accepted.{accepted}
use Rattle.meaning.proofs.Points.{Tested, passed, failed, tested}
use Rattle.method.specs.Room.{left_lighter, heavier, lighter, need_of, need}
use Rattle.method.proofs.Bounds.{below}
use Rattle.method.proofs.Parents.{has_parent}
use Rattle.method.proofs.Weights.{both_sides, need_step}
use Rattle.tree_walk.specs.declared.Sides.{Sides}
use Rattle.tree_walk.specs.Tree.{Below, here, under, first_among, first_of, WeightsThere, Ordered}

pub first_in : {a : ℕ} {ys : List ℕ} → Memᴰ a (a ∷ ys)
first_in = Memᴰ.head refl

pub second_in : {a c : ℕ} {ys : List ℕ} → Memᴰ c (a ∷ c ∷ ys)
second_in = Memᴰ.tail (Memᴰ.head refl)

-- the two children in the order of the walk are the two
pub sides_in : (b : List ℕ) (a c : ℕ) → Memᴰ (heavier b a c) (a ∷ c ∷ []) × Memᴰ (lighter b a c) (a ∷ c ∷ [])
sides_in b a c = both_sides b a c (λ y. Memᴰ y (a ∷ c ∷ [])) first_in second_in

one_of_two : (b : List ℕ) (a c y : ℕ) → Memᴰ y (a ∷ c ∷ []) → (y ≡ heavier b a c) ⊎ (y ≡ lighter b a c)
one_of_two b a c y m = go (left_lighter b a c) m
  where
    go : (t : Bool) → Memᴰ y (a ∷ c ∷ []) → (y ≡ cond t c a) ⊎ (y ≡ cond t a c)
    go true (Memᴰ.head e) = inr e
    go true (Memᴰ.tail (Memᴰ.head e)) = inl e
    go true (Memᴰ.tail (Memᴰ.tail m)) = elim m [ ]
    go false (Memᴰ.head e) = inl e
    go false (Memᴰ.tail (Memᴰ.head e)) = inr e
    go false (Memᴰ.tail (Memᴰ.tail m)) = elim m [ ]

-- ---- the nodes of a tree, by its node's children

below_cases : {b : List ℕ} {y x : ℕ} → Below b y x → (y ≡ x) ⊎ ((c : ℕ) × Memᴰ c (children_of (node_at b x)) × Below b y c)
below_cases here = inl refl
below_cases (under {c = c} m h) = inr (c, m, h)

module _ {b : List ℕ} {x : ℕ} where
  pub below_none : children_of (node_at b x) ≡ [] → (y : ℕ) → Below b y x → y ≡ x
  below_none e y h = go (below_cases h)
    where
      go : (y ≡ x) ⊎ ((c : ℕ) × Memᴰ c (children_of (node_at b x)) × Below b y c) → y ≡ x
      go (inl p) = p
      go (inr (c, m, k)) = absurd (Memᴰ.not-nil (rw e at m))

  pub below_one : (a : ℕ) → children_of (node_at b x) ≡ a ∷ [] → (y : ℕ) → Below b y x → Below b y a ⊎ (y ≡ x)
  below_one a e y h = go (below_cases h)
    where
      go : (y ≡ x) ⊎ ((c : ℕ) × Memᴰ c (children_of (node_at b x)) × Below b y c) → Below b y a ⊎ (y ≡ x)
      go (inl p) = inr p
      go (inr (c, m, k)) = inl (only (rw e at m))
        where
          only : Memᴰ c (a ∷ []) → Below b y a
          only (Memᴰ.head q) = rw q at k
          only (Memᴰ.tail n) = elim n [ ]

  pub below_two : (a d : ℕ) → children_of (node_at b x) ≡ a ∷ d ∷ [] → (y : ℕ) → Below b y x → (Below b y (heavier b a d) ⊎ Below b y (lighter b a d)) ⊎ (y ≡ x)
  below_two a d e y h = go (below_cases h)
    where
      go : (y ≡ x) ⊎ ((c : ℕ) × Memᴰ c (children_of (node_at b x)) × Below b y c) → (Below b y (heavier b a d) ⊎ Below b y (lighter b a d)) ⊎ (y ≡ x)
      go (inl p) = inr p
      go (inr (c, m, k)) = inl (either (one_of_two b a d c (rw e at m)))
        where
          either : (c ≡ heavier b a d) ⊎ (c ≡ lighter b a d) → Below b y (heavier b a d) ⊎ Below b y (lighter b a d)
          either (inl q) = inl (rw q at k)
          either (inr q) = inr (rw q at k)

module _ (b : List ℕ) (a : Accepted) (ok : checking b ≡ given a) where
  pub head_there : (x : ℕ) → x < node_count b → 12 + 4 * x + 4 ≤ length b
  head_there x o = omega (arith, (accepted b a ok).long)

  -- a tree's nodes are no higher than its node
  pub below_low : (y x : ℕ) → x < node_count b → Below b y x → y ≤ x
  below_low y x o here = omega arith
  below_low y x o (under {c = c} m h) = let l : c < x = below b a ok x o c m in omega (arith, below_low y c (omega arith) h)

  below_up : (d z y : ℕ) → last_node b - y ≤ d → y < node_count b → Below b z y → Below b z (last_node b)
  below_up zero z y l o h = let e : y ≡ last_node b = omega arith in rw e at h
  below_up (suc d) z y l o h = go (tested (ltb y (last_node b)))
      (λ u. let (x, v, m) = has_parent b a ok y u in
      let k : y < x = below b a ok x v y m in
      below_up d z x (omega arith) v (under m h))
    where
      go : Tested (ltb y (last_node b)) → (y < last_node b → Below b z (last_node b)) → Below b z (last_node b)
      go (passed e) up = up (ltb-true y (last_node b) e)
      go (failed e) up = let q : y ≡ last_node b = omega (arith, ltb-false y (last_node b) e) in rw q at h

  -- every node stands in the last node's tree
  pub below_last : (y : ℕ) → y < node_count b → Below b y (last_node b)
  below_last y o = below_up (node_count b) y y (omega arith) o here

  -- ---- the first child
  module _ (x : ℕ) (o : x < node_count b) where
    low : (y : ℕ) → Memᴰ y (children_of (node_at b x)) → y < x
    low = below b a ok x o

    -- where it isn't lower there is none
    pub first_none : (first_of b x < x → ⊥) → children_of (node_at b x) ≡ []
    first_none n = go (children_of (node_at b x)) low n
      where
        go : (ys : List ℕ) → ((y : ℕ) → Memᴰ y ys → y < x) → (first_among b x ys < x → ⊥) → ys ≡ []
        go [] l n = refl
        go (c ∷ []) l n = absurd (n (l c first_in))
        go (c ∷ d ∷ ys) l n = absurd (n (both_sides b c d (λ y. y < x) (l c first_in) (l d second_in)).0)

    -- its tree takes no more room
    pub first_need : (size : ℕ → ℕ) → first_of b x < x → need b size (first_of b x) ≤ need b size x
    first_need size l = go (children_of (node_at b x)) l (need_step b a ok size x o)
      where
        go : (ys : List ℕ) → first_among b x ys < x → need b size x ≡ need_of b size (need b size) x ys → need b size (first_among b x ys) ≤ need b size x
        go [] l e = absurd (omega arith)
        go (c ∷ []) l e = omega (arith, e)
        go (c ∷ d ∷ ys) l e = omega (arith, e)

  pub sides_are : (f : List ℕ) → WeightsThere b f → (x c d : ℕ) → x < node_count b → children_of (node_at b x) ≡ c ∷ d ∷ [] → {r : Sides} → Ordered f c d r
      → (r.swapped ≡ left_lighter b c d) × (r.first ≡ heavier b c d) × (r.second ≡ lighter b c d)
  sides_are f w x c d o e h =
      let l : c < x = below b a ok x o c (rw e first_in) in
      let m : d < x = below b a ok x o d (rw e second_in) in
      let p = w.weights c (omega arith) in
      let q = w.weights d (omega arith) in
      (h.swapped ∙ ap₂ (λ u v. ltb u v) p q, h.first ∙ ap₂ (λ u v. cond (ltb u v) d c) p q, h.second ∙ ap₂ (λ u v. cond (ltb u v) c d) p q)
