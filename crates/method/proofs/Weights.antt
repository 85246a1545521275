-- Figures of a rule's trees: each is made from the children's, and what is added up over the last node's tree is the sum over all nodes.
use Prim.Native.Nat.{ℕ, zero, suc, ◌+◌, ◌≤◌, ◌<◌}
use native.Mathlib.Omega.{arith}
use mathlib.Core.Path.{◌≡◌, refl, sym, ◌∙◌, ap}
use mathlib.Core.Bool.{Bool, true, false, not, cond}
use mathlib.Core.List.{List, [], ◌∷◌, Memᴰ}
use borrow.Author.Tests.{ltb-true, ltb-false}
use Rattle.meaning.specs.Lists.{range, gather}
use Rattle.meaning.specs.Outcome.{given}
use Rattle.meaning.specs.View.{view_of}
use Rattle.meaning.specs.RuleFile.{Accepted, checking, node_count, node_at, children_of, last_node, times_child, one_if}
use Rattle.meaning.proofs.Accepted.{accepted, last_is_node}
use Rattle.meaning.proofs.Lists.{range_length}
use Rattle.meaning.proofs.Rows.{gather_at, range_at}
use Rattle.meaning.proofs.Points.{Tested, passed, failed, tested}
use Rattle.method.specs.Room.{made_within, weight, is_previous, previous_at, other_at, previous_in, others_in, left_lighter, heavier, lighter, need_of, need}
use Rattle.method.proofs.Bounds.{below}
use Rattle.method.proofs.Inputs.{one, two}
use Rattle.method.proofs.Sums.{sum, sum_same, sum_plus, sum_each, sum_last, sum_gather, sum_once}

-- ---- the two children

module _ (b : List ℕ) (l r : ℕ) where
  -- what holds of both holds of the heavier and of the lighter
  pub both_sides : (P : ℕ → Type 0) → P l → P r → P (heavier b l r) × P (lighter b l r)
  both_sides P p q = go (left_lighter b l r)
    where
      go : (t : Bool) → P (cond t r l) × P (cond t l r)
      go true = (q, p)
      go false = (p, q)

  sides_sum : (f : ℕ → ℕ) → f (heavier b l r) + f (lighter b l r) ≡ f l + f r
  sides_sum f = go (left_lighter b l r)
    where
      go : (t : Bool) → f (cond t r l) + f (cond t l r) ≡ f l + f r
      go true = omega arith
      go false = refl

  pub lighter_less : others_in b (lighter b l r) ≤ others_in b (heavier b l r)
  lighter_less = go (tested (left_lighter b l r))
    where
      go : Tested (left_lighter b l r) → others_in b (lighter b l r) ≤ others_in b (heavier b l r)
      go (passed t) = rw t (omega (arith, ltb-true))
      go (failed t) = rw t (omega (arith, ltb-false))

-- ---- each figure from the children's

-- the room depends on no more than the children's
module _ (b : List ℕ) (size : ℕ → ℕ) (f g : ℕ → ℕ) (x : ℕ) where
  need_same : (ys : List ℕ) → ((y : ℕ) → Memᴰ y ys → f y ≡ g y) → need_of b size f x ys ≡ need_of b size g x ys
  need_same [] e = refl
  need_same (a ∷ []) e = rw (e a one)
  need_same (a ∷ c ∷ cs) e = let s = both_sides b a c (λ y. f y ≡ g y) (e a one) (e c two) in rw (s.0, s.1)

module _ (b : List ℕ) (a : Accepted) (ok : checking b ≡ given a) where
  module _ (make : (ℕ → ℕ) → ℕ → ℕ) (same : (f g : ℕ → ℕ) (x : ℕ) → ((y : ℕ) → Memᴰ y (children_of (node_at b x)) → f y ≡ g y) → make f x ≡ make g x) where
    -- two depths, both above the node's number, give one figure
    depths_agree : (d e x : ℕ) → x < d → x < e → x < node_count b → made_within make d x ≡ made_within make e x
    depths_agree zero e x p q o = absurd (omega arith)
    depths_agree (suc d) zero x p q o = absurd (omega arith)
    depths_agree (suc d) (suc e) x p q o =
        same (made_within make d) (made_within make e) x (λ y m. let l : y < x = below b a ok x o y m in depths_agree d e y (omega arith) (omega arith) (omega arith))

    made_step : (x : ℕ) → x < node_count b → made_within make (suc x) x ≡ make (λ y. made_within make (suc y) y) x
    made_step x o = same (made_within make x) (λ y. made_within make (suc y) y) x (λ y m. let l : y < x = below b a ok x o y m in depths_agree x (suc y) y l (omega arith) (omega arith))

  pub weight-step : (own : ℕ → ℕ) (x : ℕ) → x < node_count b → weight b own x ≡ own x + sum (weight b own) (children_of (node_at b x))
  unfolding weight
  weight-step own = made_step _ (λ f g x e. ap (λ k. own x + k) (sum_same f g (children_of (node_at b x)) e))

  -- of a node with two children, by the heavier and the lighter
  pub weight_two : (own : ℕ → ℕ) (x c d : ℕ) → x < node_count b → children_of (node_at b x) ≡ c ∷ d ∷ [] → weight b own x ≡ own x + (weight b own (heavier b c d) + weight b own (lighter b c d))
  weight_two own x c d o e = let s = rw e at (weight-step own x o) in omega (arith, sides_sum b c d (weight b own))

  pub need_step : (size : ℕ → ℕ) (x : ℕ) → x < node_count b → need b size x ≡ need_of b size (need b size) x (children_of (node_at b x))
  unfolding need
  need_step size = made_step _ (λ f g x. need_same b size f g x (children_of (node_at b x)))

  abbrev kids : ℕ → List ℕ
  kids x = children_of (node_at b x)

  -- The last node's tree has every node once. Added up over all nodes, the trees' figures are the nodes' own and those of the children's trees; and the children are all nodes but the last, each once.
  pub whole_weight : (own : ℕ → ℕ) → weight b own (last_node b) ≡ sum own (range 0 (node_count b))
  unfolding times_child
  whole_weight own =
      let W : ℕ → ℕ = weight b own in
      let n : suc (last_node b) ≡ node_count b = omega (arith, last_is_node b a ok) in
      let last : 0 + last_node b ≡ last_node b = omega arith in
      let split : sum W (range 0 (node_count b)) ≡ sum own (range 0 (node_count b)) + sum (λ x. sum W (kids x)) (range 0 (node_count b)) =
      sum_same W (λ x. own x + sum W (kids x)) (range 0 (node_count b)) (λ x m. weight-step own x (omega (arith, (range_at 0 (node_count b) m).1))) ∙ sum_plus own (λ x. sum W (kids x)) (range 0 (node_count b)) in
      let children : sum W (gather kids (range 0 (node_count b))) ≡ sum W (range 0 (last_node b)) =
      sum_once W (gather kids (range 0 (node_count b))) (last_node b) low (accepted b a ok).once in
      omega (arith, ap (λ k. sum W (range 0 k)) n, sum_last W 0 (last_node b), ap W last, sum_gather W kids (range 0 (node_count b)))
    where
      low : (y : ℕ) → Memᴰ y (gather kids (range 0 (node_count b))) → y < last_node b
      low y m = let (x, u, v) = gather_at kids (range 0 (node_count b)) m in let o = (range_at 0 (node_count b) u).1 in omega (arith, below b a ok x (omega arith) y v)

  -- each node is "previous" or one of the others
  pub nodes_split : others_in b (last_node b) + previous_in b (last_node b) ≡ node_count b
  nodes_split =
      rw (whole_weight (other_at b), whole_weight (previous_at b))
      (sym (sum_plus (other_at b) (previous_at b) (range 0 (node_count b)))
      ∙ sum_same (λ x. other_at b x + previous_at b x) (λ x. 1) (range 0 (node_count b)) (λ x m. either (is_previous (view_of (node_at b x)).times))
      ∙ omega (arith, sum_each 1 (range 0 (node_count b)), range_length 0 (node_count b)))
    where
      either : (t : Bool) → one_if (not t) + one_if t ≡ 1
      either true = refl
      either false = refl

  pub no_shares : weight b (λ x. 0) (last_node b) ≡ 0
  no_shares = omega (arith, whole_weight (λ x. 0), sum_each 0 (range 0 (node_count b)))
