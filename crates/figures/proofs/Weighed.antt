-- The nodes of a rule's trees that aren't "previous": no tree has more than 32, and each tree's come from its children's.
use Prim.Native.Nat.{ℕ, zero, suc, ◌+◌, ◌-◌, ◌≤◌, ◌<◌}
use native.Mathlib.Nat.{eq-or-lt_of_le}
use native.Mathlib.Omega.{arith}
use mathlib.Core.Path.{◌≡◌, sym, ◌∙◌, ap}
use mathlib.Core.Bool.{Bool, true, false}
use mathlib.Core.Logic.{◌⊎◌, inl, inr}
use mathlib.Core.List.Memᴰ
use mathlib.Core.List.{List, [], ◌∷◌, map, Memᴰ}
use lib.ListN.{length, get_or, set}
use lib.Seq.{get_or-set_same, get_or-set_other}
use Rattle.meaning.specs.Lists.{total}
use Rattle.meaning.specs.Outcome.{given}
use Rattle.meaning.specs.View.{view_of, children_in}
use Rattle.meaning.specs.RuleFile.{Accepted, checking, node_count, node_at, children_of, last_node}
use Rattle.meaning.specs.declared.Children.{Children}
use Rattle.meaning.specs.declared.Children.TheVariants.{One, Two}
use Rattle.meaning.specs.declared.Times.{Times}
use Rattle.meaning.proofs.Accepted.{nodes_most}
use Rattle.method.specs.Room.{weight, is_previous, other_at, others_in}
use Rattle.method.proofs.Bounds.{below}
use Rattle.method.proofs.Parents.{has_parent}
use Rattle.method.proofs.Sums.{sum_same}
use Rattle.method.proofs.Weights.{weight-step, nodes_split}

-- ---- small sums

pub sum_one : (ws : List ℕ) {l : Children} {a : ℕ} → l ≡ One a → get_or ws a 0 ≡ total (map (λ y. get_or ws y 0) (children_in l))
sum_one ws {l} {a} e = rw e (omega arith)

pub sum_two : (ws : List ℕ) {l : Children} {a b : ℕ} → l ≡ Two a b → get_or ws a 0 + get_or ws b 0 ≡ total (map (λ y. get_or ws y 0) (children_in l))
sum_two ws {l} {a} {b} e = rw e (omega arith)

has_part : (f : ℕ → ℕ) (xs : List ℕ) (x : ℕ) → Memᴰ x xs → f x ≤ total (map f xs)
has_part f [] x m = absurd (Memᴰ.not-nil m)
has_part f (y ∷ ys) x m = go (Memᴰ.cases_cons m) (λ k. has_part f ys x k)
  where
    go : (x ≡ y) ⊎ Memᴰ x ys → (Memᴰ x ys → f x ≤ total (map f ys)) → f x ≤ f y + total (map f ys)
    go (inl e) rest = omega (arith, ap f e)
    go (inr k) rest = omega (arith, rest k)

module _ (b : List ℕ) (a : Accepted) (ok : checking b ≡ given a) where
  -- a tree has no more than the whole
  weight_most : (own : ℕ → ℕ) (k x : ℕ) → x < node_count b → node_count b ≤ x + k → weight b own x ≤ weight b own (last_node b)
  weight_most own zero x o u = absurd (omega arith)
  weight_most own (suc k) x o u = let le : x ≤ node_count b - 1 = omega arith in go (eq-or-lt_of_le le) (λ p n l. weight_most own k p n (omega arith))
    where
      go : (x ≡ node_count b - 1) ⊎ (x < node_count b - 1) → ((p : ℕ) → p < node_count b → x < p → weight b own p ≤ weight b own (last_node b)) → weight b own x ≤ weight b own (last_node b)
      go (inl e) rest = omega (arith, ap (weight b own) e)
      go (inr v) rest =
          let (p, n, m) = has_parent b a ok x v in
          omega (arith, rest p n (below b a ok p n x m), weight-step b a ok own p n, has_part (weight b own) (children_of (node_at b p)) x m)

  pub others_few : (x : ℕ) → x < node_count b → others_in b x ≤ 32
  others_few x o = omega (arith, weight_most (other_at b) (node_count b) x o (omega arith), nodes_split b a ok, nodes_most b a ok)

  -- ---- node x, where the words of the lower nodes are theirs

  module _ (ws : List ℕ) (x : ℕ) (o : x < node_count b) (low : (y : ℕ) → y < x → get_or ws y 0 ≡ others_in b y) where
    step : others_in b x ≡ other_at b x + total (map (λ y. get_or ws y 0) (children_of (node_at b x)))
    step =
        weight-step b a ok (other_at b) x o
        ∙ ap (λ k. other_at b x + k) (sum_same (others_in b) (λ y. get_or ws y 0) (children_of (node_at b x)) (λ y m. sym (low y (below b a ok x o y m))))

    pub children_few : {cs : List ℕ} → cs ≡ children_of (node_at b x) → total (map (λ y. get_or ws y 0) cs) ≤ 32
    children_few e = rw e (omega (arith, step, others_few x o))

    pub children_there : {cs : List ℕ} → cs ≡ children_of (node_at b x) → node_count b ≤ length ws → (c : ℕ) → Memᴰ c cs → c < length ws
    children_there e l c m = omega (arith, below b a ok x o c (rw e at m))

    pub weight_previous : {cs : List ℕ} {v : ℕ} {t : Times} {p : Bool} → cs ≡ children_of (node_at b x) → v ≡ total (map (λ y. get_or ws y 0) cs) → t ≡ (view_of (node_at b x)).times → p ≡ is_previous t → p ≡ true → v ≡ others_in b x
    weight_previous {cs} {v} {t} {p} e f h q s =
        let r : v ≡ total (map (λ y. get_or ws y 0) (children_of (node_at b x))) = rw e at f in
        let d : is_previous (view_of (node_at b x)).times ≡ true = ap is_previous (sym h) ∙ sym q ∙ s in
        let u : other_at b x ≡ 0 = rw d in
        omega (arith, step)

    pub weight_other : {cs : List ℕ} {v : ℕ} {t : Times} {p : Bool} → cs ≡ children_of (node_at b x) → v ≡ total (map (λ y. get_or ws y 0) cs) → t ≡ (view_of (node_at b x)).times → p ≡ is_previous t → p ≡ false → v + 1 ≡ others_in b x
    weight_other {cs} {v} {t} {p} e f h q s =
        let r : v ≡ total (map (λ y. get_or ws y 0) (children_of (node_at b x))) = rw e at f in
        let d : is_previous (view_of (node_at b x)).times ≡ false = ap is_previous (sym h) ∙ sym q ∙ s in
        let u : other_at b x ≡ 1 = rw d in
        omega (arith, step)

-- ---- words put in one after another

-- the first x words are those of F, and one more
pub one_more : (F : ℕ → ℕ) (ws : List ℕ) (x v : ℕ) → x < length ws → ((y : ℕ) → y < x → get_or ws y 0 ≡ F y) → v ≡ F x → (y : ℕ) → y < x + 1 → get_or (set ws x v) y 0 ≡ F y
one_more F ws x v l low e y u = let le : y ≤ x = omega arith in go (eq-or-lt_of_le le)
  where
    go : (y ≡ x) ⊎ (y < x) → get_or (set ws x v) y 0 ≡ F y
    go (inl q) = rw q (get_or-set_same ws x v 0 l ∙ e)
    go (inr q) = get_or-set_other ws x y v 0 (λ z. absurd (omega arith)) ∙ low y q
