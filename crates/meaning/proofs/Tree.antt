-- Where every node has its children lower than itself, a node's formula is made of its children's formulas,
-- and reading the tree deeper than the node's number changes nothing.
use Prim.Native.Nat.{ℕ, zero, suc, ◌≤◌, ◌<◌}
use native.Mathlib.Nat.{le_refl}
use native.Mathlib.Omega.{arith}
use mathlib.Core.Path.{◌≡◌, refl, ap, ap₂}
use mathlib.Core.List.{List, Memᴰ}
use Rattle.meaning.specs.Formula.{Formula, and, and_not, keep, or, exists, previous, next, since, not_since, until, not_until, once, eventually}
use Rattle.meaning.specs.declared.Node.{Node}
use Rattle.meaning.specs.declared.Node.TheVariants.{Atom, And, AndNot, Keep, Or, Exists, Previous, Next, Since, NotSince, Until, NotUntil, Once, Eventually}
use Rattle.meaning.specs.RuleFile.{node_at, children_of, formula_of, tree_within, formula_at}

-- the children of every node up to x are lower than the node
abbrev pub ChildrenLower : List ℕ → ℕ → Type 0
ChildrenLower b x = (y : ℕ) → y ≤ x → (c : ℕ) → Memᴰ c (children_of (node_at b y)) → c < y

-- a node's formula depends on no more than its children's
pub formula_of-agrees : (f g : ℕ → Formula) (n : Node) → ((c : ℕ) → Memᴰ c (children_of n) → f c ≡ g c) → formula_of f n ≡ formula_of g n
formula_of-agrees f g (Atom r t) h = refl
formula_of-agrees f g (And a b) h = ap₂ and (h a (Memᴰ.head refl)) (h b (Memᴰ.tail (Memᴰ.head refl)))
formula_of-agrees f g (AndNot a b) h = ap₂ and_not (h a (Memᴰ.head refl)) (h b (Memᴰ.tail (Memᴰ.head refl)))
formula_of-agrees f g (Keep a c s) h = ap (λ u. keep u c s.first s.second) (h a (Memᴰ.head refl))
formula_of-agrees f g (Or a b) h = ap₂ or (h a (Memᴰ.head refl)) (h b (Memᴰ.tail (Memᴰ.head refl)))
formula_of-agrees f g (Exists a x) h = ap (λ u. exists u x) (h a (Memᴰ.head refl))
formula_of-agrees f g (Previous a w) h = ap (λ u. previous u w) (h a (Memᴰ.head refl))
formula_of-agrees f g (Next a w) h = ap (λ u. next u w) (h a (Memᴰ.head refl))
formula_of-agrees f g (Since a b w) h = ap₂ (λ u v. since u v w) (h a (Memᴰ.head refl)) (h b (Memᴰ.tail (Memᴰ.head refl)))
formula_of-agrees f g (NotSince a b w) h = ap₂ (λ u v. not_since u v w) (h a (Memᴰ.head refl)) (h b (Memᴰ.tail (Memᴰ.head refl)))
formula_of-agrees f g (Until a b w) h = ap₂ (λ u v. until u v w) (h a (Memᴰ.head refl)) (h b (Memᴰ.tail (Memᴰ.head refl)))
formula_of-agrees f g (NotUntil a b w) h = ap₂ (λ u v. not_until u v w) (h a (Memᴰ.head refl)) (h b (Memᴰ.tail (Memᴰ.head refl)))
formula_of-agrees f g (Once a w) h = ap (λ u. once u w) (h a (Memᴰ.head refl))
formula_of-agrees f g (Eventually a w) h = ap (λ u. eventually u w) (h a (Memᴰ.head refl))

-- two depths, both above the node's number, give one tree
depths_agree : (b : List ℕ) (d e x : ℕ) → x < d → x < e → ChildrenLower b x → tree_within b d x ≡ tree_within b e x
depths_agree b zero e x p q low = absurd (omega arith)
depths_agree b (suc d) zero x p q low = absurd (omega arith)
depths_agree b (suc d) (suc e) x p q low =
    formula_of-agrees (tree_within b d) (tree_within b e) (node_at b x)
    (λ c m. let l : c < x = low x (le_refl x) c m in depths_agree b d e c (omega arith) (omega arith) (λ y k. low y (omega arith)))

module _ (b : List ℕ) (x : ℕ) (low : ChildrenLower b x) where
  -- any depth above the node's number reads the whole of its formula
  pub tree_whole : (d : ℕ) → x < d → tree_within b d x ≡ formula_at b x
  unfolding formula_at
  tree_whole d p = depths_agree b d (suc x) x p (le_refl (suc x)) low

  -- a node's formula from its children's
  pub formula_step : formula_at b x ≡ formula_of (formula_at b) (node_at b x)
  unfolding formula_at
  formula_step =
      formula_of-agrees (tree_within b x) (λ c. tree_within b (suc c) c) (node_at b x)
      (λ c m. let l : c < x = low x (le_refl x) c m in depths_agree b x (suc c) c l (le_refl (suc c)) (λ y k. low y (omega arith)))
