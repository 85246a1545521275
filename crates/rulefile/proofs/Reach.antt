-- A node's reach is what its window adds to its children's greatest, and in a rule whose nodes pass it is at most the longest window for each node up to it.
use Prim.Native.Nat.{ℕ, zero, suc, ◌+◌, ◌*◌, ◌<◌, ◌≤◌, max}
use native.Mathlib.Omega.{arith}
use mathlib.Core.Path.{◌≡◌, refl, sym, ap, ◌∙◌}
use mathlib.Core.List.{List, [], ◌∷◌, Memᴰ}
use Rattle.meaning.specs.Outcome.{longest_window}
use Rattle.meaning.specs.Formula.{Formula, reach}
use Rattle.meaning.specs.RuleFile.{node_count, node_at, children_of, formula_of, formula_at}
use Rattle.meaning.specs.declared.Node.{Node}
use Rattle.meaning.specs.declared.Node.TheVariants.{Atom, And, AndNot, Keep, Or, Exists, Previous, Next, Since, NotSince, Until, NotUntil, Once, Eventually}
use Rattle.meaning.proofs.Tree.{formula_step}
use Rattle.ruleshape.specs.Sound.{NodeSound, window_reach}
use Rattle.ruleshape.proofs.Sound.{node_sound}
use Rattle.rulefile.specs.Weighing.{AllFit}
use Rattle.rulefile.proofs.Nodes.{children_lower}

abbrev pub greatest : (ℕ → ℕ) → List ℕ → ℕ
greatest r [] = 0
greatest r (c ∷ cs) = max (r c) (greatest r cs)

reach_node : (f : ℕ → Formula) (n : Node) → reach (formula_of f n) ≡ window_reach n + greatest (λ c. reach (f c)) (children_of n)
reach_node f (Atom r t) = refl
reach_node f (And a b) = omega arith
reach_node f (AndNot a b) = omega arith
reach_node f (Keep a c s) = omega arith
reach_node f (Or a b) = omega arith
reach_node f (Exists a v) = omega arith
reach_node f (Previous a w) = omega arith
reach_node f (Next a w) = omega arith
reach_node f (Since a b w) = omega arith
reach_node f (NotSince a b w) = omega arith
reach_node f (Until a b w) = omega arith
reach_node f (NotUntil a b w) = omega arith
reach_node f (Once a w) = omega arith
reach_node f (Eventually a w) = omega arith

greatest_bound : (r : ℕ → ℕ) (m : ℕ) (s : List ℕ) → ((c : ℕ) → Memᴰ c s → r c ≤ m) → greatest r s ≤ m
greatest_bound r m [] h = omega arith
greatest_bound r m (c ∷ s) h =
    let p : r c ≤ m = h c (Memᴰ.head refl) in
    let q : greatest r s ≤ m = greatest_bound r m s (λ d k. h d (Memᴰ.tail k)) in
    omega arith

module _ (b : List ℕ) (fit : AllFit b) where
  sound_at : (x : ℕ) → x < node_count b → NodeSound x (node_at b x)
  sound_at x l = node_sound b x (fit.each x l)

  -- the children that code has of node x are lower
  pub child_below : (x : ℕ) → x < node_count b → (s : List ℕ) → s ≡ children_of (node_at b x) → (c : ℕ) → Memᴰ c s → c < x
  child_below x l s e c m = (sound_at x l).lower c (rw (← e) m)

  -- a node's reach from its children's, as the list that code has of them
  reach_step : (x : ℕ) → x < node_count b → (s : List ℕ) → s ≡ children_of (node_at b x)
      → reach (formula_at b x) ≡ window_reach (node_at b x) + greatest (λ c. reach (formula_at b c)) s
  reach_step x l s e =
      ap reach (formula_step b x (children_lower b x (λ y k. fit.each y (omega arith)))) ∙ reach_node (formula_at b) (node_at b x)
      ∙ ap (λ t. window_reach (node_at b x) + greatest (λ c. reach (formula_at b c)) t) (sym e)

  bound-within : (k x : ℕ) → x < k → x < node_count b → reach (formula_at b x) ≤ longest_window * (x + 1)
  bound-within zero x p l = absurd (omega arith)
  bound-within (suc k) x p l =
      let e = reach_step x l (children_of (node_at b x)) refl in
      let q : window_reach (node_at b x) ≤ longest_window = (sound_at x l).adds in
      let g : greatest (λ c. reach (formula_at b c)) (children_of (node_at b x)) ≤ longest_window * x =
      greatest_bound (λ c. reach (formula_at b c)) (longest_window * x) (children_of (node_at b x))
      (λ c m.
      let lower : c < x = (sound_at x l).lower c m in
      let h = bound-within k c (omega arith) (omega arith) in
      omega arith) in
      omega arith

  pub reach-bound : (x : ℕ) → x < node_count b → reach (formula_at b x) ≤ longest_window * (x + 1)
  reach-bound x l = bound-within (x + 1) x (omega arith) l

-- what code has of node x before it goes down to the children
pub record Opened (b : List ℕ) (x own : ℕ) (n : Node) : Type 0 where
  pub fit : AllFit b
  pub inside : x < node_count b
  pub node : n ≡ node_at b x
  pub adds : own ≡ window_reach n

pub opened : {b : List ℕ} {x own : ℕ} {n : Node} → AllFit b × (x < node_count b) → n ≡ node_at b x → own ≡ window_reach n → Opened b x own n
opened pre node adds = record { fit = pre.0; inside = pre.1; node = node; adds = adds }

module _ {b : List ℕ} {x own : ℕ} {n : Node} (o : Opened b x own n) {s : List ℕ} (e : s ≡ children_of n) where
  children : s ≡ children_of (node_at b x)
  children = e ∙ ap children_of o.node

  pub opened_lower : {c : ℕ} → Memᴰ c s → (c < x) × (c < node_count b)
  opened_lower {c} m =
      let l : c < x = child_below b o.fit x o.inside s children c m in
      (l, omega (arith, o.inside))

  -- the reach is what the window adds to the children's greatest
  pub opened_reach : own + greatest (λ c. reach (formula_at b c)) s ≡ reach (formula_at b x)
  opened_reach = ap (λ k. k + greatest (λ c. reach (formula_at b c)) s) (o.adds ∙ ap window_reach o.node) ∙ sym (reach_step b o.fit x o.inside s children)

  -- and fits a word
  pub opened_small : reach (formula_at b x) ≤ longest_window * 32
  opened_small = omega (arith, reach-bound b o.fit x o.inside, o.inside, o.fit.sized.few)
