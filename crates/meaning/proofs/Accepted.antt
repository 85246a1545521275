-- What an accepted rule is: each node passes 4, 5 and 6, each but the last is a child once, and each node's tree is as Fine asks.
use Prim.Native.Nat.{ℕ, zero, suc, ◌+◌, ◌-◌, ◌*◌, ◌≤◌, ◌<◌}
use mathlib.Core.Path.{◌≡◌, refl, sym}
use mathlib.Core.Bool.{Bool, true, false, not, cond, ◌&&◌, ◌||◌}
use mathlib.Core.List.{List, [], ◌∷◌}
use lib.ListN.{length, get_or, take}
use lib.Dec.{ltb, leb, eqb}
use borrow.Author.Tests.{ltb-true, leb-true, eqb-true, lt-ltb, not-false}
use native.Mathlib.Omega.{arith}
use Rattle.meaning.specs.Lists.{all, range}
use Rattle.meaning.specs.Outcome.{Outcome, given, when}
use Rattle.meaning.specs.Formula.{free, reach, free_fits, within, term_within, terms_of}
use Rattle.meaning.specs.RuleFile.{Accepted, checking, node_count, sizes_fit, head_at, body_at, bodies, arity, node_of, node_at, formula_of, formula_at, last_node, pattern, shape_fits, range_fits, window_fits, atom_fits, atom_word_fits, term_of, terms_of_body, sides_of, comparison_of, bit, is_one_of, times_child, weigh_node, weigh_nodes, weigh_parents, mask_of}
use Rattle.meaning.specs.Readings.{twos_complement}
use Rattle.meaning.specs.declared.Comparison.{Comparison}
use Rattle.meaning.specs.declared.Comparison.TheVariants.{ShiftedLess}
use Rattle.meaning.specs.declared.Head.{Head}
use Rattle.meaning.specs.declared.Body.{Body}
use Rattle.meaning.specs.declared.Term.{Term}
use Rattle.meaning.specs.declared.Term.TheVariants.{Variable, Constant}
use Rattle.meaning.specs.declared.Node.{Node}
use Rattle.meaning.specs.declared.Node.TheVariants.{Keep}
use Rattle.meaning.proofs.Points.{both, first, second, from_first}
use Rattle.meaning.proofs.Fine.{named, Fine}
use Rattle.meaning.proofs.Tree.{ChildrenLower, formula_step}
use Rattle.meaning.proofs.Shapes

-- a chain of refusals that ends in an answer: none applied
pub no_refusal : {A : Type 0} (t : Bool) (n p : ℕ) (rest : Outcome A) (a : A) → when t n p rest ≡ given a → (t ≡ false) × (rest ≡ given a)
no_refusal true n p rest a e = let z : ◌≡◌ {A = ℕ} 0 1 = cc in absurd (omega arith)
no_refusal false n p rest a e = (refl, e)

-- node x passes 4, 5 and 6
pub record Passes (b : List ℕ) (x : ℕ) : Type 0 where
  pub shaped : shape_fits b x (head_at b x) (body_at (bodies b) x) ≡ true
  pub ranged : range_fits (head_at b x) (body_at (bodies b) x) ≡ true
  pub fitting : free_fits (formula_at b x) ≡ true

module _ (b : List ℕ) (a : Accepted) where
  passes : (x : ℕ) (rest : Outcome Accepted) → weigh_node b x rest ≡ given a → Passes b x × (rest ≡ given a)
  unfolding weigh_node
  passes x rest e =
      let s : _ × _ = no_refusal (not (shape_fits b x (head_at b x) (body_at (bodies b) x))) 4 x _ a e in
      let r : _ × _ = no_refusal (not (range_fits (head_at b x) (body_at (bodies b) x))) 5 x _ a s.1 in
      let f : _ × _ = no_refusal (not (free_fits (formula_at b x))) 6 x _ a r.1 in
      (record { shaped = not-false _ s.0; ranged = not-false _ r.0; fitting = not-false _ f.0 }, f.1)

  nodes_pass : (from count : ℕ) (rest : Outcome Accepted) → weigh_nodes b (range from count) rest ≡ given a
      → ((x : ℕ) → from ≤ x → x < from + count → Passes b x) × (rest ≡ given a)
  nodes_pass from zero rest e = (λ x u o. absurd (omega arith), e)
  nodes_pass from (suc count) rest e =
      let here : Passes b from × (weigh_nodes b (range (suc from) count) rest ≡ given a) = passes from (weigh_nodes b (range (suc from) count) rest) e in
      let more : ((x : ℕ) → suc from ≤ x → x < suc from + count → Passes b x) × (rest ≡ given a) = nodes_pass (suc from) count rest here.1 in
      (from_first (Passes b) from count here.0 more.0, more.1)

  once_each : (from count : ℕ) (rest : Outcome Accepted) → weigh_parents b (range from count) rest ≡ given a
      → ((x : ℕ) → from ≤ x → x < from + count → times_child b x ≡ 1) × (rest ≡ given a)
  once_each from zero rest e = (λ x u o. absurd (omega arith), e)
  once_each from (suc count) rest e =
      let here : (not (eqb (times_child b from) 1) ≡ false) × (weigh_parents b (range (suc from) count) rest ≡ given a) = no_refusal (not (eqb (times_child b from) 1)) 7 from (weigh_parents b (range (suc from) count) rest) a e in
      let more : ((x : ℕ) → suc from ≤ x → x < suc from + count → times_child b x ≡ 1) × (rest ≡ given a) = once_each (suc from) count rest here.1 in
      (from_first (λ x. times_child b x ≡ 1) from count (eqb-true (times_child b from) 1 (not-false _ here.0)) more.0, more.1)

-- A rule that checking accepts, with the answer a.
pub record IsAccepted (b : List ℕ) (a : Accepted) : Type 0 where
  pub sizes : sizes_fit b ≡ true
  pub long : length b ≡ 12 + 20 * node_count b
  pub each : (x : ℕ) → x < node_count b → Passes b x
  pub once : (x : ℕ) → x < node_count b - 1 → times_child b x ≡ 1
  pub answer : a ≡ record { reach = reach (pattern b); free = mask_of (free (pattern b)) }

pub accepted : (b : List ℕ) (a : Accepted) → checking b ≡ given a → IsAccepted b a
unfolding checking
accepted b a e =
    let short : _ × _ = no_refusal (ltb (length b) 12) 1 0 _ a e in
    let other : _ × _ = no_refusal (not (eqb (get_or b 0 0) 1)) 2 0 _ a short.1 in
    let out : _ × _ = no_refusal (not (sizes_fit b)) 3 0 _ a other.1 in
    let long : _ × _ = no_refusal (not (eqb (length b) (12 + 20 * node_count b))) 1 0 _ a out.1 in
    let nodes : _ × _ = nodes_pass b a 0 (node_count b) _ long.1 in
    let parents : _ × _ = once_each b a 0 (node_count b - 1) _ nodes.1 in
    record {
      sizes = not-false _ out.0;
      long = eqb-true (length b) (12 + 20 * node_count b) (not-false _ long.0);
      each = λ x o. nodes.0 x (omega arith) (omega arith);
      once = λ x o. parents.0 x (omega arith) (omega arith);
      answer = let q : given a ≡ given (record { reach = reach (pattern b); free = mask_of (free (pattern b)) }) = sym parents.1 in cc;
    }

-- An atom's terms: each is a constant or one of the four variables.
named_term : (m p w : ℕ) → (bit m p || ltb w 4) ≡ true → named (term_of m p w) ≡ true
named_term m p w e = go (bit m p) e
  where
    go : (t : Bool) → (t || ltb w 4) ≡ true → named (cond t (Constant w) (Variable w)) ≡ true
    go true e = refl
    go false e = e

-- the word fits, and counts as a term
fits_as_term : (a m k p w : ℕ) → atom_word_fits a m k p w ≡ true → k < a → named (term_of m p w) ≡ true
fits_as_term a m k p w e h = named_term m p w (rw (lt-ltb k a h) at e)

named_terms : (a : ℕ) (s t u v : Term) → (0 < a → named s ≡ true) → (1 < a → named t ≡ true) → (2 < a → named u ≡ true) → (3 < a → named v ≡ true)
    → all named (take a (s ∷ t ∷ u ∷ v ∷ [])) ≡ true
named_terms zero s t u v e f g h = refl
named_terms (suc zero) s t u v e f g h = both (e (omega arith)) refl
named_terms (suc (suc zero)) s t u v e f g h = both (e (omega arith)) (both (f (omega arith)) refl)
named_terms (suc (suc (suc zero))) s t u v e f g h = both (e (omega arith)) (both (f (omega arith)) (both (g (omega arith)) refl))
named_terms (suc (suc (suc (suc a)))) s t u v e f g h =
    both (e (omega arith)) (both (f (omega arith)) (both (g (omega arith)) (both (h (omega arith)) (take_nil a))))
  where
    take_nil : (n : ℕ) → all named (take n []) ≡ true
    take_nil zero = refl
    take_nil (suc n) = refl

atom_fine : (b : List ℕ) (h : Head) (w : Body) → atom_fits b h w ≡ true → all named (terms_of (terms_of_body (arity b h.left) h.mask w)) ≡ true
atom_fine b h w e =
    let a : ℕ = arity b h.left in
    let m : ℕ = h.mask in
    named_terms a _ _ _ _
    (fits_as_term a m 0 1 w.word0 (search (first, second)))
    (fits_as_term a m 1 2 w.word1 (search (first, second)))
    (fits_as_term a m 2 4 w.word2 (search (first, second)))
    (fits_as_term a m 3 8 w.word3 (search (first, second)))

-- kinds 11, 12 and 14 have an end
ended : (h : Head) (w : Body) → is_one_of (11 ∷ 12 ∷ 14 ∷ []) h.kind ≡ true → range_fits h w ≡ true → 0 < w.word1
unfolding range_fits
ended h w k e = let r : (window_fits w.word0 w.word1 && ltb 0 w.word1) ≡ true = rw k at e in ltb-true 0 w.word1 (second (window_fits w.word0 w.word1) (ltb 0 w.word1) r)

-- A node that passes, over children that are as Fine asks, is so too.
module _ (b : List ℕ) (x : ℕ) (below : (c : ℕ) → c < x → Fine (formula_at b c)) (h : Head) (w : Body) where
  abbrev Asked : Node → Type 0
  Asked n = free_fits (formula_of (formula_at b) n) ≡ true → Fine (formula_of (formula_at b) n)

  by_node : {n m : Node} → n ≡ m → Asked m → Asked n
  by_node e k f = rw e (k (rw e at f))

  keep_fine : (c : Comparison) → h.left < x → Asked (Keep h.left c (sides_of h.mask w))
  keep_fine c l f =
      let g = free (formula_at b h.left) in
      let s = term_within (term_of h.mask 1 w.word0) g in
      let t = term_within (term_of h.mask 2 w.word1) g in
      (below h.left l, first s t f, second s t f)

  fine_node : shape_fits b x h w ≡ true → range_fits h w ≡ true → Asked (node_of (arity b h.left) h w)
  fine_node s r =
      Shapes.by_kind b x h w s
      (λ e p. by_node (Shapes.node_1 (arity b h.left) h w e) (λ f. atom_fine b h w p))
      (λ e p. by_node (Shapes.node_2 (arity b h.left) h w e) (λ f. ((below h.left (ltb-true h.left x (search (first, second)))), (below h.right (ltb-true h.right x (search (first, second)))))))
      (λ e p. by_node (Shapes.node_3 (arity b h.left) h w e) (λ f. ((below h.left (ltb-true h.left x (search (first, second)))), (below h.right (ltb-true h.right x (search (first, second)))), f)))
      (λ e p. by_node (Shapes.node_4 (arity b h.left) h w e) (keep_fine (comparison_of h.right) (ltb-true h.left x (search (first, second)))))
      (λ e p. by_node (Shapes.node_5 (arity b h.left) h w e) (λ f. ((below h.left (ltb-true h.left x (search (first, second)))), (below h.right (ltb-true h.right x (search (first, second)))), first (within (free (formula_at b h.left)) (free (formula_at b h.right))) (within (free (formula_at b h.right)) (free (formula_at b h.left))) f, second (within (free (formula_at b h.left)) (free (formula_at b h.right))) (within (free (formula_at b h.right)) (free (formula_at b h.left))) f)))
      (λ e p. by_node (Shapes.node_6 (arity b h.left) h w e) (λ f. ((below h.left (ltb-true h.left x (search (first, second)))), f)))
      (λ e p. by_node (Shapes.node_7 (arity b h.left) h w e) (λ f. below h.left (ltb-true h.left x (search (first, second)))))
      (λ e p. by_node (Shapes.node_8 (arity b h.left) h w e) (λ f. below h.left (ltb-true h.left x (search (first, second)))))
      (λ e p. by_node (Shapes.node_9 (arity b h.left) h w e) (λ f. ((below h.left (ltb-true h.left x (search (first, second)))), (below h.right (ltb-true h.right x (search (first, second)))), f)))
      (λ e p. by_node (Shapes.node_10 (arity b h.left) h w e) (λ f. ((below h.left (ltb-true h.left x (search (first, second)))), (below h.right (ltb-true h.right x (search (first, second)))), f)))
      (λ e p. by_node (Shapes.node_11 (arity b h.left) h w e) (λ f. ((below h.left (ltb-true h.left x (search (first, second)))), (below h.right (ltb-true h.right x (search (first, second)))), f, ended h w (rw e) r)))
      (λ e p. by_node (Shapes.node_12 (arity b h.left) h w e) (λ f. ((below h.left (ltb-true h.left x (search (first, second)))), (below h.right (ltb-true h.right x (search (first, second)))), f, ended h w (rw e) r)))
      (λ e p. by_node (Shapes.node_13 (arity b h.left) h w e) (λ f. below h.left (ltb-true h.left x (search (first, second)))))
      (λ e p. by_node (Shapes.node_14 (arity b h.left) h w e) (λ f. ((below h.left (ltb-true h.left x (search (first, second)))), ended h w (rw e) r)))
      (λ e p. by_node (Shapes.node_15 (arity b h.left) h w e) (keep_fine (ShiftedLess (twos_complement w.word2)) (ltb-true h.left x (search (first, second)))))

module _ (b : List ℕ) (n : ℕ) (each : (x : ℕ) → x < n → Passes b x) where
  pub lower : (x : ℕ) → x < n → ChildrenLower b x
  unfolding node_at
  lower x o y u = Shapes.children_lower b y (arity b (head_at b y).left) (head_at b y) (body_at (bodies b) y) (each y (omega arith)).shaped

  fine_below : (m : ℕ) → m ≤ n → (x : ℕ) → x < m → Fine (formula_at b x)
  unfolding node_at
  fine_below zero u x o = absurd (omega arith)
  fine_below (suc m) u x o =
      let here : Passes b x = each x (omega arith) in
      let step : formula_at b x ≡ formula_of (formula_at b) (node_at b x) = formula_step b x (lower x (omega arith)) in
      rw step
      (fine_node b x (λ c h. fine_below m (omega arith) c (omega arith)) (head_at b x) (body_at (bodies b) x) here.shaped here.ranged (rw step at here.fitting))

-- the tree of every node of an accepted rule is as Fine asks
pub fine : (b : List ℕ) (a : Accepted) → checking b ≡ given a → (x : ℕ) → x < node_count b → Fine (formula_at b x)
fine b a e = fine_below b (node_count b) (accepted b a e).each (node_count b) (omega arith)

has_nodes : (b : List ℕ) → sizes_fit b ≡ true → leb 1 (node_count b) ≡ true
unfolding sizes_fit
has_nodes b e = search (first, second)

-- "node count N (1 to 32)"
few_nodes : (b : List ℕ) → sizes_fit b ≡ true → leb (node_count b) 32 ≡ true
unfolding sizes_fit
few_nodes b e = search (first, second)

pub nodes_most : (b : List ℕ) (a : Accepted) → checking b ≡ given a → node_count b ≤ 32
nodes_most b a e = leb-true (node_count b) 32 (few_nodes b (accepted b a e).sizes)

-- "The last node is the pattern"
pub last_is_node : (b : List ℕ) (a : Accepted) → checking b ≡ given a → last_node b < node_count b
last_is_node b a e = let h : 1 ≤ node_count b = leb-true 1 (node_count b) (has_nodes b (accepted b a e).sizes) in omega arith

pub fine_pattern : (b : List ℕ) (a : Accepted) → checking b ≡ given a → Fine (pattern b)
fine_pattern b a e = fine b a e (last_node b) (last_is_node b a e)
