-- Where the list has the free variables of a node's children as masks, `node_mask` is the mask of the node's own and `node_fits` is the condition on them.
use Prim.Native.Nat.{ℕ, zero, suc, ◌+◌, ◌*◌, ◌<◌}
use native.Mathlib.Omega.{arith}
use mathlib.Core.Path.{◌≡◌, refl, ap, ap₂, ◌∙◌}
use mathlib.Core.Bool.{Bool, true, false, not, ◌&&◌, ◌||◌}
use mathlib.Core.List.{List, Memᴰ}
use lib.ListN.{get_or}
use lib.Dec.{eqb}
use Rattle.meaning.specs.Formula.{Formula, free, within, term_within, free_fits}
use Rattle.meaning.specs.RuleFile.{bit, one_if, mask_of, children_of, formula_of}
use Rattle.meaning.specs.declared.Term.{Term}
use Rattle.meaning.specs.declared.Term.TheVariants.{Variable, Constant}
use Rattle.meaning.specs.declared.Node.{Node}
use Rattle.meaning.specs.declared.Node.TheVariants.{Atom, And, AndNot, Keep, Or, Exists, Previous, Next, Since, NotSince, Until, NotUntil, Once, Eventually}
use Rattle.ruleshape.specs.Sound.{TermBelow, VariablesBelow}
use Rattle.rulefree.specs.Mask.{variable_in, node_mask, node_fits}

-- the four tests are the four bits
pub bits : (a b c d : Bool) → let m = one_if a + 2 * one_if b + 4 * one_if c + 8 * one_if d in (bit m 1 ≡ a) × (bit m 2 ≡ b) × (bit m 4 ≡ c) × (bit m 8 ≡ d)
bits true true true true = (refl, refl, refl, refl)
bits true true true false = (refl, refl, refl, refl)
bits true true false true = (refl, refl, refl, refl)
bits true true false false = (refl, refl, refl, refl)
bits true false true true = (refl, refl, refl, refl)
bits true false true false = (refl, refl, refl, refl)
bits true false false true = (refl, refl, refl, refl)
bits true false false false = (refl, refl, refl, refl)
bits false true true true = (refl, refl, refl, refl)
bits false true true false = (refl, refl, refl, refl)
bits false true false true = (refl, refl, refl, refl)
bits false true false false = (refl, refl, refl, refl)
bits false false true true = (refl, refl, refl, refl)
bits false false true false = (refl, refl, refl, refl)
bits false false false true = (refl, refl, refl, refl)
bits false false false false = (refl, refl, refl, refl)

-- two sets of variables have the same variables below 4
abbrev Alike : (ℕ → Bool) → (ℕ → Bool) → Type 0
Alike f g = (v : ℕ) → v < 4 → f v ≡ g v

mask_set : (f : ℕ → Bool) → Alike (variable_in (mask_of f)) f
mask_set f zero l = (bits (f 0) (f 1) (f 2) (f 3)).0
mask_set f (suc zero) l = (bits (f 0) (f 1) (f 2) (f 3)).1
mask_set f (suc (suc zero)) l = (bits (f 0) (f 1) (f 2) (f 3)).2
mask_set f (suc (suc (suc zero))) l = (bits (f 0) (f 1) (f 2) (f 3)).3
mask_set f (suc (suc (suc (suc k)))) l = absurd (omega arith)

-- what goes through the variables below 4 is alike of alike sets
module _ (f g : ℕ → Bool) (h : Alike f g) where
  mask_of_alike : mask_of f ≡ mask_of g
  mask_of_alike = cc (h 0 (omega arith), h 1 (omega arith), h 2 (omega arith), h 3 (omega arith))

  term_alike : (t : Term) → TermBelow t → term_within t f ≡ term_within t g
  term_alike (Variable v) l = h v l
  term_alike (Constant w) l = refl

within_alike : (f g p q : ℕ → Bool) → Alike f p → Alike g q → within f g ≡ within p q
within_alike f g p q h k = cc (h 0 (omega arith), h 1 (omega arith), h 2 (omega arith), h 3 (omega arith), k 0 (omega arith), k 1 (omega arith), k 2 (omega arith), k 3 (omega arith))

module _ (masks : List ℕ) (g : ℕ → Formula) where
  -- the list has the child's free variables
  abbrev pub MasksBelow : ℕ → Type 0
  MasksBelow c = get_or masks c 0 ≡ mask_of (free (g c))

  abbrev set_at : ℕ → ℕ → Bool
  set_at c = variable_in (get_or masks c 0)

  set_alike : (c : ℕ) → MasksBelow c → Alike (set_at c) (free (g c))
  set_alike c e v l = ap (λ m. variable_in m v) e ∙ mask_set (free (g c)) v l

  both_within : (a b : ℕ) → MasksBelow a → MasksBelow b → within (set_at a) (set_at b) ≡ within (free (g a)) (free (g b))
  both_within a b p q = within_alike (set_at a) (set_at b) (free (g a)) (free (g b)) (set_alike a p) (set_alike b q)

  abbrev pub ChildrenKnown : Node → Type 0
  ChildrenKnown n = (c : ℕ) → Memᴰ c (children_of n) → MasksBelow c

  pub mask_right : (n : Node) → ChildrenKnown n → node_mask masks n ≡ mask_of (free (formula_of g n))
  mask_right (Atom r t) k = refl
  mask_right (And a b) k = mask_of_alike (λ v. set_at a v || set_at b v) (λ v. free (g a) v || free (g b) v) (λ v l. ap₂ ◌||◌ (set_alike a (k a (Memᴰ.head refl)) v l) (set_alike b (k b (Memᴰ.tail (Memᴰ.head refl))) v l))
  mask_right (AndNot a b) k = k a (Memᴰ.head refl)
  mask_right (Keep a c s) k = k a (Memᴰ.head refl)
  mask_right (Or a b) k = k a (Memᴰ.head refl)
  mask_right (Exists a y) k = mask_of_alike (λ v. set_at a v && not (eqb v y)) (λ v. free (g a) v && not (eqb v y)) (λ v l. ap (λ t. t && not (eqb v y)) (set_alike a (k a (Memᴰ.head refl)) v l))
  mask_right (Previous a w) k = k a (Memᴰ.head refl)
  mask_right (Next a w) k = k a (Memᴰ.head refl)
  mask_right (Since a b w) k = k b (Memᴰ.tail (Memᴰ.head refl))
  mask_right (NotSince a b w) k = k b (Memᴰ.tail (Memᴰ.head refl))
  mask_right (Until a b w) k = k b (Memᴰ.tail (Memᴰ.head refl))
  mask_right (NotUntil a b w) k = k b (Memᴰ.tail (Memᴰ.head refl))
  mask_right (Once a w) k = k a (Memᴰ.head refl)
  mask_right (Eventually a w) k = k a (Memᴰ.head refl)

  pub fits_right : (n : Node) → VariablesBelow n → ChildrenKnown n → node_fits masks n ≡ free_fits (formula_of g n)
  fits_right (Atom r t) l k = refl
  fits_right (And a b) l k = refl
  fits_right (AndNot a b) l k = both_within b a (k b (Memᴰ.tail (Memᴰ.head refl))) (k a (Memᴰ.head refl))
  fits_right (Keep a c s) l k = let h = set_alike a (k a (Memᴰ.head refl)) in ap₂ ◌&&◌ (term_alike (set_at a) (free (g a)) h s.first l.0) (term_alike (set_at a) (free (g a)) h s.second l.1)
  fits_right (Or a b) l k = ap₂ ◌&&◌ (both_within a b (k a (Memᴰ.head refl)) (k b (Memᴰ.tail (Memᴰ.head refl)))) (both_within b a (k b (Memᴰ.tail (Memᴰ.head refl))) (k a (Memᴰ.head refl)))
  fits_right (Exists a y) l k = set_alike a (k a (Memᴰ.head refl)) y l
  fits_right (Previous a w) l k = refl
  fits_right (Next a w) l k = refl
  fits_right (Since a b w) l k = both_within a b (k a (Memᴰ.head refl)) (k b (Memᴰ.tail (Memᴰ.head refl)))
  fits_right (NotSince a b w) l k = both_within a b (k a (Memᴰ.head refl)) (k b (Memᴰ.tail (Memᴰ.head refl)))
  fits_right (Until a b w) l k = both_within a b (k a (Memᴰ.head refl)) (k b (Memᴰ.tail (Memᴰ.head refl)))
  fits_right (NotUntil a b w) l k = both_within a b (k a (Memᴰ.head refl)) (k b (Memᴰ.tail (Memᴰ.head refl)))
  fits_right (Once a w) l k = refl
  fits_right (Eventually a w) l k = refl
