-- The words of figures as a node's children: none, one or two.
use Prim.Native.Nat.{ℕ, ◌+◌, ◌*◌}
use native.Mathlib.Omega.{arith}
use mathlib.Core.Path.{◌≡◌, sym, ap, ◌∙◌}
use mathlib.Core.List.{List, Memᴰ}
use lib.ListN.{get_or}
use Rattle.meaning.specs.Formula.{lowest_of}
use Rattle.meaning.specs.Log.{point}
use Rattle.method.proofs.Inputs.{one, two}
use Rattle.room.specs.declared.Child.{Child}
use Rattle.meaning.specs.View.{children_in}
use Rattle.meaning.specs.declared.Children.{Children}
use Rattle.meaning.specs.declared.Children.TheVariants.{None, One, Two}
use Rattle.kinds.specs.Kinds.{in_mask}
use Rattle.node_step.specs.Figures.{mask_in, low_in, after_in}
use Rattle.node_step.specs.Parts.{child_in, FiguresThere, ChildSetsAre}

module _ (f : List ℕ) (y : ℕ) where
  -- the mask is the first word
  pub mask_word : mask_in f y ≡ get_or f (y * 9) 0
  mask_word = let e : y * 9 + 0 ≡ y * 9 = omega arith in ap (λ k. get_or f k 0) e

  pub child_is : (first : ℕ) {least : ℕ} → least ≡ lowest_of (in_mask (get_or f (y * 9) 0)) → record { first = first; low = point (low_in f y); count = after_in f y; mask = get_or f (y * 9) 0; lowest = least } ≡ child_in f y first
  child_is first e = let m = mask_word in let n = e ∙ ap (λ k. lowest_of (in_mask k)) (sym m) in λ t. record { first = first; low = point (low_in f y); count = after_in f y; mask = sym m t; lowest = n t }

module _ (f cs : List ℕ) {r : Children} (e : children_in r ≡ cs) where
  pub children_none : (first second : ℕ) (left right : Child) → r ≡ None → ChildSetsAre f cs first second left right
  children_none first second left right t = rw (sym e ∙ ap children_in t) tt

  module _ (h : (y : ℕ) → Memᴰ y cs → FiguresThere f y) where
    pub figures_one : {a : ℕ} → r ≡ One a → FiguresThere f a
    figures_one {a} t = h a (rw (sym e ∙ ap children_in t) one)

    pub figures_two : {a b : ℕ} → r ≡ Two a b → FiguresThere f a × FiguresThere f b
    figures_two {a} {b} t = (h a (rw (sym e ∙ ap children_in t) one), h b (rw (sym e ∙ ap children_in t) two))

  pub children_one : {a first : ℕ} (second : ℕ) {left : Child} (right : Child) → r ≡ One a → left ≡ child_in f a first → ChildSetsAre f cs first second left right
  children_one second right t h = rw (sym e ∙ ap children_in t) h

  pub children_two : {a b first second : ℕ} {left right : Child} → r ≡ Two a b → left ≡ child_in f a first → right ≡ child_in f b second → ChildSetsAre f cs first second left right
  children_two t h k = rw (sym e ∙ ap children_in t) (h, k)
