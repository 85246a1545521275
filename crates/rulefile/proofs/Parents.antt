-- How often each node is a child, counted node by node, and that the first node whose count isn't 1 is what 7 says.
use Prim.Native.Nat.{ℕ, zero, suc, ◌+◌, ◌*◌, ◌<◌, ◌≤◌}
use native.Mathlib.Nat.{eq-or-lt_of_le}
use native.Mathlib.Omega.{arith}
use mathlib.Core.Path.{◌≡◌, refl, sym, ap, ◌∙◌}
use mathlib.Core.Logic.{◌⊎◌, inl, inr}
use mathlib.Core.Bool.{Bool, true, false, not, cond}
use mathlib.Core.List.{List, [], ◌∷◌, ◌++◌, Memᴰ}
use lib.ListN.{length, get_or, set, replicate}
use lib.Seq.{get_or-set_same, get_or-set_other}
use lib.Dec.{eqb}
use borrow.Author.Tests.{eqb-true, eqb-false, eq-eqb, ne_eqb}
use Rattle.meaning.specs.Lists.{range, gather, occurrences}
use Rattle.meaning.specs.Outcome.{Outcome, refused, when, not_one_parent}
use Rattle.meaning.specs.RuleFile.{Accepted, node_count, node_at, children_of, times_child, weigh_parents}
use Rattle.meaning.specs.declared.Children.{Children}
use Rattle.meaning.specs.declared.Children.TheVariants.{None, One, Two}
use Rattle.meaning.specs.View.{children_in}
use Rattle.rulefile.proofs.Ranges.{gather_last, occurrences-bound}
use Rattle.meaning.proofs.Lists.{occurrences_append}

-- one child counted
pub child_counted : (uses : List ℕ) (c : ℕ) → c < length uses → (y : ℕ) → get_or (set uses c (get_or uses c 0 + 1)) y 0 ≡ get_or uses y 0 + occurrences y (c ∷ [])
child_counted uses c l y = go (eqb y c) refl
  where
    go : (t : Bool) → eqb y c ≡ t → get_or (set uses c (get_or uses c 0 + 1)) y 0 ≡ get_or uses y 0 + cond t 1 0
    go true e =
        let q : y ≡ c = eqb-true y c e in
        rw q (get_or-set_same uses c (get_or uses c 0 + 1) 0 l)
    go false e = get_or-set_other uses c y (get_or uses c 0 + 1) 0 (eqb-false y c e) ∙ (let z : get_or uses y 0 ≡ get_or uses y 0 + 0 = omega arith in z)

-- out has one more than uses for each time that a number stands in s
abbrev Adds : List ℕ → List ℕ → List ℕ → Type 0
Adds uses s out = (y : ℕ) → get_or out y 0 ≡ get_or uses y 0 + occurrences y s

-- no child, one or two counted, as the code has them
pub counted_no_child : (uses : List ℕ) (l : Children) → l ≡ None → Adds uses (children_in l) uses
counted_no_child uses l e y = rw e (let z : get_or uses y 0 ≡ get_or uses y 0 + 0 = omega arith in z)

pub counted_one : (uses out : List ℕ) (a : ℕ) (l : Children) → l ≡ One a → Adds uses (a ∷ []) out → Adds uses (children_in l) out
counted_one uses out a l e p y = rw e (p y)

pub counted_two : (uses mid out : List ℕ) (a b : ℕ) (l : Children) → l ≡ Two a b → Adds uses (a ∷ []) mid → Adds mid (b ∷ []) out → Adds uses (children_in l) out
counted_two uses mid out a b l e p q y = rw e (omega (arith, p y, q y, occurrences_append y (a ∷ []) (b ∷ [])))

-- after one child is counted there is room for another
pub counted_room : (uses mid : List ℕ) (a b : ℕ) → ((y : ℕ) → get_or uses y 0 < 254) → Adds uses (a ∷ []) mid → get_or mid b 0 < 255
counted_room uses mid a b few p = omega (arith, few b, p b, occurrences-bound b (a ∷ []))

-- a child of the node has room where every child has
pub child_room : (l k : Children) (c n : ℕ) → l ≡ k → Memᴰ c (children_in k) → ((d : ℕ) → Memᴰ d (children_in l) → d < n) → c < n
child_room l k c n e m h = h c (rw e m)

-- the children of the nodes below x
abbrev children_to : List ℕ → ℕ → List ℕ
children_to b x = gather (λ y. children_of (node_at b y)) (range 0 x)

-- the children of the first x nodes are counted
pub record UsesCounted (b uses : List ℕ) (x : ℕ) : Type 0 where
  pub right : (y : ℕ) → get_or uses y 0 ≡ occurrences y (children_to b x)
  pub few : (y : ℕ) → get_or uses y 0 ≤ 2 * x

pub counted_none : (b uses : List ℕ) → ((y : ℕ) → get_or uses y 0 ≡ 0) → UsesCounted b uses 0
counted_none b uses h = record { right = h; few = λ y. omega (arith, h y) }

two_children : (l : Children) (y : ℕ) → occurrences y (children_in l) ≤ 2
two_children None y = omega arith
two_children (One a) y = omega (arith, occurrences-bound y (a ∷ []))
two_children (Two a b) y = occurrences-bound y (a ∷ b ∷ [])

pub counted_more : (b uses more : List ℕ) (x : ℕ) (l : Children) → UsesCounted b uses x → children_in l ≡ children_of (node_at b x)
    → ((y : ℕ) → get_or more y 0 ≡ get_or uses y 0 + occurrences y (children_in l)) → UsesCounted b more (x + 1)
counted_more b uses more x l k e h = record {
  right = λ y.
      h y ∙ ap (λ n. n + occurrences y (children_in l)) (k.right y) ∙ ap (λ s. occurrences y (children_to b x) + occurrences y s) e
      ∙ sym (occurrences_append y (children_to b x) (children_of (node_at b x)))
      ∙ ap (λ n. occurrences y (children_to b x ++ children_of (node_at b n))) (let z : x ≡ 0 + x = omega arith in z)
      ∙ ap (occurrences y) (sym (gather_last (λ z. children_of (node_at b z)) 0 x));
  few = λ y. omega (arith, h y, k.few y, two_children l y);
}

pub counted_all : (b uses : List ℕ) (x : ℕ) → x ≡ node_count b → UsesCounted b uses x → (y : ℕ) → get_or uses y 0 ≡ times_child b y
unfolding times_child
counted_all b uses x e k y = k.right y ∙ ap (λ n. occurrences y (children_to b n)) e

module _ (b : List ℕ) (rest : Outcome Accepted) where
  -- every node of the range is a child once
  pub parents_pass : (k a : ℕ) → ((z : ℕ) → a ≤ z → z < a + k → times_child b z ≡ 1) → weigh_parents b (range a k) rest ≡ rest
  parents_pass zero a h = refl
  parents_pass (suc k) a h =
      ap (λ t. when (not t) not_one_parent a (weigh_parents b (range (suc a) k) rest)) (eq-eqb (times_child b a) 1 (h a (omega arith) (omega arith)))
      ∙ parents_pass k (suc a) (λ z l m. h z (omega arith) (omega arith))

  -- y is the first node of the range that isn't
  pub parents_stop : (k a y : ℕ) → a ≤ y → y < a + k → ((z : ℕ) → a ≤ z → z < y → times_child b z ≡ 1) → (times_child b y ≡ 1 → ⊥)
      → weigh_parents b (range a k) rest ≡ refused not_one_parent y
  parents_stop zero a y l m h n = absurd (omega arith)
  parents_stop (suc k) a y l m h n = go (eq-or-lt_of_le l) (λ l'. parents_stop k (suc a) y l' (omega arith) (λ z p q. h z (omega arith) q) n)
    where
      go : (a ≡ y) ⊎ (a < y) → (suc a ≤ y → weigh_parents b (range (suc a) k) rest ≡ refused not_one_parent y) → weigh_parents b (range a (suc k)) rest ≡ refused not_one_parent y
      go (inl e) later =
          ap (λ t. when (not t) not_one_parent a (weigh_parents b (range (suc a) k) rest)) (ne_eqb (times_child b a) 1 (λ q. n (ap (times_child b) (sym e) ∙ q)))
          ∙ ap (refused not_one_parent) e
      go (inr less) later =
          ap (λ t. when (not t) not_one_parent a (weigh_parents b (range (suc a) k) rest)) (eq-eqb (times_child b a) 1 (h a (omega arith) less))
          ∙ later less

-- a list of zeros counts nothing
pub zeros : (n y : ℕ) → get_or {A = ℕ} (replicate n 0) y 0 ≡ 0
zeros zero y = refl
zeros (suc n) zero = refl
zeros (suc n) (suc y) = zeros n y
