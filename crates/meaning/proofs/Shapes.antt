-- A node that passes 4 is one of the fifteen kinds, and its children are lower than itself.
use Prim.Native.Nat.{ℕ, ◌<◌}
use mathlib.Core.Path.{◌≡◌, refl}
use mathlib.Core.Bool.{Bool, true, false, cond, ◌||◌, false≢true}
use mathlib.Core.Logic.{◌⊎◌, inl, inr}
use mathlib.Core.List.Memᴰ
use mathlib.Core.List.{List, [], ◌∷◌, Memᴰ}
use lib.Dec.{eqb}
use borrow.Author.Tests.{ltb-true, eqb-true, ne_eqb}
use Rattle.meaning.specs.RuleFile.{atom_fits, two_fit, keep_fits, shifted_fits, exists_fits, one_window_fits, two_window_fits, is_one_of, shape_fits, node_of, children_of, terms_of_body, sides_of, comparison_of, window_of}
use Rattle.meaning.specs.Readings.{twos_complement}
use Rattle.meaning.specs.declared.Comparison.TheVariants.{ShiftedLess}
use Rattle.meaning.specs.declared.Head.{Head}
use Rattle.meaning.specs.declared.Body.{Body}
use Rattle.meaning.specs.declared.Node.{Node}
use Rattle.meaning.specs.declared.Node.TheVariants.{Atom, And, AndNot, Keep, Or, Exists, Previous, Next, Since, NotSince, Until, NotUntil, Once, Eventually}
use Rattle.meaning.proofs.Points.{first, second}

-- a test that a choice of tests passes, and a number that is one of some
choose : {P : Type 0} (t p q : Bool) → (t ≡ true → p ≡ true → P) → (q ≡ true → P) → cond t p q ≡ true → P
choose true p q f g e = f refl e
choose false p q f g e = g e

among : {P : Type 0} (k m : ℕ) (ks : List ℕ) → (k ≡ m → P) → (is_one_of ks k ≡ true → P) → is_one_of (m ∷ ks) k ≡ true → P
among {P} k m ks f g e = go (eqb k m) refl e
  where
    go : (t : Bool) → eqb k m ≡ t → (t || is_one_of ks k) ≡ true → P
    go true y e = f (eqb-true k m y)
    go false y e = g e

-- a node that passes 4, kind by kind
module _ {P : Type 0} (b : List ℕ) (x : ℕ) (h : Head) (w : Body) where
  pub by_kind : shape_fits b x h w ≡ true
      → (h.kind ≡ 1 → atom_fits b h w ≡ true → P)
      → (h.kind ≡ 2 → two_fit x h w ≡ true → P)
      → (h.kind ≡ 3 → two_fit x h w ≡ true → P)
      → (h.kind ≡ 4 → keep_fits x h w ≡ true → P)
      → (h.kind ≡ 5 → two_fit x h w ≡ true → P)
      → (h.kind ≡ 6 → exists_fits x h w ≡ true → P)
      → (h.kind ≡ 7 → one_window_fits x h w ≡ true → P)
      → (h.kind ≡ 8 → one_window_fits x h w ≡ true → P)
      → (h.kind ≡ 9 → two_window_fits x h w ≡ true → P)
      → (h.kind ≡ 10 → two_window_fits x h w ≡ true → P)
      → (h.kind ≡ 11 → two_window_fits x h w ≡ true → P)
      → (h.kind ≡ 12 → two_window_fits x h w ≡ true → P)
      → (h.kind ≡ 13 → one_window_fits x h w ≡ true → P)
      → (h.kind ≡ 14 → one_window_fits x h w ≡ true → P)
      → (h.kind ≡ 15 → shifted_fits x h w ≡ true → P)
      → P
  unfolding shape_fits
  by_kind e k1 k2 k3 k4 k5 k6 k7 k8 k9 k10 k11 k12 k13 k14 k15 =
      choose (eqb h.kind 1) (atom_fits b h w) _ (λ t. k1 (eqb-true h.kind 1 t))
      (choose (is_one_of (2 ∷ 3 ∷ 5 ∷ []) h.kind) (two_fit x h w) _ (λ t p. (among h.kind 2 (3 ∷ 5 ∷ []) (λ y. k2 y p) (among h.kind 3 (5 ∷ []) (λ y. k3 y p) (among h.kind 5 ([]) (λ y. k5 y p) (λ e. absurd (false≢true e))))) t)
      (choose (eqb h.kind 4) (keep_fits x h w) _ (λ t. k4 (eqb-true h.kind 4 t))
      (choose (eqb h.kind 6) (exists_fits x h w) _ (λ t. k6 (eqb-true h.kind 6 t))
      (choose (is_one_of (7 ∷ 8 ∷ 13 ∷ 14 ∷ []) h.kind) (one_window_fits x h w) _ (λ t p. (among h.kind 7 (8 ∷ 13 ∷ 14 ∷ []) (λ y. k7 y p) (among h.kind 8 (13 ∷ 14 ∷ []) (λ y. k8 y p) (among h.kind 13 (14 ∷ []) (λ y. k13 y p) (among h.kind 14 ([]) (λ y. k14 y p) (λ e. absurd (false≢true e)))))) t)
      (choose (is_one_of (9 ∷ 10 ∷ 11 ∷ 12 ∷ []) h.kind) (two_window_fits x h w) _ (λ t p. (among h.kind 9 (10 ∷ 11 ∷ 12 ∷ []) (λ y. k9 y p) (among h.kind 10 (11 ∷ 12 ∷ []) (λ y. k10 y p) (among h.kind 11 (12 ∷ []) (λ y. k11 y p) (among h.kind 12 ([]) (λ y. k12 y p) (λ e. absurd (false≢true e)))))) t)
      (choose (eqb h.kind 15) (shifted_fits x h w) false (λ t. k15 (eqb-true h.kind 15 t))
      (λ e. absurd (false≢true e)))))))) e

-- the node of a kind
module _ (a : ℕ) (h : Head) (w : Body) where
  pub node_1 : h.kind ≡ 1 → node_of a h w ≡ Atom h.left (terms_of_body a h.mask w)
  unfolding node_of
  node_1 e = rw e

  pub node_2 : h.kind ≡ 2 → node_of a h w ≡ And h.left h.right
  unfolding node_of
  node_2 e = rw e

  pub node_3 : h.kind ≡ 3 → node_of a h w ≡ AndNot h.left h.right
  unfolding node_of
  node_3 e = rw e

  pub node_4 : h.kind ≡ 4 → node_of a h w ≡ Keep h.left (comparison_of h.right) (sides_of h.mask w)
  unfolding node_of
  node_4 e = rw e

  pub node_5 : h.kind ≡ 5 → node_of a h w ≡ Or h.left h.right
  unfolding node_of
  node_5 e = rw e

  pub node_6 : h.kind ≡ 6 → node_of a h w ≡ Exists h.left w.word0
  unfolding node_of
  node_6 e = rw e

  pub node_7 : h.kind ≡ 7 → node_of a h w ≡ Previous h.left (window_of w)
  unfolding node_of
  node_7 e = rw e

  pub node_8 : h.kind ≡ 8 → node_of a h w ≡ Next h.left (window_of w)
  unfolding node_of
  node_8 e = rw e

  pub node_9 : h.kind ≡ 9 → node_of a h w ≡ Since h.left h.right (window_of w)
  unfolding node_of
  node_9 e = rw e

  pub node_10 : h.kind ≡ 10 → node_of a h w ≡ NotSince h.left h.right (window_of w)
  unfolding node_of
  node_10 e = rw e

  pub node_11 : h.kind ≡ 11 → node_of a h w ≡ Until h.left h.right (window_of w)
  unfolding node_of
  node_11 e = rw e

  pub node_12 : h.kind ≡ 12 → node_of a h w ≡ NotUntil h.left h.right (window_of w)
  unfolding node_of
  node_12 e = rw e

  pub node_13 : h.kind ≡ 13 → node_of a h w ≡ Once h.left (window_of w)
  unfolding node_of
  node_13 e = rw e

  pub node_14 : h.kind ≡ 14 → node_of a h w ≡ Eventually h.left (window_of w)
  unfolding node_of
  node_14 e = rw e

  pub node_15 : h.kind ≡ 15 → node_of a h w ≡ Keep h.left (ShiftedLess (twos_complement w.word2)) (sides_of h.mask w)
  unfolding node_of
  node_15 e = rw e

-- a node of none of the other kinds is read as one of kind 14
pub node_rest : (a : ℕ) (h : Head) (w : Body)
    → (h.kind ≡ 1 → ⊥) → (h.kind ≡ 2 → ⊥) → (h.kind ≡ 3 → ⊥) → (h.kind ≡ 4 → ⊥) → (h.kind ≡ 5 → ⊥) → (h.kind ≡ 6 → ⊥) → (h.kind ≡ 7 → ⊥)
    → (h.kind ≡ 8 → ⊥) → (h.kind ≡ 9 → ⊥) → (h.kind ≡ 10 → ⊥) → (h.kind ≡ 11 → ⊥) → (h.kind ≡ 12 → ⊥) → (h.kind ≡ 13 → ⊥) → (h.kind ≡ 15 → ⊥)
    → node_of a h w ≡ Eventually h.left (window_of w)
unfolding node_of
node_rest a h w e1 e2 e3 e4 e5 e6 e7 e8 e9 e10 e11 e12 e13 e15 =
    simp (ne_eqb h.kind 1 e1, ne_eqb h.kind 2 e2, ne_eqb h.kind 3 e3, ne_eqb h.kind 4 e4, ne_eqb h.kind 5 e5, ne_eqb h.kind 6 e6, ne_eqb h.kind 7 e7, ne_eqb h.kind 8 e8, ne_eqb h.kind 9 e9, ne_eqb h.kind 10 e10, ne_eqb h.kind 11 e11, ne_eqb h.kind 12 e12, ne_eqb h.kind 13 e13, ne_eqb h.kind 15 e15)

-- "left and right name children, each lower than the node itself"
module _ (b : List ℕ) (x a : ℕ) (h : Head) (w : Body) where
  -- a node of these children
  one_child : (c : ℕ) (n : Node) → children_of n ≡ c ∷ [] → node_of a h w ≡ n → c < x → (y : ℕ) → Memᴰ y (children_of (node_of a h w)) → y < x
  one_child c n e f u y m = go (Memᴰ.cases_cons (rw (f, e) at m))
    where
      go : (y ≡ c) ⊎ Memᴰ y [] → y < x
      go (inl p) = rw p u
      go (inr p) = absurd (Memᴰ.not-nil p)

  two_children : (c d : ℕ) (n : Node) → children_of n ≡ c ∷ d ∷ [] → node_of a h w ≡ n → c < x → d < x → (y : ℕ) → Memᴰ y (children_of (node_of a h w)) → y < x
  two_children c d n e f u v y m = go (Memᴰ.cases_cons (rw (f, e) at m))
    where
      last : (y ≡ d) ⊎ Memᴰ y [] → y < x
      last (inl p) = rw p v
      last (inr p) = absurd (Memᴰ.not-nil p)

      go : (y ≡ c) ⊎ Memᴰ y (d ∷ []) → y < x
      go (inl p) = rw p u
      go (inr p) = last (Memᴰ.cases_cons p)

  pub children_lower : shape_fits b x h w ≡ true → (y : ℕ) → Memᴰ y (children_of (node_of a h w)) → y < x
  children_lower s =
      by_kind b x h w s
      (λ e p y m. absurd (Memᴰ.not-nil (rw (node_1 a h w e) at m)))
      (λ e p. two_children h.left h.right _ refl (node_2 a h w e) (ltb-true h.left x (search (first, second))) (ltb-true h.right x (search (first, second))))
      (λ e p. two_children h.left h.right _ refl (node_3 a h w e) (ltb-true h.left x (search (first, second))) (ltb-true h.right x (search (first, second))))
      (λ e p. one_child h.left _ refl (node_4 a h w e) (ltb-true h.left x (search (first, second))))
      (λ e p. two_children h.left h.right _ refl (node_5 a h w e) (ltb-true h.left x (search (first, second))) (ltb-true h.right x (search (first, second))))
      (λ e p. one_child h.left _ refl (node_6 a h w e) (ltb-true h.left x (search (first, second))))
      (λ e p. one_child h.left _ refl (node_7 a h w e) (ltb-true h.left x (search (first, second))))
      (λ e p. one_child h.left _ refl (node_8 a h w e) (ltb-true h.left x (search (first, second))))
      (λ e p. two_children h.left h.right _ refl (node_9 a h w e) (ltb-true h.left x (search (first, second))) (ltb-true h.right x (search (first, second))))
      (λ e p. two_children h.left h.right _ refl (node_10 a h w e) (ltb-true h.left x (search (first, second))) (ltb-true h.right x (search (first, second))))
      (λ e p. two_children h.left h.right _ refl (node_11 a h w e) (ltb-true h.left x (search (first, second))) (ltb-true h.right x (search (first, second))))
      (λ e p. two_children h.left h.right _ refl (node_12 a h w e) (ltb-true h.left x (search (first, second))) (ltb-true h.right x (search (first, second))))
      (λ e p. one_child h.left _ refl (node_13 a h w e) (ltb-true h.left x (search (first, second))))
      (λ e p. one_child h.left _ refl (node_14 a h w e) (ltb-true h.left x (search (first, second))))
      (λ e p. one_child h.left _ refl (node_15 a h w e) (ltb-true h.left x (search (first, second))))
