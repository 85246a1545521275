-- An atom's terms are as many as its relation's arity.
use Prim.Native.Nat.{ℕ}
use mathlib.Core.Path.{◌≡◌, refl, sym, ap, ◌∙◌}
use mathlib.Core.List.{List, ◌∷◌, cons≢nil}
use Rattle.meaning.specs.RuleFile.{arity, node_at, children_of}
use Rattle.meaning.specs.declared.Terms.{Terms}
use Rattle.meaning.specs.declared.Node.{Node}
use Rattle.meaning.specs.declared.Node.TheVariants.{Atom}
use Rattle.meaning.proofs.Accepted.{Passes}
use Rattle.meaning.proofs.Shapes.{by_kind, node_1, node_2, node_3, node_4, node_5, node_6, node_7, node_8, node_9, node_10, node_11, node_12, node_13, node_14, node_15}

module _ (b : List ℕ) where
  abbrev pub AsMany : Node → Type 0
  AsMany n = (r : ℕ) (t : Terms) → n ≡ Atom r t → arity b r ≡ t.count

  is_node : {n m : Node} → n ≡ m → AsMany m → AsMany n
  is_node e h r t f = h r t (sym e ∙ f)

  no_atom : {n : Node} {c : ℕ} {cs : List ℕ} → children_of n ≡ c ∷ cs → AsMany n
  no_atom e r t f = absurd (cons≢nil (sym e ∙ ap children_of f))

  an_atom : (r : ℕ) (t : Terms) → arity b r ≡ t.count → AsMany (Atom r t)
  an_atom r t h r' t' e =
      let f : r ≡ r' = cc in
      let g : t ≡ t' = cc in
      ap (arity b) (sym f) ∙ h ∙ ap (λ u. u.count) g

  pub as_many : (x : ℕ) → Passes b x → AsMany (node_at b x)
  unfolding node_at
  as_many x p =
      by_kind b x _ _ p.shaped
      (λ e p. is_node (node_1 _ _ _ e) (an_atom _ _ refl))
      (λ e p. is_node (node_2 _ _ _ e) (no_atom refl))
      (λ e p. is_node (node_3 _ _ _ e) (no_atom refl))
      (λ e p. is_node (node_4 _ _ _ e) (no_atom refl))
      (λ e p. is_node (node_5 _ _ _ e) (no_atom refl))
      (λ e p. is_node (node_6 _ _ _ e) (no_atom refl))
      (λ e p. is_node (node_7 _ _ _ e) (no_atom refl))
      (λ e p. is_node (node_8 _ _ _ e) (no_atom refl))
      (λ e p. is_node (node_9 _ _ _ e) (no_atom refl))
      (λ e p. is_node (node_10 _ _ _ e) (no_atom refl))
      (λ e p. is_node (node_11 _ _ _ e) (no_atom refl))
      (λ e p. is_node (node_12 _ _ _ e) (no_atom refl))
      (λ e p. is_node (node_13 _ _ _ e) (no_atom refl))
      (λ e p. is_node (node_14 _ _ _ e) (no_atom refl))
      (λ e p. is_node (node_15 _ _ _ e) (no_atom refl))
