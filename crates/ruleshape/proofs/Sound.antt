-- A node that passes 4 and 5 has lower children, variables below 4 and a window that adds at most the longest to the reach.
use Prim.Native.Nat.{ℕ, ◌≤◌, zero-le}
use native.Mathlib.Omega.{arith}
use mathlib.Core.Path.{◌≡◌, refl}
use mathlib.Core.Bool.{Bool, true, false, cond, ◌&&◌, ◌||◌}
use mathlib.Core.List.{List, [], ◌∷◌}
use lib.Dec.{ltb, leb, eqb}
use borrow.Author.Tests.{ltb-true, leb-true, eqb-true}
use Rattle.meaning.specs.Outcome.{longest_window}
use Rattle.meaning.specs.RuleFile.{head_at, body_at, bodies, arity, bit, is_one_of, term_of, node_of, node_at, shape_fits, range_fits, window_fits}
use Rattle.meaning.specs.declared.Head.{Head}
use Rattle.meaning.specs.declared.Body.{Body}
use Rattle.meaning.specs.declared.Node.{Node}
use Rattle.meaning.specs.declared.Term.TheVariants.{Variable, Constant}
use Rattle.meaning.proofs.Points.{first, second}
use Rattle.meaning.proofs.Shapes.{by_kind, children_lower, node_1, node_2, node_3, node_4, node_5, node_6, node_7, node_8, node_9, node_10, node_11, node_12, node_13, node_14, node_15}
use Rattle.ruleshape.specs.Sound.{NodeFits, TermBelow, VariablesBelow, window_reach, NodeSound}

term_below : (mask p w : ℕ) → (bit mask p || ltb w 4) ≡ true → TermBelow (term_of mask p w)
term_below mask p w = go (bit mask p)
  where
    go : (t : Bool) → (t || ltb w 4) ≡ true → TermBelow (cond t (Constant w) (Variable w))
    go true e = tt
    go false e = ltb-true w 4 e

window_end : (c d : ℕ) → window_fits c d ≡ true → d ≤ longest_window
window_end c d = go (eqb d 0) refl
  where
    go : (t : Bool) → eqb d 0 ≡ t → cond t (ltb c longest_window) (ltb c d && leb d longest_window) ≡ true → d ≤ longest_window
    go true z e = let q : d ≡ 0 = eqb-true d 0 z in omega arith
    go false z e = leb-true d longest_window (second (ltb c d) (leb d longest_window) e)

-- kinds 11, 12 and 14 add their window's end
bounded : (h : Head) (w : Body) → is_one_of (11 ∷ 12 ∷ 14 ∷ []) h.kind ≡ true → range_fits h w ≡ true → w.word1 ≤ longest_window
unfolding range_fits
bounded h w k e =
    let r : (window_fits w.word0 w.word1 && ltb 0 w.word1) ≡ true = rw k at e in
    window_end w.word0 w.word1 (first (window_fits w.word0 w.word1) (ltb 0 w.word1) r)

module _ (b : List ℕ) (x a : ℕ) (h : Head) (w : Body) where
  abbrev Bounded : Node → Type 0
  Bounded n = VariablesBelow n × (window_reach n ≤ longest_window)

  -- of a node of this kind
  of_kind : (n : Node) → node_of a h w ≡ n → Bounded n → Bounded (node_of a h w)
  of_kind n e k = rw e k

  bounds : shape_fits b x h w ≡ true → range_fits h w ≡ true → Bounded (node_of a h w)
  bounds s r =
      by_kind b x h w s
      (λ e p. of_kind _ (node_1 a h w e) (tt, zero-le))
      (λ e p. of_kind _ (node_2 a h w e) (tt, zero-le))
      (λ e p. of_kind _ (node_3 a h w e) (tt, zero-le))
      (λ e p. of_kind _ (node_4 a h w e) ((term_below h.mask 1 w.word0 (search (first, second)), term_below h.mask 2 w.word1 (search (first, second))), zero-le))
      (λ e p. of_kind _ (node_5 a h w e) (tt, zero-le))
      (λ e p. of_kind _ (node_6 a h w e) (ltb-true w.word0 4 (search (first, second)), zero-le))
      (λ e p. of_kind _ (node_7 a h w e) (tt, zero-le))
      (λ e p. of_kind _ (node_8 a h w e) (tt, zero-le))
      (λ e p. of_kind _ (node_9 a h w e) (tt, zero-le))
      (λ e p. of_kind _ (node_10 a h w e) (tt, zero-le))
      (λ e p. of_kind _ (node_11 a h w e) (tt, bounded h w (rw e) r))
      (λ e p. of_kind _ (node_12 a h w e) (tt, bounded h w (rw e) r))
      (λ e p. of_kind _ (node_13 a h w e) (tt, zero-le))
      (λ e p. of_kind _ (node_14 a h w e) (tt, bounded h w (rw e) r))
      (λ e p. of_kind _ (node_15 a h w e) ((term_below h.mask 1 w.word0 (search (first, second)), term_below h.mask 2 w.word1 (search (first, second))), zero-le))

pub node_sound : (b : List ℕ) (x : ℕ) → NodeFits b x → NodeSound x (node_at b x)
unfolding node_at
node_sound b x f =
    let h = head_at b x in
    let k = bounds b x (arity b h.left) h (body_at (bodies b) x) f.shape f.range in
    record { lower = children_lower b x (arity b h.left) h (body_at (bodies b) x) f.shape; variables = k.0; adds = k.1 }
