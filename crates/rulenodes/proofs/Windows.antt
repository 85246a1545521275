-- A node that looks at other points than its own has its window from its body.
use Prim.Native.Nat.{ℕ}
use mathlib.Core.Path.{◌≡◌, refl}
use mathlib.Core.Bool.{Bool, true, false, cond}
use mathlib.Core.List.{List}
use lib.Dec.{eqb}
use Rattle.meaning.specs.View.{view_of}
use Rattle.meaning.specs.RuleFile.{window_of, bodies, body_at, node_of, node_at}
use Rattle.meaning.specs.declared.Head.{Head}
use Rattle.meaning.specs.declared.Body.{Body}
use Rattle.meaning.specs.declared.Node.{Node}
use Rattle.meaning.specs.declared.Times.TheVariants.{Here}

module _ (a : ℕ) (h : Head) (w : Body) where
  abbrev Windowed : Node → Type 0
  Windowed n = ((view_of n).times ≡ Here → ⊥) → (view_of n).window ≡ window_of w

  choice : (t : Bool) (m n : Node) → Windowed m → Windowed n → Windowed (cond t m n)
  choice true m n e f = e
  choice false m n e f = f

  windowed : Windowed (node_of a h w)
  unfolding node_of
  windowed =
      choice (eqb h.kind 1) _ _ (λ k. absurd (k refl))
      (choice (eqb h.kind 2) _ _ (λ k. absurd (k refl))
      (choice (eqb h.kind 3) _ _ (λ k. absurd (k refl))
      (choice (eqb h.kind 4) _ _ (λ k. absurd (k refl))
      (choice (eqb h.kind 5) _ _ (λ k. absurd (k refl))
      (choice (eqb h.kind 6) _ _ (λ k. absurd (k refl))
      (choice (eqb h.kind 7) _ _ (λ k. refl)
      (choice (eqb h.kind 8) _ _ (λ k. refl)
      (choice (eqb h.kind 9) _ _ (λ k. refl)
      (choice (eqb h.kind 10) _ _ (λ k. refl)
      (choice (eqb h.kind 11) _ _ (λ k. refl)
      (choice (eqb h.kind 12) _ _ (λ k. refl)
      (choice (eqb h.kind 13) _ _ (λ k. refl)
      (choice (eqb h.kind 15) _ _ (λ k. absurd (k refl)) (λ k. refl))))))))))))))

pub window_read : (b : List ℕ) (x : ℕ) → ((view_of (node_at b x)).times ≡ Here → ⊥) → (view_of (node_at b x)).window ≡ window_of (body_at (bodies b) x)
unfolding node_at
window_read b x = windowed _ _ (body_at (bodies b) x)
