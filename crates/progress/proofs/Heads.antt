-- A node's count by what is read of it: its children and times from its head, and until's window's end.
use Prim.Native.Nat.{ℕ}
use native.Mathlib.Omega.{arith}
use mathlib.Core.Path.{◌≡◌, sym, ap}
use mathlib.Core.List.{List}
use Rattle.meaning.specs.View.{view_of}
use Rattle.meaning.specs.RuleFile.{bodies, body_at, node_at}
use Rattle.meaning.specs.declared.Window.{Window}
use Rattle.meaning.specs.declared.Times.{Times}
use Rattle.meaning.specs.declared.Times.TheVariants.{Here, Future}
use Rattle.rulenodes.proofs.Windows.{window_read}

module _ (b : List ℕ) (x : ℕ) {t : Times} (e : t ≡ (view_of (node_at b x)).times) where
  -- until's window ends where its body says
  pub end_read : t ≡ Future → (body_at (bodies b) x).word1 ≡ (view_of (node_at b x)).window.end
  end_read f = ap (λ (w : Window). w.end) (sym (window_read b x none))
    where
      none : (view_of (node_at b x)).times ≡ Here → ⊥
      none h = let z : ◌≡◌ {A = ℕ} 0 1 = cc in absurd (omega arith)
