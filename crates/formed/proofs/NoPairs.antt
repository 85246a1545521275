-- No pairs fit every node, and some only a since.
use Prim.Native.Nat.{ℕ, ◌-◌, ◌<◌}
use native.Mathlib.Omega.{arith}
use mathlib.Core.Path.{◌≡◌, sym}
use mathlib.Core.Bool.{true, false}
use mathlib.Core.List.{List}
use lib.ListN.{length}
use borrow.Author.Tests.{ne_eqb}
use Rattle.meaning.specs.declared.Times.{Times}
use Rattle.meaning.specs.declared.View.{View}
use Rattle.method.specs.Settle.{has_pairs}
use Rattle.method.specs.WellFormed.{pairs_fit}
use Rattle.method.proofs.Reached.{no_pairs_fit}
use Rattle.kinds.specs.Kinds.{pairs_from}
use Rattle.pairs.proofs.Runs.{pairs-length}

module _ (b : List ℕ) (x : ℕ) (v : View) (ns vs : List ℕ) (from to : ℕ) where
  pub pairs_none : from ≡ to → true ≡ pairs_fit b x v (pairs_from ns vs from (to - from))
  unfolding pairs_from
  pairs_none e = let z : to - from ≡ 0 = omega (arith, e) in rw z (sym (no_pairs_fit b x v))

  pub pairs-some : from < to → {t : Times} → v.times ≡ t → has_pairs t ≡ false → false ≡ pairs_fit b x v (pairs_from ns vs from (to - from))
  pairs-some l e f = rw (e, f) (sym (ne_eqb (length (pairs_from ns vs from (to - from))) 0 (λ z. omega (arith, pairs-length ns vs from (to - from)))))
