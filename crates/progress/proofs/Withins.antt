-- No count exceeds the number of points, where the children's counts and the count to start from don't.
use Prim.Native.Nat.{ℕ, zero, suc, ◌≤◌}
use native.Mathlib.Omega.{arith}
use mathlib.Core.List.{List, [], ◌∷◌, ◌++◌}
use lib.ListN.{get_or}
use Rattle.meaning.specs.View.{view_of}
use Rattle.meaning.specs.RuleFile.{node_at}
use Rattle.meaning.specs.declared.Point.{Point}
use Rattle.meaning.specs.declared.Stamp.{Stamp}
use Rattle.meaning.specs.declared.LogEnd.{LogEnd}
use Rattle.method.specs.Counts.{advance, counts_to}
use Rattle.method.proofs.Bounds.{advance_most}
use Rattle.progress.specs.Bounds.{Within}

append_within : (n : ℕ) (xs : List ℕ) (v : ℕ) → Within n xs → v ≤ n → Within n (xs ++ v ∷ [])
append_within n [] v h k zero = k
append_within n [] v h k (suc y) = omega arith
append_within n (x ∷ xs) v h k zero = h 0
append_within n (x ∷ xs) v h k (suc y) = append_within n xs v (λ z. h (suc z)) k y

module _ (τ : Point → Stamp) (e : LogEnd) where
  pub counts_within : (b : List ℕ) (from : ℕ → ℕ) (x : ℕ) → ((y : ℕ) → from y ≤ e.points) → Within e.points (counts_to b τ e from x)
  counts_within b from zero h = λ y. omega arith
  counts_within b from (suc x) h =
      append_within e.points (counts_to b τ e from x) (advance τ e (λ y. get_or (counts_to b τ e from x) y 0) (from x) (view_of (node_at b x))) (counts_within b from x h)
      (advance_most τ e (from x) (λ y. get_or (counts_to b τ e from x) y 0) (view_of (node_at b x)) (h x))
