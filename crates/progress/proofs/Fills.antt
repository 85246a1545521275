-- Filling a buffer with the counts of a rule's nodes, lowest first: nothing filled, one node more, all.
use Prim.Native.Nat.{ℕ, ◌≤◌}
use native.Mathlib.Omega.{arith}
use mathlib.Core.Path.{◌≡◌}
use mathlib.Core.List.{List}
use lib.ListN.{length, get_or, take, drop}
use Rattle.meaning.specs.RuleFile.{node_count}
use Rattle.meaning.specs.declared.Point.{Point}
use Rattle.meaning.specs.declared.Stamp.{Stamp}
use Rattle.meaning.specs.declared.LogEnd.{LogEnd}
use Rattle.method.specs.Counts.{counts_to}
use Rattle.progress.specs.Filled.{Filled}
use Rattle.progress.proofs.Withins.{counts_within}

-- the counts of the first x nodes are in place
pub record Filling (rule : List ℕ) (τ : Point → Stamp) (g : LogEnd) (from before : List ℕ) (x : ℕ) (after : List ℕ) : Type 0 where
  pub reached : x ≤ node_count rule
  pub same : length after ≡ length before
  pub exact : take x after ≡ counts_to rule τ g (λ y. get_or from y 0) x
  pub past : drop (node_count rule) after ≡ drop (node_count rule) before

module _ (rule : List ℕ) (τ : Point → Stamp) (g : LogEnd) (from before : List ℕ) where
  pub filling_all : {x : ℕ} {after : List ℕ} → Filling rule τ g from before x after → node_count rule ≤ x → Filled rule τ g from before after
  filling_all {x} {after} f h =
      let z : x ≡ node_count rule = omega (arith, f.reached) in
      let e : take (node_count rule) after ≡ counts_to rule τ g (λ y. get_or from y 0) (node_count rule) = rw z at f.exact in
      record {
        exact = e;
        past = f.past;
        bounded = λ k. rw e (counts_within τ g rule (λ y. get_or from y 0) (node_count rule) k);
      }
