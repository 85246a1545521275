use Prim.Native.Nat.{◌≤◌}
use mathlib.Core.Path.{◌≡◌}
use lib.ListN.{length}
use Rattle.meaning.specs.RuleFile.{node_count}
use Rattle.wanted.proofs.Handed.{Handed}
use Rattle.wanted.proofs.wanted.Given as goal

-- `wanted` meets its contract. The loop keeps `Handed`: the children of the nodes passed so far have their words.
abbrev pub invariant-loop-x : goal.invariant-loop-x
invariant-loop-x l = (l.n ≡ node_count l.rule) × (l.x ≤ l.n) × (length l.out ≡ length l.initial.out) × Handed l.rule l.counts l.out l.x
