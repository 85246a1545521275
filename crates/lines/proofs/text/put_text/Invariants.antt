use Prim.Native.Nat.{◌+◌, ◌-◌, ◌≤◌}
use mathlib.Core.Path.{◌≡◌}
use lib.ListN.{length, drop}
use Rattle.writer.proofs.Putting.{Putting}
use Rattle.lines.proofs.text.put_text.Given as goal

-- `put_text` meets its contract: after k turns the first k bytes are put.
abbrev pub invariant-loop-k : goal.invariant-loop-k
invariant-loop-k l = (l.n ≡ length l.text) × (l.k ≤ l.n) × (length l.out ≡ length l.initial.out) × Putting l.initial.out l.at l.text l.out (l.at + l.k) (drop l.k l.text)

abbrev pub decreases-loop-k : goal.decreases-loop-k
decreases-loop-k l = l.n - l.k
