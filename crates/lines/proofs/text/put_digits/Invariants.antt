use Prim.Native.Nat.{◌≤◌}
use mathlib.Core.Path.{◌≡◌}
use lib.ListN.{length}
use Rattle.lines.proofs.Spelling.{Spelling}
use Rattle.lines.proofs.text.put_digits.Given as goal

-- `put_digits` meets its contract: after each turn one digit more is put, the last one first.
abbrev pub invariant-loop-i : goal.invariant-loop-i
invariant-loop-i l = (l.i ≤ l.k) × (length l.out ≡ length l.initial.out) × Spelling l.initial.out l.at l.k l.n l.out l.i l.rest

abbrev pub decreases-loop-i : goal.decreases-loop-i
decreases-loop-i l = l.i
