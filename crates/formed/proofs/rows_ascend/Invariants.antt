use Prim.Native.Nat.{suc, ◌-◌}
use mathlib.Core.Path.{◌≡◌}
use Rattle.kinds.specs.Kinds.{pair_at}
use Rattle.formed.specs.Tests.{joint_at}
use Rattle.formed.proofs.Climbs.{Ascends, BitsOf}
use Rattle.formed.proofs.rows_ascend.Given as goal

-- The loop keeps of the entries before i that they ascend, which bits their rows have, and the joined number of the last.
abbrev pub invariant-loop-i : goal.invariant-loop-i
invariant-loop-i l = record { ascend : Ascends (suc l.lowest) (pair_at l.numbers l.values) l.from l.i; have : BitsOf l.values l.from l.i l.bits; joined : l.last ≡ joint_at l.numbers l.values (l.i - 1) }
