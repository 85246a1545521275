use Rattle.formed.proofs.Climbs.{AlikeYet}
use Rattle.formed.proofs.few_alike.Given as goal

-- The loop keeps `AlikeYet`: whether one of all has such a number, or none before i has.
abbrev pub invariant-loop-i : goal.invariant-loop-i
invariant-loop-i l = AlikeYet l.numbers l.from l.to l.i l.alike
