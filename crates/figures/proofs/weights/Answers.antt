-- `weights` meets its contract.
use native.Mathlib.Omega.{arith}
use Rattle.meaning.proofs.Accepted.{accepted}
use Rattle.figures.proofs.weights.Goals as goal

pub bounds-rule-2 : goal.bounds-rule-2
bounds-rule-2 c = let r = c.requires.0 in omega (arith, (accepted _ r.0 r.1).long)
