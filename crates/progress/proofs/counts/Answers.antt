-- After the last turn all counts are in place.
use native.Mathlib.Omega.{arith}
use Rattle.progress.proofs.Fills.{filling_all}
use Rattle.progress.proofs.counts.Goals as goal

pub returns : goal.returns
returns c = filling_all _ _ _ _ _ c.loop-x.invariant.1 (omega arith)
