-- `count_of` meets its contract: each arm answers what `advance_by` says of its times.
use native.Mathlib.Omega.{arith}
use Rattle.progress.proofs.Heads.{end_read}
use Rattle.progress.proofs.count_of.Goals as goal

pub returns-in-Future : goal.returns-in-Future
returns-in-Future c = grind (arith, end_read)
