-- `compare` meets its contract: the first word that differs decides.
use Rattle.std.proofs.Common.{arith}
use Rattle.std.proofs.lemmas.Grind.{common_steps}
use Rattle.rowset.proofs.compare.Goals as goal

pub returns : goal.returns
returns c = grind (arith, common_steps)
