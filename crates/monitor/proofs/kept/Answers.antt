-- `kept` meets its contract.
use Rattle.figures.proofs.Slices.{entries_many}
use Rattle.monitor.proofs.kept.Goals as goal

pub returns : goal.returns
returns c = entries_many _ _ _ _
