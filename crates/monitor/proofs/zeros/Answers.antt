-- `zeros` meets its contract.
use mathlib.Core.Path.{refl}
use Rattle.monitor.specs.State.{start_state}
use Rattle.monitor.proofs.zeros.Goals as goal

pub returns : goal.returns
unfolding start_state
returns c = refl
