-- `push` meets its contract: the rows copied behind the last set, and the mark behind them, are one set more.
use mathlib.Core.Path.{refl}
use Rattle.entries.proofs.Growth.{pushed}
use Rattle.entries.proofs.push.Goals as goal

pub returns : goal.returns
returns c = pushed c.requires.1 c.copy_rows.ensures refl
