-- `start` meets its contract, by the answer of checking.
use mathlib.Core.Path.{sym, ◌∙◌, ap}
use Rattle.rulefile.specs.Checked.{answer_of}
use Rattle.monitor.proofs.Starting.{rule_fits}
use Rattle.monitor.proofs.start.Goals as goal

pub empty-state-requires : goal.empty-state-requires
empty-state-requires c = rule_fits _ _ (sym c.check-checked.ensures ∙ ap answer_of c.in-Ok.is)
