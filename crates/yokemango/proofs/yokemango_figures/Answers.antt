-- `yokemango_figures` meets its contract: by the test of the lengths, and by that of `open_points`.
use mathlib.Core.Path.{sym, ◌∙◌}
use Rattle.yokemango.proofs.Numbers.{figures_unfit, figures_fit_lem, long_enough}
use Rattle.yokemango.proofs.yokemango_figures.Goals as goal

pub returns-then-not-lengths_fit : goal.returns-then-not-lengths_fit
returns-then-not-lengths_fit c = c.figures_of.ensures ∙ figures_unfit _ (sym c.lengths_fit.ensures ∙ c.if-not-lengths_fit.true)

pub open_points-found-requires : goal.open_points-found-requires
open_points-found-requires c = long_enough _ _ _ _ _ (sym c.lengths_fit.ensures ∙ c.if-not-lengths_fit.false)

pub returns : goal.returns
returns c = c.figures_of-2.ensures ∙ figures_fit_lem _ (sym c.lengths_fit.ensures ∙ c.if-not-lengths_fit.false) c.open_points-found.ensures
