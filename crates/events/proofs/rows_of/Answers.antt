-- The rows give what those from `k` on give, until one doesn't fit.
use mathlib.Core.Path.{sym, ◌∙◌}
use Rattle.events.proofs.Fits.{rows_more}
use Rattle.events.proofs.rows_of.Goals as goal

pub loop-k-preserved : goal.loop-k-preserved
loop-k-preserved c = c.loop-k.invariant ∙ rows_more _ _ _ _ c.loop-k-test.true (sym c.row_fits.ensures ∙ c.if-not-row_fits.false)
