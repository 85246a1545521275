-- A row fits by its relation and then by its unused columns.
use mathlib.Core.Path.{sym, ◌∙◌}
use native.Mathlib.Omega.{arith}
use Rattle.events.proofs.Fits.{fits_not, fits_columns}
use Rattle.events.proofs.row_fits.Goals as goal

pub returns-then-from-relation : goal.returns-then-from-relation
returns-then-from-relation c = sym (fits_not _ _ _ (omega arith))

pub returns : goal.returns
returns c = c.unused_zero.ensures ∙ sym (fits_columns _ _ _ c.requires.1.count (omega arith))
