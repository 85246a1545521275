-- `add_rows` meets its contract: each row of the run is put in.
use mathlib.Core.Path.{refl, ap}
use mathlib.Core.List.{[], ◌∷◌}
use Rattle.rowset.specs.Rows.{rows_from}
use Rattle.rowset.proofs.Growing.{gathers_from, gathers_on}
use Rattle.rowset.proofs.add_rows.Goals as goal

pub loop-i-init : goal.loop-i-init
unfolding rows_from
loop-i-init c = gathers_from c.requires.run.ordered c.requires.gather_room

pub loop-i-preserved : goal.loop-i-preserved
loop-i-preserved c = gathers_on c.loop-i.invariant (λ u. u ∷ []) (λ x xs. refl) c.loop-i-test.true c.add-g.ensures (ap (λ u. u ∷ []) c.row_at.ensures)
