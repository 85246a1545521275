-- `put_row` meets its contract: the four stores are those of `set_row`.
use mathlib.Core.Path.{refl}
use Rattle.rowset.specs.Rows.{set_row}
use Rattle.rowset.proofs.put_row.Goals as goal

pub returns : goal.returns
unfolding set_row
returns c = refl
