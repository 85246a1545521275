-- `or_at` meets its contract: one set is put in after the other.
use Rattle.rowset.proofs.Growing.{added_then}
use Rattle.settling.proofs.or_at.Goals as goal

pub returns : goal.returns
returns c = added_then c.copy_at-k.ensures c.copy_at.ensures
