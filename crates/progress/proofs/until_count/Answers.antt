-- The scan up to the bound's time stamp is the count.
use Rattle.progress.proofs.Scans.{until_same}
use Rattle.progress.proofs.until_count.Goals as goal

pub returns : goal.returns
returns c = until_same _ _ _ _ _ c.bound-by.ensures c.first_open.ensures
