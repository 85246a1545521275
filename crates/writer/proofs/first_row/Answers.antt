-- The mark of the first point's set.
use Rattle.writer.proofs.first_row.Goals as goal

pub returns : goal.returns
returns c = cc
