-- The mark after the last point's set.
use Rattle.writer.proofs.end_row.Goals as goal

pub returns : goal.returns
returns c = cc
