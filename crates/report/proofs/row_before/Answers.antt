-- `report::row_before` meets its contract: the rows that zeros make of the two stand in the same order.
use Rattle.report.proofs.Compare.{rows_before}
use Rattle.report.proofs.row_before.Goals as goal

pub returns : goal.returns
returns c = rows_before _ _ _ _ c.requires.0 c.requires.1 c.requires.2 c.row_of.ensures c.row_of-2.ensures c.is_before.ensures
