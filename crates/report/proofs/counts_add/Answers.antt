-- `report::counts_add` meets its contract: the words read are P and the total.
use Rattle.report.proofs.counts_add.Goals as goal

pub returns : goal.returns
returns c = (cc)
