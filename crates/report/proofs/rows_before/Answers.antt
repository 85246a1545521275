-- `report::rows_before` meets its contract: after j turns the sum is that of the first j counts, and at most j words large.
use borrow.Author.Rules.{rules}
use Rattle.report.proofs.Sums.{sum_none, sum_more, sum_all}
use Rattle.report.proofs.rows_before.Goals as goal

pub loop-j-init : goal.loop-j-init
loop-j-init c = (sum_none _, search rules)

pub loop-j-preserved : goal.loop-j-preserved
loop-j-preserved c = (sum_more c.loop-j.invariant.0 c.word-n.ensures.is c.word-n.ensures.below, search rules)

pub returns : goal.returns
returns c = sum_all c.loop-j.invariant.0 c.loop-j.invariant.1 c.loop-j-test.false
