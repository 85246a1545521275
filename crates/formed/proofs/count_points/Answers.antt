-- `count_points` meets its contract.
use Rattle.formed.proofs.Times.{counted}
use Rattle.formed.proofs.count_points.Goals as goal

pub returns : goal.returns
returns c = counted c.args.rule.now c.args.log c.args.times.now c.requires.1 c.saturating_sub.ensures c.counts.ensures
