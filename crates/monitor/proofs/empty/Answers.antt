-- `empty` meets its contract: the bytes copied are the rule, and the rest is of zeros.
use borrow.Author.Rules.{rules}
use Rattle.monitor.proofs.Starting.{rule_in_lem}
use Rattle.monitor.proofs.empty.Goals as goal

pub returns : goal.returns
returns c = rule_in_lem c.zeros.result c.args.rule.now c.copy_bytes.new.to c.zeros.ensures (search rules) c.copy_bytes.ensures
