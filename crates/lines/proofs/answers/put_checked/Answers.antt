-- `put_checked` meets its contract, accepted or refused.
use native.Mathlib.Omega.{arith}
use Rattle.lines.proofs.Lines.{accepted_short, refused_short}
use Rattle.lines.proofs.answers.put_checked.Goals as goal

pub put_accepted-requires : goal.put_accepted-requires
put_accepted-requires c = omega (arith, accepted_short c.in-Ok.rule.reach)

pub put_refused-requires : goal.put_refused-requires
put_refused-requires c = omega (arith, refused_short c.of_rule.result.0 c.of_rule.result.1)

pub returns-in-Ok-clause-upper_bound : goal.returns-in-Ok-clause-upper_bound
returns-in-Ok-clause-upper_bound c = omega (arith, c.put_accepted.ensures.place, accepted_short c.in-Ok.rule.reach)

pub returns-in-Err-clause-upper_bound : goal.returns-in-Err-clause-upper_bound
returns-in-Err-clause-upper_bound c = omega (arith, c.put_refused.ensures.place, refused_short c.of_rule.result.0 c.of_rule.result.1)
