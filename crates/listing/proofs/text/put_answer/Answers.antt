-- `put_answer` meets its contract, written or refused.
use native.Mathlib.Omega.{arith}
use Rattle.lines.proofs.Lines.{refused_short}
use Rattle.lines.proofs.Room.{report_fits}
use Rattle.listing.proofs.text.put_answer.Goals as goal

pub put_refused-requires : goal.put_refused-requires
put_refused-requires c = omega (arith, refused_short c.of_event.result.0 c.of_event.result.1)

pub returns-in-Ok-clause-upper_bound : goal.returns-in-Ok-clause-upper_bound
returns-in-Ok-clause-upper_bound c = omega (arith, c.put_report.ensures.place, report_fits c.args.report.now c.requires.1)

pub returns-in-Err-clause-upper_bound : goal.returns-in-Err-clause-upper_bound
returns-in-Err-clause-upper_bound c = omega (arith, c.put_refused.ensures.place, refused_short c.of_event.result.0 c.of_event.result.1)
