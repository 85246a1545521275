-- `put_run` meets its contract: run by run, from the last, all rows are put in.
use native.Mathlib.Omega.{arith}
use Rattle.since.proofs.FromBack.{none_yet, run_more, all_put}
use Rattle.since.proofs.put_run.Goals as goal

pub loop-x-init : goal.loop-x-init
loop-x-init c = (c.requires.run.0.ordered, none_yet c.requires.set_room)

pub loop-x-preserved : goal.loop-x-preserved
loop-x-preserved c = (c.age_start-first.ensures.begun, run_more c.loop-x.invariant.1 c.age_start-first.result (omega (arith, c.age_start-first.ensures.within)) c.add_rows-set.ensures)

pub returns : goal.returns
returns c = let l = c.loop-x in
    all_put l.invariant.1 c.args.from l.invariant.0 c.loop-x-test.false
