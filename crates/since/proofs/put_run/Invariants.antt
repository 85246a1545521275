use Prim.Native.Nat.{◌≤◌}
use Rattle.since.proofs.FromBack.{FromBack}
use Rattle.since.proofs.put_run.Given as goal

-- `put_run` meets its contract: run by run, from the last, all rows are put in.
abbrev pub invariant-loop-x : goal.invariant-loop-x
invariant-loop-x l = (l.from ≤ l.x) × FromBack l.lowest l.held.values.now l.to l.initial.out l.initial.set l.out l.set l.x

abbrev pub decreases-loop-x : goal.decreases-loop-x
decreases-loop-x l = l.x
