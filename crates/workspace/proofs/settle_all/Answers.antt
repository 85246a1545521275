-- `settle_all` meets its contract: the large room is chosen where it is enough, and the largest always is.
use native.Mathlib.Omega.{arith}
use Rattle.workspace.proofs.Enough.{marks_enough, largest_fits}
use Rattle.workspace.proofs.settle_all.Goals as goal

pub settle_in-requires-clause-call_fits : goal.settle_in-requires-clause-call_fits
settle_in-requires-clause-call_fits c = (omega (arith, c.requires.needs_are.0, c.if-needs-le-LARGE_ROWS.true), marks_enough c.requires.ready_in)

pub settle_in-requires-2-clause-call_fits : goal.settle_in-requires-2-clause-call_fits
settle_in-requires-2-clause-call_fits c = largest_fits c.requires.ready_in
