-- `eventually` meets its contract: a run of points more is taken.
use native.Mathlib.Omega.{arith}
use mathlib.Core.Bool.{true, false}
use Rattle.meaning.specs.Log.{point}
use Rattle.progress.specs.Stamps.{stamps_of}
use Rattle.untils.specs.Until.{due_at, DueRun}
use Rattle.untils.proofs.DueRuns.{going_more, joined, joined_run}
use Rattle.untils.proofs.eventually.Goals as goal

pub copy-k-requires-clause-run : goal.copy-k-requires-clause-run
copy-k-requires-clause-run c = joined_run _ _ _ _ c.requires.stand c.due_run-from.result.0 c.due_run-to.result.0 (omega (arith, c.loop-j.invariant.begun, c.due_run-from.ensures.begun)) c.due_run-to.ensures.begun c.due_run-to.ensures.reached

pub loop-j-preserved : goal.loop-j-preserved
loop-j-preserved c = let a = c.args in
    let none : DueRun (due_at (stamps_of a.retained) a.w (stamps_of a.retained a.i)) (point c.loop-j.j) a.m false c.due_run-from.result = rw c.time-start.ensures at c.due_run-from.ensures in
    let all : DueRun (due_at (stamps_of a.retained) a.w (stamps_of a.retained a.i)) c.due_run-from.result a.m true c.due_run-to.result = rw c.time-start.ensures at c.due_run-to.ensures in
    going_more _ _ _ _ c.loop-j.invariant none all (joined _ _ _ _ c.requires.stand c.due_run-from.result.0 c.due_run-to.result.0 (omega (arith, c.loop-j.invariant.begun, none.begun)) all.begun all.reached) c.copy-k.ensures
