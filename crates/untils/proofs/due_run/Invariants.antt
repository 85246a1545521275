use Rattle.meaning.specs.Log.{point}
use Rattle.progress.specs.Stamps.{stamps_of}
use Rattle.untils.specs.Until.{due_at}
use Rattle.untils.proofs.DueRuns.{Passing}
use Rattle.untils.proofs.due_run.Given as goal

-- `due_run` meets its contract. The loop's invariant: the points from j on before k are due as is wanted.
abbrev pub invariant-loop-k : goal.invariant-loop-k
invariant-loop-k l = Passing (due_at (stamps_of l.retained) l.w l.start) (point l.initial.k) l.m l.want l.k
