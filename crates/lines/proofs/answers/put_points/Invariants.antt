use Prim.Native.Nat.{◌-◌}
use mathlib.Core.Path.{◌≡◌}
use lib.ListN.{length}
use Rattle.meaning.specs.Lists.{range, gather}
use Rattle.writer.proofs.Putting.{Putting}
use Rattle.lines.specs.Answers.{report_text}
use Rattle.lines.proofs.Points.{give, Listed}
use Rattle.lines.proofs.answers.put_points.Given as goal

-- `put_points` meets its contract: after each turn the text of one entry more is put.
abbrev pub invariant-loop-k : goal.invariant-loop-k
invariant-loop-k l = (length l.out ≡ length l.initial.out) × Listed l.words l.points l.width l.start l.k × Putting l.initial.out l.at (report_text l.words) l.out l.end (gather (give l.words) (range l.k (l.points - l.k)))

abbrev pub decreases-loop-k : goal.decreases-loop-k
decreases-loop-k l = l.points - l.k
