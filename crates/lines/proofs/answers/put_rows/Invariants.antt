use Prim.Native.Nat.{◌+◌, ◌*◌, ◌≤◌}
use mathlib.Core.Path.{◌≡◌}
use lib.ListN.{length}
use Rattle.meaning.specs.Lists.{gather}
use Rattle.report.specs.Form.{rows_from}
use Rattle.writer.proofs.Putting.{Putting}
use Rattle.lines.specs.Text.{row_line}
use Rattle.lines.proofs.answers.put_rows.Given as goal

-- `put_rows` meets its contract: after each turn the line of one row more is put.
abbrev pub invariant-loop-left : goal.invariant-loop-left
invariant-loop-left l = (l.from + l.width * l.left ≤ length l.words) × (length l.out ≡ length l.initial.out)
    × Putting l.initial.out l.at (gather row_line (rows_from l.words l.start l.width l.width l.count)) l.out l.end (gather row_line (rows_from l.words l.from l.width l.width l.left))

abbrev pub decreases-loop-left : goal.decreases-loop-left
decreases-loop-left l = l.left
