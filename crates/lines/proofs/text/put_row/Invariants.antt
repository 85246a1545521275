use Prim.Native.Nat.{◌-◌, ◌≤◌}
use mathlib.Core.Path.{◌≡◌}
use mathlib.Core.List.{◌++◌}
use lib.ListN.{length, drop}
use Rattle.meaning.specs.Lists.{gather}
use Rattle.writer.proofs.Putting.{Putting}
use Rattle.lines.specs.Text.{figure, space, line_end}
use Rattle.lines.proofs.text.put_row.Given as goal

-- `put_row` meets its contract: the first value, then after each turn one value more, then the line end.
abbrev pub invariant-loop-k : goal.invariant-loop-k
invariant-loop-k l = (l.n ≡ length l.row) × (1 ≤ l.k) × (l.k ≤ l.n) × (length l.out ≡ length l.initial.out)
    × Putting l.initial.out l.initial.end (gather (figure space) (drop 1 l.row) ++ line_end) l.out l.end (gather (figure space) (drop l.k l.row) ++ line_end)

abbrev pub decreases-loop-k : goal.decreases-loop-k
decreases-loop-k l = l.n - l.k
