use Prim.Native.Nat.{ℕ, ◌-◌, ◌≤◌}
use mathlib.Core.List.{List}
use Rattle.meaning.specs.Lists.{range, gather}
use Rattle.meaning.specs.Keeper.{report_row}
use Rattle.rowset.specs.Rows.{row_at, rows_from}
use Rattle.kinds.specs.Kinds.{in_mask}
use Rattle.writer.proofs.Putting.{Putting}
use Rattle.writer.proofs.put_rows.Given as goal

-- After each turn the words of one row more are written.
-- what row k gives
abbrev pub give : ℕ → List ℕ → ℕ → List ℕ
give mask rows k = report_row (in_mask mask) (row_at rows k)

abbrev pub invariant-loop-i : goal.invariant-loop-i
invariant-loop-i l = (l.i ≤ l.to) × Putting l.initial.buf l.at (gather (report_row (in_mask l.mask)) (rows_from l.rows l.from (l.to - l.from))) l.buf l.k (gather (give l.mask l.rows) (range l.i (l.to - l.i)))

abbrev pub decreases-loop-i : goal.decreases-loop-i
decreases-loop-i l = l.to - l.i
