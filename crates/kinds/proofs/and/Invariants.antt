use Prim.Native.Nat.{◌-◌}
use Rattle.meaning.specs.Evaluator.{and_rows}
use Rattle.kinds.specs.Kinds.{in_mask}
use Rattle.rowset.specs.Rows.{row_at, rows_from}
use Rattle.rowset.proofs.Growing.{Through}
use Rattle.kinds.proofs.and.Given as goal

-- `and` meets its contract: each row of the left run is joined with the right run.
abbrev pub invariant-loop-i : goal.invariant-loop-i
invariant-loop-i l = Through l.lowest (row_at l.rows) (λ us. and_rows (in_mask l.f) (in_mask l.g) us (rows_from l.rows l.start (l.end - l.start))) l.to l.initial.out l.n (and_rows (in_mask l.f) (in_mask l.g) (rows_from l.rows l.from (l.to - l.from)) (rows_from l.rows l.start (l.end - l.start))) l.out l.k l.i
