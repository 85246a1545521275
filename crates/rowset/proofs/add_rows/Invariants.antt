use Prim.Native.Nat.{◌-◌}
use Rattle.rowset.specs.Rows.{row_at, rows_from}
use Rattle.rowset.proofs.Growing.{Gathering}
use Rattle.rowset.proofs.add_rows.Given as goal

-- `add_rows` meets its contract: each row of the run is put in.
abbrev pub invariant-loop-i : goal.invariant-loop-i
invariant-loop-i l = Gathering l.lowest (row_at l.rows) (λ us. us) l.to l.initial.out l.initial.g (rows_from l.rows l.from (l.to - l.from)) l.out l.g l.i
