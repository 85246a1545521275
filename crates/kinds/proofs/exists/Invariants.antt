use Prim.Native.Nat.{◌-◌}
use mathlib.Core.Bool.{not}
use mathlib.Core.List.{map}
use lib.Dec.{eqb}
use Rattle.meaning.specs.Evaluator.{cut_to, valuation_of}
use Rattle.rowset.specs.Rows.{row_at, rows_from}
use Rattle.rowset.proofs.Growing.{Gathering}
use Rattle.kinds.proofs.exists.Given as goal

-- `exists` meets its contract: each row of the run is put in with the variable at 0.
abbrev pub invariant-loop-i : goal.invariant-loop-i
invariant-loop-i l = Gathering l.lowest (row_at l.rows) (map (λ u. cut_to (λ y. not (eqb y l.x)) (valuation_of u))) l.to l.initial.out l.initial.set (map (λ u. cut_to (λ y. not (eqb y l.x)) (valuation_of u)) (rows_from l.rows l.from (l.to - l.from))) l.out l.set l.i
