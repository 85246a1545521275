use Prim.Native.Nat.{◌-◌}
use Rattle.meaning.specs.Lists.{select}
use Rattle.meaning.specs.Formula.{compares}
use Rattle.meaning.specs.Definition2.{value}
use Rattle.meaning.specs.Evaluator.{valuation_of}
use Rattle.rowset.specs.Rows.{row_at, rows_from}
use Rattle.rowset.proofs.Growing.{Gathering}
use Rattle.kinds.proofs.keep.Given as goal

-- `keep` meets its contract: each row of the run that passes is put in.
abbrev pub invariant-loop-i : goal.invariant-loop-i
invariant-loop-i l = Gathering l.lowest (row_at l.rows) (select (λ u. compares l.c (value (valuation_of u) l.s) (value (valuation_of u) l.t))) l.to l.initial.out l.initial.set (select (λ u. compares l.c (value (valuation_of u) l.s) (value (valuation_of u) l.t)) (rows_from l.rows l.from (l.to - l.from))) l.out l.set l.i
