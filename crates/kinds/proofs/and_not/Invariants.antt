use Prim.Native.Nat.{◌-◌}
use mathlib.Core.Bool.{not}
use Rattle.meaning.specs.Lists.{select}
use Rattle.meaning.specs.Evaluator.{cut_to, valuation_of}
use Rattle.meaning.specs.LookUp.{look_up, is_there}
use Rattle.kinds.specs.Kinds.{in_mask}
use Rattle.rowset.specs.Rows.{row_at, rows_from}
use Rattle.rowset.proofs.Growing.{Gathering}
use Rattle.kinds.proofs.and_not.Given as goal

-- `and_not` meets its contract: each row of the left run that has none in the right run is put in.
abbrev pub invariant-loop-i : goal.invariant-loop-i
invariant-loop-i l = Gathering l.lowest (row_at l.rows) (select (λ u. not (is_there (look_up l.inner (cut_to (in_mask l.g) (valuation_of u)) (rows_from l.rows l.start (l.end - l.start)))))) l.to l.initial.out l.initial.set (select (λ u. not (is_there (look_up l.inner (cut_to (in_mask l.g) (valuation_of u)) (rows_from l.rows l.start (l.end - l.start))))) (rows_from l.rows l.from (l.to - l.from))) l.out l.set l.i
