use Prim.Native.Nat.{◌-◌}
use mathlib.Core.List.{map}
use Rattle.meaning.specs.Lists.{select}
use Rattle.meaning.specs.Evaluator.{agrees, joined}
use Rattle.kinds.specs.Kinds.{in_mask}
use Rattle.rowset.specs.Rows.{words_of, row_at, rows_from}
use Rattle.rowset.proofs.Growing.{Gathering}
use Rattle.kinds.proofs.and_row.Given as goal

-- `and_row` meets its contract: each row of the run that agrees is put in, joined.
abbrev pub invariant-loop-i : goal.invariant-loop-i
invariant-loop-i l = Gathering l.lowest (row_at l.rows) (λ us. map (joined (in_mask l.f) (words_of l.u)) (select (agrees (in_mask l.f) (in_mask l.g) (words_of l.u)) us)) l.to l.initial.out l.initial.set (map (joined (in_mask l.f) (words_of l.u)) (select (agrees (in_mask l.f) (in_mask l.g) (words_of l.u)) (rows_from l.rows l.from (l.to - l.from)))) l.out l.set l.i
