-- `report::row_count` meets its contract: an entry that is there has its count within the words.
use native.Mathlib.Omega.{arith}
use mathlib.Core.Bool.{true}
use mathlib.Core.Path.{◌≡◌, sym, ◌∙◌}
use Rattle.report.proofs.Reading.{entry_test, entry_of, count_given, count_refused}
use Rattle.report.proofs.row_count.Goals as goal

pub overflow_mul-result : goal.overflow_mul-result
overflow_mul-result c = omega (arith, entry_of _ _ ((let it : entry_test c.args.report.now c.args.k ≡ true = sym c.has_entry.ensures ∙ c.if-has_entry.true in it)))

pub overflow_add-result : goal.overflow_add-result
overflow_add-result c = omega (arith, entry_of _ _ ((let it : entry_test c.args.report.now c.args.k ≡ true = sym c.has_entry.ensures ∙ c.if-has_entry.true in it)))

pub overflow_add-result-then-has_entry : goal.overflow_add-result-then-has_entry
overflow_add-result-then-has_entry c = omega (arith, entry_of _ _ ((let it : entry_test c.args.report.now c.args.k ≡ true = sym c.has_entry.ensures ∙ c.if-has_entry.true in it)))

pub offset_bounds-report-k : goal.offset_bounds-report-k
offset_bounds-report-k c = omega (arith, entry_of _ _ ((let it : entry_test c.args.report.now c.args.k ≡ true = sym c.has_entry.ensures ∙ c.if-has_entry.true in it)))

pub bounds-report-k : goal.bounds-report-k
bounds-report-k c = omega (arith, entry_of _ _ ((let it : entry_test c.args.report.now c.args.k ≡ true = sym c.has_entry.ensures ∙ c.if-has_entry.true in it)))

pub returns-then-has_entry : goal.returns-then-has_entry
returns-then-has_entry c = count_given _ _ ((let it : entry_test c.args.report.now c.args.k ≡ true = sym c.has_entry.ensures ∙ c.if-has_entry.true in it))

pub returns-else-has_entry : goal.returns-else-has_entry
returns-else-has_entry c = count_refused _ _ (sym c.has_entry.ensures ∙ c.if-has_entry.false)
