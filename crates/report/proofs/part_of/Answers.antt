-- `report::part_of` meets its contract: an entry that is there has its count and its rows within the words.
use native.Mathlib.Omega.{arith}
use mathlib.Core.Bool.{true}
use mathlib.Core.Path.{◌≡◌, sym, ◌∙◌}
use Rattle.report.proofs.Reading.{entry_test, entry_of, part_given, part_refused}
use Rattle.report.proofs.Sums.{small_product}
use Rattle.report.proofs.part_of.Goals as goal

pub returns-then-not-has_entry : goal.returns-then-not-has_entry
returns-then-not-has_entry c = part_refused _ _ (sym c.has_entry.ensures ∙ c.if-not-has_entry.true)

pub word-free-requires : goal.word-free-requires
word-free-requires c = omega (arith, entry_of _ _ ((let it : entry_test c.args.report.now c.args.k ≡ true = sym c.has_entry.ensures ∙ c.if-not-has_entry.false in it)))

pub overflow_mul-k : goal.overflow_mul-k
overflow_mul-k c = omega (arith, entry_of _ _ ((let it : entry_test c.args.report.now c.args.k ≡ true = sym c.has_entry.ensures ∙ c.if-not-has_entry.false in it)))

pub overflow_add-k : goal.overflow_add-k
overflow_add-k c = omega (arith, entry_of _ _ ((let it : entry_test c.args.report.now c.args.k ≡ true = sym c.has_entry.ensures ∙ c.if-not-has_entry.false in it)))

pub overflow_add-k-2 : goal.overflow_add-k-2
overflow_add-k-2 c = omega (arith, entry_of _ _ ((let it : entry_test c.args.report.now c.args.k ≡ true = sym c.has_entry.ensures ∙ c.if-not-has_entry.false in it)))

pub word-count-requires : goal.word-count-requires
word-count-requires c = omega (arith, entry_of _ _ ((let it : entry_test c.args.report.now c.args.k ≡ true = sym c.has_entry.ensures ∙ c.if-not-has_entry.false in it)))

pub start_of-start-requires : goal.start_of-start-requires
start_of-start-requires c = entry_of _ _ ((let it : entry_test c.args.report.now c.args.k ≡ true = sym c.has_entry.ensures ∙ c.if-not-has_entry.false in it))

pub overflow_mul-result : goal.overflow_mul-result
overflow_mul-result c = omega (arith, small_product c.word-free.result c.word-count.result (omega (arith, entry_of _ _ ((let it : entry_test c.args.report.now c.args.k ≡ true = sym c.has_entry.ensures ∙ c.if-not-has_entry.false in it)))) (omega arith))

pub returns : goal.returns
returns c = part_given _ _ _ _ _ c.start_of-start.ensures c.word-free.ensures.is c.word-count.ensures.is ((let it : entry_test c.args.report.now c.args.k ≡ true = sym c.has_entry.ensures ∙ c.if-not-has_entry.false in it))
