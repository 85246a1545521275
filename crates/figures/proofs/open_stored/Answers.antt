-- The last node's count stands where the test of well-formedness left it.
use native.Mathlib.Omega.{arith}
use mathlib.Core.Path.{◌≡◌, sym, ◌∙◌}
use mathlib.Core.Bool.{true}
use Rattle.method.specs.WellFormed.{well_formed}
use Rattle.method.proofs.Formed.{formed}
use Rattle.formed.specs.StateFigures.{stored_in}
use Rattle.figures.proofs.Slices.{node_sizes, not_open, last_most, open_counted}
use Rattle.figures.proofs.open_stored.Goals as goal

pub returns-then-not-well_formed : goal.returns-then-not-well_formed
returns-then-not-well_formed c = not_open _ (sym c.well_formed-2.ensures.answer ∙ c.if-not-well_formed.true)

pub bounds-rule-2 : goal.bounds-rule-2
bounds-rule-2 c = omega (arith, node_sizes (formed _ ((let it : let a = c.args in well_formed (stored_in a.rule.now a.log a.times.now a.owners.now a.numbers.now a.values.now a.count) ≡ true = sym c.well_formed-2.ensures.answer ∙ c.if-not-well_formed.false in it))))

pub overflow_sub-last : goal.overflow_sub-last
overflow_sub-last c = omega (arith, node_sizes (formed _ ((let it : let a = c.args in well_formed (stored_in a.rule.now a.log a.times.now a.owners.now a.numbers.now a.values.now a.count) ≡ true = sym c.well_formed-2.ensures.answer ∙ c.if-not-well_formed.false in it))))

pub overflow_cast-last : goal.overflow_cast-last
overflow_cast-last c = omega (arith, node_sizes (formed _ ((let it : let a = c.args in well_formed (stored_in a.rule.now a.log a.times.now a.owners.now a.numbers.now a.values.now a.count) ≡ true = sym c.well_formed-2.ensures.answer ∙ c.if-not-well_formed.false in it))))

pub offset_bounds-counts-last : goal.offset_bounds-counts-last
offset_bounds-counts-last c = omega (arith, node_sizes (formed _ ((let it : let a = c.args in well_formed (stored_in a.rule.now a.log a.times.now a.owners.now a.numbers.now a.values.now a.count) ≡ true = sym c.well_formed-2.ensures.answer ∙ c.if-not-well_formed.false in it))))

pub bounds-counts-last : goal.bounds-counts-last
bounds-counts-last c = omega (arith, node_sizes (formed _ ((let it : let a = c.args in well_formed (stored_in a.rule.now a.log a.times.now a.owners.now a.numbers.now a.values.now a.count) ≡ true = sym c.well_formed-2.ensures.answer ∙ c.if-not-well_formed.false in it))))

pub overflow_sub-result : goal.overflow_sub-result
overflow_sub-result c = last_most _ ((let it : let a = c.args in well_formed (stored_in a.rule.now a.log a.times.now a.owners.now a.numbers.now a.values.now a.count) ≡ true = sym c.well_formed-2.ensures.answer ∙ c.if-not-well_formed.false in it)) (c.well_formed-2.ensures.known c.if-not-well_formed.false)

pub returns : goal.returns
returns c = open_counted _ ((let it : let a = c.args in well_formed (stored_in a.rule.now a.log a.times.now a.owners.now a.numbers.now a.values.now a.count) ≡ true = sym c.well_formed-2.ensures.answer ∙ c.if-not-well_formed.false in it)) (c.well_formed-2.ensures.known c.if-not-well_formed.false)
