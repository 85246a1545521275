-- `report::in_form` meets its contract: the tests are the parts of the form, in its order, and each gives the next what it asks.
use mathlib.Core.Bool.{true}
use mathlib.Core.Path.{◌≡◌, sym, ◌∙◌}
use Rattle.report.specs.Form.{sizes_fit}
use Rattle.report.proofs.Forms.{sum_test, points_test, sized_of, summed_by, sizes_fail, sum_fails, points_fail, rows_decide}
use Rattle.report.proofs.in_form.Goals as goal

pub returns-then-not-sizes_fit : goal.returns-then-not-sizes_fit
returns-then-not-sizes_fit c = sizes_fail _ (sym c.sizes_fit.ensures ∙ c.if-not-sizes_fit.true)

pub counts_add-requires : goal.counts_add-requires
counts_add-requires c = sized_of _ ((let it : sizes_fit c.args.report.now ≡ true = sym c.sizes_fit.ensures ∙ c.if-not-sizes_fit.false in it))

pub returns-then-not-counts_add : goal.returns-then-not-counts_add
returns-then-not-counts_add c = sum_fails _ ((let it : sizes_fit c.args.report.now ≡ true = sym c.sizes_fit.ensures ∙ c.if-not-sizes_fit.false in it)) (sym c.counts_add.ensures ∙ c.if-not-counts_add.true)

pub points_ascend-requires : goal.points_ascend-requires
points_ascend-requires c = sized_of _ ((let it : sizes_fit c.args.report.now ≡ true = sym c.sizes_fit.ensures ∙ c.if-not-sizes_fit.false in it))

pub returns-then-not-points_ascend : goal.returns-then-not-points_ascend
returns-then-not-points_ascend c = points_fail _ ((let it : sizes_fit c.args.report.now ≡ true = sym c.sizes_fit.ensures ∙ c.if-not-sizes_fit.false in it)) ((let it : sum_test c.args.report.now ≡ true = sym c.counts_add.ensures ∙ c.if-not-counts_add.false in it)) (sym c.points_ascend.ensures ∙ c.if-not-points_ascend.true)

pub rows_ascend-requires : goal.rows_ascend-requires
rows_ascend-requires c = summed_by _ ((let it : sizes_fit c.args.report.now ≡ true = sym c.sizes_fit.ensures ∙ c.if-not-sizes_fit.false in it)) ((let it : sum_test c.args.report.now ≡ true = sym c.counts_add.ensures ∙ c.if-not-counts_add.false in it))

pub returns : goal.returns
returns c = c.rows_ascend.ensures ∙ rows_decide _ ((let it : sizes_fit c.args.report.now ≡ true = sym c.sizes_fit.ensures ∙ c.if-not-sizes_fit.false in it)) ((let it : sum_test c.args.report.now ≡ true = sym c.counts_add.ensures ∙ c.if-not-counts_add.false in it)) ((let it : points_test c.args.report.now ≡ true = sym c.points_ascend.ensures ∙ c.if-not-points_ascend.false in it))
