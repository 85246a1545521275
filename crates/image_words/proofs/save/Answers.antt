-- `save` meets its contract, by the tests of the lengths and of the figures, and by what saving from the slices' parts has left.
use lib.Seq.{length-take-le}
use mathlib.Core.Path.{refl, sym, ◌∙◌}
use Rattle.figures.proofs.Slices.{figures_out}
use Rattle.lent_state.proofs.Memory.{fit_bytes, fit_times, fit_stored}
use Rattle.image_words.specs.Promises.{lent_to_save}
use Rattle.image_words.proofs.Saving.{saved_bad, lent_unfit, lent_saved, to_save}
use Rattle.image_words.proofs.save.Goals as goal

pub returns-then-not-lengths_fit : goal.returns-then-not-lengths_fit
returns-then-not-lengths_fit c = lent_unfit _ _ (sym c.lengths_fit.ensures ∙ c.if-not-lengths_fit.true)

pub returns-then-not-figures_fit : goal.returns-then-not-figures_fit
returns-then-not-figures_fit c =
    let m = lent_to_save c.args.lent in
    lent_saved m _ (sym c.lengths_fit.ensures ∙ c.if-not-lengths_fit.false) refl
    (saved_bad _ _ (figures_out m.rule m.bytes m.log m.times m.retained m.owners m.numbers m.values m.count (sym c.figures_fit.ensures ∙ c.if-not-figures_fit.true)))

pub slice_bounds-save_stored-end : goal.slice_bounds-save_stored-end
slice_bounds-save_stored-end c =
    sym (length-take-le c.args.lent.bytes c.args.lent.rule.now (fit_bytes (lent_to_save c.args.lent) (sym c.lengths_fit.ensures ∙ c.if-not-lengths_fit.false) (sym c.figures_fit.ensures ∙ c.if-not-figures_fit.false)))

pub slice_bounds-save_stored-end-2 : goal.slice_bounds-save_stored-end-2
slice_bounds-save_stored-end-2 c =
    sym (length-take-le c.args.lent.retained c.args.lent.times.now (fit_times (lent_to_save c.args.lent) (sym c.lengths_fit.ensures ∙ c.if-not-lengths_fit.false) (sym c.figures_fit.ensures ∙ c.if-not-figures_fit.false)))

pub save_stored-requires : goal.save_stored-requires
save_stored-requires c = to_save (lent_to_save c.args.lent) (sym c.lengths_fit.ensures ∙ c.if-not-lengths_fit.false) (sym c.figures_fit.ensures ∙ c.if-not-figures_fit.false)

pub returns : goal.returns
returns c =
    let m = lent_to_save c.args.lent in
    let fit = sym c.lengths_fit.ensures ∙ c.if-not-lengths_fit.false in
    lent_saved m _ fit (fit_stored m fit (sym c.figures_fit.ensures ∙ c.if-not-figures_fit.false)) c.save_stored.ensures
