-- `take_handed` meets its contract, by the tests of the lengths and of the figures, and by what the taking over slices has left.
use native.Mathlib.Omega.{arith}
use lib.Seq.{length-take-le}
use mathlib.Core.Path.{◌≡◌, sym, ◌∙◌}
use borrow.Author.Rules.{rules}
use Rattle.std.specs.Prelude.{Err}
use Rattle.events.specs.Answers.{fed_of}
use Rattle.figures.proofs.Slices.{figures_out}
use Rattle.lent_state.specs.Lent.{lent_in}
use Rattle.lent_state.proofs.Memory.{fit_words, fit_bytes, fit_stored, taken_unfit, taken_bad, taken_refused, taken_done, taken_room, taken_some}
use Rattle.lent_state.proofs.take_handed.Goals as goal

pub returns-then-not-lengths_fit-clause-takes : goal.returns-then-not-lengths_fit-clause-takes
returns-then-not-lengths_fit-clause-takes c = taken_unfit _ _ _ (sym c.lengths_fit.ensures ∙ c.if-not-lengths_fit.true)

pub returns-then-not-figures_fit-clause-takes : goal.returns-then-not-figures_fit-clause-takes
returns-then-not-figures_fit-clause-takes c =
    let m = lent_in c.args.lent.now in
    taken_bad m _ _ (sym c.lengths_fit.ensures ∙ c.if-not-lengths_fit.false) (figures_out m.rule m.bytes m.log m.times m.retained m.owners m.numbers m.values m.count (sym c.figures_fit.ensures ∙ c.if-not-figures_fit.true))

pub slice_bounds-take_stored-end : goal.slice_bounds-take_stored-end
slice_bounds-take_stored-end c =
    sym (length-take-le c.args.lent.now.bytes c.args.lent.now.rule.now (fit_bytes (lent_in c.args.lent.now) (sym c.lengths_fit.ensures ∙ c.if-not-lengths_fit.false) (sym c.figures_fit.ensures ∙ c.if-not-figures_fit.false)))

pub take_stored-requires : goal.take_stored-requires
take_stored-requires c = fit_words (lent_in c.args.lent.now) (sym c.lengths_fit.ensures ∙ c.if-not-lengths_fit.false) (sym c.figures_fit.ensures ∙ c.if-not-figures_fit.false)

pub returns-in_err-taken-clause-takes : goal.returns-in_err-taken-clause-takes
returns-in_err-taken-clause-takes c =
    let fit = sym c.lengths_fit.ensures ∙ c.if-not-lengths_fit.false in
    let few = sym c.figures_fit.ensures ∙ c.if-not-figures_fit.false in
    let e : c.from_residual.result ≡ Err c.in_err-taken.field-0.0 = search rules in
    rw e (taken_refused (lent_in c.args.lent.now) (fed_of c.args.handed) _ fit (fit_stored (lent_in c.args.lent.now) fit few) c.take_stored.ensures _ c.in_err-taken.was)

pub overflow_add-lent : goal.overflow_add-lent
overflow_add-lent c =
    let fit = sym c.lengths_fit.ensures ∙ c.if-not-lengths_fit.false in
    let few = sym c.figures_fit.ensures ∙ c.if-not-figures_fit.false in
    omega (arith, c.points_added.ensures, rw (← c.words-words.ensures) at (taken_room (lent_in c.args.lent.now) (fed_of c.args.handed) _ fit (fit_stored (lent_in c.args.lent.now) fit few) c.take_stored.ensures _ c.in_ok-taken.was))

pub bounds-words-0 : goal.bounds-words-0
bounds-words-0 c =
    let fit = sym c.lengths_fit.ensures ∙ c.if-not-lengths_fit.false in
    let few = sym c.figures_fit.ensures ∙ c.if-not-figures_fit.false in
    rw (← c.words-words.ensures) at (taken_some (lent_in c.args.lent.now) (fed_of c.args.handed) _ fit (fit_stored (lent_in c.args.lent.now) fit few) c.take_stored.ensures _ c.in_ok-taken.was)

pub returns-clause-takes : goal.returns-clause-takes
returns-clause-takes c =
    let fit = sym c.lengths_fit.ensures ∙ c.if-not-lengths_fit.false in
    let few = sym c.figures_fit.ensures ∙ c.if-not-figures_fit.false in
    taken_done (lent_in c.args.lent.now) (fed_of c.args.handed) _ fit (fit_stored (lent_in c.args.lent.now) fit few) c.take_stored.ensures _ c.in_ok-taken.was c.words-words.ensures c.points_added.ensures
