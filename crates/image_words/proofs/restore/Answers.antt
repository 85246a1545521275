-- `restore` meets its contract, by the lengths, by the sizes, and by the test of what is read in.
use mathlib.Core.Path.{◌≡◌, sym, ◌∙◌}
use borrow.Author.Rules.{rules}
use Rattle.std.specs.Prelude.{None, Err}
use Rattle.lent_state.proofs.Memory.{fits_sized}
use Rattle.image_words.specs.Parts.{SizesFit}
use Rattle.image_words.specs.Promises.{lent_to_read}
use Rattle.image_words.proofs.Restoring.{unfit_stays, other_stays, image_read}
use Rattle.image_words.proofs.restore.Goals as goal

pub returns-then-not-lengths_fit-clause-read : goal.returns-then-not-lengths_fit-clause-read
returns-then-not-lengths_fit-clause-read c = unfit_stays _ _ (sym c.lengths_fit.ensures ∙ c.if-not-lengths_fit.true) _

pub returns-in_err-layout-clause-read : goal.returns-in_err-layout-clause-read
returns-in_err-layout-clause-read c =
    let none : c.lay_out.result ≡ None = search rules in
    let e : c.from_residual.result ≡ Err c.in_err-layout.field-0.0 = search rules in
    rw e (other_stays (lent_to_read c.args.lent.now) _ (sym c.lengths_fit.ensures ∙ c.if-not-lengths_fit.false) (rw none at c.lay_out.ensures) _)

pub returns-then-not-read_parts-clause-read : goal.returns-then-not-read_parts-clause-read
returns-then-not-read_parts-clause-read c = other_stays (lent_to_read c.args.lent.now) _ (sym c.lengths_fit.ensures ∙ c.if-not-lengths_fit.false) (sym c.read_parts.ensures.answer ∙ c.if-not-read_parts.true) _

pub store_parts-requires-clause-rule_len : goal.store_parts-requires-clause-rule_len
store_parts-requires-clause-rule_len c =
    let z = fits_sized _ _ _ _ _ (sym c.lengths_fit.ensures ∙ c.if-not-lengths_fit.false) in
    (z.rule_long, z.times_long, z.owners_long, z.numbers_long, z.values_are_long)

pub returns-clause-read : goal.returns-clause-read
returns-clause-read c =
    let z : SizesFit c.args.image.now c.in_ok-layout.layout.kept c.in_ok-layout.layout.retained = search rules in
    let ok = c.if-not-read_parts.false in
    rw c.set_figures.ensures.told
    (image_read (lent_to_read c.args.lent.now) _ z (c.read_parts.ensures.entries ok) c.store_parts.ensures (sym c.lengths_fit.ensures ∙ c.if-not-lengths_fit.false) (sym c.read_parts.ensures.answer ∙ ok))
