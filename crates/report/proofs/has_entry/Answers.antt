-- `report::has_entry` meets its contract: words that are in form have a first word.
use native.Mathlib.Omega.{arith}
use mathlib.Core.Bool.{true}
use mathlib.Core.Path.{◌≡◌, sym, ◌∙◌}
use Rattle.meaning.specs.Report.{in_form}
use Rattle.report.proofs.Forms.{summed_of}
use Rattle.report.proofs.has_entry.Goals as goal

pub returns-then-not-in_form : goal.returns-then-not-in_form
returns-then-not-in_form c = rw (sym c.in_form.ensures ∙ c.if-not-in_form.true)

pub word-requires : goal.word-requires
word-requires c = omega (arith, summed_of _ ((let it : in_form c.args.report.now ≡ true = sym c.in_form.ensures ∙ c.if-not-in_form.false in it)))

pub returns : goal.returns
returns c = rw ((let it : in_form c.args.report.now ≡ true = sym c.in_form.ensures ∙ c.if-not-in_form.false in it), c.word.ensures.is)
