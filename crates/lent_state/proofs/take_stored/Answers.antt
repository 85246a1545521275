-- 8 by the test of well-formedness, 9 to 12 by the first checks, and where these find nothing what follows.
use mathlib.Core.Path.{◌≡◌, sym, ◌∙◌}
use Rattle.std.specs.Prelude.{Err}
use borrow.Author.Rules.{rules}
use Rattle.method.proofs.Formed.{formed}
use Rattle.events.specs.Answers.{fed_of}
use Rattle.lent_state.proofs.Stored.{rule_sizes, not_formed, fed_passes, refused_first, taken_on}
use Rattle.lent_state.proofs.take_stored.Goals as goal

pub returns-then-not-well_formed : goal.returns-then-not-well_formed
returns-then-not-well_formed c = not_formed (fed_of c.args.handed) (sym c.well_formed-2.ensures.answer ∙ c.if-not-well_formed.true)

pub admit_handed-requires : goal.admit_handed-requires
admit_handed-requires c = rule_sizes (formed _ (sym c.well_formed-2.ensures.answer ∙ c.if-not-well_formed.false))

pub returns-in_err-admit_handed : goal.returns-in_err-admit_handed
returns-in_err-admit_handed c =
    let e : c.from_residual.result ≡ Err c.in_err-admit_handed.field-0.0 = search rules in
    rw e (refused_first (fed_of c.args.handed) (sym c.well_formed-2.ensures.answer ∙ c.if-not-well_formed.false) c.in_err-admit_handed.ensures)

pub take_admitted-requires-clause-formed : goal.take_admitted-requires-clause-formed
take_admitted-requires-clause-formed c = formed _ (sym c.well_formed-2.ensures.answer ∙ c.if-not-well_formed.false)

pub take_admitted-requires-clause-event_there : goal.take_admitted-requires-clause-event_there
take_admitted-requires-clause-event_there c =
    let few = (formed _ (sym c.well_formed-2.ensures.answer ∙ c.if-not-well_formed.false)).few_points in
    let p = fed_passes c.args.rule.now c.args.log (fed_of c.args.handed) few c.in_ok-admit_handed.ensures in
    rw c.words-words.ensures (p.event, p.some, p.room)

pub returns : goal.returns
returns c = taken_on (fed_of c.args.handed) (sym c.well_formed-2.ensures.answer ∙ c.if-not-well_formed.false) c.in_ok-admit_handed.ensures (rw c.words-words.ensures at c.take_admitted.ensures)
