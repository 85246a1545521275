-- The checks' answers in their order give the first refusal that applies.
use mathlib.Core.Path.{◌≡◌, sym, ◌∙◌}
use native.Mathlib.Omega.{arith}
use lib.ListN.{get_or}
use Rattle.meaning.specs.Outcome.{most_points}
use borrow.Author.Rules.{rules}
use borrow.Author.Tests.{lt-ltb, le-ltb, le-leb, lt-leb, leb-true, leb-false, ltb-true, ltb-false}
use Rattle.std.specs.Prelude.{Err}
use Rattle.limits.specs.declared.Refusal.TheVariants.{RowOut}
use Rattle.events.proofs.Forms.{form_rowed}
use Rattle.events.proofs.Admits.{not-event, event_rows}
use Rattle.events.proofs.admit.Goals as goal

pub returns-in_default : goal.returns-in_default
returns-in_default c = λ rest. not-event _ _ _ _ rest (sym c.in_default.is ∙ c.form_of.ensures)

pub rows_of-rows-requires : goal.rows_of-rows-requires
rows_of-rows-requires c = (c.requires, form_rowed _ (sym c.in-Some.is ∙ c.form_of.ensures))

pub returns-in_default-rows : goal.returns-in_default-rows
returns-in_default-rows c = λ rest.
    let h : c.map_err.result ≡ Err (RowOut c.in_default-rows.field-0) = search rules in
    event_rows _ _ _ _ rest (sym c.in-Some.is ∙ c.form_of.ensures) ∙ rw (h, sym c.rows_of-rows.ensures ∙ c.in_default-rows.is)

pub bounds-event-0 : goal.bounds-event-0
bounds-event-0 c = omega (arith, (form_rowed _ (sym c.in-Some.is ∙ c.form_of.ensures)).long)

pub returns-then-not-in_order : goal.returns-then-not-in_order
returns-then-not-in_order c = λ rest. event_rows _ _ _ _ rest (sym c.in-Some.is ∙ c.form_of.ensures) ∙ rw (sym c.rows_of-rows.ensures ∙ c.in-Ok.is, lt-ltb (get_or c.args.event.now 0 0) c.args.last.0 (leb-false _ _ (sym c.in_order.ensures ∙ c.if-not-in_order.true)))

pub returns-then-not-has_room : goal.returns-then-not-has_room
returns-then-not-has_room c = λ rest. event_rows _ _ _ _ rest (sym c.in-Some.is ∙ c.form_of.ensures) ∙ rw (sym c.rows_of-rows.ensures ∙ c.in-Ok.is, le-ltb (get_or c.args.event.now 0 0) c.args.last.0 (leb-true _ _ (sym c.in_order.ensures ∙ c.if-not-in_order.false)), le-leb most_points c.args.points (ltb-false _ _ (sym c.has_room.ensures ∙ c.if-not-has_room.true)))

pub returns : goal.returns
returns c = λ rest. event_rows _ _ _ _ rest (sym c.in-Some.is ∙ c.form_of.ensures) ∙ rw (sym c.rows_of-rows.ensures ∙ c.in-Ok.is, le-ltb (get_or c.args.event.now 0 0) c.args.last.0 (leb-true _ _ (sym c.in_order.ensures ∙ c.if-not-in_order.false)), lt-leb most_points c.args.points (ltb-true _ _ (sym c.has_room.ensures ∙ c.if-not-has_room.false)))
