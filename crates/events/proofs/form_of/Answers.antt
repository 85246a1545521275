-- The form is told by the tests in their order.
use Rattle.events.proofs.Forms.{form_short, form_many, form_off, form_event}
use Rattle.events.proofs.form_of.Goals as goal

pub returns-then-n-lt2 : goal.returns-then-n-lt2
returns-then-n-lt2 c = form_short _ c.if-n-lt2.true

pub returns-then-m-gt-MOST_ROWS : goal.returns-then-m-gt-MOST_ROWS
returns-then-m-gt-MOST_ROWS c = form_many _ c.if-n-lt2.false c.if-m-gt-MOST_ROWS.true

pub returns-then-n-m : goal.returns-then-n-m
returns-then-n-m c = form_off _ c.if-n-lt2.false c.if-m-gt-MOST_ROWS.false c.if-n-m.true

pub returns : goal.returns
returns c = form_event _ c.if-n-lt2.false c.if-m-gt-MOST_ROWS.false c.if-n-m.false
