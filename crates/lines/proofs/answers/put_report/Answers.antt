-- `put_report` meets its contract, whether the words are a report or not.
use native.Mathlib.Omega.{arith}
use mathlib.Core.Path.{sym, ◌∙◌}
use Rattle.writer.proofs.Putting.{put_none}
use Rattle.lines.proofs.Points.{text_none}
use Rattle.lines.proofs.Room.{report_short}
use Rattle.lines.proofs.answers.put_report.Goals as goal

pub returns-then-not-in_form : goal.returns-then-not-in_form
returns-then-not-in_form c = rw (text_none _ (sym c.in_form.ensures ∙ c.if-not-in_form.true)) put_none

pub put_points-requires : goal.put_points-requires
put_points-requires c = let form = sym c.in_form.ensures ∙ c.if-not-in_form.false in
    record { words_value = form; words_in_bounds = omega (arith, report_short _ form c.requires.1) }
