-- `latest_last` meets its contract.
use mathlib.Core.Path.{sym, ◌∙◌}
use Rattle.formed.proofs.Times.{behind_last}
use Rattle.formed.proofs.latest_last.Goals as goal

pub returns-then-not_falling : goal.returns-then-not_falling
returns-then-not_falling c = let a = c.args in
    let rises = sym c.not_falling.ensures ∙ c.if-not_falling.true in
    rw c.last_time.ensures (sym (behind_last a.times.now a.latest.0 ∙ rw rises))

pub returns-else-not_falling : goal.returns-else-not_falling
returns-else-not_falling c = let a = c.args in
    let falls = sym c.not_falling.ensures ∙ c.if-not_falling.false in
    c.if-not_falling.false ∙ sym (behind_last a.times.now a.latest.0 ∙ rw falls)
