-- `times_fit` meets its contract.
use Prim.Native.Nat.{◌-◌}
use native.Mathlib.Omega.{arith}
use mathlib.Core.Path.{◌≡◌, ◌∙◌}
use mathlib.Core.Bool.{false≢true}
use lib.ListN.{get_or}
use Rattle.meaning.specs.RuleFile.{last_node}
use Rattle.formed.specs.Parts.{counts_in}
use Rattle.formed.proofs.Whole.{part_open, points_many, times_many, open_many, times_tested}
use Rattle.formed.proofs.times_fit.Goals as goal

pub returns-then-log-gt-MOST_POINTS : goal.returns-then-log-gt-MOST_POINTS
returns-then-log-gt-MOST_POINTS c = let a = c.args in record { answer = points_many a.rule.now a.log a.times.now c.if-log-gt-MOST_POINTS.true; counted = λ e. absurd (false≢true e) }

pub returns-then-times-gt-MOST_TIMES : goal.returns-then-times-gt-MOST_TIMES
returns-then-times-gt-MOST_TIMES c = let a = c.args in record { answer = times_many a.rule.now a.log a.times.now c.if-log-gt-MOST_POINTS.false c.if-times-gt-MOST_TIMES.true; counted = λ e. absurd (false≢true e) }

pub returns-then-saturating_sub-gt-MOST_OPEN : goal.returns-then-saturating_sub-gt-MOST_OPEN
returns-then-saturating_sub-gt-MOST_OPEN c = let a = c.args in
    record { answer = open_many a.rule.now a.log a.times.now c.if-log-gt-MOST_POINTS.false c.if-times-gt-MOST_TIMES.false (omega (arith, (let it : let a = c.args in c.saturating_sub.result ≡ a.log.points - get_or (counts_in a.rule.now a.log a.times.now) (last_node a.rule.now) 0 = c.saturating_sub.ensures ∙ part_open c.count_points.ensures c.requires.1 in it), c.if-saturating_sub-gt-MOST_OPEN.true)); counted = λ e. absurd (false≢true e) }

pub returns : goal.returns
returns c = let a = c.args in
    let counted = c.count_points.ensures in
    record { answer = c.times_asked.ensures ∙ times_tested a.rule.now a.log a.times.now c.if-log-gt-MOST_POINTS.false c.if-times-gt-MOST_TIMES.false (omega (arith, (let it : let a = c.args in c.saturating_sub.result ≡ a.log.points - get_or (counts_in a.rule.now a.log a.times.now) (last_node a.rule.now) 0 = c.saturating_sub.ensures ∙ part_open c.count_points.ensures c.requires.1 in it), c.if-saturating_sub-gt-MOST_OPEN.false)) counted; counted = λ t. (c.if-log-gt-MOST_POINTS.false, counted) }
