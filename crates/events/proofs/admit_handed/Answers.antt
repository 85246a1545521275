-- A notice is checked as such.
use mathlib.Core.Path.{◌≡◌, sym, subst}
use Rattle.meaning.specs.Keeper.{admits}
use Rattle.events.specs.Answers.{outcome_of, fed_of}
use Rattle.events.proofs.admit_handed.Goals as goal

pub returns-in-Notice : goal.returns-in-Notice
returns-in-Notice c = let a = c.args in
    λ rest. subst (λ h. admits a.rule.now (fed_of h) a.log.latest a.log.points rest ≡ outcome_of c.admit_notice.result rest) (sym c.in-Notice.is) (c.admit_notice.ensures a.rule.now a.log.points rest)
