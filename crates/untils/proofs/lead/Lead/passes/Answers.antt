-- `Lead::passes` meets its contract: where nothing is asked, every row passes.
use Prim.Native.Nat.{◌-◌}
use mathlib.Core.Path.{sym, ◌∙◌}
use mathlib.Core.Bool.{true≢false}
use Rattle.meaning.specs.Log.{points_from}
use Rattle.untils.proofs.Passing.{all_true}
use Rattle.untils.proofs.lead.Lead.passes.Goals as goal
use Rattle.untils.proofs.lead.Lead.passes.Goals.{in-Always, in_default}

pub returns-then-matches : goal.returns-then-matches
returns-then-matches c = let a = c.args.self.now in
    c.if-matches.true ∙ (elim c.match-matches.branch [ in-Always w ↦ rw w.in-Always.is (sym (all_true (points_from a.from (a.end.0 - a.from.0)))) | in_default w ↦ absurd (true≢false (sym c.if-matches.true ∙ w.matches-is)) ])
