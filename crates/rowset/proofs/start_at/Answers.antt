-- `start_at` meets its contract: all items that the search would pass stand before the one looked for.
use native.Mathlib.Omega.{arith}
use mathlib.Core.Path.{sym, ◌∙◌}
use Rattle.rowset.proofs.Searching.{start_behind, start_found}
use Rattle.rowset.proofs.start_at.Goals as goal

pub returns-in-Less-clause-begins : goal.returns-in-Less-clause-begins
returns-in-Less-clause-begins g c = let p = c.args.p in
    λ lowest at x t led. (omega arith, start_behind lowest at x t.0 p led (sym (t.1 p c.stands.result c.if-n-p.false c.stands.ensures) ∙ c.in-Less.is))

pub returns-in-Equal-clause-begins : goal.returns-in-Equal-clause-begins
returns-in-Equal-clause-begins g c = let p = c.args.p in
    λ lowest at x t led. start_found lowest at x t.0 c.args.n p c.if-n-p.false led (sym (t.1 p c.stands.result c.if-n-p.false c.stands.ensures) ∙ c.in-Equal.is)
