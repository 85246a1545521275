-- `pairs_fit` meets its contract: none fit, and some are tested by the node's kind.
use mathlib.Core.Path.{◌∙◌}
use borrow.Author.Tests.{eq-eqb}
use Rattle.meaning.specs.View.{view_of}
use Rattle.meaning.specs.RuleFile.{node_at}
use Rattle.formed.proofs.NoPairs.{pairs_none}
use Rattle.formed.proofs.pairs_fit.Goals as goal

pub returns-then-from-to : goal.returns-then-from-to
returns-then-from-to c = let a = c.args in
    eq-eqb _ _ c.if-from-to.true ∙ pairs_none a.rule.now a.x (view_of (node_at a.rule.now a.x)) a.numbers.now a.values.now a.from a.to c.if-from-to.true
