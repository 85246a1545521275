-- `settle_pairs` meets its contract, by the node's times: since's pairs are put in, and other nodes have none.
use mathlib.Core.Path.{sym, ap, ◌∙◌}
use Rattle.meaning.specs.declared.View.{View}
use Rattle.settling.proofs.Gives.{past_settled, no_pairs}
use Rattle.settling.proofs.settle_pairs.Goals as goal

pub returns-in-Past : goal.returns-in-Past
returns-in-Past c = past_settled c.args.given.now.rule.now c.args.given.now.event.now c.args.sets.rows.now c.args.sets.at.now c.args.given.now.retained.times.now c.args.given.now.retained.base c.args.held.ages.now c.args.held.values.now c.args.of.now.left c.args.of.now.right c.args.of.now.lowest c.args.held.start c.args.i c.args.node (sym (ap (λ (v : View). v.times) c.view_of-view.ensures) ∙ c.in-Past.is) c.requires.asked (rw c.view_of-view.ensures at (rw c.right_of.ensures at c.pairs_at.ensures))

pub returns-in_default : goal.returns-in_default
returns-in_default c = no_pairs c.args.given.now.rule.now c.args.given.now.event.now c.args.sets.rows.now c.args.sets.at.now c.args.given.now.retained.times.now c.args.given.now.retained.base c.args.held.ages.now c.args.held.values.now c.args.of.now.left c.args.of.now.right c.args.of.now.lowest c.args.held.start c.args.i c.args.node (rw c.view_of-view.ensures at c.in_default.not-Past)
