-- `Lead::passes_cut` meets its contract: the test from the first point on is the test from point k on, until it fails at one or none is left.
use native.Mathlib.Omega.{arith}
use mathlib.Core.Path.{sym, ◌∙◌}
use Rattle.untils.proofs.Spans.{stand_part}
use Rattle.untils.proofs.Passing.{all_more, all_stops, passes_as}
use Rattle.untils.proofs.lead.Lead.passes_cut.Goals as goal

pub found_at-found-requires : goal.found_at-found-requires
found_at-found-requires c = stand_part c.args.self.now.stand _ _ (omega arith) (omega arith) (omega arith)

pub returns-then-not-passes : goal.returns-then-not-passes
returns-then-not-passes c = sym (c.loop-k.invariant ∙ all_stops _ _ _ c.loop-k-test.true (passes_as c.args.self.now.left c.found_at-found.ensures c.passes.ensures c.if-not-passes.true))

pub loop-k-preserved : goal.loop-k-preserved
loop-k-preserved c = c.loop-k.invariant ∙ all_more _ _ _ c.loop-k-test.true (passes_as c.args.self.now.left c.found_at-found.ensures c.passes.ensures c.if-not-passes.false)
