-- `weigh_last` meets its contract: the points that are weighed are the last node's.
use native.Mathlib.Omega.{arith}
use Rattle.meaning.specs.RuleFile.{last_node}
use Rattle.call.proofs.Calls.{first_figure}
use Rattle.call.proofs.weigh_last.Goals as goal

pub overflow_cast-p-2 : goal.overflow_cast-p-2
overflow_cast-p-2 c = omega (arith, first_figure c.args.figures.now (last_node c.args.rule.now), c.requires.mask_small)

pub overflow_add-unsettled : goal.overflow_add-unsettled
overflow_add-unsettled c = omega (arith, c.requires.not_full, c.points_added.ensures)

pub overflow_sub-unsettled : goal.overflow_sub-unsettled
overflow_sub-unsettled c = omega (arith, c.requires.settled, c.points_added.ensures)

pub weigh-requires : goal.weigh-requires
weigh-requires c =
    let e = first_figure c.args.figures.now (last_node c.args.rule.now) in
    record { reportable = rw e c.requires.sets; p_len_bound = rw e c.requires.few_words }

pub returns : goal.returns
returns c = rw c.points_added.ensures at (rw (first_figure c.args.figures.now (last_node c.args.rule.now)) at c.weigh.ensures)
