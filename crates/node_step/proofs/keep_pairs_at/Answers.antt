-- `keep_pairs_at` meets its contract: the old pairs where no point is new, none where there is no room, else those at the last point.
use native.Mathlib.Omega.{arith}
use Rattle.node_step.proofs.Keeping.{old_kept, none_kept, pairs_there, new_small, new_kept}
use Rattle.node_step.proofs.keep_pairs_at.Goals as goal

pub returns-then-end-start : goal.returns-then-end-start
returns-then-end-start c = old_kept c.requires c.if-end-start.true c.keep_pairs.ensures

pub returns-then-out_numbers-kept : goal.returns-then-out_numbers-kept
returns-then-out_numbers-kept c = none_kept c.requires c.if-out_numbers-kept.true

pub settle_pairs-n-requires : goal.settle_pairs-n-requires
settle_pairs-n-requires c = record { asked = c.requires.asks c.if-end-start.false; pairs_there = pairs_there c.requires }

pub overflow_add-result : goal.overflow_add-result
overflow_add-result c = omega (arith, new_small c.requires c.if-end-start.false (omega (arith, c.if-out_numbers-kept.false)) _ _ c.settle_pairs-n.ensures c.out_numbers-2-1.given.1 c.out_values-2-1.given.1)

pub returns : goal.returns
returns c = new_kept c.requires c.if-end-start.false (omega (arith, c.if-out_numbers-kept.false)) _ _ c.settle_pairs-n.ensures c.out_numbers-2-1.given.1 c.out_values-2-1.given.1
