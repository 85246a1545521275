-- `put_aged` meets its contract: the pairs whose ages are in the window are a run, and its rows are put in.
use native.Mathlib.Omega.{arith}
use mathlib.Core.Path.{subst, ◌∙◌}
use mathlib.Core.Bool.{true}
use lib.ListN.{length}
use Rattle.pairs.proofs.Ascents.{rising}
use Rattle.since.specs.Since.{RowsPut}
use Rattle.since.proofs.HeldPairs.{rows_run, rows_bound}
use Rattle.since.proofs.put_aged.Goals as goal

pub count_below-to-requires : goal.count_below-to-requires
count_below-to-requires c = let h = c.args.held in
    (omega arith, rising c.args.lowest h.ages.now h.values.now (length h.ages.now) c.requires.ascends)

pub count_below-from-requires : goal.count_below-from-requires
count_below-from-requires c = let h = c.args.held in
    let m = c.count_below-to.ensures.below.most in
    (m, λ j k l u. rising c.args.lowest h.ages.now h.values.now (length h.ages.now) c.requires.ascends j k l (omega arith))

pub returns : goal.returns
returns c = let a = c.args in
    let h = a.held in
    let b = c.bounds_of-bounds.ensures in
    subst (RowsPut a.lowest a.out.now a.n _ _)
    (rows_run a.by h.ages.now h.values.now c.count_below-to.ensures.below c.count_below-from.ensures.below
    ∙ rows_bound a.by (λ _. true) a.w h.ages.now h.values.now (omega arith) c.count_below-to.ensures.words b.0 b.1 0 (length h.ages.now))
    c.put_run.ensures
