-- `add_all_aged` meets its contract: the held pairs whose ages are before the window's end are the first, and are put in grown older.
use native.Mathlib.Omega.{arith}
use mathlib.Core.Path.{◌∙◌}
use mathlib.Core.Bool.{true}
use lib.ListN.{length}
use Rattle.pairs.proofs.Ascents.{rising, fewer_ascend}
use Rattle.pairs.proofs.Growing.{pairs_as}
use Rattle.since.proofs.HeldPairs.{pairs_run, pairs-bound}
use Rattle.since.proofs.add_all_aged.Goals as goal

pub count_below-m-requires : goal.count_below-m-requires
count_below-m-requires c = let h = c.args.held in
    (omega arith, rising c.args.lowest h.ages.now h.values.now (length h.ages.now) c.requires.ascends)

pub add_grown-requires-clause-pairs_there : goal.add_grown-requires-clause-pairs_there
add_grown-requires-clause-pairs_there c = let h = c.args.held in
    let m = c.count_below-m.ensures.below.most in
    (record { ages_there = m; values_there = omega (arith, h.there.values_there) }, fewer_ascend c.args.lowest h.ages.now h.values.now (length h.ages.now) c.requires.ascends c.count_below-m.result m)

pub returns : goal.returns
returns c = let a = c.args in
    let h = a.held in
    pairs_as c.add_grown.ensures
    (pairs_run a.by h.ages.now h.values.now c.bounds_of-bounds.result.most c.count_below-m.ensures.below
    ∙ pairs-bound a.by (λ _. true) a.w h.ages.now h.values.now (omega arith) c.count_below-m.ensures.words c.bounds_of-bounds.ensures.1 c.bounds_of-bounds.ensures.2 0 (length h.ages.now))
