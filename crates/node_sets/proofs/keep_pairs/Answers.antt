-- `keep_pairs` meets its contract: ages and rows are put behind what is kept, or there is no room for them.
use Prim.Native.Nat.{◌-◌}
use native.Mathlib.Omega.{arith}
use mathlib.Core.Path.{◌≡◌}
use lib.ListN.{length}
use Rattle.node_sets.proofs.Keeping.{pairs_full, pairs-kept}
use Rattle.node_sets.proofs.keep_pairs.Goals as goal

pub returns-then-most-kept : goal.returns-then-most-kept
returns-then-most-kept c = let a = c.args in
    pairs_full a.out_numbers.now a.out_values.now a.kept (length a.ages.now) a.ages.now a.values.now c.if-most-kept.true

pub returns : goal.returns
returns c = let a = c.args in
    let e : length a.ages.now - 0 ≡ length a.ages.now = omega arith in
    pairs-kept a.kept (length a.ages.now) a.ages.now a.values.now c.copy_words.ensures (rw e at c.copy_rows.ensures) c.if-most-kept.false
