-- `keep_sets` meets its contract: the sets' rows and their points are put behind what is kept, or there is no room for them, or there are none.
use native.Mathlib.Omega.{arith}
use Rattle.node_sets.proofs.Keeping.{sets_run, sets_full, sets-kept}
use Rattle.node_sets.proofs.keep_sets.Goals as goal

pub overflow_sub-count : goal.overflow_sub-count
overflow_sub-count c = let a = c.args in
    (sets_run a.first a.low a.from a.n c.requires.0 c.requires.1).ordered

pub returns-then-most-kept : goal.returns-then-most-kept
returns-then-most-kept c = let a = c.args in
    sets_full a.first a.low a.from a.n c.requires.0 c.requires.1 a.out_numbers.now a.out_values.now a.kept c.if-most-kept.true

pub copy_rows-requires : goal.copy_rows-requires
copy_rows-requires c = let a = c.args in
    (sets_run a.first a.low a.from a.n c.requires.0 c.requires.1, omega (arith, c.requires.3.rows, c.if-most-kept.false))

pub returns : goal.returns
returns c = let a = c.args in
    sets-kept a.first a.low a.from a.n c.requires.0 c.requires.1 a.kept c.if-most-kept.false c.copy_rows.ensures c.put_numbers.ensures
