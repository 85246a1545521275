-- `put_in` meets its contract: the rows behind the place have moved up, and the row is put there.
use Prim.Native.Nat.{◌+◌}
use native.Mathlib.Omega.{arith}
use mathlib.Core.Path.{◌∙◌}
use Rattle.rowset.specs.Rows.{rows_from}
use Rattle.rowset.proofs.Runs.{run_shifted, rows_below, rows_above, row-replaced}
use Rattle.rowset.proofs.put_in.Goals as goal

pub returns : goal.returns
unfolding rows_from
returns c = let a = c.args in
    let h = c.copy_within.ensures in
    let put = row-replaced c.copy_within.new.self a.p a.r (omega arith) c.put_row.ensures in
    run_shifted c.requires.0
    (record {
      below = λ k l. put.others k (omega arith) ∙ rows_below a.out.now c.copy_within.new.self a.n a.p h.by_index.0 h.by_index.1 k (omega arith);
      here = put.here;
      above = λ k l m. put.others (k + 1) (omega arith) ∙ rows_above a.out.now c.copy_within.new.self a.n a.p h.by_index.0 h.by_index.1 k l m;
    })
