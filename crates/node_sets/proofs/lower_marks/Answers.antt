-- `lower_marks` meets its contract. The loop's invariant: the marks of k sets are lowered, and those behind them are as they were.
use Prim.Native.Nat.{◌+◌}
use native.Mathlib.Omega.{arith}
use mathlib.Core.Path.{◌≡◌}
use Rattle.node_sets.proofs.lower_marks.Goals as goal

pub overflow_sub-at : goal.overflow_sub-at
overflow_sub-at c = let l = c.loop-k in
    let e : c.args.n + c.args.d + l.k + 1 ≡ c.args.n + c.args.d + (l.k + 1) = omega arith in
    rw e (omega (arith, c.requires.1, c.requires.2 (l.k + 1) (omega arith), l.invariant.above (c.args.n + c.args.d + (l.k + 1)) (omega arith)))
