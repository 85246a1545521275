-- `raise_marks` meets its contract. The loop's invariant: k marks are raised, m is the last of them, and those behind it are as they were.
use Prim.Native.Nat.{◌+◌, max}
use native.Mathlib.Omega.{arith}
use mathlib.Core.Path.{◌≡◌, ap}
use lib.ListN.{get_or, set}
use Rattle.node_sets.proofs.Marking.{raised_more}
use Rattle.node_sets.proofs.raise_marks.Goals as goal

pub loop-k-preserved : goal.loop-k-preserved
loop-k-preserved c = let l = c.loop-k in
    let sets = c.args.sets in
    let e : sets + l.k + 1 ≡ sets + (l.k + 1) = omega arith in
    let b = l.invariant.behind (sets + (l.k + 1)) (omega arith) in
    let m : c.max-m.result ≡ max l.m (get_or l.at (sets + (l.k + 1)) 0) = rw e at c.max-m.ensures in
    raised_more l.invariant c.loop-k-test.true c.requires c.max-m.result (omega arith) (omega arith) (λ b h g. omega arith) (ap (λ p. set l.at p c.max-m.result) e)
