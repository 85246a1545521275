use Prim.Native.Nat.{◌-◌}
use Rattle.call.proofs.Storing.{Storing}
use Rattle.call.proofs.store.Given as goal

-- `store` meets its contract. The loop's invariant: the blocks of the first x nodes are stored.
abbrev pub invariant-loop-x : goal.invariant-loop-x
invariant-loop-x l = Storing l.out_numbers l.out_values l.blocks l.n l.initial.owners l.initial.numbers l.initial.values l.owners l.numbers l.values l.k l.x

abbrev pub decreases-loop-x : goal.decreases-loop-x
decreases-loop-x l = l.n - l.x
