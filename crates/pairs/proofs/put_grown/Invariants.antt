use Prim.Native.Nat.{◌+◌, ◌≤◌}
use lib.ListN.{get_or}
use Rattle.entries.specs.Appended.{WordsPut}
use Rattle.pairs.proofs.put_grown.Given as goal

-- `put_grown` meets its contract. The loop's invariant: the first k ages are put, each grown.
abbrev pub invariant-loop-k : goal.invariant-loop-k
invariant-loop-k l = (l.k ≤ l.m) × WordsPut l.initial.ages l.n l.ages l.k (λ j. get_or l.old_ages j 0 + l.by)
