use Prim.Native.Nat.{◌≤◌}
use lib.ListN.{get_or}
use Rattle.entries.specs.Appended.{WordsPut}
use Rattle.entries.proofs.copy_words.Given as goal

-- `copy_words` meets its contract. The loop's invariant: the first k words are put.
abbrev pub invariant-loop-k : goal.invariant-loop-k
invariant-loop-k l = (l.k ≤ l.n) × WordsPut l.initial.words l.end l.words l.k (λ j. get_or l.from j 0)
