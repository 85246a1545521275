use Prim.Native.Nat.{◌+◌, ◌-◌, ◌≤◌, max}
use mathlib.Core.Path.{◌≡◌}
use Rattle.entries.specs.Entries.{streak, is_word, run_of}
use Rattle.entries.proofs.run_end.Given as goal

-- `run_end` meets its contract. The loop's invariant: the run's end is k and what the run from k on adds.
abbrev pub invariant-loop-k : goal.invariant-loop-k
invariant-loop-k l = (l.k ≤ max l.cursor l.count) × (l.cursor + run_of l.words l.cursor l.count l.word ≡ l.k + streak (is_word l.words l.word) l.k (l.count - l.k))
