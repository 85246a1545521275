use Prim.Native.Nat.{◌-◌}
use mathlib.Core.Path.{◌≡◌}
use Rattle.meaning.specs.Lists.{range}
use Rattle.events.specs.Answers.{rows_of}
use Rattle.events.proofs.rows_of.Given as goal

-- The rows give what those from `k` on give, until one doesn't fit.
abbrev pub invariant-loop-k : goal.invariant-loop-k
invariant-loop-k l = rows_of l.rule l.event (range 0 l.m) ≡ rows_of l.rule l.event (range l.k (l.m - l.k))
