use Prim.Native.Nat.{ℕ, ◌+◌, ◌-◌, ◌≤◌}
use mathlib.Core.Path.{◌≡◌}
use mathlib.Core.List.{List}
use Rattle.meaning.specs.Lists.{range, gather}
use Rattle.meaning.specs.Log.{point}
use Rattle.writer.specs.declared.Points.{Points}
use Rattle.writer.specs.Words.{triple_at, triples}
use Rattle.writer.proofs.Putting.{Putting}
use Rattle.writer.proofs.put_triples.Given as goal

-- After each turn the triple of one point more is written.
-- what point j gives
abbrev pub give : List ℕ → List ℕ → Points → ℕ → List ℕ
give marks times p j = triple_at marks times p (point j)

abbrev pub invariant-loop-j : goal.invariant-loop-j
invariant-loop-j l = ((l.end ≡ l.p.from.0 + l.p.count) × (l.p.from.0 ≤ l.j) × (l.j ≤ l.end)) × Putting l.initial.buf l.at (triples l.marks l.times l.p) l.buf l.k (gather (give l.marks l.times l.p) (range l.j (l.end - l.j)))

abbrev pub decreases-loop-j : goal.decreases-loop-j
decreases-loop-j l = l.end - l.j
