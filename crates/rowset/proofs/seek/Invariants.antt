use Prim.Native.Nat.{ℕ, ◌-◌, ◌≤◌}
use mathlib.Core.Path.{◌≡◌}
use mathlib.Core.List.{List, map}
use Rattle.meaning.specs.Lists.{range}
use Rattle.meaning.specs.LookUp.{onward, look_up}
use Rattle.rowset.specs.Sets.{Tells}
use Rattle.rowset.proofs.seek.Given as goal

-- `seek` meets its contract. The loop's invariant: the answer is that of the items from i on.
abbrev pub invariant-loop-i : goal.invariant-loop-i
invariant-loop-i g l = (l.i ≤ l.to) × ((lowest : ℕ) (at : ℕ → List ℕ) (x : List ℕ) → Tells (goal.F-post g l.stands) lowest at l.to x → onward l.from (look_up lowest x (map at (range l.from (l.to - l.from)))) ≡ onward l.i (look_up lowest x (map at (range l.i (l.to - l.i)))))
