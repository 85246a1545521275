-- A child's set at a point, and that it stands in the words.
use Rattle.std.specs.Prelude.{ℕ, ◌+◌, List}
use Rattle.meaning.specs.declared.Point.{Point}
use Rattle.room.specs.Room.{set_at}
use Rattle.room.specs.declared.Child.{Child}
use Rattle.room.specs.declared.CallSets.{CallSets}
use Rattle.untils.specs.Until.{Stand}

abbrev pub child_set : List ℕ → List ℕ → Child → Point → List (List ℕ)
child_set rows at c = set_at rows at c.first c.low

abbrev pub SetStands : List ℕ → List ℕ → Child → Point → Type 0
SetStands rows at c j = Stand rows at c.first c.low j (j.0 + 1)

-- the same of the sets of a call
abbrev pub SetThere : CallSets → Child → Point → Type 0
SetThere s c j = SetStands s.rows.now s.at.now c j
