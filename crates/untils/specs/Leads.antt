-- What is asked of left, over what the code hands on.
use Rattle.std.specs.Prelude.{ℕ, Bool, List}
use Rattle.meaning.specs.declared.Point.{Point}
use Rattle.meaning.specs.declared.Left.{Left}
use Rattle.room.specs.Room.{sets_of}
use Rattle.room.specs.declared.CallSets.{CallSets}
use Rattle.room.specs.declared.Operands.{Operands}
use Rattle.untils.specs.Until.{left_test, leads}
use Rattle.untils.specs.declared.lead.Lead.{Lead}

-- left passes for a row at each of the points
abbrev pub leads_of : Lead → List ℕ → Bool
leads_of l = leads l.left l.a (sets_of l.sets l.a) l.from l.end

-- left's test of a row at a point
abbrev pub test_of : Left → Operands → CallSets → List ℕ → Point → Bool
test_of l of s = left_test l of.left (sets_of s of.left)
