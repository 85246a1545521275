use Prim.Native.Nat.{◌-◌}
use mathlib.Core.Path.{◌≡◌}
use Rattle.meaning.specs.Lists.{all}
use Rattle.meaning.specs.Log.{point, points_from}
use Rattle.rowset.specs.Rows.{words_of}
use Rattle.room.specs.Room.{sets_of}
use Rattle.untils.specs.Until.{passes_at}
use Rattle.untils.proofs.lead.Lead.passes_cut.Given as goal

-- `Lead::passes_cut` meets its contract: the test from the first point on is the test from point k on, until it fails at one or none is left.
abbrev pub invariant-loop-k : goal.invariant-loop-k
invariant-loop-k l = all (passes_at l.self.left l.self.a.lowest (sets_of l.self.sets l.self.a) (words_of l.r)) (points_from (point l.initial.k) (l.k-end - l.initial.k)) ≡ all (passes_at l.self.left l.self.a.lowest (sets_of l.self.sets l.self.a) (words_of l.r)) (points_from (point l.k) (l.k-end - l.k))
