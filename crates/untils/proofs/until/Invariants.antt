use Rattle.meaning.specs.Log.{point}
use Rattle.meaning.specs.Evaluator.{until_rows}
use Rattle.progress.specs.Stamps.{stamps_of}
use Rattle.rowset.proofs.Growing.{Through}
use Rattle.room.specs.Room.{sets_of}
use Rattle.untils.specs.Until.{left_test}
use Rattle.untils.proofs.Passing.{over_points}
use Rattle.untils.proofs.until.Given as goal

-- `until` meets its contract: each point from i on before m puts in what it gives.
abbrev pub invariant-loop-j : goal.invariant-loop-j
invariant-loop-j l = Through l.of.lowest point (over_points (stamps_of l.retained) l.asks.window (left_test l.asks.left l.of.left (sets_of l.sets l.of.left)) (sets_of l.sets l.of.right) l.i) l.m l.initial.out l.n (until_rows (stamps_of l.retained) l.m l.asks.window (left_test l.asks.left l.of.left (sets_of l.sets l.of.left)) (sets_of l.sets l.of.right) l.i) l.out l.k l.j
