use Prim.Native.Nat.{◌+◌, ◌-◌}
use mathlib.Core.List.{map}
use Rattle.meaning.specs.Lists.{range}
use Rattle.meaning.specs.Log.{point}
use Rattle.progress.specs.Stamps.{stamps_of}
use Rattle.rowset.proofs.Growing.{Turns}
use Rattle.room.specs.Room.{sets_of}
use Rattle.pairs.specs.Pairs.{PairsAdded}
use Rattle.since.proofs.Fresh.{pairs_over}
use Rattle.since.proofs.add_fresh.Given as goal

-- `add_fresh` meets its contract: each point from i back to start puts in what it gives.
abbrev pub invariant-loop-j : goal.invariant-loop-j
invariant-loop-j l = Turns (λ y. point (l.fn.i.0 - y)) (pairs_over l.asks.left l.of.left (sets_of l.sets l.of.left) (sets_of l.sets l.of.right) (stamps_of l.retained) l.asks.window l.here l.end) (l.fn.i.0 + 1 - l.fn.start.0)
    (pairs_over l.asks.left l.of.left (sets_of l.sets l.of.left) (sets_of l.sets l.of.right) (stamps_of l.retained) l.asks.window l.here l.end (map (λ y. point (l.fn.i.0 - y)) (range 0 (l.fn.i.0 + 1 - l.fn.start.0)))) (PairsAdded l.of.lowest l.initial.ages l.initial.values l.initial.g l.ages l.values l.g) (l.fn.i.0 + 1 - l.j)
