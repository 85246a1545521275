use Prim.Native.Nat.{◌+◌, ◌-◌}
use mathlib.Core.List.{map}
use Rattle.meaning.specs.Lists.{range}
use Rattle.meaning.specs.Log.{point}
use Rattle.progress.specs.Stamps.{stamps_of}
use Rattle.rowset.proofs.Growing.{Through}
use Rattle.room.specs.Room.{sets_of}
use Rattle.since.proofs.Fresh.{rows_over}
use Rattle.since.proofs.put_fresh.Given as goal

-- `put_fresh` meets its contract: each point from i back to start puts in what it gives.
abbrev pub invariant-loop-j : goal.invariant-loop-j
invariant-loop-j l = Through l.of.lowest (λ y. point (l.fn.i.0 - y)) (rows_over l.asks.left l.of.left (sets_of l.sets l.of.left) (sets_of l.sets l.of.right) (stamps_of l.retained) l.asks.window l.here l.end) (l.fn.i.0 + 1 - l.fn.start.0) l.initial.out 0
    (rows_over l.asks.left l.of.left (sets_of l.sets l.of.left) (sets_of l.sets l.of.right) (stamps_of l.retained) l.asks.window l.here l.end (map (λ y. point (l.fn.i.0 - y)) (range 0 (l.fn.i.0 + 1 - l.fn.start.0)))) l.out l.k (l.fn.i.0 + 1 - l.j)
