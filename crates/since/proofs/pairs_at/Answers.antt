-- `pairs_at` meets its contract: right's rows, and then the held pairs, are put into nothing; where nothing is asked of left, every row passes.
use Prim.Native.Nat.{ℕ, ◌+◌}
use mathlib.Core.Path.{refl}
use mathlib.Core.List.{List}
use Rattle.meaning.specs.Log.{point}
use Rattle.meaning.specs.declared.Point.{Point}
use Rattle.progress.specs.Stamps.{stamps_of}
use Rattle.room.specs.Room.{sets_of}
use Rattle.since.specs.Since.{held_in}
use Rattle.pairs.proofs.Growing.{pairs_then, pairs_as}
use Rattle.since.proofs.HeldPairs.{all_pass}
use Rattle.since.proofs.Whole.{pairs_whole, put_all}
use Rattle.since.proofs.pairs_at.Goals as goal

pub returns-in-Always : goal.returns-in-Always
returns-in-Always c = let a = c.args in
    let of = a.of.now in
    let h = a.held in
    let sets : Point → List (List ℕ) = sets_of a.sets of.left in
    put_all
    (pairs_as (pairs_then c.add_all_aged-all.ensures _ c.add_fresh-set.ensures)
    (pairs_whole a.asks.left of.left sets (sets_of a.sets of.right) (stamps_of a.retained) a.asks.window (held_in h.ages.now h.values.now) h.start a.i c.grown_by-by.ensures
    (all_pass c.in-Always.is of.left sets h.start (point (a.i.0 + 1)))))

pub returns-in_default : goal.returns-in_default
returns-in_default c = let a = c.args in
    let of = a.of.now in
    let h = a.held in
    put_all
    (pairs_as (pairs_then c.add_all_older-all.ensures _ c.add_fresh-set.ensures)
    (pairs_whole a.asks.left of.left (sets_of a.sets of.left) (sets_of a.sets of.right) (stamps_of a.retained) a.asks.window (held_in h.ages.now h.values.now) h.start a.i c.grown_by-by.ensures refl))
