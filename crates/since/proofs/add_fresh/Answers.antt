-- `add_fresh` meets its contract: each point from i back to start puts in what it gives.
use Prim.Native.Nat.{ℕ, ◌+◌, ◌-◌, ◌<◌, min}
use native.Mathlib.Omega.{arith}
use mathlib.Core.Path.{◌≡◌, refl, sym, ap, ap₂, ◌∙◌}
use mathlib.Core.Bool.{true, false}
use lib.Dec.{ltb}
use borrow.Author.Tests.{lt-ltb, le-ltb}
use mathlib.Core.List.{List, [], ◌∷◌, map}
use Rattle.meaning.specs.Lists.{select}
use Rattle.meaning.specs.Log.{point, elapsed}
use Rattle.meaning.specs.Kept.{below_end, counted_age}
use Rattle.meaning.specs.declared.Point.{Point}
use Rattle.meaning.specs.declared.Stamp.{Stamp}
use Rattle.meaning.specs.declared.Window.{Window}
use Rattle.progress.specs.Stamps.{stamps_of}
use Rattle.rowset.proofs.Growing.{starts_all, goes_on, ended}
use Rattle.room.specs.Room.{sets_of}
use Rattle.untils.specs.Until.{leads}
use Rattle.untils.proofs.Spans.{stand_part, set_run, set_read}
use Rattle.pairs.proofs.Adding.{add_none}
use Rattle.pairs.proofs.Growing.{pairs_then, pairs_as}
use Rattle.since.proofs.Ages.{below_end_lem, counted}
use Rattle.since.proofs.Fresh.{lasting_to, pairs_of, pairs_one, pairs_fresh}
use Rattle.since.proofs.add_fresh.Goals as goal

pub loop-j-init : goal.loop-j-init
loop-j-init c = let z : c.args.i.0 + 1 - (c.args.i.0 + 1) ≡ 0 = omega arith in rw z (starts_all (add_none c.requires.pair_room))

pub add_point-g-requires-clause-run : goal.add_point-g-requires-clause-run
add_point-g-requires-clause-run c = let e = c.part-rows.ensures in
    set_run (stand_part c.requires.stand.right (point (c.loop-j.j - 1)) (c.loop-j.j - 1 + 1) (omega arith) (omega arith) (omega arith)) e.0 e.1

pub loop-j-preserved-then-bounds-age : goal.loop-j-preserved-then-bounds-age
loop-j-preserved-then-bounds-age c =
    let a = c.args in
    let of = a.of.now in
    let w : Window = a.asks.window in
    let b = c.bounds_of-bounds.ensures in
    let j : Point = point (c.loop-j.j - 1) in
    let end : Point = point (a.i.0 + 1) in
    let sets : Point → List (List ℕ) = sets_of a.sets of.left in
    let right : Point → List (List ℕ) = sets_of a.sets of.right in
    let τ : Point → Stamp = stamps_of a.retained in
    let here : Stamp = c.time-here.result in
    let age : ℕ = elapsed (τ j) here in
    let read : c.from-age.result ≡ age = c.from-age.ensures ∙ c.elapsed.ensures ∙ ap (λ s. elapsed s here) c.time.ensures in
    let small : c.from-age.result < 8589934592 = omega arith in
    let few : age < 8589934592 = rw read at small in
    let x : ℕ = a.i.0 + 1 - c.loop-j.j in
    let down : c.loop-j.j - 1 ≡ a.i.0 - x = omega arith in
    let next : a.i.0 + 1 - (c.loop-j.j - 1) ≡ x + 1 = omega arith in
    let e : below_end w age ≡ false = sym (below_end_lem w age few) ∙ ap₂ ltb (sym read) (sym b.1) ∙ le-ltb _ _ c.if-bounds-age.true in
    let none : [] ≡ pairs_of a.asks.left of.left sets right τ a.asks.window here end j = rw e in
    rw next
    (goes_on c.loop-j.invariant (pairs_of a.asks.left of.left sets right τ a.asks.window here end) (pairs_one a.asks.left of.left sets right τ a.asks.window here end) (omega arith) (pairs_then (add_none c.loop-j.invariant.put.room)) (none ∙ ap (λ k. pairs_of a.asks.left of.left sets right τ a.asks.window here end (point k)) down))

pub loop-j-preserved : goal.loop-j-preserved
loop-j-preserved c =
    let a = c.args in
    let of = a.of.now in
    let w : Window = a.asks.window in
    let b = c.bounds_of-bounds.ensures in
    let j : Point = point (c.loop-j.j - 1) in
    let end : Point = point (a.i.0 + 1) in
    let sets : Point → List (List ℕ) = sets_of a.sets of.left in
    let right : Point → List (List ℕ) = sets_of a.sets of.right in
    let τ : Point → Stamp = stamps_of a.retained in
    let here : Stamp = c.time-here.result in
    let age : ℕ = elapsed (τ j) here in
    let read : c.from-age.result ≡ age = c.from-age.ensures ∙ c.elapsed.ensures ∙ ap (λ s. elapsed s here) c.time.ensures in
    let small : c.from-age.result < 8589934592 = omega arith in
    let few : age < 8589934592 = rw read at small in
    let x : ℕ = a.i.0 + 1 - c.loop-j.j in
    let down : c.loop-j.j - 1 ≡ a.i.0 - x = omega arith in
    let next : a.i.0 + 1 - (c.loop-j.j - 1) ≡ x + 1 = omega arith in
    let p = c.part-rows.ensures in
    let e : below_end w age ≡ true = sym (below_end_lem w age few) ∙ ap₂ ltb (sym read) (sym b.1) ∙ lt-ltb _ _ c.if-bounds-age.false in
    let at_age : c.at_most-counted.result ≡ counted_age w age = c.at_most-counted.ensures ∙ ap₂ min read b.2 ∙ counted w age few e in
    let all : map (λ u. counted_age w age ∷ u) (lasting_to a.asks.left of.left sets right end j) ≡ pairs_of a.asks.left of.left sets right τ a.asks.window here end j = rw e in
    rw next
    (goes_on c.loop-j.invariant (pairs_of a.asks.left of.left sets right τ a.asks.window here end) (pairs_one a.asks.left of.left sets right τ a.asks.window here end) (omega arith) (pairs_then c.add_point-g.ensures)
    (ap₂ (λ y us. map (λ u. y ∷ u) (select (leads a.asks.left of.left sets (point (c.loop-j.j - 1 + 1)) end) us)) at_age (set_read (stand_part c.requires.stand.right j (c.loop-j.j - 1 + 1) (omega arith) (omega arith) (omega arith)) p.0 p.1) ∙ all
    ∙ ap (λ k. pairs_of a.asks.left of.left sets right τ a.asks.window here end (point k)) down))

pub returns : goal.returns
returns c = let a = c.args in
    let of = a.of.now in
    pairs_as (ended c.loop-j.invariant refl (omega arith)) (pairs_fresh a.asks.left of.left (sets_of a.sets of.left) (sets_of a.sets of.right) (stamps_of a.retained) a.asks.window a.start a.i c.time-here.ensures)
