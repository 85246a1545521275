-- `put_fresh` meets its contract: each point from i back to start puts in what it gives.
use Prim.Native.Nat.{ℕ, ◌+◌, ◌-◌}
use native.Mathlib.Omega.{arith}
use mathlib.Core.Path.{◌≡◌, refl, ap, ◌∙◌}
use mathlib.Core.Bool.{cond}
use mathlib.Core.List.{List, []}
use Rattle.meaning.specs.Lists.{select}
use Rattle.meaning.specs.Log.{point}
use Rattle.meaning.specs.declared.Point.{Point}
use Rattle.meaning.specs.declared.Stamp.{Stamp}
use Rattle.progress.specs.Stamps.{stamps_of}
use Rattle.rowset.proofs.Growing.{ended, begun_all, turned, added_as, added_none, room_after}
use Rattle.room.specs.Room.{sets_of}
use Rattle.untils.specs.Until.{leads}
use Rattle.untils.proofs.Spans.{stand_part, set_run, set_read}
use Rattle.untils.proofs.Passing.{due_read}
use Rattle.since.proofs.Fresh.{lasting_to, rows_of, rows_one, rows_fresh}
use Rattle.since.proofs.put_fresh.Goals as goal

pub loop-j-init : goal.loop-j-init
loop-j-init c = let z : c.args.i.0 + 1 - (c.args.i.0 + 1) ≡ 0 = omega arith in rw z (begun_all c.requires.set_room)

pub put_leading-k-requires-clause-run : goal.put_leading-k-requires-clause-run
put_leading-k-requires-clause-run c = let e = c.part-rows.ensures in
    set_run (stand_part c.requires.stand.right (point (c.loop-j.j - 1)) (c.loop-j.j - 1 + 1) (omega arith) (omega arith) (omega arith)) e.0 e.1

pub loop-j-preserved-then-not-due : goal.loop-j-preserved-then-not-due
loop-j-preserved-then-not-due c =
    let a = c.args in
    let of = a.of.now in
    let j : Point = point (c.loop-j.j - 1) in
    let end : Point = point (a.i.0 + 1) in
    let sets : Point → List (List ℕ) = sets_of a.sets of.left in
    let right : Point → List (List ℕ) = sets_of a.sets of.right in
    let τ : Point → Stamp = stamps_of a.retained in
    let here : Stamp = c.time-here.result in
    let x : ℕ = a.i.0 + 1 - c.loop-j.j in
    let down : c.loop-j.j - 1 ≡ a.i.0 - x = omega arith in
    let next : a.i.0 + 1 - (c.loop-j.j - 1) ≡ x + 1 = omega arith in
    let none : [] ≡ rows_of a.asks.left of.left sets right τ a.asks.window here end j = rw c.if-not-due.true at (ap (λ t. cond t (lasting_to a.asks.left of.left sets right end j) []) (due_read a.asks.window c.time.ensures refl c.due.ensures)) in
    rw next
    (turned c.loop-j.invariant (rows_of a.asks.left of.left sets right τ a.asks.window here end) (rows_one a.asks.left of.left sets right τ a.asks.window here end) (omega arith) (added_none (room_after c.requires.set_room c.loop-j.invariant.put)) (none ∙ ap (λ k. rows_of a.asks.left of.left sets right τ a.asks.window here end (point k)) down))

pub loop-j-preserved : goal.loop-j-preserved
loop-j-preserved c =
    let a = c.args in
    let of = a.of.now in
    let j : Point = point (c.loop-j.j - 1) in
    let end : Point = point (a.i.0 + 1) in
    let sets : Point → List (List ℕ) = sets_of a.sets of.left in
    let right : Point → List (List ℕ) = sets_of a.sets of.right in
    let τ : Point → Stamp = stamps_of a.retained in
    let here : Stamp = c.time-here.result in
    let x : ℕ = a.i.0 + 1 - c.loop-j.j in
    let down : c.loop-j.j - 1 ≡ a.i.0 - x = omega arith in
    let next : a.i.0 + 1 - (c.loop-j.j - 1) ≡ x + 1 = omega arith in
    let e = c.part-rows.ensures in
    let all : lasting_to a.asks.left of.left sets right end j ≡ rows_of a.asks.left of.left sets right τ a.asks.window here end j = rw c.if-not-due.false at (ap (λ t. cond t (lasting_to a.asks.left of.left sets right end j) []) (due_read a.asks.window c.time.ensures refl c.due.ensures)) in
    rw next
    (turned c.loop-j.invariant (rows_of a.asks.left of.left sets right τ a.asks.window here end) (rows_one a.asks.left of.left sets right τ a.asks.window here end) (omega arith) c.put_leading-k.ensures
    (ap (select (leads a.asks.left of.left sets (point (c.loop-j.j - 1 + 1)) end)) (set_read (stand_part c.requires.stand.right j (c.loop-j.j - 1 + 1) (omega arith) (omega arith) (omega arith)) e.0 e.1) ∙ all ∙ ap (λ k. rows_of a.asks.left of.left sets right τ a.asks.window here end (point k)) down))

pub returns : goal.returns
returns c = let a = c.args in
    let of = a.of.now in
    added_as (ended c.loop-j.invariant refl (omega arith)) (rows_fresh a.asks.left of.left (sets_of a.sets of.left) (sets_of a.sets of.right) (stamps_of a.retained) a.asks.window a.start a.i c.time-here.ensures)
