-- `until` meets its contract: each point from i on before m puts in what it gives.
use Prim.Native.Nat.{ℕ, ◌+◌}
use native.Mathlib.Omega.{arith}
use mathlib.Core.Path.{◌≡◌, sym, ap, ◌∙◌}
use mathlib.Core.Bool.{Bool}
use mathlib.Core.List.{List, []}
use Rattle.meaning.specs.Lists.{select}
use Rattle.meaning.specs.Log.{point}
use Rattle.meaning.specs.Evaluator.{leading}
use Rattle.meaning.specs.declared.Point.{Point}
use Rattle.meaning.specs.declared.Stamp.{Stamp}
use Rattle.progress.specs.Stamps.{stamps_of}
use Rattle.rowset.proofs.Growing.{turned, added_none, room_after}
use Rattle.room.specs.Room.{sets_of}
use Rattle.untils.specs.Until.{left_test, leads}
use Rattle.untils.proofs.Spans.{stand_part, set_run, set_read, set_none}
use Rattle.untils.proofs.Passing.{at_point, point_one, point_there}
use Rattle.untils.proofs.until.Goals as goal

pub invariant_of-lead : goal.invariant_of-lead
invariant_of-lead c = record { stand = stand_part c.requires.stand.left _ c.loop-j.j (omega arith) (omega arith) (omega arith) }

pub put_leading-k-requires-clause-run : goal.put_leading-k-requires-clause-run
put_leading-k-requires-clause-run c = let e = c.part-rows.ensures in
    set_run (stand_part c.requires.stand.right (point c.loop-j.j) (c.loop-j.j + 1) (omega arith) (omega arith) (omega arith)) e.0 e.1

pub loop-j-preserved-then-not-due_there : goal.loop-j-preserved-then-not-due_there
loop-j-preserved-then-not-due_there c =
    let a = c.args in
    let of = c.args.of.now in
    let τ : Point → Stamp = stamps_of a.retained in
    let left : List ℕ → Point → Bool = left_test a.asks.left of.left (sets_of a.sets of.left) in
    let right : Point → List (List ℕ) = sets_of a.sets of.right in
    let here : Point = point c.loop-j.j in
    let rows = c.part-rows.result in
    let e = c.part-rows.ensures in
    let none : [] ≡ at_point τ a.asks.window left right a.i here = rw c.if-not-due_there.true at (point_there τ a.asks.window left right a.i here rows.from rows.to c.time-start.ensures (λ h. set_none a.sets.rows.now a.sets.at.now _ (sym e.0 ∙ h ∙ e.1)) c.due_there.ensures) in
    turned c.loop-j.invariant (at_point τ a.asks.window left right a.i) (point_one τ a.asks.window left right a.i) c.loop-j-test.true (added_none (room_after c.requires.set_room c.loop-j.invariant.put)) none

pub loop-j-preserved : goal.loop-j-preserved
loop-j-preserved c =
    let a = c.args in
    let of = c.args.of.now in
    let τ : Point → Stamp = stamps_of a.retained in
    let left : List ℕ → Point → Bool = left_test a.asks.left of.left (sets_of a.sets of.left) in
    let right : Point → List (List ℕ) = sets_of a.sets of.right in
    let here : Point = point c.loop-j.j in
    let rows = c.part-rows.result in
    let e = c.part-rows.ensures in
    let all : leading left right a.i here ≡ at_point τ a.asks.window left right a.i here = rw c.if-not-due_there.false at (point_there τ a.asks.window left right a.i here rows.from rows.to c.time-start.ensures (λ h. set_none a.sets.rows.now a.sets.at.now _ (sym e.0 ∙ h ∙ e.1)) c.due_there.ensures) in
    turned c.loop-j.invariant (at_point τ a.asks.window left right a.i) (point_one τ a.asks.window left right a.i) c.loop-j-test.true c.put_leading-k.ensures
    (ap (select (leads a.asks.left of.left (sets_of a.sets of.left) a.i here)) (set_read (stand_part c.requires.stand.right here (c.loop-j.j + 1) (omega arith) (omega arith) (omega arith)) e.0 e.1) ∙ all)
