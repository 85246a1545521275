-- `settle` meets its contract: the lowest crowded node, too many entries for the room, or what is weighed after the walk and stored.
use Prim.Native.Nat.{◌*◌}
use native.Mathlib.Omega.{arith}
use mathlib.Core.Path.{refl}
use mathlib.Core.Logic.{inl, inr}
use Rattle.call.proofs.Calls.{part_first, walked_is, rule_long, walk_asks, crowded_settles, last_ready, storable, refused_settles, written_fits, written_settles}
use Rattle.call.proofs.settle.Goals as goal
use Rattle.call.proofs.settle.Goals.{then-room-kept+else-room-lt-MOST_KEPT, else-room-kept}

pub walk-place-requires : goal.walk-place-requires
walk-place-requires c = let asks = walk_asks c.requires.ready_in c.args.rows.now c.args.at.now c.args.out_numbers.now c.args.out_values.now c.args.blocks.now (part_first c.args.owners.now c.args.count) (part_first c.args.numbers.now c.args.count) (part_first c.args.values.now (c.args.count * 4)) c.requires.event_in_bounds c.requires.room_to_keep in
    record { call_ready = asks.0; event_in_bounds = asks.1.0; out_there = asks.1.1 }

pub returns-then-low-lt-NO_NODE : goal.returns-then-low-lt-NO_NODE
returns-then-low-lt-NO_NODE c = let t = walked_is c.requires.ready_in (part_first c.args.owners.now c.args.count) (part_first c.args.numbers.now c.args.count) (part_first c.args.values.now (c.args.count * 4)) c.walk-place.ensures in record { tried = crowded_settles c.requires.ready_in t c.if-low-lt-NO_NODE.true; full = λ e. cc }

pub returns-then-room-lt-MOST_KEPT : goal.returns-then-room-lt-MOST_KEPT
returns-then-room-lt-MOST_KEPT c = record { tried = (refl, refl, refl, refl); full = λ _. omega (arith, c.if-room-lt-MOST_KEPT.true, c.out_numbers-1.given) }

pub weigh_last-weighed-requires : goal.weigh_last-weighed-requires
weigh_last-weighed-requires c = let t = walked_is c.requires.ready_in (part_first c.args.owners.now c.args.count) (part_first c.args.numbers.now c.args.count) (part_first c.args.values.now (c.args.count * 4)) c.walk-place.ensures in last_ready c.requires.ready_in t (omega (arith, t.low, c.if-low-lt-NO_NODE.false))

pub bounds-rule-2 : goal.bounds-rule-2
bounds-rule-2 c = rule_long c.requires.ready_in

pub store-requires : goal.store-requires
store-requires c = let t = walked_is c.requires.ready_in (part_first c.args.owners.now c.args.count) (part_first c.args.numbers.now c.args.count) (part_first c.args.values.now (c.args.count * 4)) c.walk-place.ensures in let u = written_fits c.requires.ready_in t (omega (arith, t.low, c.if-low-lt-NO_NODE.false)) (elim c.if-room-kept.branch [ then-room-kept+else-room-lt-MOST_KEPT w ↦ inl (omega (arith, w.if-room-lt-MOST_KEPT.false, c.out_numbers-1.given)) | else-room-kept w ↦ inr (omega (arith, w.if-room-kept.false, c.out_numbers-1.given)) ]) (rw c.in-Ok.is at c.weigh_last-weighed.ensures) in storable c.requires.ready_in t (omega (arith, t.low, c.if-low-lt-NO_NODE.false)) u.0 u.1 (omega (arith, c.requires.room_to_keep, c.out_numbers-1.given, c.out_values-1.given)) (omega (arith, c.requires.room_to_keep, c.blocks-1.given))

pub returns-in-Err : goal.returns-in-Err
returns-in-Err c = let t = walked_is c.requires.ready_in (part_first c.args.owners.now c.args.count) (part_first c.args.numbers.now c.args.count) (part_first c.args.values.now (c.args.count * 4)) c.walk-place.ensures in record { tried = refused_settles c.requires.ready_in t (omega (arith, t.low, c.if-low-lt-NO_NODE.false)) (elim c.if-room-kept.branch [ then-room-kept+else-room-lt-MOST_KEPT w ↦ inl (omega (arith, w.if-room-lt-MOST_KEPT.false, c.out_numbers-1.given)) | else-room-kept w ↦ inr (omega (arith, w.if-room-kept.false, c.out_numbers-1.given)) ]) (rw c.in-Err.is at c.weigh_last-weighed.ensures); full = λ e. cc }

pub returns-in-Ok : goal.returns-in-Ok
returns-in-Ok c = let t = walked_is c.requires.ready_in (part_first c.args.owners.now c.args.count) (part_first c.args.numbers.now c.args.count) (part_first c.args.values.now (c.args.count * 4)) c.walk-place.ensures in record { tried = written_settles c.requires.ready_in t (omega (arith, t.low, c.if-low-lt-NO_NODE.false)) (elim c.if-room-kept.branch [ then-room-kept+else-room-lt-MOST_KEPT w ↦ inl (omega (arith, w.if-room-lt-MOST_KEPT.false, c.out_numbers-1.given)) | else-room-kept w ↦ inr (omega (arith, w.if-room-kept.false, c.out_numbers-1.given)) ]) (rw c.in-Ok.is at c.weigh_last-weighed.ensures) c.store.ensures; full = λ e. cc }
