-- `settle_in_room` meets its contract: where a call in a smaller room is full, it is made with room for all entries; no room's function calls itself.
use Prim.Native.Nat.{◌*◌, ◌≤◌}
use lib.ListN.{length}
use native.Mathlib.Omega.{arith}
use Rattle.method.specs.Room.{rows_needed, marks_needed, marks_to_time}
use Rattle.call.proofs.Calls.{again_ready, again_so, again_settled}
use Rattle.workspace.proofs.Enough.{stamps_few, marks_by_times}
use Rattle.workspace.proofs.settle_in_room.Goals as goal

pub never-again-requires : goal.never-again-requires
never-again-requires c = omega (arith, c.requires.ready_in.ready.not_full)

pub overflow_mul-needs : goal.overflow_mul-needs
overflow_mul-needs c = omega (arith, stamps_few c.requires.ready_in)

pub overflow_add-needs : goal.overflow_add-needs
overflow_add-needs c = omega (arith, c.requires.ready_in.few_kept, c.requires.ready_in.ready.event.most, c.row_total.ensures)

pub settle_smaller-tried-requires : goal.settle_smaller-tried-requires
settle_smaller-tried-requires c = record { again_value = c.never-again.ensures; ready_in = c.requires.ready_in; needs_are = (c.requires.event_bound, marks_by_times c.requires.ready_in) }

pub settle_all-requires : goal.settle_all-requires
settle_all-requires c = let g = rw c.in-None.is at c.settle_smaller-tried.ensures in
    record { again_value = c.never-again.ensures; ready_in = again_ready c.requires.ready_in g.1 g.2 g.3; needs_are = again_so c.requires.ready_in g.1 g.2 g.3 (λ t. (rows_needed t c.args.event.now ≤ c.args.needed) × (marks_needed t c.args.event.now ≤ marks_to_time * length c.args.stamps.now)) (c.requires.event_bound, marks_by_times c.requires.ready_in) }

pub returns-in-Some : goal.returns-in-Some
returns-in-Some c = rw c.in-Some.is at c.settle_smaller-tried.ensures

pub returns-in-None : goal.returns-in-None
returns-in-None c = let g = rw c.in-None.is at c.settle_smaller-tried.ensures in
    again_settled c.requires.ready_in g.1 g.2 g.3 g.0 c.settle_all.ensures
