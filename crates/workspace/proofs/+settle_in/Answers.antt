-- `settle_in` meets its contract: it never calls itself, and its room is enough.
use native.Mathlib.Omega.{arith}
use Rattle.call.proofs.Calls.{nodes_few}
use Rattle.workspace.proofs.Enough.{room_small}
use Rattle.workspace.proofs.+settle_in.Goals as goal

pub settle-requires : goal.settle-requires
settle-requires g t c = record { ready_in = c.requires.ready_in; event_in_bounds = (omega (arith, c.requires.call_fits.0, c.requires.room.1), omega (arith, c.requires.call_fits.1)); room_to_keep = (omega (arith, room_small c.requires.room), omega (arith, c.requires.room.2), omega (arith, nodes_few c.requires.ready_in)) }
