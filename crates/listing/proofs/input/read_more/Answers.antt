-- `read_more` meets its contract: what is moved to the front stays there.
use native.Mathlib.Omega.{arith}
use Rattle.listing.proofs.Rests.{part_long, front_stays}
use Rattle.listing.proofs.input.read_more.Goals as goal

pub returns-clause-bytes_after : goal.returns-clause-bytes_after
returns-clause-bytes_after g c =
    let moved = c.to_front-n.ensures in
    let long = part_long c.args.bytes.now c.args.from c.args.to c.requires.0 c.requires.2 in
    front_stays _ moved.put (omega (arith, long)) moved.value
