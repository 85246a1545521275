-- `to_front` meets its contract: the bytes go by way of others.
use native.Mathlib.Omega.{arith}
use Rattle.listing.proofs.Rests.{part_long, by_way}
use Rattle.listing.proofs.input.to_front.Goals as goal

pub returns : goal.returns
returns c = let long = part_long c.args.bytes.now c.args.from c.args.to c.requires.0 c.requires.2 in
    let put = by_way c.put_text-n.ensures (omega (arith, long)) c.put_text.ensures in
    record { put = put; value = omega (arith, put.place, long) }
