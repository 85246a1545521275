-- `add_point` meets its contract: where nothing is asked of left, each row passes.
use mathlib.Core.Path.{ap}
use mathlib.Core.List.{◌∷◌, map}
use Rattle.room.specs.Room.{sets_of}
use Rattle.pairs.proofs.Growing.{pairs_as}
use Rattle.since.proofs.HeldPairs.{every_row}
use Rattle.since.proofs.add_point.Goals as goal

pub returns-in-Always : goal.returns-in-Always
returns-in-Always c = let l = c.args.lead.now in
    pairs_as c.add_young.ensures (ap (map (λ u. c.args.age ∷ u)) (every_row c.in-Always.is l.a (sets_of l.sets l.a) l.from l.end _))
