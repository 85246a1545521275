-- `add_lasting` meets its contract: each row of the run for which left passes is put in at the age.
use Prim.Native.Nat.{ℕ}
use mathlib.Core.Path.{refl}
use mathlib.Core.Bool.{Bool, cond}
use mathlib.Core.List.{List, [], ◌∷◌}
use Rattle.rowset.specs.Rows.{rows_from}
use Rattle.rowset.proofs.Growing.{starts, goes_on, map_select_one, chosen}
use Rattle.room.specs.Room.{sets_of}
use Rattle.untils.specs.Until.{leads}
use Rattle.pairs.proofs.Adding.{add_none}
use Rattle.pairs.proofs.Growing.{pairs_then}
use Rattle.since.proofs.add_lasting.Goals as goal

pub loop-x-init : goal.loop-x-init
unfolding rows_from
loop-x-init c = starts c.requires.run.ordered (add_none c.requires.pair_room)

pub loop-x-preserved : goal.loop-x-preserved
loop-x-preserved c = let l = c.args.lead.now in
    let p : List ℕ → Bool = (leads l.left l.a (sets_of l.sets l.a) l.from l.end) in
    goes_on c.loop-x.invariant (λ u. cond (p u) ((c.args.age ∷ u) ∷ []) []) (map_select_one p (λ u. c.args.age ∷ u)) c.loop-x-test.true (pairs_then c.add_if-g.ensures)
    (chosen p (λ u. c.args.age ∷ u) c.passes-ok.ensures refl c.row_at-r.ensures)
