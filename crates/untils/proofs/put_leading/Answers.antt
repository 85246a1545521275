-- `put_leading` meets its contract: each row of the run for which left passes is put in.
use Prim.Native.Nat.{ℕ}
use mathlib.Core.Path.{refl}
use mathlib.Core.Bool.{Bool, cond}
use mathlib.Core.List.{List, [], ◌∷◌}
use Rattle.rowset.specs.Rows.{rows_from}
use Rattle.rowset.proofs.Growing.{gathers_from, gathers_on, gather_from, select_one, chosen}
use Rattle.room.specs.Room.{sets_of}
use Rattle.untils.specs.Until.{leads}
use Rattle.untils.proofs.put_leading.Goals as goal

pub loop-x-init : goal.loop-x-init
unfolding rows_from
loop-x-init c = gathers_from c.requires.run.ordered (gather_from c.requires.set_room)

pub loop-x-preserved : goal.loop-x-preserved
loop-x-preserved c = let a = c.args.lead.now in
    let p : List ℕ → Bool = leads a.left a.a (sets_of a.sets a.a) a.from a.end in
    gathers_on c.loop-x.invariant (λ u. cond (p u) (u ∷ []) []) (select_one p) c.loop-x-test.true c.add_if-set.ensures
    (chosen p (λ u. u) c.passes-ok.ensures refl c.row_at-u.ensures)
