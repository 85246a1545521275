-- `add_young` meets its contract: each row of the run is put in at the age.
use Prim.Native.Nat.{ℕ}
use mathlib.Core.Path.{refl, ap}
use mathlib.Core.List.{[], ◌∷◌}
use Rattle.rowset.specs.Rows.{rows_from}
use Rattle.rowset.proofs.Growing.{starts, goes_on}
use Rattle.pairs.proofs.Adding.{add_none}
use Rattle.pairs.proofs.Growing.{pairs_then}
use Rattle.pairs.proofs.add_young.Goals as goal

pub loop-x-init : goal.loop-x-init
unfolding rows_from
loop-x-init c = starts c.requires.run.ordered (add_none c.requires.pair_room)

pub loop-x-preserved : goal.loop-x-preserved
loop-x-preserved c = let age : ℕ = c.args.age in
    goes_on c.loop-x.invariant (λ u. (age ∷ u) ∷ []) (λ x xs. refl) c.loop-x-test.true (pairs_then c.add-g.ensures) (ap (λ u. (age ∷ u) ∷ []) c.row_at-r.ensures)
