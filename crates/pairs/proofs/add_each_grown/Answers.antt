-- `add_each_grown` meets its contract: each pair is put in, grown older.
use Prim.Native.Nat.{◌+◌, min}
use native.Mathlib.Omega.{arith}
use mathlib.Core.Path.{◌≡◌, refl, ap₂}
use mathlib.Core.List.{[], ◌∷◌}
use lib.ListN.{get_or, drop}
use Rattle.rowset.proofs.Growing.{starts_all, goes_on}
use Rattle.kinds.specs.Kinds.{pairs_from}
use Rattle.pairs.proofs.Adding.{add_none}
use Rattle.pairs.proofs.Growing.{pairs_then}
use Rattle.pairs.proofs.add_each_grown.Goals as goal

pub loop-x-init : goal.loop-x-init
unfolding pairs_from
loop-x-init c = starts_all (add_none c.requires.pair_room)

pub loop-x-preserved : goal.loop-x-preserved
loop-x-preserved c = let a = c.args in
    goes_on c.loop-x.invariant (λ p. (min (get_or p 0 0 + a.by) a.most ∷ drop 1 p) ∷ []) (λ p ps. refl) c.loop-x-test.true (pairs_then c.add-g.ensures)
    (let e : c.from.result + c.from-in-loop-x.result ≡ get_or a.old_ages.now c.loop-x.x 0 + a.by = omega arith in
    rw e at (ap₂ (λ age u. (age ∷ u) ∷ []) c.at_most-age.ensures c.row_at-r.ensures))
