-- `exists` meets its contract: each row of the run is put in with the variable at 0.
use Prim.Native.Nat.{ℕ}
use mathlib.Core.Path.{refl, ap, ◌∙◌}
use mathlib.Core.Bool.{not}
use mathlib.Core.List.{List, [], ◌∷◌}
use lib.Dec.{eqb}
use Rattle.meaning.specs.Evaluator.{cut_to, valuation_of}
use Rattle.rowset.specs.Rows.{rows_from}
use Rattle.rowset.proofs.Growing.{gathers_from, gathers_on, gather_from}
use Rattle.kinds.proofs.exists.Goals as goal

pub loop-i-init : goal.loop-i-init
unfolding rows_from
loop-i-init c = gathers_from c.requires.run.ordered (gather_from c.requires.set_room)

pub loop-i-preserved : goal.loop-i-preserved
loop-i-preserved c = let f : List ℕ → List ℕ = λ u. cut_to (λ y. not (eqb y c.args.x)) (valuation_of u) in
    gathers_on c.loop-i.invariant (λ u. f u ∷ []) (λ x xs. refl) c.loop-i-test.true c.add-set.ensures
    (ap (λ u. u ∷ []) (c.without-u.ensures ∙ ap f c.row_at.ensures))
