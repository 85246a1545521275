-- `atom` meets its contract: each row of the event that matches is put in, as the values of its variables.
use Prim.Native.Nat.{ℕ}
use mathlib.Core.Path.{ap}
use mathlib.Core.Bool.{cond, ◌&&◌}
use mathlib.Core.List.{List, [], ◌∷◌, map}
use lib.Dec.{eqb}
use Rattle.meaning.specs.Log.{Row}
use Rattle.meaning.specs.Event.{relation_of}
use Rattle.meaning.specs.Formula.{terms_of, variables}
use Rattle.meaning.specs.Evaluator.{bound, matches}
use Rattle.rowset.proofs.Growing.{gathers_on}
use Rattle.kinds.specs.Kinds.{row_from}
use Rattle.kinds.proofs.Atoms.{atom_more}
use Rattle.kinds.proofs.atom.Goals as goal

pub loop-i-preserved : goal.loop-i-preserved
loop-i-preserved c = let a = c.args in
    let gives : Row → List ℕ = λ row. map (bound (terms_of a.ts) row.values) variables in
    let one : Row → List (List ℕ) = λ row. cond (eqb row.relation a.relation && matches (terms_of a.ts) row.values) (gives row ∷ []) [] in
    gathers_on c.loop-i.invariant one (atom_more a.relation (terms_of a.ts)) c.loop-i-test.true c.atom_row-set.ensures
    (ap (λ cs. one (row_from a.ts.count (relation_of a.event.now c.loop-i.i) cs)) c.columns_at-c.ensures)
