-- `and_not` meets its contract: each row of the left run that has none in the right run is put in.
use Prim.Native.Nat.{ℕ, ◌-◌}
use mathlib.Core.Path.{refl, ap, ◌∙◌}
use mathlib.Core.Bool.{Bool, not, cond}
use mathlib.Core.List.{List, [], ◌∷◌}
use Rattle.meaning.specs.Evaluator.{cut_to, valuation_of}
use Rattle.meaning.specs.LookUp.{look_up, is_there}
use Rattle.kinds.specs.Kinds.{in_mask}
use Rattle.rowset.specs.Rows.{rows_from}
use Rattle.rowset.proofs.Growing.{gathers_from, gathers_on, gather_from, select_one, chosen}
use Rattle.kinds.proofs.and_not.Goals as goal

pub loop-i-init : goal.loop-i-init
unfolding rows_from
loop-i-init c = gathers_from c.requires.run.ordered (gather_from c.requires.set_room)

pub loop-i-preserved : goal.loop-i-preserved
loop-i-preserved c = let a = c.args in
    let rights : List (List ℕ) = rows_from a.rows.now a.start (a.end - a.start) in
    let p : List ℕ → Bool = λ u. not (is_there (look_up a.inner (cut_to (in_mask a.g) (valuation_of u)) rights)) in
    gathers_on c.loop-i.invariant (λ u. cond (p u) (u ∷ []) []) (select_one p) c.loop-i-test.true c.add_if-set.ensures
    (chosen p (λ u. u) (ap not (c.contains-found.ensures ∙ ap (λ r. is_there (look_up a.inner r rights)) c.cut.ensures)) refl c.row_at-u.ensures)
