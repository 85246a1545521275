-- `keep` meets its contract: each row of the run that passes is put in.
use Prim.Native.Nat.{ℕ}
use mathlib.Core.Path.{refl, ap₂, ◌∙◌}
use mathlib.Core.Bool.{Bool, cond}
use mathlib.Core.List.{List, [], ◌∷◌}
use Rattle.meaning.specs.Formula.{compares}
use Rattle.meaning.specs.Definition2.{value}
use Rattle.meaning.specs.Evaluator.{valuation_of}
use Rattle.rowset.specs.Rows.{rows_from}
use Rattle.rowset.proofs.Growing.{gathers_from, gathers_on, gather_from, select_one, chosen}
use Rattle.kinds.proofs.keep.Goals as goal

pub loop-i-init : goal.loop-i-init
unfolding rows_from
loop-i-init c = gathers_from c.requires.run.ordered (gather_from c.requires.set_room)

pub loop-i-preserved : goal.loop-i-preserved
loop-i-preserved c = let a = c.args in
    let p : List ℕ → Bool = λ u. compares a.c (value (valuation_of u) a.s) (value (valuation_of u) a.t) in
    gathers_on c.loop-i.invariant (λ u. cond (p u) (u ∷ []) []) (select_one p) c.loop-i-test.true c.add_if-set.ensures
    (chosen p (λ u. u) (c.compare-ok.ensures ∙ ap₂ (compares a.c) c.term_value-a.ensures c.term_value-b.ensures) refl c.row_at-u.ensures)
