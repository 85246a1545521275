-- `and_row` meets its contract: each row of the run that agrees is put in, joined.
use Prim.Native.Nat.{ℕ}
use mathlib.Core.Bool.{Bool, cond}
use mathlib.Core.List.{List, [], ◌∷◌}
use Rattle.meaning.specs.Evaluator.{agrees, joined}
use Rattle.kinds.specs.Kinds.{in_mask}
use Rattle.rowset.specs.Rows.{words_of, rows_from}
use Rattle.rowset.proofs.Growing.{gathers_from, gathers_on, gather_from, map_select_one, chosen}
use Rattle.kinds.proofs.and_row.Goals as goal

pub loop-i-init : goal.loop-i-init
unfolding rows_from
loop-i-init c = gathers_from c.requires.run.ordered (gather_from c.requires.set_room)

pub loop-i-preserved : goal.loop-i-preserved
loop-i-preserved c = let a = c.args in
    let p : List ℕ → Bool = agrees (in_mask a.f) (in_mask a.g) (words_of a.u) in
    let j : List ℕ → List ℕ = joined (in_mask a.f) (words_of a.u) in
    gathers_on c.loop-i.invariant (λ w. cond (p w) (j w ∷ []) []) (map_select_one p j) c.loop-i-test.true c.add_if-set.ensures
    (chosen p j c.agree-ok.ensures c.join-row.ensures c.row_at-w.ensures)
