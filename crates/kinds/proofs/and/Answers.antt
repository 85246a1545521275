-- `and` meets its contract: each row of the left run is joined with the right run.
use Prim.Native.Nat.{ℕ, ◌-◌}
use mathlib.Core.Path.{refl, ap}
use mathlib.Core.List.{List, map}
use Rattle.meaning.specs.Lists.{select}
use Rattle.meaning.specs.Evaluator.{agrees, joined}
use Rattle.kinds.specs.Kinds.{in_mask}
use Rattle.rowset.specs.Rows.{rows_from}
use Rattle.rowset.proofs.Growing.{begun, turned}
use Rattle.kinds.proofs.and.Goals as goal

pub loop-i-init : goal.loop-i-init
unfolding rows_from
loop-i-init c = begun c.requires.run.ordered c.requires.set_room

pub loop-i-preserved : goal.loop-i-preserved
loop-i-preserved c = let a = c.args in
    let rights : List (List ℕ) = rows_from a.rows.now a.start (a.end - a.start) in
    let one : List ℕ → List (List ℕ) = λ u. map (joined (in_mask a.f) u) (select (agrees (in_mask a.f) (in_mask a.g) u) rights) in
    turned c.loop-i.invariant (one) (λ x xs. refl) c.loop-i-test.true c.and_row-k.ensures
    (ap one c.row_at-u.ensures)
