-- `is_behind` meets its contract.
use Prim.Native.Nat.{suc, ◌-◌}
use mathlib.Core.Path.{ap₂, ◌∙◌}
use mathlib.Core.List.{◌∷◌}
use lib.ListN.{get_or}
use Rattle.meaning.specs.Order.{before}
use Rattle.formed.proofs.is_behind.Goals as goal

pub returns : goal.returns
returns c = let a = c.args in
    c.pair_before.ensures ∙ ap₂ (λ u v. before (suc a.lowest) (get_or a.numbers.now (a.i - 1) 0 ∷ u) (get_or a.numbers.now a.i 0 ∷ v)) c.row_at.ensures c.row_at-2.ensures
