-- `pair_before` meets its contract: the comparison tells.
use Prim.Native.Nat.{suc}
use mathlib.Core.Path.{ap, ◌∙◌}
use mathlib.Core.List.{◌∷◌}
use Rattle.std.specs.Ordering.{is_lt}
use Rattle.rowset.specs.Rows.{words_of}
use Rattle.rowset.proofs.Searching.{by_less}
use Rattle.pairs.proofs.pair_before.Goals as goal

pub returns : goal.returns
returns c = let a = c.args in
    c.is_lt.ensures ∙ ap is_lt c.compare.ensures ∙ by_less (suc a.lowest) (a.a ∷ words_of a.x) (a.b ∷ words_of a.y)
