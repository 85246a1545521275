-- `is_before` meets its contract: the comparison tells.
use mathlib.Core.Path.{ap, ◌∙◌}
use Rattle.std.specs.Ordering.{is_lt}
use Rattle.rowset.specs.Rows.{words_of}
use Rattle.rowset.proofs.Searching.{by_less}
use Rattle.rowset.proofs.is_before.Goals as goal

pub returns : goal.returns
returns c = let a = c.args in
    c.is_lt.ensures ∙ ap is_lt c.compare.ensures ∙ by_less a.lowest (words_of a.x) (words_of a.y)
