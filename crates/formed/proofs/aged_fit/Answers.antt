-- `aged_fit` meets its contract: the last pair's age says it of all, as they ascend.
use mathlib.Core.Path.{◌∙◌}
use borrow.Author.Tests.{lt-leb}
use Rattle.formed.proofs.Climbs.{aged_old, aged_tells}
use Rattle.formed.proofs.aged_fit.Goals as goal

pub returns-then-numbers-to : goal.returns-then-numbers-to
returns-then-numbers-to c = let a = c.args in
    aged_tells a.numbers.now a.values.now a.mask a.from a.to a.w c.oldest.result c.oldest.ensures c.requires.0 c.if-numbers-to.true c.rows_ascend.result c.rows_ascend.ensures

pub returns-else-numbers-to : goal.returns-else-numbers-to
returns-else-numbers-to c = let a = c.args in
    lt-leb _ _ c.if-numbers-to.false ∙ aged_old a.numbers.now a.values.now a.mask a.from a.to a.w c.oldest.result c.oldest.ensures c.requires.0 c.if-numbers-to.false
