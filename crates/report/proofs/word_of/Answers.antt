-- `report::word_of` meets its contract: a word of the row, or 0 past its end.
use Rattle.report.proofs.Compare.{word_in, word_past}
use Rattle.report.proofs.word_of.Goals as goal

pub returns-then-c-width : goal.returns-then-c-width
returns-then-c-width c = let a = c.args in word_in a.words.now a.i a.width a.c c.if-c-width.true

pub returns-else-c-width : goal.returns-else-c-width
returns-else-c-width c = word_past _ _ _ _ c.requires c.if-c-width.false
