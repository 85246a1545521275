-- `event_end` meets its contract, test by test.
use native.Mathlib.Omega.{arith}
use borrow.Author.Tests.{lt-leb, le-leb}
use Rattle.lines.specs.Input.{event_end}
use Rattle.lines.proofs.input.event_end.Goals as goal

pub returns-then-bytes-lt8 : goal.returns-then-bytes-lt8
unfolding event_end
returns-then-bytes-lt8 c = (rw (lt-leb _ _ c.if-bytes-lt8.true), omega arith, omega arith)

pub returns-then-rows-gt-ROWS : goal.returns-then-rows-gt-ROWS
unfolding event_end
returns-then-rows-gt-ROWS c = (rw (le-leb _ _ c.if-bytes-lt8.false, lt-leb _ _ (rw c.word_at-rows.ensures at c.if-rows-gt-ROWS.true)), omega arith, omega arith)

pub returns : goal.returns
unfolding event_end
returns c = (rw (c.word_at-rows.ensures, le-leb _ _ c.if-bytes-lt8.false, le-leb _ _ (rw c.word_at-rows.ensures at c.if-rows-gt-ROWS.false)), omega arith, omega arith)
