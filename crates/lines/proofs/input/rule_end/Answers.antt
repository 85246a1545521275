-- `rule_end` meets its contract, test by test.
use native.Mathlib.Omega.{arith}
use borrow.Author.Tests.{lt-leb, le-leb}
use Rattle.lines.specs.Input.{rule_end}
use Rattle.lines.proofs.input.rule_end.Goals as goal

pub returns-then-bytes-lt4 : goal.returns-then-bytes-lt4
unfolding rule_end
returns-then-bytes-lt4 c = (rw (lt-leb _ _ c.if-bytes-lt4.true), omega arith, omega arith)

pub returns-then-n-gt-RULE_BYTES : goal.returns-then-n-gt-RULE_BYTES
unfolding rule_end
returns-then-n-gt-RULE_BYTES c = (rw (le-leb _ _ c.if-bytes-lt4.false, lt-leb _ _ (rw c.word_at-n.ensures at c.if-n-gt-RULE_BYTES.true)), omega arith, omega arith)

pub returns : goal.returns
unfolding rule_end
returns c = (rw (c.word_at-n.ensures, le-leb _ _ c.if-bytes-lt4.false, le-leb _ _ (rw c.word_at-n.ensures at c.if-n-gt-RULE_BYTES.false)), omega arith, omega arith)
