-- `rule_in` meets its contract, whole or cut short.
use borrow.Author.Tests.{lt-leb, le-leb}
use Rattle.lines.specs.Input.{rule_in}
use Rattle.lines.proofs.input.rule_in.Goals as goal

pub returns-then-end-bytes : goal.returns-then-end-bytes
unfolding rule_in
returns-then-end-bytes c = rw (← c.rule_end-end.ensures.0, lt-leb _ _ c.if-end-bytes.true)

pub returns : goal.returns
unfolding rule_in
returns c = rw (← c.rule_end-end.ensures.0, le-leb _ _ c.if-end-bytes.false)
