-- `report::run_ascends` meets its contract: each turn compares the first two of the rows that are left, and leaves the first of them behind.
use Prim.Native.Nat.{◌+◌, ◌≤◌}
use native.Mathlib.Omega.{arith}
use lib.ListN.{length}
use borrow.Author.Rules.{rules}
use Rattle.report.proofs.Runs.{rising_none, rising_all, rising_broken, rising_more, two_rows}
use Rattle.report.proofs.run_ascends.Goals as goal

pub loop-left-init : goal.loop-left-init
loop-left-init c = rising_none _ _ _ _ _ (search rules)

pub overflow_add-next : goal.overflow_add-next
overflow_add-next c = omega (arith, (let it : c.loop-left.at + c.args.stride + c.args.width ≤ length c.args.words.now = two_rows _ _ _ c.loop-left.left _ c.requires.0 c.loop-left.invariant.room (omega arith) in it))

pub row_before-requires : goal.row_before-requires
row_before-requires c = (omega (arith, (let it : c.loop-left.at + c.args.stride + c.args.width ≤ length c.args.words.now = two_rows _ _ _ c.loop-left.left _ c.requires.0 c.loop-left.invariant.room (omega arith) in it)), (let it : c.loop-left.at + c.args.stride + c.args.width ≤ length c.args.words.now = two_rows _ _ _ c.loop-left.left _ c.requires.0 c.loop-left.invariant.room (omega arith) in it), search rules)

pub returns-then-not-row_before : goal.returns-then-not-row_before
returns-then-not-row_before c = rising_broken c.loop-left.invariant (omega arith) c.row_before.ensures c.if-not-row_before.true

pub loop-left-preserved : goal.loop-left-preserved
loop-left-preserved c = rising_more c.loop-left.invariant (omega arith) c.row_before.ensures c.if-not-row_before.false

pub returns : goal.returns
returns c = rising_all c.loop-left.invariant c.loop-left-test.false
