-- `report::rows_ascend` meets its contract: after k turns the first k entries are passed, and `at` is where the rows of the next begin.
use Prim.Native.Nat.{◌+◌, ◌*◌, ◌≤◌}
use native.Mathlib.Omega.{arith}
use lib.ListN.{length}
use borrow.Author.Rules.{rules}
use Rattle.report.proofs.Entries.{passed_none, passed_all, passed_broken, passed_more, entry_room}
use Rattle.report.proofs.rows_ascend.Goals as goal

pub loop-k-init : goal.loop-k-init
loop-k-init c = passed_none _ _ c.word-points.ensures.is

pub run_ascends-requires : goal.run_ascends-requires
run_ascends-requires c = (search rules, search rules, entry_room c.loop-k.invariant (omega arith) c.word-free.ensures.is c.word-count.ensures.is c.requires)

pub returns-then-not-run_ascends : goal.returns-then-not-run_ascends
returns-then-not-run_ascends c = passed_broken c.loop-k.invariant (omega arith) c.word-free.ensures.is c.word-count.ensures.is c.run_ascends.ensures c.if-not-run_ascends.true

pub overflow_mul-at-in-loop-k : goal.overflow_mul-at-in-loop-k
overflow_mul-at-in-loop-k c = omega (arith, (let it : c.loop-k.at + c.word-free.result * c.word-count.result ≤ length c.args.report.now = entry_room c.loop-k.invariant (omega arith) c.word-free.ensures.is c.word-count.ensures.is c.requires in it))

pub overflow_add-at-in-loop-k : goal.overflow_add-at-in-loop-k
overflow_add-at-in-loop-k c = omega (arith, (let it : c.loop-k.at + c.word-free.result * c.word-count.result ≤ length c.args.report.now = entry_room c.loop-k.invariant (omega arith) c.word-free.ensures.is c.word-count.ensures.is c.requires in it))

pub loop-k-preserved : goal.loop-k-preserved
loop-k-preserved c = passed_more c.loop-k.invariant (omega arith) c.word-free.ensures.is c.word-count.ensures.is c.run_ascends.ensures c.requires c.if-not-run_ascends.false

pub returns : goal.returns
returns c = passed_all c.loop-k.invariant (omega arith)
