-- `report::word` meets its contract: an element of the slice fits 32 bits, and so a `usize`.
use native.Mathlib.Omega.{arith}
use borrow.Author.Rules.{rules}
use Rattle.report.proofs.word.Goals as goal

pub overflow_cast-result : goal.overflow_cast-result
overflow_cast-result c = omega (arith, c.shared_slice_known-1.given c.args.i)

pub returns : goal.returns
returns c = record { is = search rules; below = omega (arith, c.shared_slice_known-1.given c.args.i) }
