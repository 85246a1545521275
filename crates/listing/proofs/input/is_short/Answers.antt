-- `is_short` meets its contract, ended or not.
use native.Mathlib.Omega.{arith}
use mathlib.Core.Path.{sym}
use mathlib.Core.Bool.{true≢false}
use borrow.Author.Tests.{ltb-true}
use lib.ListN.{length}
use Rattle.listing.proofs.input.is_short.Goals as goal

pub returns-then-ended : goal.returns-then-ended
returns-then-ended c = record { value = rw c.if-ended.true; bytes_len_bound = λ e. absurd (true≢false (sym e)) }

pub returns : goal.returns
returns c = record { value = rw (c.if-ended.false, c.event_end.ensures.0); bytes_len_bound = λ e. omega (arith, ltb-true (length c.args.bytes.now) c.event_end.result e, c.event_end.ensures.2) }
