-- The free variables' words, one after the other.
use native.Mathlib.Omega.{arith}
use borrow.Author.Rules.{rules}
use Rattle.writer.proofs.Putting.{put_none, put_then}
use Rattle.writer.proofs.Reports.{row-length}
use Rattle.writer.proofs.put_row.Goals as goal

pub put_free-second-requires : goal.put_free-second-requires
put_free-second-requires c = record { bit_nonzero = search rules; word_in_bounds = omega (arith, row-length c.args.mask c.args.row) }

pub put_free-third-requires : goal.put_free-third-requires
put_free-third-requires c = record { bit_nonzero = search rules; word_in_bounds = omega (arith, row-length c.args.mask c.args.row) }

pub put_free-fourth-requires : goal.put_free-fourth-requires
put_free-fourth-requires c = record { bit_nonzero = search rules; word_in_bounds = omega (arith, row-length c.args.mask c.args.row) }

pub put_free-requires : goal.put_free-requires
put_free-requires c = record { bit_nonzero = search rules; word_in_bounds = omega (arith, row-length c.args.mask c.args.row) }

pub returns : goal.returns
returns c = put_then c.put_free-second.ensures (put_then c.put_free-third.ensures (put_then c.put_free-fourth.ensures (put_then c.put_free.ensures put_none)))
