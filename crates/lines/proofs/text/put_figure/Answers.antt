-- `put_figure` meets its contract: the words, then the digits.
use native.Mathlib.Omega.{arith}
use lib.ListN.{length-append}
use Rattle.writer.proofs.Putting.{put_then}
use Rattle.lines.proofs.text.put_figure.Goals as goal

pub put_text-after-requires : goal.put_text-after-requires
put_text-after-requires c = omega (arith, simp length-append at c.requires)

pub put_number-requires : goal.put_number-requires
put_number-requires c = omega (arith, simp length-append at c.requires)

pub returns : goal.returns
returns c = put_then c.put_text-after.ensures c.put_number.ensures
