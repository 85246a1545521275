-- `put_last` meets its contract: both figures, then the line end.
use native.Mathlib.Omega.{arith}
use lib.ListN.{length-append}
use Rattle.writer.proofs.Putting.{put_then}
use Rattle.lines.specs.Text.{last_line}
use Rattle.lines.proofs.text.put_last.Goals as goal

pub put_figure-a-requires : goal.put_figure-a-requires
unfolding last_line
put_figure-a-requires c = simp length-append (omega (arith, simp length-append at c.requires))

pub put_figure-b-requires : goal.put_figure-b-requires
unfolding last_line
put_figure-b-requires c = simp length-append (omega (arith, simp length-append at c.requires))

pub put_text-requires : goal.put_text-requires
unfolding last_line
put_text-requires c = omega (arith, simp length-append at c.requires)

pub returns : goal.returns
unfolding last_line
returns c = put_then (put_then c.put_figure-a.ensures c.put_figure-b.ensures) c.put_text.ensures
