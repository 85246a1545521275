-- `put_end` meets its contract: the one text, then the other.
use native.Mathlib.Omega.{arith}
use Rattle.writer.proofs.Putting.{put_then}
use Rattle.monitor.specs.State.{stored}
use Rattle.listing.proofs.Texts.{cut_short, figures_short}
use Rattle.listing.proofs.text.put_end.Goals as goal

pub put_figures-requires : goal.put_figures-requires
put_figures-requires c = omega (arith, c.put_cut-after.ensures.place, cut_short c.args.next)

pub returns : goal.returns
returns c = let a = c.args in
    record { put = put_then c.put_cut-after.ensures c.put_figures.ensures; upper_bound = omega (arith, c.put_cut-after.ensures.place, c.put_figures.ensures.place, cut_short a.next, figures_short (stored a.state)) }
