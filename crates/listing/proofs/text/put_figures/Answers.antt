-- `put_figures` meets its contract, well formed or not.
use native.Mathlib.Omega.{arith}
use Rattle.lines.proofs.Lines.{refused_short, last_short}
use Rattle.listing.specs.Ends.{figures_text}
use Rattle.listing.proofs.text.put_figures.Goals as goal

pub put_last-requires : goal.put_last-requires
put_last-requires c = omega (arith, last_short c.in-Some.n c.kept-kept.result)

pub put_refused-requires : goal.put_refused-requires
put_refused-requires c = omega (arith, refused_short c.of_event.result.0 c.of_event.result.1)

pub returns-in-Some : goal.returns-in-Some
unfolding figures_text
returns-in-Some c = let told = rw c.in-Some.is at c.open_points.ensures in
    rw (← told, ← c.kept-kept.ensures) c.put_last.ensures

pub returns-in-None : goal.returns-in-None
unfolding figures_text
returns-in-None c = let told = rw c.in-None.is at c.open_points.ensures in
    rw (← told) (rw c.of_event.ensures at c.put_refused.ensures)
