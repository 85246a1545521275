-- `seek_near` meets its contract: it is found where the search begins, or from there on it answers as from the front.
use mathlib.Core.Path.{◌∙◌}
use Rattle.rowset.proofs.Searching.{from_start}
use Rattle.rowset.proofs.seek_near.Goals as goal

pub returns-in-Err : goal.returns-in-Err
returns-in-Err g c = λ lowest at x t led.
    let b = c.in-Err.ensures.begins lowest at x t led in
    c.seek.ensures lowest at x t ∙ from_start lowest at x t.0 c.args.n c.in-Err.q b.0 b.1
