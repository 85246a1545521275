-- `seek_row` meets its contract: the search is told how each row stands to the one looked for.
use mathlib.Core.Path.{refl}
use Rattle.std.proofs.Common.{rules}
use Rattle.rowset.specs.Rows.{words_of, row_at, rows_from}
use Rattle.rowset.proofs.seek_row.Goals as goal

pub returns : goal.returns
unfolding rows_from
returns c = let a = c.args in
    c.seek.ensures a.lowest (row_at a.ws.now) (words_of a.r) (λ k. refl, λ i stands l p. search rules)
