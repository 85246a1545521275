-- `seek_row_near` meets its contract: the row is found where the search begins, or from there on it answers as from the front.
use mathlib.Core.Path.{refl, sym, ◌∙◌}
use Rattle.std.proofs.Common.{rules}
use Rattle.rowset.specs.Rows.{words_of, row_at, rows_from}
use Rattle.rowset.proofs.Searching.{from_start}
use Rattle.rowset.proofs.seek_row_near.Goals as goal

pub returns-in-Ok : goal.returns-in-Ok
unfolding rows_from
returns-in-Ok c = let a = c.args in
    sym (c.in-Ok.ensures.begins a.lowest (row_at a.ws.now) (words_of a.r) (λ k. refl, λ i stands l p. search rules) c.requires.1)

pub returns-in-Err : goal.returns-in-Err
unfolding rows_from
returns-in-Err c = let a = c.args in
    let b = c.in-Err.ensures.begins a.lowest (row_at a.ws.now) (words_of a.r) (λ k. refl, λ i stands l p. search rules) c.requires.1 in
    c.seek_row.ensures ∙ from_start a.lowest (row_at a.ws.now) (words_of a.r) (λ k. refl) a.n c.in-Err.q b.0 b.1
