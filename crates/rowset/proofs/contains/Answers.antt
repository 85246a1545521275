-- `contains` meets its contract: the search tells whether the row is there.
use Prim.Native.Nat.{◌-◌}
use mathlib.Core.Path.{◌≡◌, ap, ◌∙◌}
use Rattle.std.proofs.Common.{rules}
use Rattle.meaning.specs.LookUp.{look_up, is_there}
use Rattle.meaning.proofs.LookUp.{is_onward}
use Rattle.rowset.specs.Rows.{words_of, rows_from}
use Rattle.rowset.proofs.contains.Goals as goal

pub returns : goal.returns
returns c = let a = c.args in
    let e : is_there c.seek_row.result ≡ is_there (look_up a.lowest (words_of a.r) (rows_from a.ws.now a.from (a.to - a.from))) = ap is_there c.seek_row.ensures ∙ is_onward a.from _ in
    search rules
