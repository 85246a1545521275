-- `least` meets its contract: the least is found from the first count on.
use Prim.Native.Nat.{min}
use mathlib.Core.Path.{◌≡◌, ◌∙◌}
use borrow.Author.Rules.{rules}
use Rattle.std.specs.List.{fold}
use Rattle.formed.proofs.Times.{least_folds}
use Rattle.formed.proofs.least.Goals as goal

pub returns : goal.returns
returns c = let a = c.args in
    let e : c.fold.result ≡ fold min a.points a.counts.now = search rules in
    e ∙ least_folds a.points a.counts.now
