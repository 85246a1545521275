-- `first_retained` meets its contract: the point before the least count.
use Prim.Native.Nat.{◌-◌}
use mathlib.Core.Path.{ap, ◌∙◌}
use Rattle.meaning.specs.Log.{point}
use Rattle.formed.proofs.first_retained.Goals as goal

pub returns : goal.returns
returns c = ap point (c.saturating_sub.ensures ∙ ap (λ k. k - 1) c.least.ensures)
