-- In a rule that is accepted every node passes 4 and 5.
use Prim.Native.Nat.{ℕ}
use mathlib.Core.Path.{◌≡◌}
use mathlib.Core.List.{List}
use Rattle.meaning.specs.Outcome.{given}
use Rattle.meaning.specs.RuleFile.{Accepted as Answer, checking}
use Rattle.meaning.proofs.Accepted as rules
use Rattle.rulefile.specs.Weighing.{AllFit}
use Rattle.rulefile.proofs.Answer.{sized_from}

pub accepted_fit : (b : List ℕ) (a : Answer) → checking b ≡ given a → AllFit b
accepted_fit b a e =
    let r = rules.accepted b a e in
    record { sized = sized_from b r.sizes r.long; each = λ y o. record { shape = (r.each y o).shaped; range = (r.each y o).ranged } }
