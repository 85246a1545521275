-- The number and place of a refusal.
use Rattle.meaning.specs.Outcome.{Outcome, refused, given}
use Rattle.refusals.specs.declared.Numbered.{Numbered}

-- both are 0 where nothing is refused
abbrev pub numbered : {A : Type 0} → Outcome A → Numbered
numbered (refused n p) = record { 0 = n; 1 = p }
numbered (given a) = record { 0 = 0; 1 = 0 }
