-- The answer to "Check a rule" as four numbers, each 0 where the answer has no such part.
use Rattle.meaning.specs.Outcome.{Outcome, refused, given}
use Rattle.meaning.specs.RuleFile.{Accepted}
use Rattle.yokemango.specs.declared.Parts.{Parts}

abbrev pub parts_of : Outcome Accepted → Parts
parts_of (refused n p) = record { number = n; place = p; reach = 0; free = 0 }
parts_of (given a) = record { number = 0; place = 0; reach = a.reach; free = a.free }
