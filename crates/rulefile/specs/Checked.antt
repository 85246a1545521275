-- The answer of `check` as "Check a rule" gives it: a refusal's number and place, or the reach and the free variables.
use Rattle.std.specs.Prelude.{ℕ, Result, Ok, Err}
use Rattle.meaning.specs.Outcome.{Outcome, refused, given, cut, other_version, size_out, misshapen, window_out, free_broken, not_one_parent}
use Rattle.meaning.specs.RuleFile.{Accepted}
use Rattle.rulefile.specs.declared.AcceptedRule.{AcceptedRule}
use Rattle.rulefile.specs.declared.RuleRefusal.{RuleRefusal}
use Rattle.rulefile.specs.declared.RuleRefusal.TheVariants.{Cut, OtherVersion, SizeOut, Misshapen, WindowOut, FreeBroken, NotOneParent}

abbrev pub number_of : RuleRefusal → ℕ
number_of Cut = cut
number_of OtherVersion = other_version
number_of SizeOut = size_out
number_of (Misshapen x) = misshapen
number_of (WindowOut x) = window_out
number_of (FreeBroken x) = free_broken
number_of (NotOneParent x) = not_one_parent

abbrev pub place_of : RuleRefusal → ℕ
place_of Cut = 0
place_of OtherVersion = 0
place_of SizeOut = 0
place_of (Misshapen x) = x
place_of (WindowOut x) = x
place_of (FreeBroken x) = x
place_of (NotOneParent x) = x

abbrev pub refusal_of : RuleRefusal → Outcome Accepted
refusal_of r = refused (number_of r) (place_of r)

abbrev pub answer_of : Result AcceptedRule RuleRefusal → Outcome Accepted
answer_of (Ok a) = given (record { reach = a.reach; free = a.mask })
answer_of (Err r) = refusal_of r
