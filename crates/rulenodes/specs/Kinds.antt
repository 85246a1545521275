-- The fifteen kinds by the numbers of "The rule file".
use Rattle.std.specs.Prelude.{ℕ, ◌≡◌, ◌≤◌, ◌<◌}
use Rattle.rulenodes.specs.declared.Kind.{Kind}
use Rattle.rulenodes.specs.declared.Kind.TheVariants.{Atom, And, AndNot, Keep, Or, Exists, Previous, Next, Since, NotSince, Until, NotUntil, Once, Eventually, KeepShifted, Unknown}

-- the number n is that of the kind
abbrev pub HasNumber : Kind → ℕ → Type 0
HasNumber Atom n = n ≡ 1
HasNumber And n = n ≡ 2
HasNumber AndNot n = n ≡ 3
HasNumber Keep n = n ≡ 4
HasNumber Or n = n ≡ 5
HasNumber Exists n = n ≡ 6
HasNumber Previous n = n ≡ 7
HasNumber Next n = n ≡ 8
HasNumber Since n = n ≡ 9
HasNumber NotSince n = n ≡ 10
HasNumber Until n = n ≡ 11
HasNumber NotUntil n = n ≡ 12
HasNumber Once n = n ≡ 13
HasNumber Eventually n = n ≡ 14
HasNumber KeepShifted n = n ≡ 15
HasNumber Unknown n = 1 ≤ n → 15 < n
