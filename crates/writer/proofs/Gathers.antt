-- What numbers in a row give, end to end, from the front.
use Prim.Native.Nat.{ℕ, suc, ◌+◌, ◌-◌, ◌≤◌, ◌<◌}
use native.Mathlib.Numerals.{add-one}
use native.Mathlib.Omega.{arith}
use mathlib.Core.Path.{◌≡◌}
use mathlib.Core.List.{List, [], ◌++◌}
use Rattle.meaning.specs.Lists.{range, gather}

module _ (give : ℕ → List ℕ) (to i : ℕ) where
  pub gather_first : i < to → gather give (range i (to - i)) ≡ give i ++ gather give (range (i + 1) (to - (i + 1)))
  gather_first h =
      let e : to - i ≡ suc (to - (i + 1)) = omega arith in
      rw (e, add-one i)

  pub gather_end : to ≤ i → gather give (range i (to - i)) ≡ []
  gather_end h =
      let e : to - i ≡ 0 = omega arith in
      rw e
