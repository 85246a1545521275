-- Tests over lists of four, as code writes them out, are those that go through the list.
use Prim.Native.Nat.{ℕ, zero, suc}
use native.Mathlib.Omega.{arith}
use mathlib.Core.Path.{◌≡◌, refl, sym, ap, ◌∙◌}
use mathlib.Core.Bool.{Bool, true, false, ◌&&◌, ◌||◌}
use mathlib.Core.List.{[], ◌∷◌}
use lib.ListN.{take}
use lib.Dec.{ltb}
use borrow.Author.Tests.{lt-ltb}
use Rattle.meaning.specs.Lists.{any}

pub and_true : (a : Bool) → (a && true) ≡ a
and_true true = refl
and_true false = refl

or_false : (a : Bool) → (a || false) ≡ a
or_false true = refl
or_false false = refl

take_none : {A : Type 0} (k : ℕ) → take {A = A} k [] ≡ []
take_none zero = refl
take_none (suc k) = refl

-- some of the first n of four elements passes
pub any_of_four : {A : Type 0} (p : A → Bool) (n : ℕ) (a b c d : A)
    → ((ltb 0 n && p a) || ((ltb 1 n && p b) || ((ltb 2 n && p c) || (ltb 3 n && p d)))) ≡ any p (take n (a ∷ b ∷ c ∷ d ∷ []))
any_of_four p zero a b c d = refl
any_of_four p (suc zero) a b c d = refl
any_of_four p (suc (suc zero)) a b c d = refl
any_of_four p (suc (suc (suc zero))) a b c d = refl
any_of_four p (suc (suc (suc (suc k)))) a b c d =
    let n = suc (suc (suc (suc k))) in
    simp (lt-ltb 0 n (omega arith), lt-ltb 1 n (omega arith), lt-ltb 2 n (omega arith), lt-ltb 3 n (omega arith))
    (ap (λ q. p a || (p b || (p c || q))) (sym (ap (λ l. p d || any p l) (take_none k) ∙ or_false (p d))))
