-- The fewest digits that hold a number are those of the definition, and how many these may be.
use Prim.Native.Nat.{ℕ, zero, suc, ◌+◌, ◌-◌, ◌/◌, ◌%◌, ◌^◌, ◌≤◌, ◌<◌}
use native.Mathlib.Nat.{lt_of_not-le, pow-suc, pow-le-pow_right, mod-lt, mod-eq_of_lt, div-lt_iff_lt-mul, le-div_iff_mul-le}
use native.Mathlib.Omega.{arith}
use mathlib.Core.Path.{◌≡◌, ap, ap₂}
use mathlib.Core.Bool.{Bool, true, false, cond}
use mathlib.Core.List.{[], ◌∷◌, ◌++◌}
use lib.Dec.{ltb, lit<}
use lib.ListN.{length, length-append}
use borrow.Author.Tests.{lt-ltb, le-ltb}
use Rattle.io.specs.Digits.{hex_digit_ascii, last_digits, IsDigitCount}
use Rattle.lines.specs.Text.{digits_within, decimal}

-- a digit below ten is `0` to `9`
pub low_glyph : (d : ℕ) → d < 10 → hex_digit_ascii d ≡ 48 + d
low_glyph d h = rw (lt-ltb d 10 h)

-- the digits before the last are the fewest of the quotient
fewest_front : (n j : ℕ) → IsDigitCount 10 1 n (suc (suc j)) → IsDigitCount 10 1 (n / 10) (suc j)
fewest_front n j (least, below, above) = (
  omega arith,
  (div-lt_iff_lt-mul (lit< tt)).1 (rw pow-suc at below),
  λ more.
      let e : suc j - 1 ≡ j = omega arith in
      let f : suc (suc j) - 1 ≡ suc j = omega arith in
      rw e ((le-div_iff_mul-le (lit< tt)).1 (rw (← pow-suc 10 j) (rw f at (above (omega arith))))),
)

spelled : (most k n : ℕ) → k ≤ most → IsDigitCount 10 1 n k → last_digits 10 k n ≡ digits_within most n
spelled most zero n h few = absurd (omega (arith, few.0))
spelled zero (suc k) n h few = absurd (omega arith)
spelled (suc most) (suc zero) n h few =
    let below : n < 10 = few.1 in
    rw (lt-ltb n 10 below, mod-eq_of_lt below) (ap (λ d. d ∷ []) (low_glyph n below))
spelled (suc most) (suc (suc k)) n h few =
    let e : suc (suc k) - 1 ≡ suc k = omega arith in
    let large : 10 ≤ n = omega (arith, rw e at (few.2 (omega arith)), pow-le-pow_right {n = 10} (lit< tt) {i = 1} {j = suc k} (omega arith)) in
    rw (le-ltb n 10 large) (ap₂ (λ ds d. ds ++ d ∷ []) (spelled most (suc k) (n / 10) (omega arith) (fewest_front n k few)) (low_glyph (n % 10) (mod-lt n (lit< tt))))

-- a word has at most ten digits
ten_digits : (n k : ℕ) → IsDigitCount 10 1 n k → n < 2 ^ 32 → k ≤ 10
ten_digits n k fewest word =
    let few : k < 11 = lt_of_not-le (λ (more : 11 ≤ k). omega (arith, fewest.2 (omega arith), pow-le-pow_right {n = 10} (lit< tt) {i = 10} {j = k - 1} (omega arith))) in
    omega arith

pub decimal_digits : (n k : ℕ) → n < 2 ^ 32 → IsDigitCount 10 1 n k → last_digits 10 k n ≡ decimal n
unfolding decimal
decimal_digits n k word few = spelled 10 k n (ten_digits n k few word) few

few_digits : (most n : ℕ) → length (digits_within most n) ≤ most
few_digits zero n = omega arith
few_digits (suc most) n = go (ltb n 10) (few_digits most (n / 10))
  where
    go : (t : Bool) → length (digits_within most (n / 10)) ≤ most → length (cond t ((48 + n) ∷ []) (digits_within most (n / 10) ++ (48 + n % 10) ∷ [])) ≤ suc most
    go true h = omega arith
    go false h = omega (arith, length-append (digits_within most (n / 10)) ((48 + n % 10) ∷ []))

pub decimal_short : (n : ℕ) → length (decimal n) ≤ 10
unfolding decimal
decimal_short n = few_digits 10 n
