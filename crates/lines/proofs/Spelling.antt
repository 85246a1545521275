-- Digits that are put the last one first: none yet, one more, all.
use Prim.Native.Nat.{ℕ, zero, suc, ◌+◌, ◌-◌, ◌/◌, ◌%◌, ◌^◌, ◌≤◌, ◌<◌}
use native.Mathlib.Nat.{mod-lt}
use native.Mathlib.Omega.{arith}
use mathlib.Core.Path.{◌≡◌, refl, sym, ap, ◌∙◌}
use mathlib.Core.List.{List, [], ◌∷◌, ◌++◌, append-nil, append_assoc}
use lib.Dec.{lit<}
use lib.ListN.{length, set, length-append}
use lib.Seq.{sets, set_comm}
use Rattle.io.specs.Digits.{hex_digit_ascii, last_digits, IsDigitCount}
use Rattle.writer.specs.Puts.{Put}
use Rattle.lines.specs.Text.{decimal}
use Rattle.lines.proofs.Digits.{low_glyph, decimal_digits}

-- a store before a run of stores
set_before : (l : List ℕ) (i j a : ℕ) (vs : List ℕ) → j < i → set (sets l i vs) j a ≡ sets (set l j a) i vs
set_before l i j a [] h = refl
set_before l i j a (v ∷ vs) h = set_before (set l i v) (suc i) j a vs (omega arith) ∙ ap (λ m. sets m (suc i) vs) (set_comm l i j v a (λ e. omega (arith, e)))

digits_long : (k n : ℕ) → length (last_digits 10 k n) ≡ k
digits_long zero n = refl
digits_long (suc k) n = omega (arith, length-append (last_digits 10 k (n / 10)) (hex_digit_ascii (n % 10) ∷ []), digits_long k (n / 10))

pub decimal_long : (n k : ℕ) → n < 2 ^ 32 → IsDigitCount 10 1 n k → length (decimal n) ≡ k
decimal_long n k word few = ap length (sym (decimal_digits n k word few)) ∙ digits_long k n

pub digit_low : (n : ℕ) → n % 10 < 10
digit_low n = mod-lt n (lit< tt)

-- the digits behind the first i are put, and those of `rest` are left
pub record Spelling (before : List ℕ) (at k n : ℕ) (after : List ℕ) (i rest : ℕ) : Type 0 where
  pub done : List ℕ
  pub whole : last_digits 10 i rest ++ done ≡ last_digits 10 k n
  pub stored : after ≡ sets before (at + i) done

module _ {before : List ℕ} {at k n : ℕ} where
  pub spelling_none : Spelling before at k n before k n
  spelling_none = record { done = []; whole = append-nil (last_digits 10 k n); stored = refl }

  one_more : {after : List ℕ} {rest : ℕ} (j : ℕ) → Spelling before at k n after (suc j) rest → Spelling before at k n (set after (at + j) (48 + rest % 10)) j (rest / 10)
  one_more {after} {rest} j p =
      let e : at + suc j ≡ suc (at + j) = omega arith in
      record {
        done = (48 + rest % 10) ∷ p.done;
        whole = ap (λ d. last_digits 10 j (rest / 10) ++ d ∷ p.done) (sym (low_glyph (rest % 10) (digit_low rest))) ∙ sym (append_assoc (last_digits 10 j (rest / 10)) (hex_digit_ascii (rest % 10) ∷ []) p.done) ∙ p.whole;
        stored = ap (λ l. set l (at + j) (48 + rest % 10)) (p.stored ∙ ap (λ m. sets before m p.done) e) ∙ set_before before (suc (at + j)) (at + j) (48 + rest % 10) p.done (omega arith);
      }

  pub spelling_more : {after : List ℕ} {i rest : ℕ} → Spelling before at k n after i rest → 0 < i → Spelling before at k n (set after (at + (i - 1)) (48 + rest % 10)) (i - 1) (rest / 10)
  spelling_more {after} {i} {rest} p h =
      let e : i ≡ suc (i - 1) = omega arith in
      one_more (i - 1) (rw e at p)

  pub spelling_all : {after : List ℕ} {i rest : ℕ} → Spelling before at k n after i rest → i ≤ 0 → Put before at (last_digits 10 k n) after (at + k)
  spelling_all {after} {i} {rest} p h =
      let z : i ≡ 0 = omega arith in
      let e : at + i ≡ at = omega arith in
      record {
        place = ap (λ m. at + m) (sym (digits_long k n));
        stored = rw (← p.whole, z) (rw e at p.stored);
      }
