-- Readings: words and signed hundredths are one another's, and a comparison says the same of both.
use Prim.Native.Nat.{ℕ, zero, suc, ◌+◌, ◌-◌, ◌%◌, ◌<◌}
use native.Mathlib.Omega.{arith}
use mathlib.Core.Path.{◌≡◌, refl, sym, ap, ap₂, ◌∙◌}
use lib.Dec.{ltb, leb→le, le→leb, leb-suc-suc}
use lib.IntN.{ℤ, pos, negsuc, pred_ℤ, nat_abs, ◌+ℤ◌, ◌-ℤ◌, +ℤ-pred_ℤ, +ℤ_idr, +ℤ_assoc, +ℤ_comm, +ℤ-neg_ℤ_cancel, -ℤ-+ℤ_cancel}
use lib.Signed.{lt_z, le_z_yes}
use borrow.Author.Tests.{lt-ltb, le-ltb, ltb-true, ltb-false}
use Rattle.meaning.specs.Readings.{twos_complement, reading_of}
use Rattle.meaning.specs.ReadingLaws.{Hundredths, ReadingLaws}
use Rattle.meaning.proofs.Points.{Tested, passed, failed, tested}

-- ---- one less on both sides, and so many less

pred_less : (x y : ℤ) → lt_z (pred_ℤ x) (pred_ℤ y) ≡ lt_z x y
pred_less (pos zero) (pos zero) = refl
pred_less (pos zero) (pos (suc b)) = sym (lt-ltb zero (suc b) (omega arith))
pred_less (pos zero) (negsuc b) = le-ltb (suc b) zero (omega arith)
pred_less (pos (suc a)) (pos zero) = sym (le-ltb (suc a) zero (omega arith))
pred_less (pos (suc a)) (pos (suc b)) = sym (leb-suc-suc (suc a) b)
pred_less (pos (suc a)) (negsuc b) = refl
pred_less (negsuc a) (pos zero) = lt-ltb zero (suc a) (omega arith)
pred_less (negsuc a) (pos (suc b)) = refl
pred_less (negsuc a) (negsuc b) = leb-suc-suc (suc b) a

one_less : (n : ℕ) (x : ℤ) → x -ℤ pos (suc n) ≡ pred_ℤ (x -ℤ pos n)
one_less zero x = +ℤ-pred_ℤ x (pos zero)
one_less (suc n) x = +ℤ-pred_ℤ x (negsuc n)

less_by : (n : ℕ) (x y : ℤ) → lt_z (x -ℤ pos n) (y -ℤ pos n) ≡ lt_z x y
less_by zero x y = ap₂ lt_z (+ℤ_idr x) (+ℤ_idr y)
less_by (suc n) x y = ap₂ lt_z (one_less n x) (one_less n y) ∙ pred_less (x -ℤ pos n) (y -ℤ pos n) ∙ less_by n x y

-- ---- words and readings

-- with k added before or after the reading is taken
shifts : (k : ℤ) (a : ℕ) → reading_of a +ℤ k ≡ pos a +ℤ k -ℤ pos 2147483648
shifts k a = +ℤ_assoc (pos a) (negsuc 2147483647) k ∙ ap (λ z. pos a +ℤ z) (+ℤ_comm (negsuc 2147483647) k) ∙ sym (+ℤ_assoc (pos a) k (negsuc 2147483647))

read_hundredths : (w : ℕ) → w < 4294967296 → Hundredths (reading_of w)
read_hundredths w h = go (tested (ltb w 2147483648))
  where
    go : Tested (ltb w 2147483648) → Hundredths (reading_of w)
    go (passed t) = let l = ltb-true w 2147483648 t in rw t (record { least = le_z_yes (le→leb (2147483648 - suc w) 2147483647 (omega arith)); most = le_z_yes tt })
    go (failed t) = let l = ltb-false w 2147483648 t in rw t (record { least = le_z_yes tt; most = le_z_yes (le→leb (w - 2147483648) 2147483647 (omega arith)) })

-- the sum of a reading and 2,147,483,648 is a word
pub record Word (h : ℤ) : Type 0 where
  pub word : ℕ
  pub small : word < 4294967296
  pub sum : h +ℤ pos 2147483648 ≡ pos word

pub word_of_lem : (h : ℤ) → Hundredths h → Word h
word_of_lem (pos a) r = let l = leb→le a 2147483647 r.most.le in record { word = a + 2147483648; small = omega arith; sum = refl }
word_of_lem (negsuc a) r =
    let l = leb→le a 2147483647 r.least.le in
    record { word = 2147483648 - suc a; small = omega arith; sum = rw (le-ltb 2147483648 (suc a) (omega arith)) }

twos : (w : ℕ) → w < 4294967296 → Tested (ltb w 2147483648) → twos_complement w ≡ reading_of ((w + 2147483648) % 4294967296)
twos w h (passed t) =
    let l = ltb-true w 2147483648 t in
    let e : (w + 2147483648) % 4294967296 ≡ w + 2147483648 = omega arith in
    rw (t, e, le-ltb (w + 2147483648) 2147483648 (omega arith)) (ap pos (omega arith))
twos w h (failed t) =
    let l = ltb-false w 2147483648 t in
    let e : (w + 2147483648) % 4294967296 ≡ w - 2147483648 = omega arith in
    rw (t, e, lt-ltb w 4294967296 h, lt-ltb (w - 2147483648) 2147483648 (omega arith)) (ap negsuc (omega arith))

pub reading_laws : ReadingLaws
reading_laws =
    record {
      reading = read_hundredths;
      word = λ h r. let k = word_of_lem h r in rw k.sum k.small;
      same_word = λ w. ap nat_abs (-ℤ-+ℤ_cancel (pos w) (pos 2147483648));
      same_reading = λ h r.
          let k = word_of_lem h r in
          rw k.sum (sym (ap (λ z. z -ℤ pos 2147483648) k.sum) ∙ +ℤ-neg_ℤ_cancel h (pos 2147483648));
      offset = λ w h. twos w h (tested (ltb w 2147483648));
      less = λ a b. sym (less_by 2147483648 (pos a) (pos b));
      shifted = λ k a b. sym (ap (λ z. lt_z z (reading_of b)) (shifts k a) ∙ less_by 2147483648 (pos a +ℤ k) (pos b));
    }
