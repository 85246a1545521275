-- What readings promise: "Conversion to and from signed hundredths loses nothing", and what a comparison of words says of readings.
use Rattle.std.specs.Prelude.{ℕ, ◌+◌, ◌%◌, ◌<◌, ◌≡◌, ℤ, pos, negsuc, ◌+ℤ◌, ◌≤ℤ◌}
use Rattle.std.specs.Int.Signed.{lt_z}
use Rattle.meaning.specs.Formula.{compares}
use Rattle.meaning.specs.Readings.{twos_complement, word_of, reading_of}
use Rattle.meaning.specs.declared.Comparison.TheVariants.{Less, ShiftedLess}

-- "signed hundredths, from −2,147,483,648 to 2,147,483,647"
pub record Hundredths (h : ℤ) : Type 0 where
  pub least : negsuc 2147483647 ≤ℤ h
  pub most : h ≤ℤ pos 2147483647

pub record ReadingLaws : Type 0 where
  -- each word is one reading's, and each reading one word's
  pub reading : (w : ℕ) → w < 4294967296 → Hundredths (reading_of w)
  pub word : (h : ℤ) → Hundredths h → word_of h < 4294967296
  pub same_word : (w : ℕ) → word_of (reading_of w) ≡ w
  pub same_reading : (h : ℤ) → Hundredths h → reading_of (word_of h) ≡ h
  -- a word in two's complement is the reading whose word differs from it in the highest bit
  pub offset : (w : ℕ) → w < 4294967296 → twos_complement w ≡ reading_of ((w + 2147483648) % 4294967296)
  -- kinds 4 and 15 say of the words what they say of the readings
  pub less : (a b : ℕ) → compares Less a b ≡ lt_z (reading_of a) (reading_of b)
  pub shifted : (k : ℤ) (a b : ℕ) → compares (ShiftedLess k) a b ≡ lt_z (reading_of a +ℤ k) (reading_of b)
