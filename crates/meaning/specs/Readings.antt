-- "Readings in hundredths": signed numbers that stand in words.
use Rattle.std.specs.Prelude.{ℕ, cond, ltb, ℤ, pos, nat_abs, ◌+ℤ◌}
use lib.IntN.{sub_ℕ}

-- "word 2 a signed two's complement number": from 2,147,483,648 on, a word stands for the number that is 4,294,967,296 less
abbrev pub twos_complement : ℕ → ℤ
twos_complement w = cond (ltb w 2147483648) (pos w) (sub_ℕ w 4294967296)

-- "Moisture and temperature come as signed hundredths, from −2,147,483,648 to 2,147,483,647, and are stored with 2,147,483,648 added": the word of a reading, and the reading of a word
abbrev pub word_of : ℤ → ℕ
word_of h = nat_abs (h +ℤ pos 2147483648)

abbrev pub reading_of : ℕ → ℤ
reading_of w = sub_ℕ w 2147483648
