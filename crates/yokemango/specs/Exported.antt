-- What reading a report gives, in plain numbers: a count or a word as one number, with 2 to the 32, which is no word, where there is none.
use Rattle.std.specs.Prelude.{ℕ, Bool, cond, List, ltb, length, get_or}
use Rattle.meaning.specs.Outcome.{Outcome, refused, given, not_a_report}

-- 0 for a report, else the refusal's number
abbrev pub form_number : Bool → ℕ
form_number ok = cond ok 0 not_a_report

abbrev pub count_or_none : Outcome ℕ → ℕ
count_or_none (refused number place) = 4294967296
count_or_none (given n) = n

abbrev pub word_or_none : List ℕ → ℕ → ℕ
word_or_none words i = cond (ltb i (length words)) (get_or words i 0) 4294967296
