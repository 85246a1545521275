-- What saving and reading in answer, and what they leave of the memory that they are lent, every word of it.
use Rattle.std.specs.Prelude.{ℕ, ◌≡◌, not, cond, List, length, ltb, Result, Ok, Err}
use Rattle.std.specs.Borrow.{Bor, MutBor}
use Rattle.meaning.specs.Outcome.{Outcome, refused, given, when, not_well_formed, not_an_image, output_short}
use Rattle.meaning.specs.Keeper.{buffer_after}
use Rattle.method.specs.Stored.{Stored}
use Rattle.method.specs.WellFormed.{well_formed}
use Rattle.entries.specs.Appended.{at_front}
use Rattle.lent_state.specs.Lent.{Lent, lent, fitting, stored, lent_with}
use Rattle.lent_state.specs.declared.Loan.{Loan}
use Rattle.image.specs.Image.{image_of, read_in, is_image}
use Rattle.image_words.specs.declared.Unsaved.{Unsaved}
use Rattle.image_words.specs.declared.Unsaved.TheVariants.{NotWellFormed, Short}
use Rattle.image_words.specs.declared.NotAnImage.{NotAnImage}

-- "19 .. for a buffer too short, place the words needed"; otherwise the words written
abbrev pub saved_in : List ℕ → ℕ → Outcome ℕ
saved_in image room = when (ltb room (length image)) output_short (length image) (given (length image))

-- "19, in saving after 8"
unfoldable pub saving : Stored → ℕ → Outcome ℕ
saving s room = when (not (well_formed s)) not_well_formed 0 (saved_in (image_of s) room)

-- what saving answers: 8 where a length isn't a state's too
unfoldable pub saving_in : Lent → ℕ → Outcome ℕ
saving_in m room = cond (fitting m) (saving (stored m) room) (refused not_well_formed 0)

-- "18, the only one in reading, place 0, for an image out of form or whose rule checking refuses"; otherwise the words read
unfoldable pub reading : List ℕ → Outcome ℕ
reading ws = when (not (is_image ws)) not_an_image 0 (given (length ws))

-- what reading in answers: 18 where a length isn't a state's too
unfoldable pub reading_in : Lent → List ℕ → Outcome ℕ
reading_in m ws = cond (fitting m) (reading ws) (refused not_an_image 0)

-- memory with a rule at the front of its bytes
abbrev pub ruled_by : List ℕ → Lent → Lent
ruled_by b m = record { rule = at_front b m.rule; bytes = length b; log = m.log; times = m.times; retained = m.retained; owners = m.owners; numbers = m.numbers; values = m.values; count = m.count }

-- what is lent once words are read in: what they store, the words behind it as they were; on a refusal every word as it was
abbrev pub lent_read : Outcome ℕ → List ℕ → Lent → Lent
lent_read (refused number place) ws m = m
lent_read (given words) ws m = lent_with (read_in ws) (ruled_by (read_in ws).rule m)

-- the answers of code as outcomes
abbrev pub unsaved_of : Unsaved → Outcome ℕ
unsaved_of NotWellFormed = refused not_well_formed 0
unsaved_of (Short words) = refused output_short words

abbrev pub saved_of : Result ℕ Unsaved → Outcome ℕ
saved_of (Ok words) = given words
saved_of (Err r) = unsaved_of r

abbrev pub read_of : Result ℕ NotAnImage → Outcome ℕ
read_of (Ok words) = given words
read_of (Err r) = refused not_an_image 0

-- what is lent for saving, and for reading in
abbrev pub lent_to_save : Loan (Bor (List ℕ)) (Bor (List ℕ)) → Lent
lent_to_save p = lent p.rule.now p.bytes p.log p.times.now p.retained p.owners.now p.numbers.now p.values.now p.count

abbrev pub lent_to_read : Loan (MutBor (List ℕ)) (MutBor (List ℕ)) → Lent
lent_to_read p = lent p.rule.now p.bytes p.log p.times.now p.retained p.owners.now p.numbers.now p.values.now p.count

-- the bytes and words lent for reading in are the same memory
pub record SameParts (p p' : Loan (MutBor (List ℕ)) (MutBor (List ℕ))) : Type 0 where
  pub rule : p'.rule.ghost_name ≡ p.rule.ghost_name
  pub times : p'.times.ghost_name ≡ p.times.ghost_name
  pub owners : p'.owners.ghost_name ≡ p.owners.ghost_name
  pub numbers : p'.numbers.ghost_name ≡ p.numbers.ghost_name
  pub values : p'.values.ghost_name ≡ p.values.ghost_name

-- saving what is stored: the answer, and the buffer
pub record SavesStored (s : Stored) (buffer : List ℕ) (r : Result ℕ Unsaved) (buffer' : List ℕ) : Type 0 where
  pub answered : saved_of r ≡ saving s (length buffer)
  pub written : buffer' ≡ buffer_after (saving s (length buffer)) (image_of s) buffer

-- "Save a running rule to words": the answer; the image at the buffer's front and the words past it as they were, or on a refusal every word as it was
pub record SavesLent (m : Lent) (buffer : List ℕ) (r : Result ℕ Unsaved) (buffer' : List ℕ) : Type 0 where
  pub answered : saved_of r ≡ saving_in m (length buffer)
  pub written : buffer' ≡ buffer_after (saving_in m (length buffer)) (image_of (stored m)) buffer

-- "and read it in again": the answer, and what is lent then
pub record ReadsLent (m : Lent) (ws : List ℕ) (r : Result ℕ NotAnImage) (m' : Lent) : Type 0 where
  pub answered : read_of r ≡ reading_in m ws
  pub moved : m' ≡ lent_read (reading_in m ws) ws m
