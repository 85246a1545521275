-- What a taking leaves in the memory that it was lent: every word of it is what a definition gives.
use Rattle.std.specs.Prelude.{ℕ, ◌*◌, ◌≤◌, ◌≡◌, Bool, cond, ◌&&◌, List, map, length, eqb, Result, Ok, Err}
use Rattle.std.specs.Borrow.{Bor, MutBor}
use Rattle.meaning.specs.Lists.{gather}
use Rattle.meaning.specs.Outcome.{Outcome, refused, given, not_well_formed, most_bytes, most_kept}
use Rattle.meaning.specs.Keeper.{Fed, buffer_after}
use Rattle.meaning.specs.declared.LogEnd.{LogEnd}
use Rattle.method.specs.WellFormed.{most_times, time_words}
use Rattle.method.specs.Stored.{Stored, end_of}
use Rattle.method.specs.Step.{words_of, stored_now, report_now}
use Rattle.limits.specs.Weighs.{refusal_of}
use Rattle.limits.specs.declared.Refusal.{Refusal}
use Rattle.entries.specs.Appended.{at_front}
use Rattle.figures.specs.Fronts.{stored_front}
use Rattle.call.specs.Stores.{owner_of}
use Rattle.lent_state.specs.Answers.{take_answer}
use Rattle.lent_state.specs.declared.Loan.{Loan}

-- what is lent, every word of it: slices and figures
pub record Lent : Type 0 where
  pub rule : List ℕ
  pub bytes : ℕ
  pub log : LogEnd
  pub times : List ℕ
  pub retained : ℕ
  pub owners : List ℕ
  pub numbers : List ℕ
  pub values : List ℕ
  pub count : ℕ

abbrev pub lent : List ℕ → ℕ → LogEnd → List ℕ → ℕ → List ℕ → List ℕ → List ℕ → ℕ → Lent
lent rule bytes log times retained owners numbers values count = record { rule = rule; bytes = bytes; log = log; times = times; retained = retained; owners = owners; numbers = numbers; values = values; count = count }

-- what is lent for a taking, which writes the words
abbrev pub lent_in : Loan (Bor (List ℕ)) (MutBor (List ℕ)) → Lent
lent_in p = lent p.rule.now p.bytes p.log p.times.now p.retained p.owners.now p.numbers.now p.values.now p.count

-- the words lent are the same memory, so that a caller finds in its own slices what is left in them
pub record SameWords (p p' : Loan (Bor (List ℕ)) (MutBor (List ℕ))) : Type 0 where
  pub times : p'.times.ghost_name ≡ p.times.ghost_name
  pub owners : p'.owners.ghost_name ≡ p.owners.ghost_name
  pub numbers : p'.numbers.ghost_name ≡ p.numbers.ghost_name
  pub values : p'.values.ghost_name ≡ p.values.ghost_name

-- whether slices have the lengths of a state's arrays
unfoldable pub lengths_are : ℕ → ℕ → ℕ → ℕ → ℕ → Bool
lengths_are rule times owners numbers values = eqb rule most_bytes && (eqb times time_words && (eqb owners most_kept && (eqb numbers most_kept && eqb values (most_kept * 4))))

abbrev pub lengths_fit : List ℕ → List ℕ → List ℕ → List ℕ → List ℕ → Bool
lengths_fit rule times owners numbers values = lengths_are (length rule) (length times) (length owners) (length numbers) (length values)

abbrev pub fitting : Lent → Bool
fitting m = lengths_fit m.rule m.times m.owners m.numbers m.values

-- slices of those lengths but for the rule, of which so many times and entries are a state's
pub record SizedWords (times os ns vs : List ℕ) (retained count : ℕ) : Type 0 where
  pub times_long : length times ≡ time_words
  pub owners_long : length os ≡ most_kept
  pub numbers_long : length ns ≡ most_kept
  pub values_are_long : length vs ≡ most_kept * 4
  pub few_times : retained ≤ most_times
  pub few_kept : count ≤ most_kept

-- what is stored in it: the first bytes of the rule, the first times and the first entries, as many as its figures say
abbrev pub stored : Lent → Stored
stored m = stored_front m.rule m.bytes m.log m.times m.retained m.owners m.numbers m.values m.count

-- what is lent once s is stored in it: the times and the words of the entries at the front of their slices, and the figures; every word behind them, the rule and its length as they were
abbrev pub lent_with : Stored → Lent → Lent
lent_with s m =
    record {
      rule = m.rule;
      bytes = m.bytes;
      log = end_of s;
      times = at_front s.times m.times;
      retained = length s.times;
      owners = at_front (map owner_of s.entries) m.owners;
      numbers = at_front (map (λ e. e.number) s.entries) m.numbers;
      values = at_front (gather (λ e. e.values) s.entries) m.values;
      count = length s.entries;
    }

-- the words written, or 01's number and place
abbrev pub answer_of : Result ℕ Refusal → Outcome ℕ
answer_of (Ok words) = given words
answer_of (Err r) = refusal_of r

-- what an event or a notice is answered: 8 where a length isn't a state's or what is stored isn't well formed, else what the method answers
unfoldable pub answer_in : Lent → Fed → ℕ → Outcome ℕ
answer_in m f room = cond (fitting m) (take_answer (stored m) f room) (refused not_well_formed 0)

-- what is lent then: on a refusal as it was, every word of it
abbrev pub lent_after : Outcome ℕ → Lent → Fed → Lent
lent_after (refused number place) m f = m
lent_after (given words) m f = lent_with (stored_now (stored m) (words_of f)) m

-- "Take an event", or a notice, whatever is lent: the answer; "the new state", or on a refusal every word as it was; the report at the buffer's front and "words past those stay", or on a refusal every word as it was
pub record TakesLent (m : Lent) (f : Fed) (buffer : List ℕ) (a : Result ℕ Refusal) (m' : Lent) (buffer' : List ℕ) : Type 0 where
  pub answered : answer_of a ≡ answer_in m f (length buffer)
  pub moved : m' ≡ lent_after (answer_in m f (length buffer)) m f
  pub written : buffer' ≡ buffer_after (answer_in m f (length buffer)) (report_now (stored m) (words_of f)) buffer
