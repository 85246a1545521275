-- What the steps of a taking answer, the outcome of 01 that each answer stands for, and what they leave of the words that are lent.
use Rattle.std.specs.Prelude.{ℕ, ◌-◌, ◌≡◌, cond, List, length, drop, Result, Ok, Err}
use Rattle.meaning.specs.Outcome.{Outcome, refused, given, not_well_formed}
use Rattle.meaning.specs.Keeper.{Fed, buffer_after}
use Rattle.method.specs.Stored.{Stored, first_retained}
use Rattle.method.specs.Step.{stored_now, report_now, answer_now}
use Rattle.method.specs.WellFormed.{well_formed}
use Rattle.limits.specs.Weighs.{refusal_of, weighed_of}
use Rattle.limits.specs.declared.Written.{Written}
use Rattle.limits.specs.declared.Refusal.{Refusal}
use Rattle.entries.specs.Appended.{at_front}
use Rattle.call.specs.Stores.{EntriesStored}
use Rattle.lent_state.specs.declared.Taken.{Taken}

abbrev pub taken_of : Result Taken Refusal → Outcome ℕ
taken_of (Err r) = refusal_of r
taken_of (Ok t) = given t.written.words

-- what a taking answers, whatever is stored
unfoldable pub take_answer : Stored → Fed → ℕ → Outcome ℕ
take_answer s f room = cond (well_formed s) (answer_now s f room) (refused not_well_formed 0)

-- the words that are lent, where s is then stored in them: its times and entries at the front, every word behind them as it was; and how many they are
pub record WordsStored (s : Stored) (times os ns vs times' os' ns' vs' : List ℕ) (retained kept : ℕ) : Type 0 where
  pub times_stored : times' ≡ at_front s.times times
  pub retained_are : retained ≡ length s.times
  pub entries-stored : EntriesStored os ns vs os' ns' vs' s.entries
  pub kept_are : kept ≡ length s.entries

-- once 13 to 16 are weighed, in a log of so many points: where nothing is refused, the stamps from the first that is retained on are stored; the last of the stamps is the last point's
pub record Finishes (points : ℕ) (after stamps times times' : List ℕ) (w : Result Written Refusal) (r : Result Taken Refusal) : Type 0 where
  pub outcome : taken_of r ≡ weighed_of w
  pub done : (t : Taken) → r ≡ Ok t
      → (w ≡ Ok t.written) × (times' ≡ at_front (drop ((first_retained points after).0 - (points - length stamps)) stamps) times) × (t.retained ≡ length stamps - ((first_retained points after).0 - (points - length stamps)))
  pub stays : (e : Refusal) → r ≡ Err e → (w ≡ Err e) × (times' ≡ times)

-- What a step of a taking with the words w leaves: the answer, the buffer, and the words that are lent; on a refusal every word as it was.
pub record TakesIn (s : Stored) (w buffer buffer' times os ns vs times' os' ns' vs' : List ℕ) (answer : Outcome ℕ) (r : Result Taken Refusal) : Type 0 where
  pub outcome : taken_of r ≡ answer
  pub written : buffer' ≡ buffer_after (taken_of r) (report_now s w) buffer
  pub done : (t : Taken) → r ≡ Ok t → WordsStored (stored_now s w) times os ns vs times' os' ns' vs' t.retained t.written.kept
  pub stays : (e : Refusal) → r ≡ Err e → (times' ≡ times) × (os' ≡ os) × (ns' ≡ ns) × (vs' ≡ vs)
