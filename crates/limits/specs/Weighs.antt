-- What weighing 13 to 16 answers, the outcome of 01 that each answer stands for, and what weighing 14 to 16 leaves.
use Rattle.std.specs.Prelude.{ℕ, ◌≤◌, ◌≡◌, List, length, ltb, Result, Ok, Err}
use Rattle.meaning.specs.Outcome.{Outcome, refused, given, when, not_well_formed, not_an_event, row_out, time_falls, log_full, crowded, backlog, kept_over, buffer_short, most_open, most_kept}
use Rattle.meaning.specs.Keeper.{buffer_after}
use Rattle.limits.specs.declared.Refusal.{Refusal}
use Rattle.limits.specs.declared.Refusal.TheVariants.{NotWellFormed, NotAnEvent, RowOut, TimeFalls, LogFull, Crowded, Backlog, KeptOver, BufferShort}
use Rattle.limits.specs.declared.Written.{Written}

-- 01's number and place for each refusal of a taking
abbrev pub refusal_of : Refusal → Outcome ℕ
refusal_of NotWellFormed = refused not_well_formed 0
refusal_of NotAnEvent = refused not_an_event 0
refusal_of (RowOut k) = refused row_out k
refusal_of TimeFalls = refused time_falls 0
refusal_of LogFull = refused log_full 0
refusal_of (Crowded x) = refused crowded x
refusal_of Backlog = refused backlog 0
refusal_of KeptOver = refused kept_over 0
refusal_of (BufferShort words) = refused buffer_short words

abbrev pub weighed_of : Result Written Refusal → Outcome ℕ
weighed_of (Err r) = refusal_of r
weighed_of (Ok w) = given w.words

-- 14 to 16, by the points left unsettled, the entries kept, the report's words and the buffer's
abbrev pub after_crowds : ℕ → ℕ → ℕ → ℕ → Outcome ℕ
after_crowds unsettled entries words room =
    when (ltb most_open unsettled) backlog 0 (when (ltb most_kept entries) kept_over 0 (when (ltb room words) buffer_short words (given words)))

-- 14 to 16 weighed, and the buffer then; `kept` is what was weighed for 15
pub record Weighs (unsettled entries : ℕ) (report buffer buffer' : List ℕ) (r : Result Written Refusal) : Type 0 where
  pub outcome : weighed_of r ≡ after_crowds unsettled entries (length report) (length buffer)
  pub written : buffer' ≡ buffer_after (weighed_of r) report buffer
  pub kept : (w : Written) → r ≡ Ok w → (w.kept ≡ entries) × (entries ≤ most_kept)
