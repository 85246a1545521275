-- What starting, taking, saving and reading in give back, for any bytes, any state, any event words or notice's time, any buffer and any words of an image.
use Rattle.std.specs.Prelude.{ℕ, ◌≡◌, List, Result}
use Rattle.meaning.specs.Outcome.{Outcome, refused, given}
use Rattle.meaning.specs.RuleFile.{Accepted, checking}
use Rattle.meaning.specs.Keeper.{Fed}
use Rattle.rulefile.specs.Checked.{answer_of as checked_of}
use Rattle.lent_state.specs.Lent.{TakesLent}
use Rattle.image_words.specs.Promises.{SavesLent, ReadsLent}
use Rattle.image_words.specs.declared.Unsaved.{Unsaved}
use Rattle.monitor.specs.State.{lent_of, start_state, blank}
use Rattle.monitor.specs.declared.State.{State}
use Rattle.monitor.specs.declared.Started.{Started}
use Rattle.monitor.specs.declared.Step.{Step}
use Rattle.monitor.specs.declared.Restored.{Restored}

-- the state beside the answer of checking: on a refusal one of zeros
abbrev pub state_for : List ℕ → Outcome Accepted → State
state_for b (refused number place) = blank
state_for b (given a) = start_state b

-- "The refusals of checking; otherwise a state with no points"
pub record Starts (b : List ℕ) (r : Started) : Type 0 where
  pub answered : checked_of r.checked ≡ checking b
  pub started : r.state ≡ state_for b (checking b)

-- "Take an event", or a notice: what a taking promises of the parts that it is lent
abbrev pub Takes : State → Fed → List ℕ → Step → List ℕ → Type 0
Takes s f buffer r buffer' = TakesLent (lent_of s) f buffer r.answer (lent_of r.state) buffer'

-- "Save a running rule to words": what saving promises of the parts that it is lent
abbrev pub Saves : State → List ℕ → Result ℕ Unsaved → List ℕ → Type 0
Saves s buffer r buffer' = SavesLent (lent_of s) buffer r buffer'

-- "and read it in again": into a state of zeros, which a refusal leaves
abbrev pub Restores : List ℕ → Restored → Type 0
Restores ws r = ReadsLent (lent_of blank) ws r.read (lent_of r.state)
