-- What starting, taking, saving, reading in and the figures of a state give, in plain numbers.
use Rattle.std.specs.Prelude.{ℕ, ◌≡◌, cond, List, length}
use Rattle.meaning.specs.Outcome.{Outcome, refused, given, not_well_formed}
use Rattle.meaning.specs.RuleFile.{checking}
use Rattle.meaning.specs.Keeper.{Fed, buffer_after}
use Rattle.method.specs.Step.{words_of, kept_stored, report_now}
use Rattle.figures.specs.Fronts.{open_answer}
use Rattle.lent_state.specs.Lent.{Lent, fitting, stored, answer_in, lent_after}
use Rattle.image.specs.Image.{image_of}
use Rattle.image_words.specs.Promises.{saving_in, reading_in, lent_read}
use Rattle.monitor.specs.Promises.{state_for}
use Rattle.yokemango.specs.Parts.{parts_of}
use Rattle.yokemango.specs.declared.StartParts.{StartParts}
use Rattle.yokemango.specs.declared.Figures.{Figures}
use Rattle.yokemango.specs.declared.Told.{Told}

-- the answer of checking, and the state beside it
abbrev pub start_parts : List ℕ → StartParts
start_parts b = record { number = (parts_of (checking b)).number; place = (parts_of (checking b)).place; reach = (parts_of (checking b)).reach; free = (parts_of (checking b)).free; state = state_for b (checking b) }

-- 0 and the words written, or the number and place
abbrev pub told_of : Outcome ℕ → Told
told_of (refused n p) = record { number = n; place = p; words = 0 }
told_of (given w) = record { number = 0; place = 0; words = w }

-- 0 and the figure `open`, or the number; and the figure `kept`
abbrev pub figures_with : Outcome ℕ → ℕ → Figures
figures_with (refused n p) k = record { number = n; open_points = 0; kept = k }
figures_with (given o) k = record { number = 0; open_points = o; kept = k }

-- the figure `open` of what is lent: 8 where a length isn't a state's or what is stored isn't well formed
unfoldable pub open_in : Lent → Outcome ℕ
open_in m = cond (fitting m) (open_answer (stored m)) (refused not_well_formed 0)

-- the figures of what is lent
abbrev pub figures_of : Lent → Figures
figures_of m = figures_with (open_in m) (kept_stored (stored m))

-- A taking in place, of an event or a notice: what `lent_state::take` and `lent_state::notice` promise, with the answer told in numbers.
pub record TakesAs (m : Lent) (f : Fed) (buffer : List ℕ) (r : Told) (m' : Lent) (buffer' : List ℕ) : Type 0 where
  pub told : r ≡ told_of (answer_in m f (length buffer))
  pub moved : m' ≡ lent_after (answer_in m f (length buffer)) m f
  pub written : buffer' ≡ buffer_after (answer_in m f (length buffer)) (report_now (stored m) (words_of f)) buffer

-- Saving what is lent, and reading an image into it: what `image::save` and `image::restore` promise, with the answer told in numbers.
pub record SavesAs (m : Lent) (buffer : List ℕ) (r : Told) (buffer' : List ℕ) : Type 0 where
  pub told : r ≡ told_of (saving_in m (length buffer))
  pub written : buffer' ≡ buffer_after (saving_in m (length buffer)) (image_of (stored m)) buffer

pub record RestoresAs (m : Lent) (ws : List ℕ) (r : Told) (m' : Lent) : Type 0 where
  pub told : r ≡ told_of (reading_in m ws)
  pub moved : m' ≡ lent_read (reading_in m ws) ws m
