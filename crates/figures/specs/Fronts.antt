-- A state that stands at the front of slices, and its figure `open`.
use Rattle.std.specs.Prelude.{ℕ, Bool, cond, ◌&&◌, List, map, get_or, leb, Option, Some, None}
use Rattle.meaning.specs.Lists.{range}
use Rattle.meaning.specs.Outcome.{Outcome, refused, given, not_well_formed, most_bytes, most_kept}
use Rattle.meaning.specs.declared.LogEnd.{LogEnd}
use Rattle.method.specs.Stored.{Stored}
use Rattle.method.specs.Step.{open_stored}
use Rattle.method.specs.WellFormed.{well_formed, most_times}
use Rattle.formed.specs.StateFigures.{stored_in}

-- what is stored, read off the front of slices, as many words as the figures say
abbrev pub front : ℕ → List ℕ → List ℕ
front n xs = map (λ k. get_or xs k 0) (range 0 n)

abbrev pub stored_front : List ℕ → ℕ → LogEnd → List ℕ → ℕ → List ℕ → List ℕ → List ℕ → ℕ → Stored
stored_front rule bytes e times retained os ns vs count = stored_in (front bytes rule) e (front retained times) os ns vs count

-- whether the figures of a state are within its arrays
abbrev pub figures_fit : ℕ → ℕ → ℕ → Bool
figures_fit bytes retained count = leb bytes most_bytes && (leb retained most_times && leb count most_kept)

-- "For an answer that is an enum, a definition gives this paper's number and values for each of its cases": the figure, or 8 where there is none
abbrev pub open_of : Option ℕ → Outcome ℕ
open_of (Some n) = given n
open_of None = refused not_well_formed 0

-- the figure `open` of what is well formed, else 8
unfoldable pub open_answer : Stored → Outcome ℕ
open_answer s = cond (well_formed s) (given (open_stored s)) (refused not_well_formed 0)
