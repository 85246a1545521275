-- The claim about a whole list of takings, for the exported calls: a start and then calls of `yokemango_take` and `yokemango_notice`, each known by its contract alone and each finding the memory as the last left it. It is proved as `exported_list` (proofs/ExportedList.antt).
use Rattle.std.specs.Prelude.{ℕ, ◌≡◌, List, [], ◌∷◌, map}
use Rattle.meaning.specs.RuleFile.{Accepted}
use Rattle.meaning.specs.Kept.{kept, open_points}
use Rattle.meaning.specs.Keeper.{Fed, Taking, Given, keeper}
use Rattle.monitor.specs.State.{lent_of}
use Rattle.monitor.specs.Reports.{log_over, Reports}
use Rattle.monitor.specs.declared.State.{State}
use Rattle.yokemango.specs.Numbers.{told_of, figures_of, TakesAs}
use Rattle.yokemango.specs.declared.Told.{Told}

-- a call of `yokemango_take` or `yokemango_notice`: the event words or the time, and the buffer, that it was handed, what it told, and the state and the buffer that it left in memory
pub record ExportedCall : Type 0 where
  pub fed : Fed
  pub buffer : List ℕ
  pub told : Told
  pub state : State
  pub left : List ℕ

-- from the state that memory holds first to the one that it holds last
abbrev pub ExportedCalls : State → List ExportedCall → State → Type 0
ExportedCalls s [] s' = s' ≡ s
ExportedCalls s (x ∷ xs) s' = TakesAs (lent_of s) x.fed x.buffer x.told (lent_of x.state) x.left × ExportedCalls x.state xs s'

-- what the keeper is fed of a call
abbrev pub taking_of : ExportedCall → Taking
taking_of x = record { fed = x.fed; buffer = x.buffer }

-- an answer in numbers, and the buffer
pub record Back : Type 0 where
  pub told : Told
  pub buffer : List ℕ

abbrev pub back_of : ExportedCall → Back
back_of x = record { told = x.told; buffer = x.left }

abbrev pub told_given : Given → Back
told_given g = record { told = told_of g.answer; buffer = g.buffer }

-- The claim, for a rule that checking accepted with answer a, the exported calls from the start's state on, and the state after them.
pub record ExportedList (b : List ℕ) (a : Accepted) (xs : List ExportedCall) (s : State) : Type 0 where
  -- "For every taking the answer (number and place, or words written) and every word of the buffer equal the keeper's"
  pub answers : map back_of xs ≡ map told_given (keeper b [] (map taking_of xs))
  -- which points are thereby reported, when, and that their valuations are those of Definition 2 and stay so
  pub reports : Reports b a (map taking_of xs)
  -- "after the list the state's kept count and the `open` figure are those of the keeper's log": what `yokemango_figures` gives, with number 0 and never 8
  pub figures : figures_of (lent_of s) ≡ record { number = 0; open_points = open_points b (log_over b (map taking_of xs)); kept = kept b (log_over b (map taking_of xs)) }
