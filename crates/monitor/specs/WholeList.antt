-- Demand 3: one claim about a whole list of takings. Whatever bytes a start accepted, and whatever events, notices and buffers were then handed in, what the operations promise (Contracts.antt) makes each answer and every word of each buffer the keeper's. It is proved as `whole_list` (proofs/WholeList.antt).
use Rattle.std.specs.Prelude.{ℕ, ◌≡◌, true, List, [], map}
use Rattle.meaning.specs.Outcome.{given}
use Rattle.meaning.specs.RuleFile.{Accepted}
use Rattle.meaning.specs.Kept.{kept, open_points}
use Rattle.meaning.specs.Keeper.{keeper}
use Rattle.method.specs.Step.{kept_stored}
use Rattle.method.specs.WellFormed.{well_formed}
use Rattle.figures.specs.Fronts.{open_answer}
use Rattle.monitor.specs.State.{stored}
use Rattle.monitor.specs.Calls.{Call, taking_of, given_of}
use Rattle.monitor.specs.Reports.{log_over, Reports}
use Rattle.monitor.specs.declared.State.{State}

-- The claim, for a rule that checking accepted with answer a, the calls from the start's state on, and the state after them.
pub record WholeList (b : List ℕ) (a : Accepted) (cs : List Call) (s : State) : Type 0 where
  -- "For every taking the answer (number and place, or words written) and every word of the buffer equal the keeper's"
  pub answers : map given_of cs ≡ keeper b [] (map taking_of cs)
  -- which points are thereby reported, when, and that their valuations are those of Definition 2 and stay so
  pub reports : Reports b a (map taking_of cs)
  -- "no state reached from a start by these operations meets" 8
  pub formed : well_formed (stored s) ≡ true
  -- "after the list the state's kept count and the `open` figure are those of the keeper's log": what `kept` and `open_points` give
  pub keeps : kept_stored (stored s) ≡ kept b (log_over b (map taking_of cs))
  pub opens : open_answer (stored s) ≡ given (open_points b (log_over b (map taking_of cs)))
