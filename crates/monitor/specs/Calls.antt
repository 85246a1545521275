-- A list of takings, each of which got the state that the last handed back; known by what `take` and `notice` promise alone.
use Rattle.std.specs.Prelude.{ℕ, ◌≡◌, List, [], ◌∷◌}
use Rattle.meaning.specs.Keeper.{Fed, Taking, Given}
use Rattle.lent_state.specs.Lent.{answer_of}
use Rattle.monitor.specs.declared.State.{State}
use Rattle.monitor.specs.declared.Step.{Step}
use Rattle.monitor.specs.Promises.{Takes}

-- a call of `take` or `notice`: the event words or the time, and the buffer, that it was handed, what it gave back, and how the buffer ended
pub record Call : Type 0 where
  pub fed : Fed
  pub buffer : List ℕ
  pub back : Step
  pub left : List ℕ

-- "The first gets the state from a start .., each later one what the last handed back; nobody else writes it in between": from the first state to the last
abbrev pub Calls : State → List Call → State → Type 0
Calls s [] s' = s' ≡ s
Calls s (c ∷ cs) s' = Takes s c.fed c.buffer c.back c.left × Calls c.back.state cs s'

-- what the keeper is fed of a call, and what it is held to
abbrev pub taking_of : Call → Taking
taking_of c = record { fed = c.fed; buffer = c.buffer }

abbrev pub given_of : Call → Given
given_of c = record { answer = answer_of c.back.answer; buffer = c.left }
