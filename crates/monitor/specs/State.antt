-- A state's parts, what they store, and the state that a start gives.
use Rattle.std.specs.Prelude.{ℕ, ◌-◌, ◌*◌, List, [], ◌++◌, length, replicate}
use Rattle.meaning.specs.Outcome.{most_bytes, most_kept}
use Rattle.meaning.specs.Log.{stamp}
use Rattle.meaning.specs.declared.LogEnd.{LogEnd}
use Rattle.method.specs.WellFormed.{time_words}
use Rattle.method.specs.Stored.{Stored}
use Rattle.lent_state.specs.Lent.{Lent, lent, stored as stored_in}
use Rattle.monitor.specs.declared.State.{State}

-- where a log ends, from two words
abbrev pub end_at : ℕ → ℕ → LogEnd
end_at points latest = record { points = points; latest = stamp latest }

-- a state's parts as they are lent
abbrev pub lent_of : State → Lent
lent_of s = lent s.rule s.bytes (end_at s.points s.latest) s.times s.retained s.owners s.numbers s.values s.count

-- the first bytes of the rule, the first times and the first entries, as many as its figures say
abbrev pub stored : State → Stored
stored s = stored_in (lent_of s)

-- "a state with no points", every word of it: the rule's bytes and their number, and 0 everywhere else
unfoldable pub start_state : List ℕ → State
start_state b = record { rule = b ++ replicate (most_bytes - length b) 0; bytes = length b; points = 0; latest = 0; times = replicate time_words 0; retained = 0; owners = replicate most_kept 0; numbers = replicate most_kept 0; values = replicate (most_kept * 4) 0; count = 0 }

-- the state of zeros
abbrev pub blank : State
blank = start_state []
