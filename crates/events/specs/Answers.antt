-- What each check answers, and the outcome of 01 that the answers stand for.
use Rattle.std.specs.Prelude.{ℕ, ◌+◌, ◌*◌, ◌≤◌, ◌≡◌, cond, List, [], ◌∷◌, length, get_or, Option, Some, None, Result, Ok, Err}
use Rattle.meaning.specs.Outcome.{Outcome, most_rows}
use Rattle.meaning.specs.RuleFile.{relation_count}
use Rattle.meaning.specs.Event.{row_count, is_event, row_fits}
use Rattle.meaning.specs.Keeper.{Fed, event, notice}
use Rattle.limits.specs.declared.Refusal.{Refusal}
use Rattle.limits.specs.Weighs.{refusal_of}
use Rattle.events.specs.declared.Handed.{Handed}
use Rattle.events.specs.declared.Handed.TheVariants.{Event, Notice}

-- what every accepted rule has: its 12 bytes of sizes, and at most 8 relations
pub record RuleSizes (b : List ℕ) : Type 0 where
  pub whole : 12 ≤ length b
  pub relations : relation_count b ≤ 8

-- words that are an event of m rows
pub record Rowed (w : List ℕ) (m : ℕ) : Type 0 where
  pub count : m ≡ row_count w
  pub few : m ≤ most_rows
  pub long : length w ≡ 2 + 5 * m

unfoldable pub form_of : List ℕ → Option ℕ
form_of w = cond (is_event w) (Some (row_count w)) None

-- the first row that doesn't fit, among those of the list
abbrev pub rows_of : List ℕ → List ℕ → List ℕ → Result Unit ℕ
rows_of b w [] = Ok tt
rows_of b w (k ∷ ks) = cond (row_fits b w k) (rows_of b w ks) (Err k)

-- where there is nothing against what is handed in, what follows; else 01's number and place
abbrev pub outcome_of : Result Unit Refusal → Outcome ℕ → Outcome ℕ
outcome_of (Ok u) rest = rest
outcome_of (Err r) rest = refusal_of r

-- what is handed in, as the keeper is fed it: an event's words, or of a notice the time, which is its one word
abbrev pub fed_of : Handed → Fed
fed_of (Event w) = event w.now
fed_of (Notice w) = notice (get_or w.now 0 0)
