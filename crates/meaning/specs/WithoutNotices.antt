-- The keeper of 01, before there were notices: its list holds events alone, its log points alone, and the latest known time is the last point's. The claim is that over such a list the keeper gives what this one gives; it is proved as `as_before` (proofs/WithoutNotices.antt).
use Rattle.std.specs.Prelude.{ℕ, ◌-◌, ◌≡◌, List, [], ◌∷◌, ◌++◌, map, length, get_or}
use Rattle.meaning.specs.Outcome.{Outcome, refused, given}
use Rattle.meaning.specs.Log.{Log, LogPoint, beyond, size, latest, log_with, log_of}
use Rattle.meaning.specs.RuleFile.{node_count}
use Rattle.meaning.specs.Kept.{kept, open_points}
use Rattle.meaning.specs.Event.{point_of}
use Rattle.meaning.specs.Keeper.{event, Taking, Given, report, admitted, weighed, crowded_at, buffer_after, keeper_log, keeper}

-- "Each taking has event words and a report buffer of its own"
pub record EventTaking : Type 0 where
  pub event : List ℕ
  pub buffer : List ℕ

-- points, with the last point's time as the latest, 0 before any: "some accepted point has time at least Ti + d"
abbrev pub point_log : List LogPoint → Log
point_log ps = log_with ps (get_or ps (length ps - 1) beyond).time

abbrev pub points_with : List ℕ → List LogPoint → EventTaking → List LogPoint
points_with b ps t = ps ++ point_of b t.event ∷ []

-- "If any of 9 to 16 applies to that log, the event and the buffer, it answers the first with its place"
unfoldable pub event_answer : List ℕ → List LogPoint → EventTaking → Outcome ℕ
event_answer b ps t =
    let l = point_log ps in
    let l' = point_log (points_with b ps t) in
    admitted b t.event (latest l) (size l) (weighed (crowded_at b l l') (node_count b) (open_points b l') (kept b l') (length (report b l l')) (length t.buffer))

abbrev pub points_after : Outcome ℕ → List LogPoint → List LogPoint → List LogPoint
points_after (refused number place) ps ps' = ps
points_after (given words) ps ps' = ps'

unfoldable pub event_step : List ℕ → List LogPoint → EventTaking → List LogPoint
event_step b ps t = points_after (event_answer b ps t) ps (points_with b ps t)

unfoldable pub event_answered : List ℕ → List LogPoint → EventTaking → Given
event_answered b ps t = record { answer = event_answer b ps t; buffer = buffer_after (event_answer b ps t) (report b (point_log ps) (point_log (points_with b ps t))) t.buffer }

abbrev pub event_log : List ℕ → List LogPoint → List EventTaking → List LogPoint
event_log b ps [] = ps
event_log b ps (t ∷ ts) = event_log b (event_step b ps t) ts

abbrev pub event_keeper : List ℕ → List LogPoint → List EventTaking → List Given
event_keeper b ps [] = []
event_keeper b ps (t ∷ ts) = event_answered b ps t ∷ event_keeper b (event_step b ps t) ts

-- such a taking among those of either kind
abbrev pub of_event : EventTaking → Taking
of_event t = record { fed = event t.event; buffer = t.buffer }

-- "Over a list without notices the keeper gives what it gave before", and holds what the definitions see alike
pub record AsBefore (b : List ℕ) (ts : List EventTaking) : Type 0 where
  pub givens : keeper b [] (map of_event ts) ≡ event_keeper b [] ts
  pub logs : log_of (keeper_log b [] (map of_event ts)) ≡ point_log (event_log b [] ts)
