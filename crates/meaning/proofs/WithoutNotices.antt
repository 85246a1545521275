-- Over a list without notices the keeper gives what it gave before there were any.
use Prim.Native.Nat.{ℕ, suc, ◌-◌}
use mathlib.Core.Path.{◌≡◌, refl, sym, ◌∙◌, ap, ap₂}
use mathlib.Core.List.{List, [], ◌∷◌, map}
use lib.ListN.{length, get_or}
use native.Mathlib.Omega.{arith}
use Rattle.meaning.specs.Outcome.{Outcome, refused, given}
use Rattle.meaning.specs.Log.{Log, LogPoint, Taken, added, points_in, last_time, beyond, stamp, log_with, log_of}
use Rattle.meaning.specs.Keeper.{Given, event, report, grown, answer_on, answer, log_after, buffer_after, step, answered, keeper_log, keeper}
use Rattle.meaning.specs.WithoutNotices.{EventTaking, point_log, points_with, event_answer, points_after, event_step, event_answered, event_log, event_keeper, of_event, AsBefore}
use Rattle.meaning.specs.declared.Stamp.{Stamp}

-- points alone, as they are held
abbrev all : List LogPoint → List Taken
all ps = map added ps

points_all : (ps : List LogPoint) → points_in (all ps) ≡ ps
points_all [] = refl
points_all (p ∷ ps) = ap (λ qs. p ∷ qs) (points_all ps)

last_all : (t : Stamp) (p : LogPoint) (ps : List LogPoint) → last_time t (all (p ∷ ps)) ≡ (get_or (p ∷ ps) (length (p ∷ ps) - 1) beyond).time
last_all t p [] = refl
last_all t p (q ∷ ps) = let z : length (p ∷ q ∷ ps) - 1 ≡ suc (length (q ∷ ps) - 1) = omega arith in last_all p.time q ps ∙ ap (λ k. (get_or (p ∷ q ∷ ps) k beyond).time) (sym z)

-- the definitions see them alike
seen : (ps : List LogPoint) → log_of (all ps) ≡ point_log ps
unfolding log_of
seen [] = refl
seen (p ∷ ps) = ap₂ log_with (points_all (p ∷ ps)) (last_all (stamp 0) p ps)

grown_all : (b : List ℕ) (ps : List LogPoint) (t : EventTaking) → grown b (all ps) (event t.event) ≡ all (points_with b ps t)
grown_all b [] t = refl
grown_all b (p ∷ ps) t = ap (λ es. added p ∷ es) (grown_all b ps t)

module _ (b : List ℕ) (ps : List LogPoint) (t : EventTaking) where
  seen_grown : log_of (grown b (all ps) (event t.event)) ≡ point_log (points_with b ps t)
  seen_grown = ap log_of (grown_all b ps t) ∙ seen (points_with b ps t)

  answer_same : answer b (all ps) (of_event t) ≡ event_answer b ps t
  unfolding answer_on event_answer
  answer_same = ap₂ (λ (l l' : Log). answer_on b l l' (of_event t)) (seen ps) seen_grown

  step_same : step b (all ps) (of_event t) ≡ all (event_step b ps t)
  unfolding step event_step
  step_same = ap (λ o. log_after o (all ps) (grown b (all ps) (event t.event))) answer_same ∙ go (event_answer b ps t)
    where
      go : (o : Outcome ℕ) → log_after o (all ps) (grown b (all ps) (event t.event)) ≡ all (points_after o ps (points_with b ps t))
      go (refused number place) = refl
      go (given words) = grown_all b ps t

  given_same : answered b (all ps) (of_event t) ≡ event_answered b ps t
  unfolding answered event_answered
  given_same =
      ap₂ (λ (o : Outcome ℕ) (words : List ℕ). both o (buffer_after o words t.buffer)) answer_same
      (ap₂ (report b) (seen ps) seen_grown)
    where
      both : Outcome ℕ → List ℕ → Given
      both o words = record { answer = o; buffer = words }

over : (b : List ℕ) (ps : List LogPoint) (ts : List EventTaking) → (keeper b (all ps) (map of_event ts) ≡ event_keeper b ps ts) × (keeper_log b (all ps) (map of_event ts) ≡ all (event_log b ps ts))
over b ps [] = (refl, refl)
over b ps (t ∷ ts) =
    let (gives, holds) = over b (event_step b ps t) ts in
    let next : step b (all ps) (of_event t) ≡ all (event_step b ps t) = step_same b ps t in
    (ap₂ (λ g gs. g ∷ gs) (given_same b ps t) (ap (λ es. keeper b es (map of_event ts)) next ∙ gives), ap (λ es. keeper_log b es (map of_event ts)) next ∙ holds)

pub as_before : (b : List ℕ) (ts : List EventTaking) → AsBefore b ts
as_before b ts = record { givens = (over b [] ts).0; logs = ap log_of (over b [] ts).1 ∙ seen (event_log b [] ts) }
