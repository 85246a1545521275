-- What the reports over a list of takings have in them: of the keeper, and so of all that answer as the keeper does.
use Rattle.std.specs.Prelude.{ℕ, ◌+◌, ◌≤◌, ◌<◌, ◌≡◌, true}
use mathlib.Core.List.{List, [], ◌∷◌, ◌++◌, Memᴰ}
use Rattle.meaning.specs.Lists.{select}
use Rattle.meaning.specs.Log.{Log, Taken, GoesOn, size, time, latest, points_of, log_of}
use Rattle.meaning.specs.Formula.{free, without_next}
use Rattle.meaning.specs.Definition2.{Holds}
use Rattle.meaning.specs.Evaluator.{vals}
use Rattle.meaning.specs.Settled.{settled}
use Rattle.meaning.specs.RuleFile.{Accepted, pattern}
use Rattle.meaning.specs.Keeper.{Taking, newly_settled, keeper_log}
use Rattle.meaning.specs.Exact.{Exact}
use Rattle.meaning.specs.declared.Point.{Point}

-- what the keeper holds after the takings, and the log that the definitions see of it
abbrev pub taken_over : List ℕ → List Taking → List Taken
taken_over b ts = keeper_log b [] ts

abbrev pub log_over : List ℕ → List Taking → Log
log_over b ts = log_of (taken_over b ts)

-- the points that a taking reports, after those before it: "each point settled for the last node now and not before"
abbrev pub reported_in : List ℕ → List Taking → Taking → List Point
reported_in b before t = newly_settled (log_over b before) (log_over b (before ++ t ∷ [])) (pattern b)

-- the points that takings report, one taking after the other
abbrev pub reported_over : List ℕ → List Taking → List Taking → List Point
reported_over b before [] = []
reported_over b before (t ∷ ts) = reported_in b before t ++ reported_over b (before ++ t ∷ []) ts

pub record Reports (b : List ℕ) (a : Accepted) (ts : List Taking) : Type 0 where
  -- "the points reported are exactly those that the accepted events" and notices "settle, each just once, in point order, in the very call that settles it"
  pub once : reported_over b [] ts ≡ select (settled (log_over b ts) (pattern b)) (points_of (log_over b ts))
  -- for a rule without "next" a point is reported no later than by the taking of the first point or notice whose time is at least its own plus the reach: once the latest known time is, the takings so far have reported it
  pub prompt : without_next (pattern b) ≡ true → (before after : List Taking) → ts ≡ before ++ after → (i : Point) → i.0 < size (log_over b before)
      → (time (log_over b before) i).0 + a.reach ≤ (latest (log_over b before)).0 → Memᴰ i (reported_over b [] before)
  -- "The valuations reported for a point are also its valuations by Definition 2 on every log that begins with the keeper's and goes on by points" and notices that aren't below its latest known time, "even such as 12 to 16 would refuse": with the keeper's as it is after the taking that reports the point
  pub steady : (before after : List Taking) (t : Taking) → ts ≡ before ++ t ∷ after
      → (i : Point) → Memᴰ i (reported_in b before t)
      → (es : List Taken) → GoesOn (taken_over b (before ++ t ∷ [])) es
      → Exact (free (pattern b)) (λ v. Holds (log_of es) (pattern b) v i) (vals (log_over b (before ++ t ∷ [])) (pattern b) i)
  -- what the keeper holds after the list goes on from each that it held before, so its log and what goes on from it are such logs too
  pub grows : (before after : List Taking) → ts ≡ before ++ after → GoesOn (taken_over b before) (taken_over b ts)
