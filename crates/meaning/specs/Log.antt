-- "The log": points and clock notices, as they are held, and what the definitions see of them. These reach a log only through size, time, rows_at and latest.
use Rattle.std.specs.Prelude.{ℕ, suc, ◌-◌, ◌≤◌, ◌<◌, ◌≡◌, Bool, true, ◌&&◌, List, [], ◌∷◌, ◌++◌, map, length, get_or, leb, eqb}
use Rattle.meaning.specs.Lists.{range, select}
use Rattle.meaning.specs.declared.Point.{Point}
use Rattle.meaning.specs.declared.Stamp.{Stamp}

-- "neither may be passed where the other is due": a point's number and a time stamp are two types
abbrev pub point : ℕ → Point
point n = record { 0 = n }

abbrev pub stamp : ℕ → Stamp
stamp t = record { 0 = t }

-- the points before and after a point
abbrev pub point_before : Point → Point
point_before i = point (i.0 - 1)

abbrev pub point_after : Point → Point
point_after i = point (suc i.0)

-- as many points as the second argument says, from the first on
abbrev pub points_from : Point → ℕ → List Point
points_from from count = map point (range from.0 count)

-- "A row is a relation number and that relation's values"
pub record Row : Type 0 where
  pub relation : ℕ
  pub values : List ℕ

-- "A point is one accepted event .. It has a time in seconds (a word) and a set of rows"
pub record LogPoint : Type 0 where
  pub time : Stamp
  pub rows : List Row

-- What the definitions see of a log.
pub record Log : Type 0 where
  pub points : ℕ
  pub stamps : Point → Stamp
  pub rows : ℕ → Point → List (List ℕ)
  pub clock : Stamp

unfoldable pub size : Log → ℕ
size l = l.points

-- the time stamp of point i: the paper's τ with index i
unfoldable pub time : Log → Point → Stamp
time l i = l.stamps i

-- the values of the rows of relation r at point i: the paper's r of D with index i
unfoldable pub rows_at : Log → ℕ → Point → List (List ℕ)
rows_at l r i = l.rows r i

-- "the latest known time, of a point or a notice", 0 before any
unfoldable pub latest : Log → Stamp
latest l = l.clock

abbrev pub points_of : Log → List Point
points_of l = points_from (point 0) (size l)

-- how long after the first stamp the second is
abbrev pub elapsed : Stamp → Stamp → ℕ
elapsed s t = t.0 - s.0

-- "Times may be equal but never fall", and none is after the latest known time
pub record Ordered (l : Log) : Type 0 where
  pub steps : (i j : Point) → i.0 ≤ j.0 → j.0 < size l → (time l i).0 ≤ (time l j).0
  pub late : (i : Point) → i.0 < size l → (time l i).0 ≤ (latest l).0

-- A log as it is held: what was taken, each in its place: a point was added, or a clock notice noted, which is "a time, and no point".
pub data Taken : Type 0 where
  added : LogPoint → Taken
  noted : Stamp → Taken

abbrev pub time_of : Taken → Stamp
time_of (added p) = p.time
time_of (noted t) = t

-- its points; a notice "has no number"
abbrev pub points_in : List Taken → List LogPoint
points_in [] = []
points_in (added p ∷ es) = p ∷ points_in es
points_in (noted t ∷ es) = points_in es

-- the time of the last that was taken, of a point or a notice; of nothing the first argument
abbrev pub last_time : Stamp → List Taken → Stamp
last_time t [] = t
last_time t (e ∷ es) = last_time (time_of e) es

abbrev pub beyond : LogPoint
beyond = record { time = stamp 0; rows = [] }

-- the values of a relation's rows
abbrev pub relation_in : ℕ → List Row → List (List ℕ)
relation_in r rows = map (λ row. row.values) (select (λ row. eqb row.relation r) rows)

-- points, and a latest known time beside them
abbrev pub log_with : List LogPoint → Stamp → Log
log_with ps t = record { points = length ps; stamps = λ i. (get_or ps i.0 beyond).time; rows = λ r i. relation_in r (get_or ps i.0 beyond).rows; clock = t }

-- what the definitions see of what was taken: a notice moves the latest known time alone
unfoldable pub log_of : List Taken → Log
log_of es = log_with (points_in es) (last_time (stamp 0) es)

-- each is no earlier than the one before it
abbrev pub in_order : Stamp → List Taken → Bool
in_order t [] = true
in_order t (e ∷ es) = leb t.0 (time_of e).0 && in_order (time_of e) es

-- "what goes on from a log isn't below its latest known time": points and notices that begin with es and go on in order
pub record GoesOn (es es' : List Taken) : Type 0 where
  pub more : List Taken
  pub begins : es' ≡ es ++ more
  pub ordered : in_order (stamp 0) es' ≡ true
