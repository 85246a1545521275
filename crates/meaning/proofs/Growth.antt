-- A log that goes on from another, by the accessors; and that what is held in order gives logs in order, of which one that goes on from another extends it.
use Prim.Native.Nat.{ℕ, zero, suc, ◌≤◌, ◌<◌}
use mathlib.Core.Path.{◌≡◌, refl, sym, ap, ◌∙◌}
use mathlib.Core.Bool.{true}
use mathlib.Core.List.{List, [], ◌∷◌, ◌++◌}
use lib.ListN.{length, get_or, length-append, get_or-append}
use lib.Dec.{leb}
use borrow.Author.Tests.{leb-true, le-leb}
use native.Mathlib.Omega.{arith}
use Rattle.meaning.specs.Log.{Log, LogPoint, Taken, added, noted, time_of, points_in, last_time, in_order, beyond, relation_in, log_of, GoesOn, Ordered, stamp, size, time, rows_at, latest}
use Rattle.meaning.specs.declared.Point.{Point}
use Rattle.meaning.specs.declared.Stamp.{Stamp}
use Rattle.meaning.proofs.Points.{both, first, second}

-- the first points are the other's, the latest known time doesn't fall, and later points aren't before the other's
pub record Extends (l l' : Log) : Type 0 where
  pub longer : size l ≤ size l'
  pub times : (i : Point) → i.0 < size l → time l i ≡ time l' i
  pub rows : (r : ℕ) (i : Point) → i.0 < size l → rows_at l r i ≡ rows_at l' r i
  pub clock : (latest l).0 ≤ (latest l').0
  pub later : (j : Point) → size l ≤ j.0 → j.0 < size l' → (latest l).0 ≤ (time l' j).0
  pub before : Ordered l
  pub ordered : Ordered l'

-- ---- what is held

pub points_append : (es more : List Taken) → points_in (es ++ more) ≡ points_in es ++ points_in more
points_append [] more = refl
points_append (added p ∷ es) more = ap (λ ps. p ∷ ps) (points_append es more)
points_append (noted t ∷ es) more = points_append es more

pub last_append : (t : Stamp) (es more : List Taken) → last_time t (es ++ more) ≡ last_time (last_time t es) more
last_append t [] more = refl
last_append t (e ∷ es) more = last_append (time_of e) es more

-- the first of some that are in order is no earlier than the time before them, and the rest go on from it
module _ (t : Stamp) (e : Taken) (es : List Taken) (h : in_order t (e ∷ es) ≡ true) where
  not_before_lem : t.0 ≤ (time_of e).0
  not_before_lem = leb-true t.0 (time_of e).0 (first (leb t.0 (time_of e).0) (in_order (time_of e) es) h)

  rest : in_order (time_of e) es ≡ true
  rest = second (leb t.0 (time_of e).0) (in_order (time_of e) es) h

order_first : (t : Stamp) (es more : List Taken) → in_order t (es ++ more) ≡ true → in_order t es ≡ true
order_first t [] more h = refl
order_first t (e ∷ es) more h = both (le-leb t.0 (time_of e).0 (not_before_lem t e (es ++ more) h)) (order_first (time_of e) es more (rest t e (es ++ more) h))

order_rest : (t : Stamp) (es more : List Taken) → in_order t (es ++ more) ≡ true → in_order (last_time t es) more ≡ true
order_rest t [] more h = h
order_rest t (e ∷ es) more h = order_rest (time_of e) es more (rest t e (es ++ more) h)

-- one more, which is no earlier than the last
pub order_more : (t : Stamp) (es : List Taken) (e : Taken) → in_order t es ≡ true → (last_time t es).0 ≤ (time_of e).0 → in_order t (es ++ e ∷ []) ≡ true
order_more t [] e h u = both (le-leb t.0 (time_of e).0 u) refl
order_more t (d ∷ es) e h u = both (le-leb t.0 (time_of d).0 (not_before_lem t d es h)) (order_more (time_of d) es e (rest t d es h) u)

last_after : (t : Stamp) (es : List Taken) → in_order t es ≡ true → t.0 ≤ (last_time t es).0
last_after t [] h = omega arith
last_after t (e ∷ es) h = omega (arith, not_before_lem t e es h, last_after (time_of e) es (rest t e es h))

-- the points' times lie between the time before and the last
each_within : (t : Stamp) (es : List Taken) → in_order t es ≡ true → (k : ℕ) → k < length (points_in es)
    → (t.0 ≤ (get_or (points_in es) k beyond).time.0) × ((get_or (points_in es) k beyond).time.0 ≤ (last_time t es).0)
each_within t [] h k n = absurd (omega arith)
each_within t (added p ∷ es) h zero n = (not_before_lem t (added p) es h, last_after p.time es (rest t (added p) es h))
each_within t (added p ∷ es) h (suc k) n = let w = each_within p.time es (rest t (added p) es h) k (omega arith) in (omega (arith, not_before_lem t (added p) es h, w.0), w.1)
each_within t (noted s ∷ es) h k n = let w = each_within s es (rest t (noted s) es h) k n in (omega (arith, not_before_lem t (noted s) es h, w.0), w.1)

steps_within : (t : Stamp) (es : List Taken) → in_order t es ≡ true → (i j : ℕ) → i ≤ j → j < length (points_in es) → (get_or (points_in es) i beyond).time.0 ≤ (get_or (points_in es) j beyond).time.0
steps_within t [] h i j u n = absurd (omega arith)
steps_within t (added p ∷ es) h zero zero u n = omega arith
steps_within t (added p ∷ es) h zero (suc j) u n = (each_within p.time es (rest t (added p) es h) j (omega arith)).0
steps_within t (added p ∷ es) h (suc i) zero u n = absurd (omega arith)
steps_within t (added p ∷ es) h (suc i) (suc j) u n = steps_within p.time es (rest t (added p) es h) i j (omega arith) (omega arith)
steps_within t (noted s ∷ es) h i j u n = steps_within s es (rest t (noted s) es h) i j u n

-- a point that comes after is no earlier than the last
each_later : (t : Stamp) (es more : List Taken) → in_order t (es ++ more) ≡ true → (k : ℕ) → length (points_in es) ≤ k → k < length (points_in (es ++ more)) → (last_time t es).0 ≤ (get_or (points_in (es ++ more)) k beyond).time.0
each_later t [] more h k u n = (each_within t more h k n).0
each_later t (added p ∷ es) more h zero u n = absurd (omega arith)
each_later t (added p ∷ es) more h (suc k) u n = each_later p.time es more (rest t (added p) (es ++ more) h) k (omega arith) (omega arith)
each_later t (noted s ∷ es) more h k u n = each_later s es more (rest t (noted s) (es ++ more) h) k u n

-- ---- the logs of what is held

pub log_ordered : (es : List Taken) → in_order (stamp 0) es ≡ true → Ordered (log_of es)
unfolding log_of size time latest
log_ordered es h = record { steps = λ i j. steps_within (stamp 0) es h i.0 j.0; late = λ i n. (each_within (stamp 0) es h i.0 n).1 }

pub extends : (es es' : List Taken) → GoesOn es es' → Extends (log_of es) (log_of es')
unfolding log_of size time rows_at latest
extends es es' g =
    record {
      longer = omega (arith, ap length all, length-append (points_in es) (points_in more));
      times = λ i n. ap (λ p. p.time) (same i.0 n);
      rows = λ r i n. ap (λ (p : LogPoint). relation_in r p.rows) (same i.0 n);
      clock = rw clocks (last_after (last_time (stamp 0) es) more (order_rest (stamp 0) es more whole));
      later = λ j u n. let e : points_in es' ≡ points_in (es ++ more) = ap points_in g.begins in rw e (each_later (stamp 0) es more whole j.0 u (omega (arith, ap length e)));
      before = log_ordered es (order_first (stamp 0) es more whole);
      ordered = log_ordered es' g.ordered;
    }
  where
    more : List Taken
    more = g.more

    all : points_in es' ≡ points_in es ++ points_in more
    all = ap points_in g.begins ∙ points_append es more

    same : (k : ℕ) → k < length (points_in es) → get_or (points_in es) k beyond ≡ get_or (points_in es') k beyond
    same k n = rw all (sym (get_or-append (points_in es) (points_in more) beyond k n))

    whole : in_order (stamp 0) (es ++ more) ≡ true
    whole = ap (in_order (stamp 0)) (sym g.begins) ∙ g.ordered

    clocks : last_time (stamp 0) es' ≡ last_time (last_time (stamp 0) es) more
    clocks = ap (last_time (stamp 0)) g.begins ∙ last_append (stamp 0) es more
