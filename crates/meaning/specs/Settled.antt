-- "When a point is settled": 01's word for a point whose valuations no later event can change.
use Rattle.std.specs.Prelude.{ℕ, suc, ◌+◌, ◌-◌, Bool, not, ◌&&◌, ◌||◌, length, ltb, leb, eqb}
use Rattle.meaning.specs.Lists.{all, select}
use Rattle.meaning.specs.Log.{Log, size, time, latest, point, point_before, point_after, points_from, points_of}
use Rattle.meaning.specs.Formula.{Formula, atom, and, and_not, keep, or, exists, previous, next, since, not_since, until, not_until, once, eventually}
use Rattle.meaning.specs.declared.Point.{Point}
use Rattle.meaning.specs.declared.Window.{Window}

-- "9, 10 and 13 if their children are settled at every j ≤ i"
abbrev pub settled_since : (Point → Bool) → Point → Bool
settled_since children i = all children (points_from (point 0) (suc i.0))

-- "11, 12 and 14 if .. the children are settled at every j ≥ i with Tj < Ti + d"; and ""Settled" for kinds 11, 12 and 14 now needs the latest known time, of a point or a notice, to be at least Ti + d"
abbrev pub settled_until : Log → Window → (Point → Bool) → Point → Bool
settled_until l w children i =
    ltb i.0 (size l) && leb ((time l i).0 + w.end) (latest l).0
    && all (λ j. not (ltb (time l j).0 ((time l i).0 + w.end)) || children j) (points_from i (size l - i.0))

-- "an atom is settled at i if i < n; kinds 2 to 6 if their children are settled at i; previous if i < n and, for i > 0, its child is settled at i−1; next if its child is settled at i+1"
abbrev pub settled : Log → Formula → Point → Bool
settled l (atom r ts) i = ltb i.0 (size l)
settled l (and a b) i = settled l a i && settled l b i
settled l (and_not a b) i = settled l a i && settled l b i
settled l (keep a c s t) i = settled l a i
settled l (or a b) i = settled l a i && settled l b i
settled l (exists a x) i = settled l a i
settled l (previous a w) i = ltb i.0 (size l) && (eqb i.0 0 || settled l a (point_before i))
settled l (next a w) i = settled l a (point_after i)
settled l (since a b w) i = settled_since (λ j. settled l a j && settled l b j) i
settled l (not_since a b w) i = settled_since (λ j. settled l a j && settled l b j) i
settled l (until a b w) i = settled_until l w (λ j. settled l a j && settled l b j) i
settled l (not_until a b w) i = settled_until l w (λ j. settled l a j && settled l b j) i
settled l (once a w) i = settled_since (settled l a) i
settled l (eventually a w) i = settled_until l w (settled l a) i

-- how many points are settled
abbrev pub settled_count : Log → Formula → ℕ
settled_count l φ = length (select (settled l φ) (points_of l))
