-- What is stored between calls: the rule, the number of points, the latest known time, the retained times and the kept entries. Nothing else is needed: how many points each node has settled follows from the rule, the times and the latest.
use Rattle.std.specs.Prelude.{ℕ, ◌-◌, min, ◌&&◌, List, [], ◌∷◌, map, length, get_or, eqb}
use Rattle.meaning.specs.Lists.{range, select}
use Rattle.meaning.specs.Log.{Log, point, stamp, size, time, latest, points_from}
use Rattle.meaning.specs.Settled.{settled_count}
use Rattle.meaning.specs.RuleFile.{node_count, formula_at}
use Rattle.meaning.specs.Kept.{Entry, entries}
use Rattle.meaning.specs.declared.Point.{Point}
use Rattle.meaning.specs.declared.Stamp.{Stamp}
use Rattle.meaning.specs.declared.LogEnd.{LogEnd}

pub record Stored : Type 0 where
  pub rule : List ℕ
  pub points : ℕ
  pub latest : Stamp
  pub times : List ℕ
  pub entries : List Entry

-- where its log ends
abbrev pub end_of : Stored → LogEnd
end_of s = record { points = s.points; latest = s.latest }

-- the first point whose time is retained
abbrev pub base_of : Stored → Point
base_of s = point (s.points - length s.times)

-- time stamps read off retained times, of which the first is point base's
abbrev pub stamp_in : Point → List ℕ → Point → Stamp
stamp_in base times i = stamp (get_or times (i.0 - base.0) 0)

-- the rows kept of node x at point j
unfoldable pub held : List Entry → ℕ → Point → List (List ℕ)
held es x j = map (λ e. e.values) (select (λ e. eqb e.node x && eqb e.mark 0 && eqb e.number j.0) es)

-- the pairs kept of node x, each as its age and then its row
unfoldable pub held_pairs : List Entry → ℕ → List (List ℕ)
held_pairs es x = map (λ e. e.number ∷ e.values) (select (λ e. eqb e.node x && eqb e.mark 1) es)

-- the least of some counts, and of nothing so many as there are points
abbrev pub least_of : ℕ → List ℕ → ℕ
least_of n [] = n
least_of n (c ∷ cs) = min c (least_of n cs)

-- "retained .. are the times of each point that some node hasn't settled and of the last that all have": the first of these points, from the counts of settled points
abbrev pub first_retained : ℕ → List ℕ → Point
first_retained n counts = point (least_of n counts - 1)

-- what is stored of a log
unfoldable pub stored_of : List ℕ → Log → Stored
stored_of b l =
    record {
      rule = b;
      points = size l;
      latest = latest l;
      times = map (λ i. (time l i).0) (points_from (first_retained (size l) (map (λ x. settled_count l (formula_at b x)) (range 0 (node_count b)))) (size l - (first_retained (size l) (map (λ x. settled_count l (formula_at b x)) (range 0 (node_count b)))).0));
      entries = entries b l;
    }
