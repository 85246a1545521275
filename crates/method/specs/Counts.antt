-- How many points each node has settled, from the time stamps and the latest known time alone.
use Rattle.std.specs.Prelude.{ℕ, zero, suc, ◌+◌, ◌-◌, ◌<◌, min, cond, get_or, ltb, leb}
use mathlib.Core.List.{List, [], ◌∷◌, ◌++◌, map, Memᴰ}
use Rattle.meaning.specs.Log.{point, point_after}
use Rattle.meaning.specs.View.{view_of, children_in}
use Rattle.meaning.specs.RuleFile.{node_at}
use Rattle.meaning.specs.declared.Point.{Point}
use Rattle.meaning.specs.declared.Stamp.{Stamp}
use Rattle.meaning.specs.declared.LogEnd.{LogEnd}
use Rattle.meaning.specs.declared.Times.{Times}
use Rattle.meaning.specs.declared.Times.TheVariants.{Here, Before, After, Past, Future}
use Rattle.meaning.specs.declared.View.{View}
use Rattle.method.specs.Stored.{least_of}

-- from point i on, at most so many steps, while the point's time and d more are at most the bound
abbrev pub scan : (Point → Stamp) → ℕ → Stamp → Point → ℕ → Point
scan τ d bound i zero = i
scan τ d bound i (suc steps) = cond (leb ((τ i).0 + d) bound.0) (scan τ d bound (point_after i) steps) i

-- for until: the children have settled m points; a point is settled once its window ends by the time of point m, or by the latest known time where the children have settled all
unfoldable pub until_count : (Point → Stamp) → LogEnd → ℕ → ℕ → ℕ → ℕ
until_count τ e d m from = (scan τ d (cond (ltb m e.points) (τ (point m)) e.latest) (point from) (m - from)).0

-- the count of a node with a window's end d, where its children have settled m points of a log that ends so, from a count that is not too high
abbrev pub advance_by : (Point → Stamp) → LogEnd → ℕ → ℕ → ℕ → Times → ℕ
advance_by τ e m from d Here = m
advance_by τ e m from d Before = min e.points (m + 1)
advance_by τ e m from d After = m - 1
advance_by τ e m from d Past = m
advance_by τ e m from d Future = until_count τ e d m from

-- the same from its children's counts: the least of them, and all points where there are none
abbrev pub advance : (Point → Stamp) → LogEnd → (ℕ → ℕ) → ℕ → View → ℕ
advance τ e count from v = advance_by τ e (least_of e.points (map count (children_in v.children))) from v.window.end v.times

-- the counts of the first nodes, as many as the last argument says
abbrev pub counts_to : List ℕ → (Point → Stamp) → LogEnd → (ℕ → ℕ) → ℕ → List ℕ
counts_to b τ e from zero = []
counts_to b τ e from (suc x) = counts_to b τ e from x ++ advance τ e (λ y. get_or (counts_to b τ e from x) y 0) (from x) (view_of (node_at b x)) ∷ []

-- what a node that settles point i asks of a child's count c
abbrev pub ConsultsBy : ℕ → Point → Times → Type 0
ConsultsBy c i Here = i.0 < c
ConsultsBy c i Before = 0 < i.0 → i.0 - 1 < c
ConsultsBy c i After = i.0 + 1 < c
ConsultsBy c i Past = i.0 < c
ConsultsBy c i Future = i.0 < c

-- the same of all its children's
abbrev pub Consults : (ℕ → ℕ) → Point → View → Type 0
Consults c i v = (y : ℕ) → Memᴰ y (children_in v.children) → ConsultsBy (c y) i v.times
