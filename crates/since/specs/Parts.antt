-- The parts of since's rows and pairs at a point: what right's rows at newly settled points give, and what held pairs give.
use Rattle.std.specs.Prelude.{ℕ, suc, ◌+◌, ◌-◌, Bool, cond, ◌&&◌, List, ◌∷◌, map, get_or, drop, eqb}
use Rattle.meaning.specs.Lists.{select, gather}
use Rattle.meaning.specs.Log.{elapsed, point_before}
use Rattle.meaning.specs.Formula.{in_window}
use Rattle.meaning.specs.Evaluator.{lasting}
use Rattle.meaning.specs.Kept.{below_end, counted_age}
use Rattle.meaning.specs.declared.Point.{Point}
use Rattle.meaning.specs.declared.Stamp.{Stamp}
use Rattle.meaning.specs.declared.Window.{Window}
use Rattle.method.specs.Settle.{back_from}

-- the part of since's rows and pairs at point i that right's rows from point start on give
module _ (τ : Point → Stamp) (w : Window) (left : List ℕ → Point → Bool) (right : Point → List (List ℕ)) (start i : Point) where
  abbrev pub fresh_rows : List (List ℕ)
  fresh_rows = gather (lasting left right i) (select (λ j. in_window w (elapsed (τ j) (τ i))) (back_from i (suc i.0 - start.0)))

  abbrev pub fresh_pairs : List (List ℕ)
  fresh_pairs = gather (λ j. map (λ u. counted_age w (elapsed (τ j) (τ i)) ∷ u) (lasting left right i j)) (select (λ j. below_end w (elapsed (τ j) (τ i))) (back_from i (suc i.0 - start.0)))

-- by how much the pairs that were held at the point before start are older at point i
abbrev pub grown_by : (Point → Stamp) → Point → Point → ℕ
grown_by τ start i = cond (eqb start.0 0) 0 (elapsed (τ (point_before start)) (τ i))

-- the part that held pairs give, grown older, where their rows pass
module _ (w : Window) (by : ℕ) (passed : List ℕ → Bool) (held : List (List ℕ)) where
  abbrev pub older_rows : List (List ℕ)
  older_rows = map (drop 1) (select (λ p. in_window w (get_or p 0 0 + by) && passed (drop 1 p)) held)

  abbrev pub older_pairs : List (List ℕ)
  older_pairs = map (λ p. counted_age w (get_or p 0 0 + by) ∷ drop 1 p) (select (λ p. below_end w (get_or p 0 0 + by) && passed (drop 1 p)) held)

-- what an age must be below to be before the window's end: where there is none, what every sum of two words is below
abbrev pub below_of : Window → ℕ
below_of w = cond (eqb w.end 0) 8589934592 w.end

-- what an age before the window's end counts as at most
abbrev pub most_of : Window → ℕ
most_of w = cond (eqb w.end 0) w.start w.end
