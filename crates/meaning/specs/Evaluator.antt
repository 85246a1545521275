-- The evaluator: the valuations of a formula at a point, as a list of rows of four words, 0 where a variable isn't free, strictly ascending in the order that its lowest free variable gives.
-- proofs/Agreement shows that these are the valuations that satisfy the formula by Definition 2.
use Rattle.std.specs.Prelude.{ℕ, suc, ◌-◌, Bool, true, not, cond, ◌&&◌, ◌||◌, List, [], ◌∷◌, ◌++◌, map, get_or, ltb, eqb}
use Rattle.meaning.specs.Lists.{all, any, select, gather, same_row}
use Rattle.meaning.specs.Order.{before}
use Rattle.meaning.specs.Log.{Log, size, time, rows_at, elapsed, point, point_before, point_after, points_from}
use Rattle.meaning.specs.Formula.{Formula, atom, and, and_not, keep, or, exists, previous, next, since, not_since, until, not_until, once, eventually, in_window, compares, is_variable, free, lowest_of, variables}
use Rattle.meaning.specs.Definition2.{Valuation, value}
use Rattle.meaning.specs.declared.Point.{Point}
use Rattle.meaning.specs.declared.Stamp.{Stamp}
use Rattle.meaning.specs.declared.Term.{Term}
use Rattle.meaning.specs.declared.Window.{Window}

-- a valuation cut down to some variables, as four words; and four words as a valuation
abbrev pub cut_to : (ℕ → Bool) → Valuation → List ℕ
cut_to f v = map (λ x. cond (f x) (v x) 0) variables

abbrev pub valuation_of : List ℕ → Valuation
valuation_of u x = get_or u x 0

-- a row put in its place in a strictly ascending list, where it is once
abbrev pub insert : ℕ → List ℕ → List (List ℕ) → List (List ℕ)
insert lowest r [] = r ∷ []
insert lowest r (s ∷ rows) = cond (before lowest r s) (r ∷ s ∷ rows) (cond (before lowest s r) (s ∷ insert lowest r rows) (s ∷ rows))

abbrev pub insert_all : ℕ → List (List ℕ) → List (List ℕ) → List (List ℕ)
insert_all lowest set [] = set
insert_all lowest set (r ∷ rows) = insert_all lowest (insert lowest r set) rows

-- the rows of a list, each once, in the order that the lowest free variable gives
abbrev pub set_of : ℕ → List (List ℕ) → List (List ℕ)
set_of lowest rows = insert_all lowest [] rows

abbrev pub member : List ℕ → List (List ℕ) → Bool
member r rows = any (same_row r) rows

-- the value that columns give to a variable: that of the first column whose term it is
abbrev pub bound : List Term → List ℕ → ℕ → ℕ
bound [] columns x = 0
bound (t ∷ ts) [] x = 0
bound (t ∷ ts) (c ∷ columns) x = cond (is_variable x t) c (bound ts columns x)

abbrev pub matches : List Term → List ℕ → Bool
matches ts columns = same_row (map (value (bound ts columns)) ts) columns

abbrev pub atom_rows : List Term → List (List ℕ) → List (List ℕ)
atom_rows ts rows = map (λ columns. map (bound ts columns) variables) (select (matches ts) rows)

-- the row agrees with another where both sets have the variable; and the two put together
abbrev pub agrees : (ℕ → Bool) → (ℕ → Bool) → List ℕ → List ℕ → Bool
agrees f g u w = all (λ x. not (f x && g x) || eqb (get_or u x 0) (get_or w x 0)) variables

abbrev pub joined : (ℕ → Bool) → List ℕ → List ℕ → List ℕ
joined f u w = map (λ x. cond (f x) (get_or u x 0) (get_or w x 0)) variables

abbrev pub and_rows : (ℕ → Bool) → (ℕ → Bool) → List (List ℕ) → List (List ℕ) → List (List ℕ)
and_rows f g lefts rights = gather (λ u. map (joined f u) (select (agrees f g u) rights)) lefts

-- since and until over the time stamps, a test of left (of a row, at a point) and the rows of right (at a point)
-- the rows of right at j whose left passes at every point after j up to i
abbrev pub lasting : (List ℕ → Point → Bool) → (Point → List (List ℕ)) → Point → Point → List (List ℕ)
lasting left right i j = select (λ u. all (left u) (points_from (point_after j) (i.0 - j.0))) (right j)

abbrev pub since_rows : (Point → Stamp) → Window → (List ℕ → Point → Bool) → (Point → List (List ℕ)) → Point → List (List ℕ)
since_rows τ w left right i = gather (lasting left right i) (select (λ j. in_window w (elapsed (τ j) (τ i))) (points_from (point 0) (suc i.0)))

-- the rows of right at j whose left passes at every point from i on before j
abbrev pub leading : (List ℕ → Point → Bool) → (Point → List (List ℕ)) → Point → Point → List (List ℕ)
leading left right i j = select (λ u. all (left u) (points_from i (j.0 - i.0))) (right j)

abbrev pub until_rows : (Point → Stamp) → ℕ → Window → (List ℕ → Point → Bool) → (Point → List (List ℕ)) → Point → List (List ℕ)
until_rows τ n w left right i = gather (leading left right i) (select (λ j. in_window w (elapsed (τ i) (τ j))) (points_from i (n - i.0)))

-- left asked "at the valuation cut down to that child's own free variables"
abbrev pub among : (ℕ → Bool) → (Point → List (List ℕ)) → List ℕ → Point → Bool
among f left u k = member (cut_to f (valuation_of u)) (left k)

abbrev pub vals : Log → Formula → Point → List (List ℕ)
vals l (atom r ts) i = set_of (lowest_of (free (atom r ts))) (atom_rows ts (rows_at l r i))
vals l (and a b) i = set_of (lowest_of (free (and a b))) (and_rows (free a) (free b) (vals l a i) (vals l b i))
vals l (and_not a b) i = set_of (lowest_of (free (and_not a b))) (select (λ u. not (among (free b) (vals l b) u i)) (vals l a i))
vals l (keep a c s t) i = set_of (lowest_of (free (keep a c s t))) (select (λ u. compares c (value (valuation_of u) s) (value (valuation_of u) t)) (vals l a i))
vals l (or a b) i = set_of (lowest_of (free (or a b))) (vals l a i ++ vals l b i)
vals l (exists a x) i = set_of (lowest_of (free (exists a x))) (map (λ u. cut_to (λ y. not (eqb y x)) (valuation_of u)) (vals l a i))
vals l (previous a w) i = set_of (lowest_of (free (previous a w))) (cond (ltb 0 i.0 && in_window w (elapsed (time l (point_before i)) (time l i))) (vals l a (point_before i)) [])
vals l (next a w) i = set_of (lowest_of (free (next a w))) (cond (ltb (suc i.0) (size l) && in_window w (elapsed (time l i) (time l (point_after i)))) (vals l a (point_after i)) [])
vals l (since a b w) i = set_of (lowest_of (free (since a b w))) (since_rows (time l) w (among (free a) (vals l a)) (vals l b) i)
vals l (not_since a b w) i = set_of (lowest_of (free (not_since a b w))) (since_rows (time l) w (λ u k. not (among (free a) (vals l a) u k)) (vals l b) i)
vals l (until a b w) i = set_of (lowest_of (free (until a b w))) (until_rows (time l) (size l) w (among (free a) (vals l a)) (vals l b) i)
vals l (not_until a b w) i = set_of (lowest_of (free (not_until a b w))) (until_rows (time l) (size l) w (λ u k. not (among (free a) (vals l a) u k)) (vals l b) i)
vals l (once a w) i = set_of (lowest_of (free (once a w))) (since_rows (time l) w (λ u k. true) (vals l a) i)
vals l (eventually a w) i = set_of (lowest_of (free (eventually a w))) (until_rows (time l) (size l) w (λ u k. true) (vals l a) i)
