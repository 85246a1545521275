-- A node's rows as a report shows them, and the report of a run of points: well made.
use Prim.Native.Nat.{ℕ, zero, suc, ◌≤◌}
use native.Mathlib.Omega.{arith}
use mathlib.Core.Bool.{Bool, true, false, cond}
use mathlib.Core.List.Memᴰ
use mathlib.Core.List.{List, [], ◌∷◌, ◌++◌, map, Memᴰ}
use mathlib.Core.Path.{◌≡◌, refl, sym, ap, ap₂, ◌∙◌}
use lib.ListN.{length, length-map}
use borrow.Author.Tests.{lt-ltb, eq-eqb}
use Rattle.meaning.specs.Lists.{all, select, gather}
use Rattle.meaning.specs.Log.{point_after, points_from}
use Rattle.meaning.specs.Order.{before, ascending}
use Rattle.meaning.specs.Formula.{lowest_of, variables}
use Rattle.meaning.specs.Definition2.{Valuation}
use Rattle.meaning.specs.Evaluator.{valuation_of}
use Rattle.meaning.specs.Report.{Reported}
use Rattle.meaning.specs.Keeper.{report_row}
use Rattle.meaning.specs.declared.Point.{Point}
use Rattle.meaning.specs.declared.Stamp.{Stamp}
use Rattle.meaning.proofs.Points.{select_most}
use Rattle.meaning.proofs.Rows.{all_of, head_before, ascending_tail}
use Rattle.meaning.proofs.OrderLaws.{order_laws}
use Rattle.method.proofs.Sets.{RowsOf}
use Rattle.method.proofs.Turns.{points_length}
use Rattle.report.proofs.RoundTrip.{WellMade, rows_fit}

-- ---- a report's row

-- a row has one word for each free variable
shown_width : (f : ℕ → Bool) (v : Valuation) (xs : List ℕ) → length (gather (λ x. cond (f x) (v x ∷ []) []) xs) ≡ length (select f xs)
shown_width f v [] = refl
shown_width f v (x ∷ xs) = go (f x) (shown_width f v xs)
  where
    go : (t : Bool) → length (gather (λ y. cond (f y) (v y ∷ []) []) xs) ≡ length (select f xs) → length (cond t (v x ∷ []) [] ++ gather (λ y. cond (f y) (v y ∷ []) []) xs) ≡ length (cond t (x ∷ select f xs) (select f xs))
    go true e = ap suc e
    go false e = e

-- ---- ascending lists

-- a list keeps its ascent under a function that brings the order of its rows to that of a report
map_ascends : (lowest : ℕ) (g : List ℕ → List ℕ) (rows : List (List ℕ)) → ((r s : List ℕ) → Memᴰ r rows → Memᴰ s rows → before lowest r s ≡ true → before 0 (g r) (g s) ≡ true)
    → ascending lowest rows ≡ true → ascending 0 (map g rows) ≡ true
map_ascends lowest g [] h e = refl
map_ascends lowest g (r ∷ []) h e = refl
map_ascends lowest g (r ∷ s ∷ rows) h e =
    let p : before 0 (g r) (g s) ≡ true = h r s (Memᴰ.head refl) (Memᴰ.tail (Memᴰ.head refl)) (head_before lowest r {rows = s ∷ rows} e (Memᴰ.head refl)) in
    rw p (map_ascends lowest g (s ∷ rows) (λ a b m n. h a b (Memᴰ.tail m) (Memᴰ.tail n)) (ascending_tail lowest r (s ∷ rows) e))

-- a point as a row of one word: the points of a run ascend
abbrev number : Point → List ℕ
number i = i.0 ∷ []

points_ascend : (a : Point) (n : ℕ) → ascending 0 (map number (points_from a n)) ≡ true
points_ascend a zero = refl
points_ascend a (suc zero) = refl
points_ascend a (suc (suc n)) = rw (lt-ltb a.0 (suc a.0) (omega arith)) (points_ascend (point_after a) (suc n))

-- ---- points with a node's rows

module _ (f : ℕ → Bool) (time : Point → Stamp) (rows : Point → List (List ℕ)) where
  abbrev pub entry_at : Point → Reported
  entry_at i = record { at = i; time = time i; rows = map (report_row f) (rows i) }

  number_of : (is : List Point) → map (λ (e : Reported). e.at.0 ∷ []) (map entry_at is) ≡ map number is
  number_of [] = refl
  number_of (i ∷ is) = ap (λ ns. number i ∷ ns) (number_of is)

  -- a fact of every point's entry is a fact of every entry
  every : (p : Reported → Bool) (is : List Point) → ((i : Point) → p (entry_at i) ≡ true) → all p (map entry_at is) ≡ true
  every p [] h = refl
  every p (i ∷ is) h = rw (h i) (every p is h)

  each_width : (i : Point) → rows_fit (length (select f variables)) (entry_at i) ≡ true
  each_width i = all_of _ (map (report_row f) (rows i)) (λ r m. let (u, k, e) = Memᴰ.of_map (report_row f) (rows i) m in eq-eqb _ _ (ap length (sym e) ∙ shown_width f (valuation_of u) variables))

  module _ (own : (i : Point) → RowsOf f (rows i)) where
    row_order : (i : Point) (r s : List ℕ) → Memᴰ r (rows i) → Memᴰ s (rows i) → before (lowest_of f) r s ≡ true → before 0 (report_row f r) (report_row f s) ≡ true
    row_order i r s m n e =
        order_laws.shown f r s ∙ ap₂ (before (lowest_of f)) (sym ((own i).cut r m)) (sym ((own i).cut s n)) ∙ e

    each_ascends : (i : Point) → ascending 0 (entry_at i).rows ≡ true
    each_ascends i = map_ascends (lowest_of f) (report_row f) (rows i) (row_order i) (own i).ascends

    pub well_made : (a : Point) (n : ℕ) → n ≤ 33 → WellMade (length (select f variables)) (map entry_at (points_from a n))
    well_made a n h =
        record {
          few_points = rw (length-map (points_from a n) entry_at, points_length a n) h;
          few_free = select_most f variables;
          widths = every (rows_fit (length (select f variables))) (points_from a n) each_width;
          points_ascend = rw number_of (points_ascend a n);
          rows_ascend = every (λ (e : Reported). ascending 0 e.rows) (points_from a n) each_ascends;
        }
