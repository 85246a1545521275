-- Until where nothing is asked of left: the rows of consecutive points stand together; and the points taken in runs that are due, none yet, one run more, and all.
use Prim.Native.Nat.{ℕ, zero, suc, ◌+◌, ◌-◌, ◌≤◌, ◌<◌}
use native.Mathlib.Omega.{arith}
use mathlib.Core.Path.{◌≡◌, refl, sym, ap, ap₂, ◌∙◌}
use mathlib.Core.Bool.{Bool, true, false, false≢true}
use mathlib.Core.List.{List, [], ◌∷◌, ◌++◌}
use lib.ListN.{get_or}
use lib.Dec.{ltb}
use borrow.Author.Tests.{ltb-true, ltb-false}
use Rattle.meaning.specs.Lists.{all, select, gather}
use Rattle.meaning.specs.Log.{point, points_from}
use Rattle.meaning.specs.Evaluator.{leading, until_rows}
use Rattle.meaning.specs.declared.Point.{Point}
use Rattle.meaning.specs.declared.Stamp.{Stamp}
use Rattle.meaning.specs.declared.Window.{Window}
use Rattle.meaning.proofs.Lists.{gather_append}
use Rattle.meaning.proofs.Points.{Tested, passed, failed, tested, select_append, select_none, select_same, points_from_append}
use Rattle.rowset.specs.Rows.{rows_from}
use Rattle.rowset.specs.Sets.{Run, SetRoom, Added}
use Rattle.rowset.proofs.Runs.{rows_append}
use Rattle.rowset.proofs.Growing.{added_none, added_then, added_as}
use Rattle.room.specs.Room.{set_at}
use Rattle.room.proofs.SetsInOrder.{marks_rise, mark_before}
use Rattle.untils.specs.Until.{due_at, DueRun, Stand}
use Rattle.untils.proofs.Passing.{all_true, over_points, at_point, point_one}

-- ---- the rows of consecutive points

no_rows : (ws : List ℕ) (a : ℕ) → rows_from ws a 0 ≡ []
unfolding rows_from
no_rows ws a = refl

module _ (rows at : List ℕ) (first : ℕ) (low : Point) where
  -- the mark of the set at point a
  abbrev mark : ℕ → ℕ
  mark a = get_or at (first + (a - low.0)) 0

  sets-joined : (n a : ℕ) → low.0 ≤ a → ((q : ℕ) → q < first + (a + n - low.0) → get_or at q 0 ≤ get_or at (q + 1) 0) → gather (set_at rows at first low) (points_from (point a) n) ≡ rows_from rows (mark a) (mark (a + n) - mark a)
  sets-joined zero a l up =
      let e : a + 0 ≡ a = omega arith in
      let d : mark a - mark a ≡ 0 = omega arith in
      rw (e, d) (sym (no_rows rows (mark a)))
  sets-joined (suc n) a l up =
      let e : a + suc n ≡ suc a + n = omega arith in
      let f : first + (suc a - low.0) ≡ first + (a - low.0) + 1 = omega arith in
      let g : first + (suc a - low.0) + n ≡ first + (suc a + n - low.0) = omega arith in
      let b : mark a ≤ get_or at (first + (a - low.0) + 1) 0 = up (first + (a - low.0)) (omega arith) in
      let c : get_or at (first + (a - low.0) + 1) 0 ≤ mark (suc a + n) = rw (g, f) at (marks_rise at (first + (suc a - low.0)) n (λ q o. up q (omega arith))) in
      let step : ℕ = get_or at (first + (a - low.0) + 1) 0 in
      let d : mark a + (step - mark a) ≡ step = omega arith in
      let h : step - mark a + (mark (suc a + n) - step) ≡ mark (suc a + n) - mark a = omega arith in
      let rest : gather (set_at rows at first low) (points_from (point (suc a)) n) ≡ rows_from rows step (mark (suc a + n) - step) = rw f at (sets-joined n (suc a) (omega arith) (λ q o. up q (omega arith))) in
      rw e (ap (λ us. set_at rows at first low (point a) ++ us) rest ∙ sym (rw (d, h) at (rows_append rows (mark a) (step - mark a) (mark (suc a + n) - step))))

  module _ {i : Point} {m : ℕ} (s : Stand rows at first low i m) where
    -- the points from a on before b
    module _ (a b : ℕ) (begun : i.0 ≤ a) (ordered : a ≤ b) (within : b ≤ m) where
      pub joined : gather (set_at rows at first low) (points_from (point a) (b - a)) ≡ rows_from rows (mark a) (mark b - mark a)
      joined =
          let e : a + (b - a) ≡ b = omega arith in
          rw e at (sets-joined (b - a) a (omega (arith, s.low_most)) (λ q o. s.laid.steps q (omega arith)))

      pub joined_run : Run rows (mark a) (mark b)
      joined_run =
          let l = s.low_most in
          let e : first + (a - low.0) + (b - a) ≡ first + (b - low.0) = omega arith in
          record {
            ordered = rw e at (marks_rise at (first + (a - low.0)) (b - a) (λ q o. s.laid.steps q (omega arith)));
            there = omega (arith, s.laid.words, mark_before s.laid (first + (b - low.0)) (omega arith));
          }

-- ---- points that are due

-- the points from j on before k pass as is wanted
pub record Passing (p : Point → Bool) (j : Point) (m : ℕ) (want : Bool) (k : ℕ) : Type 0 where
  pub begun : j.0 ≤ k
  pub reached : k ≤ m
  pub passes : (q : Point) → j.0 ≤ q.0 → q.0 < k → p q ≡ want

-- a run of points that aren't due and then one of points that are go on
pub goes_on : {p : Point → Bool} {j : Point} {m : ℕ} {from to : Point} → DueRun p j m false from → DueRun p from m true to → j.0 < m → j.0 < to.0
goes_on {p} {j} {m} {from} {to} f t l = go (tested (ltb j.0 to.0))
  where
    go : Tested (ltb j.0 to.0) → j.0 < to.0
    go (passed u) = ltb-true j.0 to.0 u
    go (failed u) =
        let o : to.0 ≤ j.0 = ltb-false j.0 to.0 u in
        let d : from.0 ≡ to.0 = omega (arith, f.begun, t.begun) in
        let due : p from ≡ true = f.stops (omega (arith, f.begun, t.begun)) in
        let past : p to ≡ false = t.stops (omega arith) in
        absurd (false≢true (sym past ∙ ap (λ k. p (point k)) (sym d) ∙ due))

select_true : {A : Type 0} (xs : List A) → select (λ x. true) xs ≡ xs
select_true [] = refl
select_true (x ∷ xs) = ap (λ ys. x ∷ ys) (select_true xs)

module _ (τ : Point → Stamp) (w : Window) (right : Point → List (List ℕ)) (i : Point) where
  -- until's rows over some points, where nothing is asked of left
  abbrev pub over : List Point → List (List ℕ)
  over js = over_points τ w (λ u k. true) right i js

  leading_all : (j : Point) → leading (λ u k. true) right i j ≡ right j
  leading_all j = select_same (λ u. all (λ k. true) (points_from i (j.0 - i.0))) (λ u. true) (right j) (λ u. all_true (points_from i (j.0 - i.0))) ∙ select_true (right j)

  over_append : (xs ys : List Point) → over (xs ++ ys) ≡ over xs ++ over ys
  over_append xs ys =
      ap (gather (leading (λ u k. true) right i)) (select_append (due_at τ w (τ i)) xs ys)
      ∙ gather_append (leading (λ u k. true) right i) (select (due_at τ w (τ i)) xs) (select (due_at τ w (τ i)) ys)

  over_none : (a n : ℕ) → ((k : Point) → a ≤ k.0 → k.0 < a + n → due_at τ w (τ i) k ≡ false) → over (points_from (point a) n) ≡ []
  over_none a n h = ap (gather (leading (λ u k. true) right i)) (select_none (due_at τ w (τ i)) a n h)

  over_all : (n a : ℕ) → ((k : Point) → a ≤ k.0 → k.0 < a + n → due_at τ w (τ i) k ≡ true) → over (points_from (point a) n) ≡ gather right (points_from (point a) n)
  over_all zero a h = refl
  over_all (suc n) a h =
      let here : at_point τ w (λ u k. true) right i (point a) ≡ right (point a) = rw (h (point a) (omega arith) (omega arith)) (leading_all (point a)) in
      point_one τ w (λ u k. true) right i (point a) (points_from (point (suc a)) n)
      ∙ ap₂ (λ us vs. us ++ vs) here (over_all n (suc a) (λ k u o. h k (omega arith) (omega arith)))

  -- the points before j are taken
  pub record Going (lowest m : ℕ) (old : List ℕ) (n : ℕ) (new : List ℕ) (k j : ℕ) : Type 0 where
    pub begun : i.0 ≤ j
    pub reached : j ≤ m
    pub put : Added lowest old n new k (over (points_from i (j - i.0)))

  pub going_none : {lowest m : ℕ} {old : List ℕ} {n : ℕ} → i.0 ≤ m → SetRoom old n → Going lowest m old n old n i.0
  going_none l h =
      let e : i.0 - i.0 ≡ 0 = omega arith in
      record { begun = omega arith; reached = l; put = rw e (added_none h) }

  module _ {lowest m : ℕ} {old : List ℕ} {n : ℕ} {new : List ℕ} {k j : ℕ} (t : Going lowest m old n new k j) where
    pub going_more : {from to : Point} → DueRun (due_at τ w (τ i)) (point j) m false from → DueRun (due_at τ w (τ i)) from m true to
        → {rows : List (List ℕ)} → gather right (points_from from (to.0 - from.0)) ≡ rows → {new' : List ℕ} {k' : ℕ} → Added lowest new k new' k' rows → Going lowest m old n new' k' to.0
    going_more {from} {to} f d {rows} r h =
        let b = t.begun in
        let x = f.begun in
        let y = d.begun in
        let e : j - i.0 + (from.0 - j + (to.0 - from.0)) ≡ to.0 - i.0 = omega arith in
        let p : i.0 + (j - i.0) ≡ j = omega arith in
        let q : j + (from.0 - j) ≡ from.0 = omega arith in
        let none = over_none j (from.0 - j) (λ k u o. f.passes k u (omega arith)) in
        let these = over_all (to.0 - from.0) from.0 (λ k u o. d.passes k u (omega arith)) in
        let points : points_from i (to.0 - i.0) ≡ points_from i (j - i.0) ++ (points_from (point j) (from.0 - j) ++ points_from from (to.0 - from.0))
        = ap (points_from i) (sym e) ∙ points_from_append i (j - i.0) (from.0 - j + (to.0 - from.0))
        ∙ ap (λ a. points_from i (j - i.0) ++ points_from (point a) (from.0 - j + (to.0 - from.0))) p
        ∙ ap (λ ps. points_from i (j - i.0) ++ ps) (points_from_append (point j) (from.0 - j) (to.0 - from.0) ∙ ap (λ a. points_from (point j) (from.0 - j) ++ points_from (point a) (to.0 - from.0)) q) in
        record {
          begun = omega arith;
          reached = d.reached;
          put =
              added_as (added_then t.put h)
              (sym
              (ap over points
              ∙ over_append (points_from i (j - i.0)) (points_from (point j) (from.0 - j) ++ points_from from (to.0 - from.0))
              ∙ ap (λ us. over (points_from i (j - i.0)) ++ us) (over_append (points_from (point j) (from.0 - j)) (points_from from (to.0 - from.0)) ∙ ap₂ (λ us vs. us ++ vs) none (these ∙ r))));
        }

    pub going_all : m ≤ j → Added lowest old n new k (until_rows τ m w (λ u k. true) right i)
    going_all l =
        let e : j ≡ m = omega (arith, t.reached) in
        rw e at t.put
