-- What right's rows at newly settled points give: the points from the last back, the rows of a point for which left passes up to the last, and what one point adds.
use Prim.Native.Nat.{ℕ, zero, suc, ◌+◌, ◌-◌}
use mathlib.Core.Path.{◌≡◌, refl, sym, ap, ap₂, fun_ext, ◌∙◌}
use mathlib.Core.Bool.{cond}
use mathlib.Core.List.{List, [], ◌∷◌, ◌++◌, map}
use native.Mathlib.Numerals.{add-one}
use native.Mathlib.Omega.{arith}
use Rattle.meaning.specs.Lists.{all, range, select, gather}
use Rattle.meaning.specs.Log.{point, elapsed, points_from}
use Rattle.meaning.specs.Formula.{in_window}
use Rattle.meaning.specs.Evaluator.{lasting}
use Rattle.meaning.specs.Kept.{below_end, counted_age}
use Rattle.meaning.specs.declared.Point.{Point}
use Rattle.meaning.specs.declared.Stamp.{Stamp}
use Rattle.meaning.specs.declared.Window.{Window}
use Rattle.method.specs.Settle.{back_from}
use Rattle.meaning.specs.declared.Left.{Left}
use Rattle.room.specs.declared.Child.{Child}
use Rattle.untils.specs.Until.{left_test, leads}
use Rattle.untils.proofs.Passing.{gather_one}
use Rattle.since.specs.Parts.{fresh_rows, fresh_pairs}

back_run : (i x count : ℕ) → back_from (point (i - x)) count ≡ map (λ y. point (i - y)) (range x count)
back_run i x zero = refl
back_run i x (suc count) =
    let e : i - x - 1 ≡ i - suc x = omega arith in
    ap (λ ps. point (i - x) ∷ ps) (ap (λ k. back_from (point k) count) e ∙ back_run i (suc x) count)

fresh_points : (start i : Point) → map (λ y. point (i.0 - y)) (range 0 (i.0 + 1 - start.0)) ≡ back_from i (suc i.0 - start.0)
fresh_points start i =
    let e : i.0 + 1 - start.0 ≡ suc i.0 - start.0 = omega arith in
    let f : i.0 - 0 ≡ i.0 = omega arith in
    sym (ap (λ k. back_from (point k) (suc i.0 - start.0)) (sym f) ∙ back_run i.0 0 (suc i.0 - start.0) ∙ ap (λ n. map (λ y. point (i.0 - y)) (range 0 n)) (sym e))

module _ (left : Left) (a : Child) (sets right : Point → List (List ℕ)) where
  -- right's rows at point j for which left passes at every point after j and before end
  abbrev pub lasting_to : Point → Point → List (List ℕ)
  lasting_to end j = select (leads left a sets (point (j.0 + 1)) end) (right j)

  lasting_is : (i : Point) → lasting_to (point (i.0 + 1)) ≡ lasting (left_test left a sets) right i
  lasting_is i =
      fun_ext
      (λ j.
      let e : i.0 + 1 - (j.0 + 1) ≡ i.0 - j.0 = omega arith in
      ap₂ (λ from count. select (λ u. all (left_test left a sets u) (points_from (point from) count)) (right j)) (add-one j.0) e)

  module _ (τ : Point → Stamp) (w : Window) (here : Stamp) (end : Point) where
    -- the rows of some points, and of one
    abbrev pub rows_over : List Point → List (List ℕ)
    rows_over js = gather (lasting_to end) (select (λ j. in_window w (elapsed (τ j) here)) js)

    abbrev pub rows_of : Point → List (List ℕ)
    rows_of j = cond (in_window w (elapsed (τ j) here)) (lasting_to end j) []

    pub rows_one : (j : Point) (js : List Point) → rows_over (j ∷ js) ≡ rows_of j ++ rows_over js
    rows_one j js = gather_one (λ j. in_window w (elapsed (τ j) here)) (lasting_to end) j js

    -- the pairs of some points, and of one
    abbrev pairs_here : Point → List (List ℕ)
    pairs_here j = map (λ u. counted_age w (elapsed (τ j) here) ∷ u) (lasting_to end j)

    abbrev pub pairs_over : List Point → List (List ℕ)
    pairs_over js = gather pairs_here (select (λ j. below_end w (elapsed (τ j) here)) js)

    abbrev pub pairs_of : Point → List (List ℕ)
    pairs_of j = cond (below_end w (elapsed (τ j) here)) (pairs_here j) []

    pub pairs_one : (j : Point) (js : List Point) → pairs_over (j ∷ js) ≡ pairs_of j ++ pairs_over js
    pairs_one j js = gather_one (λ j. below_end w (elapsed (τ j) here)) pairs_here j js

  -- over all points from start on, they are what the definitions say
  module _ (τ : Point → Stamp) (w : Window) (start i : Point) {here : Stamp} (is : here ≡ τ i) where
    pub rows_fresh : rows_over τ w here (point (i.0 + 1)) (map (λ x. point (i.0 - x)) (range 0 (i.0 + 1 - start.0))) ≡ fresh_rows τ w (left_test left a sets) right start i
    rows_fresh =
        ap (rows_over τ w here (point (i.0 + 1))) (fresh_points start i)
        ∙ ap₂ (λ one s. gather one (select (λ j. in_window w (elapsed (τ j) s)) (back_from i (suc i.0 - start.0)))) (lasting_is i) is

    pub pairs_fresh : pairs_over τ w here (point (i.0 + 1)) (map (λ x. point (i.0 - x)) (range 0 (i.0 + 1 - start.0))) ≡ fresh_pairs τ w (left_test left a sets) right start i
    pairs_fresh =
        ap (pairs_over τ w here (point (i.0 + 1))) (fresh_points start i)
        ∙ ap₂ (λ (one : Point → List (List ℕ)) s. gather (λ j. map (λ u. counted_age w (elapsed (τ j) s) ∷ u) (one j)) (select (λ j. below_end w (elapsed (τ j) s)) (back_from i (suc i.0 - start.0)))) (lasting_is i) is
