-- Left's test over a run of points, one point at a time; and what one point adds to until's rows.
use Prim.Native.Nat.{ℕ, suc, ◌+◌, ◌-◌, ◌<◌}
use mathlib.Core.Path.{◌≡◌, refl, sym, ap, ap₂, ◌∙◌}
use mathlib.Core.Bool.{Bool, true, false, cond}
use mathlib.Core.List.{List, [], ◌∷◌, ◌++◌}
use native.Mathlib.Numerals.{add-one}
use native.Mathlib.Omega.{arith}
use lib.Dec.{eqb}
use borrow.Author.Tests.{eqb-true}
use Rattle.meaning.proofs.Points.{Tested, passed, failed, tested}
use Rattle.meaning.specs.Lists.{all, select, gather}
use Rattle.meaning.specs.Log.{point, elapsed, points_from}
use Rattle.meaning.specs.Formula.{in_window}
use Rattle.meaning.specs.Evaluator.{leading}
use Rattle.meaning.specs.declared.Point.{Point}
use Rattle.meaning.specs.declared.Stamp.{Stamp}
use Rattle.meaning.specs.declared.Window.{Window}
use Rattle.meaning.specs.View.{passes}
use Rattle.meaning.specs.declared.Left.{Left}
use Rattle.meaning.specs.declared.Left.TheVariants.{Always}
use Rattle.untils.specs.Until.{passes_at}

-- a test at every point from k on before end
module _ (p : Point → Bool) (k end : ℕ) where
  pub all_more : k < end → p (point k) ≡ true → all p (points_from (point k) (end - k)) ≡ all p (points_from (point (k + 1)) (end - (k + 1)))
  all_more l e =
      let s : end - k ≡ suc (end - (k + 1)) = omega arith in
      rw (s, e, add-one k)

  pub all_stops : k < end → p (point k) ≡ false → all p (points_from (point k) (end - k)) ≡ false
  all_stops l e =
      let s : end - k ≡ suc (end - (k + 1)) = omega arith in
      rw (s, e)

-- left's test at a point as the code computes it
pub passes_as : (left : Left) {looked found t v : Bool} → found ≡ looked → t ≡ passes left found → t ≡ v → passes left looked ≡ v
passes_as left e f g = ap (passes left) (sym e) ∙ sym f ∙ g

-- where nothing is asked, left passes
pub all_true : (ps : List Point) → all (λ k. true) ps ≡ true
all_true [] = refl
all_true (k ∷ ps) = all_true ps

pub nothing-asked : {left : Left} (lowest : ℕ) (sets : Point → List (List ℕ)) (r : List ℕ) (ps : List Point) → left ≡ Always → true ≡ all (passes_at left lowest sets r) ps
nothing-asked lowest sets r ps e = rw e (sym (all_true ps))

-- what one element gives where some are chosen
pub gather_one : {A B : Type 0} (p : A → Bool) (f : A → List B) (x : A) (xs : List A) → gather f (select p (x ∷ xs)) ≡ cond (p x) (f x) [] ++ gather f (select p xs)
gather_one p f x xs = go (p x)
  where
    go : (t : Bool) → gather f (cond t (x ∷ select p xs) (select p xs)) ≡ cond t (f x) [] ++ gather f (select p xs)
    go true = refl
    go false = refl

-- the window's test of two stamps, each as it was read
pub due_read : (w : Window) {s t a b : Stamp} {ok : Bool} → a ≡ s → b ≡ t → ok ≡ in_window w (elapsed a b) → ok ≡ in_window w (elapsed s t)
due_read w d e f = f ∙ ap₂ (λ a b. in_window w (elapsed a b)) d e

-- until's rows over some points, and what one point gives
module _ (τ : Point → Stamp) (w : Window) (left : List ℕ → Point → Bool) (right : Point → List (List ℕ)) (i : Point) where
  abbrev pub over_points : List Point → List (List ℕ)
  over_points js = gather (leading left right i) (select (λ j. in_window w (elapsed (τ i) (τ j))) js)

  abbrev pub at_point : Point → List (List ℕ)
  at_point j = cond (in_window w (elapsed (τ i) (τ j))) (leading left right i j) []

  pub point_one : (j : Point) (js : List Point) → over_points (j ∷ js) ≡ at_point j ++ over_points js
  point_one j js = gather_one (λ j. in_window w (elapsed (τ i) (τ j))) (leading left right i) j js

  -- the same as the code computes it
  pub point_as : (j : Point) {start here : Stamp} {ok : Bool} → start ≡ τ i → here ≡ τ j → ok ≡ in_window w (elapsed start here) → cond ok (leading left right i j) [] ≡ at_point j
  point_as j d e f = ap (λ t. cond t (leading left right i j) []) (due_read w d e f)

  -- and where the point's set, which stands between two marks, is passed over if it is empty
  pub point_there : (j : Point) {start : Stamp} {ok : Bool} (from to : ℕ) → start ≡ τ i → (from ≡ to → right j ≡ []) → ok ≡ cond (eqb from to) false (in_window w (elapsed start (τ j))) → cond ok (leading left right i j) [] ≡ at_point j
  point_there j {start} {ok} from to d none e = go (tested (eqb from to))
    where
      nothing : List (List ℕ)
      nothing = []

      either : (t : Bool) → cond t nothing nothing ≡ nothing
      either true = refl
      either false = refl

      go : Tested (eqb from to) → cond ok (leading left right i j) [] ≡ at_point j
      go (passed q) = rw (e, q, none (eqb-true from to q)) (sym (either (in_window w (elapsed (τ i) (τ j)))))
      go (failed q) = point_as j d refl (rw q at e)
