-- Rows that agree where they are read: sets of variables that have the same of 0 to 3, and since and until over tests and rows that are the same at the points that each reads.
use Prim.Native.Nat.{ℕ, zero, suc, ◌-◌, ◌≤◌, ◌<◌}
use native.Mathlib.Omega.{arith}
use mathlib.Core.Path.{◌≡◌, refl, ap, ap₂, fun_ext, ◌∙◌}
use mathlib.Core.Bool.{Bool, true, false, cond, ◌&&◌}
use mathlib.Core.List.{List, ◌∷◌, ◌++◌, map}
use lib.ListN.{drop}
use Rattle.meaning.specs.Lists.{all, select, gather}
use Rattle.meaning.specs.Log.{point_after, elapsed, point_before, points_from}
use Rattle.meaning.specs.Formula.{in_window}
use Rattle.meaning.specs.Evaluator.{cut_to, agrees, joined, and_rows, lasting, leading, until_rows}
use Rattle.meaning.specs.Kept.{below_end, counted_age}
use Rattle.meaning.specs.declared.Point.{Point}
use Rattle.meaning.specs.declared.Stamp.{Stamp}
use Rattle.meaning.specs.declared.Window.{Window}
use Rattle.meaning.proofs.Points.{all_same, select_same, gather_same}
use Rattle.method.specs.Settle.{back_from, age_now, outlasts, rows_since, pairs_since}

-- variables are 0 to 3, so nothing else is asked of a set of them
abbrev pub Alike : (ℕ → Bool) → (ℕ → Bool) → Type 0
Alike f g = (x : ℕ) → x < 4 → f x ≡ g x

pub cut_same : (f g : ℕ → Bool) → Alike f g → (u : ℕ → ℕ) → cut_to f u ≡ cut_to g u
cut_same f g h u = rw (h 0 (omega arith), h 1 (omega arith), h 2 (omega arith), h 3 (omega arith))

module _ (f f' g g' : ℕ → Bool) (h : Alike f f') (k : Alike g g') where
  joined_same : joined f ≡ joined f'
  joined_same = fun_ext (λ u. fun_ext (λ t. rw (h 0 (omega arith), h 1 (omega arith), h 2 (omega arith), h 3 (omega arith))))

  agrees_same : agrees f g ≡ agrees f' g'
  agrees_same =
      fun_ext
      (λ u. fun_ext (λ t. rw (h 0 (omega arith), h 1 (omega arith), h 2 (omega arith), h 3 (omega arith), k 0 (omega arith), k 1 (omega arith), k 2 (omega arith), k 3 (omega arith))))

  pub and_same : (ls rs : List (List ℕ)) → and_rows f g ls rs ≡ and_rows f' g' ls rs
  and_same ls rs = ap₂ (λ p q. gather (λ u. map (p u) (select (q u) rs)) ls) joined_same agrees_same

-- what the points of a run back from i give, where a test passes
back_same : {B : Type 0} (p : Point → Bool) (f g : Point → List B) (i : Point) (n : ℕ) → ((j : Point) → suc i.0 - n ≤ j.0 → j.0 ≤ i.0 → f j ≡ g j) → gather f (select p (back_from i n)) ≡ gather g (select p (back_from i n))
back_same p f g i zero h = refl
back_same p f g i (suc n) h =
    go (p i) (h i (omega arith) (omega arith)) (back_same p f g (point_before i) n (λ j u o. h j (omega arith) (omega arith)))
  where
    rest : List Point
    rest = select p (back_from (point_before i) n)

    go : (t : Bool) → f i ≡ g i → gather f rest ≡ gather g rest → gather f (cond t (i ∷ rest) rest) ≡ gather g (cond t (i ∷ rest) rest)
    go true e k = ap₂ (λ us vs. us ++ vs) e k
    go false e k = k

-- since, over a test of left and rows of right that are the same from start on up to i
module _ (τ : Point → Stamp) (w : Window) (left left' : List ℕ → Point → Bool) (right right' : Point → List (List ℕ)) (held : List (List ℕ)) (start i : Point)
    (p : (j : Point) → start.0 ≤ j.0 → j.0 ≤ i.0 → (u : List ℕ) → left u j ≡ left' u j)
    (q : (j : Point) → start.0 ≤ j.0 → j.0 ≤ i.0 → right j ≡ right' j) where
  lasting_same : (j : Point) → start.0 ≤ j.0 → j.0 ≤ i.0 → lasting left right i j ≡ lasting left' right' i j
  lasting_same j l o =
      select_same _ _ (right j) (λ u. all_same (left u) (left' u) (suc j.0) (i.0 - j.0) (λ k m n. p k (omega arith) (omega arith) u))
      ∙ ap (select (λ u. all (left' u) (points_from (point_after j) (i.0 - j.0)))) (q j l o)

  outlasts_same : outlasts τ w left right held start i ≡ outlasts τ w left' right' held start i
  outlasts_same = fun_ext (λ r. all_same (left (drop 1 r)) (left' (drop 1 r)) start.0 (suc i.0 - start.0) (λ k m n. p k m (omega arith) (drop 1 r)))

  pub rows_same : rows_since τ w left right held start i ≡ rows_since τ w left' right' held start i
  unfolding rows_since
  rows_same =
      ap₂ (λ us vs. us ++ vs)
      (back_same (λ j. in_window w (elapsed (τ j) (τ i))) (lasting left right i) (lasting left' right' i) i (suc i.0 - start.0) (λ j l o. lasting_same j (omega arith) o))
      (ap (λ t. map (drop 1) (select (λ r. in_window w (age_now τ w left right held start i r) && t r) held)) outlasts_same)

  pub pairs_same : pairs_since τ w left right held start i ≡ pairs_since τ w left' right' held start i
  unfolding pairs_since
  pairs_same =
      ap₂ (λ us vs. us ++ vs)
      (back_same (λ j. below_end w (elapsed (τ j) (τ i))) _ _ i (suc i.0 - start.0) (λ j l o. ap (map (λ u. counted_age w (elapsed (τ j) (τ i)) ∷ u)) (lasting_same j (omega arith) o)))
      (ap (λ t. map (λ r. counted_age w (age_now τ w left right held start i r) ∷ drop 1 r) (select (λ r. below_end w (age_now τ w left right held start i r) && t r) held)) outlasts_same)

-- until, over a test of left and rows of right that are the same from i on before m
pub until_same : (τ : Point → Stamp) (m : ℕ) (w : Window) (left left' : List ℕ → Point → Bool) (right right' : Point → List (List ℕ)) (i : Point)
    → ((j : Point) → i.0 ≤ j.0 → j.0 < m → (u : List ℕ) → left u j ≡ left' u j)
    → ((j : Point) → i.0 ≤ j.0 → j.0 < m → right j ≡ right' j)
    → until_rows τ m w left right i ≡ until_rows τ m w left' right' i
until_same τ m w left left' right right' i p q =
    gather_same (λ j. in_window w (elapsed (τ i) (τ j))) (λ j. in_window w (elapsed (τ i) (τ j))) (leading left right i) (leading left' right' i) i.0 (m - i.0)
    (λ j l o. refl)
    (λ j l o e.
    select_same _ _ (right j) (λ u. all_same (left u) (left' u) i.0 (j.0 - i.0) (λ k n y. p k n (omega arith) u))
    ∙ ap (select (λ u. all (left' u) (points_from i (j.0 - i.0)))) (q j l (omega arith)))
