-- Lemma 9(i) for the pairs that kinds 9, 10 and 13 keep: each is an age and a valuation for which right held so long ago and left has held since, and none is missing.
use Prim.Native.Nat.{ℕ, suc, ◌≤◌, ◌<◌}
use mathlib.Core.Path.{◌≡◌, sym, ◌∙◌, ap}
use mathlib.Core.Bool.{Bool, true, not}
use mathlib.Core.Logic.Iff
use mathlib.Core.Logic.{◌↔◌}
use mathlib.Core.List.Memᴰ
use mathlib.Core.List.{List, ◌∷◌, map, Memᴰ, head-eq_of_cons-eq, tail-eq_of_cons-eq}
use lib.ListN.{length}
use native.Mathlib.Omega.{arith}
use Rattle.meaning.specs.Lists.{select}
use Rattle.meaning.specs.Log.{Log, time, elapsed, point, points_from}
use Rattle.meaning.specs.Formula.{Formula, since, not_since, once, free, lowest_of}
use Rattle.meaning.specs.Definition2.{Valuation, Holds}
use Rattle.meaning.specs.Order.{ascending, OfLength}
use Rattle.meaning.specs.Evaluator.{cut_to, valuation_of, set_of, lasting, among, vals}
use Rattle.meaning.specs.Kept.{below_end, counted_age, pair_rows, pairs}
use Rattle.meaning.specs.declared.Point.{Point}
use Rattle.meaning.specs.declared.Window.{Window}
use Rattle.meaning.proofs.Fine.{Fine}
use Rattle.meaning.proofs.Rows.{select_at, select_of, gather_at, gather_of, points_at, points_of_lem, set_of-mem, set_of_ascends}
use Rattle.meaning.specs.Exact.{Exact}
use Rattle.meaning.proofs.Agreement.{asked_holds, asked_denied, asked_always, lasting-mem, exact}

-- "there is a j ∈ [0, i+1) such that y = τi − τj < d, a ∈ γ at j, and a ∈ β at k, for all k ∈ [j+1, i+1)", with y as ages count where the window has no end
pub record Aged (l : Log) (w : Window) (left right : Point → Type 0) (i : Point) (y : ℕ) : Type 0 where
  pub at : Point
  pub up_to : at.0 ≤ i.0
  pub below : below_end w (elapsed (time l at) (time l i)) ≡ true
  pub age : y ≡ counted_age w (elapsed (time l at) (time l i))
  pub there : right at
  pub between : (k : Point) → suc at.0 ≤ k.0 → k.0 < suc i.0 → left k

-- The rows are the pairs (age, valuation) of H, each as its age and then the valuation cut down to f: nothing but these, none missing, each once, in order.
pub record ExactPairs (f : ℕ → Bool) (H : ℕ → Valuation → Type 0) (rows : List (List ℕ)) : Type 0 where
  pub cut : (p : List ℕ) → Memᴰ p rows → (y : ℕ) × (v : Valuation) × (p ≡ y ∷ cut_to f v)
  pub same : (y : ℕ) (v : Valuation) → Memᴰ (y ∷ cut_to f v) rows ↔ H y v
  pub ascends : ascending (suc (lowest_of f)) rows ≡ true

-- The pairs over a test of left and the rows of right: an age before a row that lasts from so long ago.
module _ (l : Log) (w : Window) (i : Point) where
  abbrev inside : Point → Bool
  inside j = below_end w (elapsed (time l j) (time l i))

  abbrev aged : Point → List ℕ → List ℕ
  aged j u = counted_age w (elapsed (time l j) (time l i)) ∷ u

  module _ (left : List ℕ → Point → Bool) (right : Point → List (List ℕ)) where
    pair_at_lem : {p : List ℕ} → Memᴰ p (pair_rows (time l) w left right i) → (j : Point) × (u : List ℕ) × (j.0 ≤ i.0) × (inside j ≡ true) × Memᴰ u (lasting left right i j) × (aged j u ≡ p)
    pair_at_lem m =
        let (j, n, k) = gather_at (λ j. map (aged j) (lasting left right i j)) (select inside (points_from (point 0) (suc i.0))) m in
        let (a, b) = select_at inside (points_from (point 0) (suc i.0)) n in
        let r = points_at 0 (suc i.0) a in
        let (u, c, d) = Memᴰ.of_map (aged j) (lasting left right i j) k in
        (j, u, omega arith, b, c, d)

    pair_of : (j : Point) {u : List ℕ} → j.0 ≤ i.0 → inside j ≡ true → Memᴰ u (lasting left right i j) → Memᴰ (aged j u) (pair_rows (time l) w left right i)
    pair_of j a b m = gather_of (λ j. map (aged j) (lasting left right i j)) (select_of inside (points_of_lem 0 (suc i.0) (omega arith) (omega arith)) b) (Memᴰ.map (aged j) m)

  module _ (left : List ℕ → Point → Bool) {f : ℕ → Bool} {L R : Valuation → Point → Type 0} {right : Point → List (List ℕ)}
      (e : (j : Point) → Exact f (λ v. R v j) (right j)) (asked : (v : Valuation) (k : Point) → (left (cut_to f v) k ≡ true) ↔ L v k) where
    pairs-cut : {p : List ℕ} → Memᴰ p (pair_rows (time l) w left right i) → (y : ℕ) × (v : Valuation) × (p ≡ y ∷ cut_to f v)
    pairs-cut m =
        let (j, u, a, b, c, d) = pair_at_lem left right m in
        let k = (lasting-mem left right u (λ k. Iff.rfl) (λ j. Iff.rfl) i j).0 c in
        (counted_age w (elapsed (time l j) (time l i)), valuation_of u, sym d ∙ ap (aged j) ((e j).gives.cut u k.0))

    pairs-length : OfLength 5 (pair_rows (time l) w left right i)
    pairs-length p m = ap length (pairs-cut m).2

    pairs_same : (y : ℕ) (v : Valuation) → Memᴰ (y ∷ cut_to f v) (pair_rows (time l) w left right i) ↔ Aged l w (L v) (R v) i y
    pairs_same y v = (
      λ m. let (j, u, a, b, c, d) = pair_at_lem left right m in
          let t = (lasts j).0 (Memᴰ.cast (sym (tail-eq_of_cons-eq d)) c) in
          record { at = j; up_to = a; below = b; age = sym (head-eq_of_cons-eq d); there = t.0; between = t.1 },
      λ s. Memᴰ.cast (ap (λ (z : ℕ). z ∷ cut_to f v) s.age) (pair_of left right s.at s.up_to s.below ((lasts s.at).1 (s.there, s.between))),
    )
      where
        lasts : (j : Point) → Memᴰ (cut_to f v) (lasting left right i j) ↔ (R v j × ((k : Point) → suc j.0 ≤ k.0 → k.0 < suc i.0 → L v k))
        lasts = lasting-mem left right (cut_to f v) (asked v) (λ j. (e j).gives.same v) i

    exact_pairs : ExactPairs f (λ y v. Aged l w (L v) (R v) i y) (set_of (suc (lowest_of f)) (pair_rows (time l) w left right i))
    exact_pairs = record { cut = λ p m. pairs-cut ((stays p).0 m); same = λ y v. Iff.trans (stays (y ∷ cut_to f v)) (pairs_same y v); ascends = set_of_ascends (suc (lowest_of f)) (pair_rows (time l) w left right i) }
      where
        stays : (p : List ℕ) → Memᴰ p (set_of (suc (lowest_of f)) (pair_rows (time l) w left right i)) ↔ Memᴰ p (pair_rows (time l) w left right i)
        stays = set_of-mem (suc (lowest_of f)) (pair_rows (time l) w left right i) pairs-length

-- The three kinds, at every point of every log.
module _ (l : Log) (i : Point) (a b : Formula) (w : Window) where
  pub since_pairs : Fine (since a b w) → ExactPairs (free b) (λ y v. Aged l w (Holds l a v) (Holds l b v) i y) (pairs l (since a b w) i)
  since_pairs h = exact_pairs l w i (among (free a) (vals l a)) (exact l b h.1) (asked_holds (free b) (exact l a h.0) h.2)

  pub not_since_pairs : Fine (not_since a b w) → ExactPairs (free b) (λ y v. Aged l w (λ k. Holds l a v k → ⊥) (Holds l b v) i y) (pairs l (not_since a b w) i)
  not_since_pairs h = exact_pairs l w i (λ u k. not (among (free a) (vals l a) u k)) (exact l b h.1) (asked_denied (free b) (exact l a h.0) h.2)

pub once_pairs : (l : Log) (i : Point) (a : Formula) (w : Window) → Fine a → ExactPairs (free a) (λ y v. Aged l w (λ k. Unit {0}) (Holds l a v) i y) (pairs l (once a w) i)
once_pairs l i a w h = exact_pairs l w i (λ u k. true) (exact l a h) asked_always
