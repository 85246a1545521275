-- Steadiness: the valuations at a settled point are the same on every log that goes on from this one.
use Prim.Native.Nat.{ℕ, suc, ◌+◌, ◌-◌, ◌≤◌, ◌<◌}
use mathlib.Core.Path.{◌≡◌, refl, sym, ◌∙◌, ap, ap₂}
use mathlib.Core.Bool.{Bool, true, false, not, cond, ◌&&◌, ◌||◌, false≢true}
use mathlib.Core.Logic.{◌⊎◌, inl, inr}
use mathlib.Core.List.{List, [], ◌∷◌, ◌++◌, map, append-nil}
use lib.Dec.{ltb, leb, eqb}
use borrow.Author.Tests.{ltb-true, ltb-false, lt-ltb, le-ltb, eqb-true, ne_eqb}
use native.Mathlib.Omega.{arith}
use Rattle.meaning.specs.Lists.{select, gather}
use Rattle.meaning.specs.Log.{Log, size, time, latest, elapsed, point_before, point_after, points_from}
use Rattle.meaning.specs.Formula.{Formula, atom, and, and_not, keep, or, exists, previous, next, since, not_since, until, not_until, once, eventually, in_window, compares, free, lowest_of}
use Rattle.meaning.specs.Definition2.{value}
use Rattle.meaning.specs.Evaluator.{cut_to, valuation_of, set_of, member, atom_rows, and_rows, lasting, since_rows, leading, until_rows, among, vals}
use Rattle.meaning.specs.Kept.{below_end, counted_age, pair_rows, pairs}
use Rattle.meaning.specs.Settled.{settled_since, settled_until, settled}
use Rattle.meaning.specs.declared.Point.{Point}
use Rattle.meaning.specs.declared.Window.{Window}
use Rattle.meaning.proofs.Points.{first, second, all_same, select_same, select_append, select_none, gather_same, points_from_append, Tested, passed, failed, tested}
use Rattle.meaning.proofs.Rows.{either}
use Rattle.meaning.proofs.Growth.{Extends}
use Rattle.meaning.proofs.Settles.{since_each, UntilSettled, until_parts, twin, present}
use Rattle.meaning.proofs.Fine.{Fine}

-- the same selection from the same rows
select_both : (p q : List ℕ → Bool) (rows rows' : List (List ℕ)) → ((u : List ℕ) → p u ≡ q u) → rows ≡ rows' → select p rows ≡ select q rows'
select_both p q rows rows' h e = select_same p q rows h ∙ ap (select q) e

-- since, and its pairs, on two logs with the same times, left and right up to i
module _ (l l' : Log) (w : Window) (left left' : List ℕ → Point → Bool) (right right' : Point → List (List ℕ)) (i : Point)
    (t : (j : Point) → j.0 ≤ i.0 → time l j ≡ time l' j)
    (p : (j : Point) → j.0 ≤ i.0 → (u : List ℕ) → left u j ≡ left' u j)
    (q : (j : Point) → j.0 ≤ i.0 → right j ≡ right' j) where
  lasting_same : (j : Point) → j.0 ≤ i.0 → lasting left right i j ≡ lasting left' right' i j
  lasting_same j u = select_both _ _ (right j) (right' j) (λ v. all_same (left v) (left' v) (suc j.0) (i.0 - j.0) (λ k m n. p k (omega arith) v)) (q j u)

  age_same : (j : Point) → j.0 ≤ i.0 → elapsed (time l j) (time l i) ≡ elapsed (time l' j) (time l' i)
  age_same j u = ap₂ elapsed (t j u) (t i (omega arith))

  pub since_same : since_rows (time l) w left right i ≡ since_rows (time l') w left' right' i
  since_same =
      gather_same (λ j. in_window w (elapsed (time l j) (time l i))) (λ j. in_window w (elapsed (time l' j) (time l' i)))
      (lasting left right i) (lasting left' right' i) 0 (suc i.0)
      (λ j u o. ap (in_window w) (age_same j (omega arith))) (λ j u o h. lasting_same j (omega arith))

  pub pair_same : pair_rows (time l) w left right i ≡ pair_rows (time l') w left' right' i
  pair_same =
      gather_same (λ j. below_end w (elapsed (time l j) (time l i))) (λ j. below_end w (elapsed (time l' j) (time l' i)))
      (λ j. map (λ u. counted_age w (elapsed (time l j) (time l i)) ∷ u) (lasting left right i j)) (λ j. map (λ u. counted_age w (elapsed (time l' j) (time l' i)) ∷ u) (lasting left' right' i j)) 0 (suc i.0)
      (λ j u o. ap (below_end w) (age_same j (omega arith)))
      (λ j u o h. ap₂ (λ y rows. map (λ u. counted_age w y ∷ u) rows) (age_same j (omega arith)) (lasting_same j (omega arith)))

-- a time past a window's end is outside it
pub past_end : (w : Window) (t : ℕ) → 0 < w.end → w.end ≤ t → in_window w t ≡ false
past_end w t d h = go (leb w.start t) (ne_eqb w.end 0 (λ e. omega arith)) (le-ltb t w.end h)
  where
    go : (b : Bool) → eqb w.end 0 ≡ false → ltb t w.end ≡ false → (b && (eqb w.end 0 || ltb t w.end)) ≡ false
    go true e f = rw (e, f)
    go false e f = refl

before_end : (w : Window) (t : ℕ) → 0 < w.end → in_window w t ≡ true → t < w.end
before_end w t d h = go (tested (ltb t w.end))
  where
    go : Tested (ltb t w.end) → t < w.end
    go (passed e) = ltb-true t w.end e
    go (failed e) = absurd (false≢true (sym (past_end w t d (ltb-false t w.end e)) ∙ h))

-- until on two logs of which the second goes on from the first, settled on the first, with the same left and right inside the window
pub until_same : (l l' : Log) → Extends l l' → (w : Window) → 0 < w.end → (left left' : List ℕ → Point → Bool) (right right' : Point → List (List ℕ)) (i : Point)
    → i.0 < size l → (time l i).0 + w.end ≤ (latest l).0
    → ((j : Point) → i.0 ≤ j.0 → j.0 < size l → (time l j).0 < (time l i).0 + w.end → (u : List ℕ) → left u j ≡ left' u j)
    → ((j : Point) → i.0 ≤ j.0 → j.0 < size l → (time l j).0 < (time l i).0 + w.end → right j ≡ right' j)
    → until_rows (time l) (size l) w left right i ≡ until_rows (time l') (size l') w left' right' i
until_same l l' x w d left left' right right' i n late p q =
    gather_same (λ j. in_window w (elapsed (time l i) (time l j))) chosen (leading left right i) (leading left' right' i) i.0 (size l - i.0)
    (λ j u o. ap₂ (λ s s'. in_window w (elapsed s s')) (x.times i n) (x.times j (omega arith)))
    (λ j u o h. let e : elapsed (time l i) (time l j) < w.end = before_end w (elapsed (time l i) (time l j)) d h in
    select_both _ _ (right j) (right' j)
    (λ v. all_same (left v) (left' v) i.0 (j.0 - i.0) (λ k m y. p k m (omega arith) (omega (arith, x.before.steps k j (omega arith) (omega arith))) v)) (q j u (omega arith) (omega arith)))
    ∙ ap (gather (leading left' right' i)) (sym more)
  where
    chosen : Point → Bool
    chosen j = in_window w (elapsed (time l' i) (time l' j))

    late' : (j : Point) → size l ≤ j.0 → j.0 < size l' → chosen j ≡ false
    late' j u o =
        past_end w (elapsed (time l' i) (time l' j)) d
        (omega (arith, ap (λ m. m.0) (x.times i n), x.later j u o))

    more : select chosen (points_from i (size l' - i.0)) ≡ select chosen (points_from i (size l - i.0))
    more =
        let e : size l' - i.0 ≡ (size l - i.0) + (size l' - size l) = omega (arith, x.longer) in
        rw (e, points_from_append i (size l - i.0) (size l' - size l), select_append chosen)
        (rw (select_none chosen (i.0 + (size l - i.0)) (size l' - size l) (λ j u o. late' j (omega arith) (omega (arith, x.longer)))) (append-nil _))

-- the rows of left at a point, cut down and looked up, where they are the same
among_same : (f : ℕ → Bool) (rows rows' : Point → List (List ℕ)) (j : Point) → rows j ≡ rows' j → (u : List ℕ) → among f rows u j ≡ among f rows' u j
among_same f rows rows' j e u = ap (member (cut_to f (valuation_of u))) e

module _ (l l' : Log) (x : Extends l l') where
  -- since and until over a test of the children, where left and right are the same at the points that pass it
  module _ (lowest : ℕ) (w : Window) (c : Point → Bool) (left left' : List ℕ → Point → Bool) (right right' : Point → List (List ℕ))
      (p : (j : Point) → c j ≡ true → (u : List ℕ) → left u j ≡ left' u j) (q : (j : Point) → c j ≡ true → right j ≡ right' j) (i : Point) where
    steady_since : i.0 < size l → settled_since c i ≡ true → set_of lowest (since_rows (time l) w left right i) ≡ set_of lowest (since_rows (time l') w left' right' i)
    steady_since n e =
        ap (set_of lowest)
        (since_same l l' w left left' right right' i (λ j u. x.times j (omega arith))
        (λ j u. p j (since_each c i e j u)) (λ j u. q j (since_each c i e j u)))

    steady_pairs : i.0 < size l → settled_since c i ≡ true → set_of lowest (pair_rows (time l) w left right i) ≡ set_of lowest (pair_rows (time l') w left' right' i)
    steady_pairs n e =
        ap (set_of lowest)
        (pair_same l l' w left left' right right' i (λ j u. x.times j (omega arith))
        (λ j u. p j (since_each c i e j u)) (λ j u. q j (since_each c i e j u)))

    steady_until : 0 < w.end → settled_until l w c i ≡ true → set_of lowest (until_rows (time l) (size l) w left right i) ≡ set_of lowest (until_rows (time l') (size l') w left' right' i)
    steady_until d e =
        let s : UntilSettled l w c i = until_parts l w c i e in
        ap (set_of lowest)
        (until_same l l' x w d left left' right right' i s.here s.late
        (λ j u o h. p j (s.inner j u o h)) (λ j u o h. q j (s.inner j u o h)))

  steady_previous : (lowest : ℕ) (w : Window) (rows rows' : List (List ℕ)) (i : Point) → i.0 < size l → (eqb i.0 0 ≡ true) ⊎ (rows ≡ rows')
      → set_of lowest (cond (ltb 0 i.0 && in_window w (elapsed (time l (point_before i)) (time l i))) rows []) ≡ set_of lowest (cond (ltb 0 i.0 && in_window w (elapsed (time l' (point_before i)) (time l' i))) rows' [])
  steady_previous lowest w rows rows' i n (inl z) = rw (le-ltb 0 i.0 (omega (arith, eqb-true i.0 0 z)))
  steady_previous lowest w rows rows' i n (inr e) = rw (e, x.times (point_before i) (omega arith), x.times i n)

  pub steady_by : (φ : Formula) → Fine φ → (i : Point) → settled l φ i ≡ true → vals l φ i ≡ vals l' φ i
  steady_by (atom r ts) f i e = ap (λ rows. set_of (lowest_of (free (atom r ts))) (atom_rows ts rows)) (x.rows r i (ltb-true i.0 (size l) e))
  steady_by (and a b) f i e =
      ap₂ (λ s t. set_of (lowest_of (free (and a b))) (and_rows (free a) (free b) s t)) (steady_by a f.0 i (first (settled l a i) (settled l b i) e)) (steady_by b f.1 i (second (settled l a i) (settled l b i) e))
  steady_by (and_not a b) f i e =
      ap₂ (λ s t. set_of (lowest_of (free (and_not a b))) (select (λ u. not (member (cut_to (free b) (valuation_of u)) t)) s)) (steady_by a f.0 i (first (settled l a i) (settled l b i) e)) (steady_by b f.1 i (second (settled l a i) (settled l b i) e))
  steady_by (keep a c s t) f i e = ap (λ rows. set_of (lowest_of (free (keep a c s t))) (select (λ u. compares c (value (valuation_of u) s) (value (valuation_of u) t)) rows)) (steady_by a f.0 i e)
  steady_by (or a b) f i e =
      ap₂ (λ s t. set_of (lowest_of (free (or a b))) (s ++ t)) (steady_by a f.0 i (first (settled l a i) (settled l b i) e)) (steady_by b f.1 i (second (settled l a i) (settled l b i) e))
  steady_by (exists a y) f i e = ap (λ rows. set_of (lowest_of (free (exists a y))) (map (λ u. cut_to (λ z. not (eqb z y)) (valuation_of u)) rows)) (steady_by a f.0 i e)
  steady_by (previous a w) f i e = steady_previous (lowest_of (free (previous a w))) w (vals l a (point_before i)) (vals l' a (point_before i)) i (present l (previous a w) i e)
      (go (steady_by a f (point_before i)) (either (eqb i.0 0) (settled l a (point_before i)) (second (ltb i.0 (size l)) (eqb i.0 0 || settled l a (point_before i)) e)))
    where
      go : (settled l a (point_before i) ≡ true → vals l a (point_before i) ≡ vals l' a (point_before i)) → (eqb i.0 0 ≡ true) ⊎ (settled l a (point_before i) ≡ true)
          → (eqb i.0 0 ≡ true) ⊎ (vals l a (point_before i) ≡ vals l' a (point_before i))
      go s (inl z) = inl z
      go s (inr h) = inr (s h)
  steady_by (next a w) f i e =
      let n : suc i.0 < size l = present l a (point_after i) e in
      rw (lt-ltb (suc i.0) (size l) n, lt-ltb (suc i.0) (size l') (omega (arith, x.longer)), x.times i (omega arith), x.times (point_after i) n, steady_by a f (point_after i) e)
  steady_by (since a b w) f i e =
      steady_since (lowest_of (free (since a b w))) w (twin l a b) (among (free a) (vals l a)) (among (free a) (vals l' a)) (vals l b) (vals l' b)
      (λ j h. among_same (free a) (vals l a) (vals l' a) j (steady_by a f.0 j (first (settled l a j) (settled l b j) h)))
      (λ j h. steady_by b f.1 j (second (settled l a j) (settled l b j) h)) i (present l (since a b w) i e) e
  steady_by (not_since a b w) f i e =
      steady_since (lowest_of (free (not_since a b w))) w (twin l a b) (λ u k. not (among (free a) (vals l a) u k)) (λ u k. not (among (free a) (vals l' a) u k)) (vals l b) (vals l' b)
      (λ j h u. ap not (among_same (free a) (vals l a) (vals l' a) j (steady_by a f.0 j (first (settled l a j) (settled l b j) h)) u))
      (λ j h. steady_by b f.1 j (second (settled l a j) (settled l b j) h)) i (present l (not_since a b w) i e) e
  steady_by (until a b w) f i e =
      steady_until (lowest_of (free (until a b w))) w (twin l a b) (among (free a) (vals l a)) (among (free a) (vals l' a)) (vals l b) (vals l' b)
      (λ j h. among_same (free a) (vals l a) (vals l' a) j (steady_by a f.0 j (first (settled l a j) (settled l b j) h)))
      (λ j h. steady_by b f.1 j (second (settled l a j) (settled l b j) h)) i f.3 e
  steady_by (not_until a b w) f i e =
      steady_until (lowest_of (free (not_until a b w))) w (twin l a b) (λ u k. not (among (free a) (vals l a) u k)) (λ u k. not (among (free a) (vals l' a) u k)) (vals l b) (vals l' b)
      (λ j h u. ap not (among_same (free a) (vals l a) (vals l' a) j (steady_by a f.0 j (first (settled l a j) (settled l b j) h)) u))
      (λ j h. steady_by b f.1 j (second (settled l a j) (settled l b j) h)) i f.3 e
  steady_by (once a w) f i e =
      steady_since (lowest_of (free (once a w))) w (settled l a) (λ u k. true) (λ u k. true) (vals l a) (vals l' a) (λ j h u. refl) (λ j h. steady_by a f j h) i (present l (once a w) i e) e
  steady_by (eventually a w) f i e =
      steady_until (lowest_of (free (eventually a w))) w (settled l a) (λ u k. true) (λ u k. true) (vals l a) (vals l' a) (λ j h u. refl) (λ j h. steady_by a f.0 j h) i f.1 e

  -- the pairs of a node at a settled point
  pub pairs_by : (φ : Formula) → Fine φ → (i : Point) → settled l φ i ≡ true → pairs l φ i ≡ pairs l' φ i
  pairs_by (atom r ts) f i e = refl
  pairs_by (and a b) f i e = refl
  pairs_by (and_not a b) f i e = refl
  pairs_by (keep a c s t) f i e = refl
  pairs_by (or a b) f i e = refl
  pairs_by (exists a y) f i e = refl
  pairs_by (previous a w) f i e = refl
  pairs_by (next a w) f i e = refl
  pairs_by (since a b w) f i e =
      steady_pairs (suc (lowest_of (free (since a b w)))) w (twin l a b) (among (free a) (vals l a)) (among (free a) (vals l' a)) (vals l b) (vals l' b)
      (λ j h. among_same (free a) (vals l a) (vals l' a) j (steady_by a f.0 j (first (settled l a j) (settled l b j) h)))
      (λ j h. steady_by b f.1 j (second (settled l a j) (settled l b j) h)) i (present l (since a b w) i e) e
  pairs_by (not_since a b w) f i e =
      steady_pairs (suc (lowest_of (free (not_since a b w)))) w (twin l a b) (λ u k. not (among (free a) (vals l a) u k)) (λ u k. not (among (free a) (vals l' a) u k)) (vals l b) (vals l' b)
      (λ j h u. ap not (among_same (free a) (vals l a) (vals l' a) j (steady_by a f.0 j (first (settled l a j) (settled l b j) h)) u))
      (λ j h. steady_by b f.1 j (second (settled l a j) (settled l b j) h)) i (present l (not_since a b w) i e) e
  pairs_by (until a b w) f i e = refl
  pairs_by (not_until a b w) f i e = refl
  pairs_by (once a w) f i e =
      steady_pairs (suc (lowest_of (free (once a w)))) w (settled l a) (λ u k. true) (λ u k. true) (vals l a) (vals l' a) (λ j h u. refl) (λ j h. steady_by a f j h) i (present l (once a w) i e) e
  pairs_by (eventually a w) f i e = refl
