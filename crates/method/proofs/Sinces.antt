-- since at a newly settled point: the rows and the pairs that are made straight from right's rows at the newly settled points up to it, and from the pairs held at the point before them, are those of the definitions (Lemma 9).
use Prim.Native.Nat.{ℕ, suc, ◌+◌, ◌-◌, ◌≤◌, ◌<◌, min}
use mathlib.Core.Path.{◌≡◌, refl, sym, ◌∙◌, ap, ap₂, fun_ext}
use mathlib.Core.Bool.{Bool, true, false, cond, ◌&&◌, ◌||◌, and-eq-true_iff}
use mathlib.Core.Logic.Iff
use mathlib.Core.Logic.{◌↔◌, ◌⊎◌, inl, inr}
use mathlib.Core.List.Memᴰ
use mathlib.Core.List.{List, [], ◌∷◌, ◌++◌, map, Memᴰ}
use lib.ListN.{length, get_or, drop}
use lib.Dec.{ltb, leb, eqb}
use borrow.Author.Tests.{ltb-true, ltb-false, lt-ltb, leb-true, le-leb, eqb-true, eqb-false, ne_eqb}
use native.Mathlib.Omega.{arith}
use Rattle.meaning.specs.Lists.{all, select, gather}
use Rattle.meaning.specs.Log.{point_after, point, Log, Ordered, size, time, elapsed, point_before, points_from}
use Rattle.meaning.specs.Formula.{in_window}
use Rattle.meaning.specs.Evaluator.{set_of, lasting, since_rows}
use Rattle.meaning.specs.Kept.{below_end, counted_age, pair_rows}
use Rattle.meaning.specs.Order.{OfLength}
use Rattle.meaning.specs.declared.Point.{Point}
use Rattle.meaning.specs.declared.Stamp.{Stamp}
use Rattle.meaning.specs.declared.Window.{Window}
use Rattle.meaning.proofs.Points.{both, second, all_same, select_same, Tested, passed, failed, tested}
use Rattle.meaning.proofs.Rows.{both_ways, select_at, select_of, gather_at, gather_of, points_at, points_of_lem, all_points, set_of-mem, set_of_same}
use Rattle.meaning.proofs.Agreement.{lasting-mem}
use Rattle.method.specs.Settle.{back_from, age_now, outlasts, rows_since, pairs_since}
use Rattle.method.proofs.Lists.{map_same, gather_chosen, back_at, back_of_lem}

-- A test of ages, and what is made of an age and a row: an age that was counted and has grown since does as well as the age itself, and what passes is below the window's end.
record Reading (w : Window) (test : ℕ → Bool) (made : ℕ → List ℕ → List ℕ) (words : ℕ) : Type 0 where
  tests : (a b : ℕ) → test (counted_age w a + b) ≡ test (a + b)
  makes : (a b : ℕ) (u : List ℕ) → made (counted_age w a + b) u ≡ made (a + b) u
  below : (a : ℕ) → test a ≡ true → below_end w a ≡ true
  long : (a : ℕ) (u : List ℕ) → length u ≡ 4 → length (made a u) ≡ words

module _ (w : Window) where
  abbrev paired : ℕ → List ℕ → List ℕ
  paired a u = counted_age w a ∷ u

  reads_rows : Reading w (in_window w) (λ a u. u) 4
  reads_rows = record { tests = λ a b. go a b (eqb w.end 0); makes = λ a b u. refl; below = λ a. second (leb w.start a) (below_end w a); long = λ a u e. e }
    where
      c : ℕ
      c = w.start

      go : (a b : ℕ) (t : Bool) → (leb c (cond t (min a c) a + b) && (t || ltb (cond t (min a c) a + b) w.end)) ≡ (leb c (a + b) && (t || ltb (a + b) w.end))
      go a b true = ap (λ t. t && true) (both_ways (leb c (min a c + b)) (leb c (a + b)) (λ e. le-leb c (a + b) (omega (arith, leb-true c (min a c + b) e))) (λ e. le-leb c (min a c + b) (omega (arith, leb-true c (a + b) e))))
      go a b false = refl

  reads_pairs : Reading w (below_end w) paired 5
  reads_pairs = record { tests = λ a b. tests a b (eqb w.end 0); makes = λ a b u. ap (λ (x : ℕ). x ∷ u) (ages a b (eqb w.end 0)); below = λ a e. e; long = λ a u e. ap suc e }
    where
      tests : (a b : ℕ) (t : Bool) → (t || ltb (cond t (min a w.start) a + b) w.end) ≡ (t || ltb (a + b) w.end)
      tests a b true = refl
      tests a b false = refl

      ages : (a b : ℕ) (t : Bool) → cond t (min (cond t (min a w.start) a + b) w.start) (cond t (min a w.start) a + b) ≡ cond t (min (a + b) w.start) (a + b)
      ages a b true = omega arith
      ages a b false = refl

  younger_below : {a b : ℕ} → a ≤ b → below_end w b ≡ true → below_end w a ≡ true
  younger_below {a} {b} h = go (eqb w.end 0)
    where
      go : (t : Bool) → (t || ltb b w.end) ≡ true → (t || ltb a w.end) ≡ true
      go true e = refl
      go false e = lt-ltb a w.end (omega (arith, ltb-true b w.end e))

module _ (τ : Point → Stamp) (w : Window) (left : List ℕ → Point → Bool) (right : Point → List (List ℕ)) where
  abbrev age : Point → Point → ℕ
  age i j = elapsed (τ j) (τ i)

  -- the pairs of the point before start, none at the first
  abbrev before : ℕ → Point → List (List ℕ)
  before lowest start = cond (eqb start.0 0) [] (set_of (suc lowest) (pair_rows τ w left right (point_before start)))

  lasts : (i j : Point) (u : List ℕ) → Memᴰ u (lasting left right i j) ↔ (Memᴰ u (right j) × ((k : Point) → suc j.0 ≤ k.0 → k.0 < suc i.0 → left u k ≡ true))
  lasts i j u = lasting-mem left right u (λ k. Iff.rfl) (λ k. Iff.rfl) i j

  -- a row lasts up to i if it lasts up to the point before start and left passes from start on
  lasts_on : (start i j : Point) (u : List ℕ) → j.0 < start.0 → start.0 ≤ i.0
      → Memᴰ u (lasting left right i j) ↔ (Memᴰ u (lasting left right (point_before start) j) × (all (left u) (points_from start (suc i.0 - start.0)) ≡ true))
  lasts_on start i j u o h = (
    λ m. let r = (lasts i j u).0 m in ((lasts (point_before start) j u).1 (r.0, λ k a b. r.1 k a (omega arith)), passes.1 (λ k a b. r.1 k (omega arith) (omega arith))),
    λ x. let r = (lasts (point_before start) j u).0 x.0 in
        (lasts i j u).1 (r.0, λ k a b. go k b (λ d. r.1 k a (omega arith)) (λ c d. passes.0 x.1 k c d) (tested (ltb k.0 start.0))),
  )
    where
      passes : (all (left u) (points_from start (suc i.0 - start.0)) ≡ true) ↔ ((k : Point) → start.0 ≤ k.0 → k.0 < start.0 + (suc i.0 - start.0) → left u k ≡ true)
      passes = all_points (left u) start.0 (suc i.0 - start.0)

      go : (k : Point) → k.0 < suc i.0 → (k.0 < start.0 → left u k ≡ true) → (start.0 ≤ k.0 → k.0 < start.0 + (suc i.0 - start.0) → left u k ≡ true) → Tested (ltb k.0 start.0) → left u k ≡ true
      go k b before after (passed e) = before (ltb-true k.0 start.0 e)
      go k b before after (failed e) = let c : start.0 ≤ k.0 = ltb-false k.0 start.0 e in after c (omega arith)

  module _ (test : ℕ → Bool) (made : ℕ → List ℕ → List ℕ) where
    -- what is made of the rows that last from some points up to i
    abbrev made_from : Point → List Point → List (List ℕ)
    made_from i js = gather (λ j. map (made (age i j)) (lasting left right i j)) (select (λ j. test (age i j)) js)

    abbrev Made : Point → List Point → List ℕ → Type 0
    Made i js r = (j : Point) × (u : List ℕ) × Memᴰ j js × (test (age i j) ≡ true) × Memᴰ u (lasting left right i j) × (made (age i j) u ≡ r)

    made_mem : (i : Point) (js : List Point) (r : List ℕ) → Memᴰ r (made_from i js) ↔ Made i js r
    made_mem i js r = (
      λ m. let (j, n, k) = gather_at (λ j. map (made (age i j)) (lasting left right i j)) (select (λ j. test (age i j)) js) m in
          let (a, b) = select_at (λ j. test (age i j)) js n in
          let (u, c, d) = Memᴰ.of_map (made (age i j)) (lasting left right i j) k in
          (j, u, a, b, c, d),
      λ x. gather_of (λ j. map (made (age i j)) (lasting left right i j)) (select_of (λ j. test (age i j)) x.2 x.3) (Memᴰ.cast (sym x.5) (Memᴰ.map (made (age i x.0)) x.4)),
    )

    module _ (held : List (List ℕ)) (start i : Point) where
      -- the same of the held pairs
      abbrev made_of_held : List (List ℕ)
      made_of_held = map (λ p. made (age_now τ w left right held start i p) (drop 1 p)) (select (λ p. test (age_now τ w left right held start i p) && outlasts τ w left right held start i p) held)

      abbrev straight : List (List ℕ)
      straight = made_from i (back_from i (suc i.0 - start.0)) ++ made_of_held

  rows_as_made : (held : List (List ℕ)) (start i : Point) → rows_since τ w left right held start i ≡ straight (in_window w) (λ a u. u) held start i
  unfolding rows_since
  rows_as_made held start i =
      ap (λ (f : Point → List (List ℕ)). gather f (select (λ j. in_window w (age i j)) (back_from i (suc i.0 - start.0))) ++ made_of_held (in_window w) (λ a u. u) held start i) (fun_ext (λ j. sym (map_same (lasting left right i j))))

  module _ (long : (j : Point) → OfLength 4 (right j)) {test : ℕ → Bool} {made : ℕ → List ℕ → List ℕ} {words : ℕ} (reading : Reading w test made words) where
    made_length : (i : Point) (js : List Point) → OfLength words (made_from test made i js)
    made_length i js r m =
        let (j, u, a, b, c, d) = (made_mem test made i js r).0 m in
        let e : length u ≡ 4 = long j u ((lasts i j u).0 c).0 in
        ap length (sym d) ∙ reading.long (age i j) u e

  module _ (lowest : ℕ) (long : (j : Point) → OfLength 4 (right j)) (start i : Point) (h : start.0 ≤ i.0) (times : (j k : Point) → j.0 ≤ k.0 → k.0 ≤ i.0 → (τ j).0 ≤ (τ k).0) where
    abbrev last : Point
    last = point_before start

    abbrev held : List (List ℕ)
    held = before lowest start

    held-mem : (p : List ℕ) → Memᴰ p held ↔ ((0 < start.0) × Made (below_end w) (paired w) last (points_from (point 0) (suc last.0)) p)
    held-mem p = go (tested (eqb start.0 0))
      where
        stays : Memᴰ p (set_of (suc lowest) (pair_rows τ w left right last)) ↔ Made (below_end w) (paired w) last (points_from (point 0) (suc last.0)) p
        stays = Iff.trans (set_of-mem (suc lowest) (pair_rows τ w left right last) (made_length long (reads_pairs w) last (points_from (point 0) (suc last.0))) p) (made_mem (below_end w) (paired w) last (points_from (point 0) (suc last.0)) p)

        go : Tested (eqb start.0 0) → Memᴰ p held ↔ ((0 < start.0) × Made (below_end w) (paired w) last (points_from (point 0) (suc last.0)) p)
        go (passed e) = let z : start.0 ≡ 0 = eqb-true start.0 0 e in rw e (λ m. absurd (Memᴰ.not-nil m), λ x. absurd (omega (arith, x.0)))
        go (failed e) = let z : start.0 ≡ 0 → ⊥ = eqb-false start.0 0 e in rw e (λ m. (omega arith, stays.0 m), λ x. stays.1 x.1)

    -- how much older the held pairs have grown
    abbrev by : ℕ
    by = cond (eqb start.0 0) 0 (elapsed (τ last) (τ i))

    ages_add : (j : Point) → j.0 < start.0 → age i j ≡ age last j + by
    ages_add j o = rw (ne_eqb start.0 0 (λ z. omega arith)) (omega (arith, times j last (omega arith) (omega arith), times last i (omega arith) (omega arith)))

    module _ {test : ℕ → Bool} {made : ℕ → List ℕ → List ℕ} {words : ℕ} (reading : Reading w test made words) where
      same_test : (j : Point) → j.0 < start.0 → test (counted_age w (age last j) + by) ≡ test (age i j)
      same_test j o = reading.tests (age last j) by ∙ ap test (sym (ages_add j o))

      same_made : (j : Point) (u : List ℕ) → j.0 < start.0 → made (counted_age w (age last j) + by) u ≡ made (age i j) u
      same_made j u o = reading.makes (age last j) by u ∙ ap (λ a. made a u) (sym (ages_add j o))

      abbrev points : List Point
      points = points_from (point 0) (suc i.0)

      abbrev fresh : List Point
      fresh = back_from i (suc i.0 - start.0)

      abbrev remains : List ℕ → Bool
      remains p = test (age_now τ w left right held start i p) && outlasts τ w left right held start i p

      abbrev made_now : List ℕ → List ℕ
      made_now p = made (age_now τ w left right held start i p) (drop 1 p)

      placed : {r : List ℕ} (x : Made test made i points r) → Tested (ltb x.0.0 start.0) → Memᴰ r (straight test made held start i)
      placed {r} (j, u, a, b, c, d) (passed e) =
          let o : j.0 < start.0 = ltb-true j.0 start.0 e in
          let (m, g) = (lasts_on start i j u o h).0 c in
          let y : age last j ≤ age i j = omega (arith, ages_add j o) in
          let n = (held-mem (paired w (age last j) u)).1 (omega arith, (j, u, points_of_lem 0 (suc last.0) (omega arith) (omega arith), younger_below w y (reading.below (age i j) b), m, refl)) in
          Memᴰ.append_right (made_from test made i fresh) (Memᴰ.cast (sym (same_made j u o ∙ d)) (Memᴰ.map made_now (select_of remains n (both (same_test j o ∙ b) g))))
      placed {r} (j, u, a, b, c, d) (failed e) =
          let (p, q) = points_at 0 (suc i.0) a in
          Memᴰ.append_left (made_of_held test made held start i) ((made_mem test made i fresh r).1 (j, u, back_of_lem start i (ltb-false j.0 start.0 e) (omega arith), b, c, d))

      found : {r : List ℕ} → Memᴰ r (made_from test made i fresh) ⊎ Memᴰ r (made_of_held test made held start i) → Made test made i points r
      found {r} (inl m) =
          let (j, u, a, b, c, d) = (made_mem test made i fresh r).0 m in
          let (p, q) = back_at start i h a in
          (j, u, points_of_lem 0 (suc i.0) (omega arith) (omega arith), b, c, d)
      found {r} (inr m) =
          let (p, n, e) = Memᴰ.of_map made_now (select remains held) m in
          let (k, t) = select_at remains held n in
          let (z, q) = (held-mem p).0 k in
          let (j, u, a, b, c, d) = q in
          let (x, y) = points_at 0 (suc last.0) a in
          let o : j.0 < start.0 = omega arith in
          let (f, g) = (and-eq-true_iff (test (counted_age w (age last j) + by)) (all (left u) (points_from start (suc i.0 - start.0)))).0 (rw (← d) at t) in
          (j, u, points_of_lem 0 (suc i.0) (omega arith) (omega arith), sym (same_test j o) ∙ f, (lasts_on start i j u o h).1 (c, g), sym (same_made j u o) ∙ ap made_now d ∙ e)

      -- in whatever order
      straight_right : (place : ℕ) → set_of place (straight test made held start i) ≡ set_of place (made_from test made i points)
      straight_right place =
          sym (set_of_same place (made_from test made i points) (straight test made held start i) (made_length long reading i points) (λ r. (
            λ m. let x = (made_mem test made i points r).0 m in placed x (tested (ltb x.0.0 start.0)),
            λ m. (made_mem test made i points r).1 (found (Memᴰ.append_cases (made_from test made i fresh) m)),
          )))

-- Two views of since that are the same for a turn that settles the points from start on up to i: the stamps from the point before start on, a test of left and right's rows from start on.
pub record SameSince (τ τ' : Point → Stamp) (left left' : List ℕ → Point → Bool) (right right' : Point → List (List ℕ)) (start i : Point) : Type 0 where
  pub order : start.0 ≤ i.0
  pub stamps : (j : Point) → start.0 ≤ suc j.0 → j.0 ≤ i.0 → τ j ≡ τ' j
  pub lefts : (j : Point) → start.0 ≤ j.0 → j.0 ≤ i.0 → (u : List ℕ) → left u j ≡ left' u j
  pub rights : (j : Point) → start.0 ≤ j.0 → j.0 ≤ i.0 → right j ≡ right' j

module _ {τ τ' : Point → Stamp} {left left' : List ℕ → Point → Bool} {right right' : Point → List (List ℕ)} {start i : Point} (s : SameSince τ τ' left left' right right' start i) where
  h : start.0 ≤ i.0
  h = s.order

  ages_same : (j : Point) → start.0 ≤ suc j.0 → j.0 ≤ i.0 → elapsed (τ j) (τ i) ≡ elapsed (τ' j) (τ' i)
  ages_same j u o = ap₂ elapsed (s.stamps j u o) (s.stamps i (omega (arith, h)) (omega arith))

  lasting_same : (j : Point) → start.0 ≤ j.0 → j.0 ≤ i.0 → lasting left right i j ≡ lasting left' right' i j
  lasting_same j u o =
      select_same _ _ (right j) (λ x. all_same (left x) (left' x) (suc j.0) (i.0 - j.0) (λ k a b. s.lefts k (omega arith) (omega arith) x))
      ∙ ap (select (λ x. all (left' x) (points_from (point_after j) (i.0 - j.0)))) (s.rights j u o)

  seen_same : (w : Window) (test : ℕ → Bool) (made : ℕ → List ℕ → List ℕ) (held : List (List ℕ)) → straight τ w left right test made held start i ≡ straight τ' w left' right' test made held start i
  seen_same w test made held =
      ap₂ (λ xs ys. xs ++ ys)
      (gather_chosen (λ j. test (elapsed (τ j) (τ i))) (λ j. test (elapsed (τ' j) (τ' i))) _ _ (back_from i (suc i.0 - start.0))
      (λ j m. let (u, o) = back_at start i h m in
      let e : elapsed (τ j) (τ i) ≡ elapsed (τ' j) (τ' i) = ages_same j (omega arith) o in
      (ap test e, ap₂ (λ a rows. map (made a) rows) e (lasting_same j u o))))
      (ap₂ (λ (by : ℕ) (lasts : List ℕ → Bool). map (λ p. made (get_or p 0 0 + by) (drop 1 p)) (select (λ p. test (get_or p 0 0 + by) && lasts p) held))
      (ap (cond (eqb start.0 0) 0) (ages_same (point_before start) (omega arith) (omega (arith, h))))
      (fun_ext (λ p. all_same (left (drop 1 p)) (left' (drop 1 p)) start.0 (suc i.0 - start.0) (λ k a b. s.lefts k a (omega (arith, h)) (drop 1 p)))))

  -- the same rows and pairs where the same is seen
  pub rows_agree : (w : Window) (held : List (List ℕ)) → rows_since τ w left right held start i ≡ rows_since τ' w left' right' held start i
  rows_agree w held = rows_as_made τ w left right held start i ∙ seen_same w (in_window w) (λ a u. u) held ∙ sym (rows_as_made τ' w left' right' held start i)

  pub pairs_agree : (w : Window) (held : List (List ℕ)) → pairs_since τ w left right held start i ≡ pairs_since τ' w left' right' held start i
  unfolding pairs_since
  pairs_agree w held = seen_same w (below_end w) (paired w) held

-- from what is seen of a log, and its pairs at the point before start: its rows and its pairs at point i
module _ (lowest : ℕ) (l : Log) (ordered : Ordered l) (w : Window) {τ : Point → Stamp} {left left' : List ℕ → Point → Bool} {right right' : Point → List (List ℕ)} {start i : Point}
    (s : SameSince τ (time l) left left' right right' start i) (long : (j : Point) → OfLength 4 (right' j)) (here : i.0 < size l) where
  abbrev pub pairs_held : List (List ℕ)
  pairs_held = before (time l) w left' right' lowest start

  log_right : {test : ℕ → Bool} {made : ℕ → List ℕ → List ℕ} {words : ℕ} → Reading w test made words → (place : ℕ)
      → set_of place (straight (time l) w left' right' test made pairs_held start i) ≡ set_of place (made_from (time l) w left' right' test made i (points_from (point 0) (suc i.0)))
  log_right = straight_right (time l) w left' right' lowest long start i s.order (λ j k a b. ordered.steps j k a (omega (arith, here)))

  rows_straight : set_of lowest (rows_since τ w left right pairs_held start i) ≡ set_of lowest (since_rows (time l) w left' right' i)
  rows_straight =
      ap (set_of lowest) (rows_agree s w pairs_held ∙ rows_as_made (time l) w left' right' pairs_held start i)
      ∙ log_right (reads_rows w) lowest
      ∙ ap (λ (f : Point → List (List ℕ)). set_of lowest (gather f (select (λ j. in_window w (elapsed (time l j) (time l i))) (points_from (point 0) (suc i.0))))) (fun_ext (λ j. map_same (lasting left' right' i j)))

  pairs_straight : set_of (suc lowest) (pairs_since τ w left right pairs_held start i) ≡ set_of (suc lowest) (pair_rows (time l) w left' right' i)
  unfolding pairs_since
  pairs_straight = ap (set_of (suc lowest)) (pairs_agree s w pairs_held) ∙ log_right (reads_pairs w) (suc lowest)

  pub rows_and_pairs : (set_of lowest (rows_since τ w left right pairs_held start i) ≡ set_of lowest (since_rows (time l) w left' right' i)) × (set_of (suc lowest) (pairs_since τ w left right pairs_held start i) ≡ set_of (suc lowest) (pair_rows (time l) w left' right' i))
  rows_and_pairs = (rows_straight, pairs_straight)
