-- What an accessor gives from one number up to another: that each passes and stands before the next, said of each number and of the list.
use Prim.Native.Nat.{ℕ, zero, suc, ◌+◌, ◌-◌, ◌≤◌, ◌<◌}
use native.Mathlib.Omega.{arith}
use mathlib.Core.Path.{◌≡◌, refl, sym, ◌∙◌}
use mathlib.Core.Bool.{Bool, true, false, cond, ◌&&◌, true≢false}
use mathlib.Core.List.{List, map}
use lib.ListN.{length}
use lib.Dec.{leb, ltb}
use borrow.Author.Tests.{lt-ltb, ltb-true, ltb-false, le-leb, lt-leb, leb-true, leb-false}
use Rattle.meaning.specs.Lists.{all, range}
use Rattle.meaning.specs.Outcome.{most_rows}
use Rattle.meaning.specs.Order.{before, ascending}
use Rattle.meaning.specs.Formula.{lowest_of}
use Rattle.meaning.specs.declared.Window.{Window}
use Rattle.meaning.proofs.Points.{Tested, passed, failed, tested, first, second, both}
use Rattle.rowset.specs.Rows.{row_at, rows_from}
use Rattle.rowset.proofs.Runs.{run_first, run_end, rows_length}
use Rattle.kinds.specs.Kinds.{in_mask, pair_at, pairs_from}
use Rattle.formed.specs.Tests.{row_cut, rows_fit, pair_cut, aged_fit, Rising}

regroup : (a b c d : Bool) → ((a && b) && (c && d)) ≡ ((c && a) && (b && d))
regroup true true c d = go c
  where
    go : (c : Bool) → (c && d) ≡ ((c && true) && d)
    go true = refl
    go false = refl
regroup true false true d = refl
regroup true false false d = refl
regroup false b true d = refl
regroup false b false d = refl

module _ (lowest : ℕ) (at : ℕ → List ℕ) (p : List ℕ → Bool) (to : ℕ) where
  -- the one at i passes, and stands before the next, if there is one
  abbrev steps_up : ℕ → Bool
  steps_up i = p (at i) && cond (ltb (i + 1) to) (before lowest (at i) (at (i + 1))) true

  -- all from i on
  abbrev pub passes_from : ℕ → Bool
  passes_from i = ascending lowest (map at (range i (to - i))) && all p (map at (range i (to - i)))

  passes_more : (i : ℕ) → i < to → passes_from i ≡ (steps_up i && passes_from (i + 1))
  passes_more i l = go (tested (ltb (i + 1) to))
    where
      go : Tested (ltb (i + 1) to) → passes_from i ≡ (steps_up i && passes_from (i + 1))
      go (passed t) =
          let m : i + 1 < to = ltb-true (i + 1) to t in
          rw (run_first at to i l, run_first at to (i + 1) m, t) (regroup (before lowest (at i) (at (i + 1))) _ (p (at i)) _)
      go (failed t) =
          let m : to ≤ i + 1 = ltb-false (i + 1) to t in
          rw (run_first at to i l, run_end at to (i + 1) m, t) (regroup true true (p (at i)) true)

  module _ (from : ℕ) where
    pub rising_passes : Rising lowest at p from to → passes_from from ≡ true
    rising_passes h = go (to - from) from refl (omega arith)
      where
        step : (i : ℕ) → from ≤ i → i < to → Tested (ltb (i + 1) to) → steps_up i ≡ true
        step i u l (passed t) = rw (h.each i u l, t) (h.up i u (ltb-true (i + 1) to t))
        step i u l (failed t) = rw (h.each i u l, t)

        go : (m i : ℕ) → to - i ≡ m → from ≤ i → passes_from i ≡ true
        go zero i e u = rw (run_end at to i (omega arith))
        go (suc m) i e u = passes_more i (omega arith) ∙ both (step i u (omega arith) (tested (ltb (i + 1) to))) (go m (i + 1) (omega arith) (omega arith))

    module _ (t : passes_from from ≡ true) where
      reached : (d : ℕ) → from + d ≤ to → passes_from (from + d) ≡ true
      reached zero l = let z : from + 0 ≡ from = omega arith in rw z t
      reached (suc d) l =
          let z : from + suc d ≡ from + d + 1 = omega arith in
          rw z (second (steps_up (from + d)) (passes_from (from + d + 1)) (sym (passes_more (from + d) (omega arith)) ∙ reached d (omega arith)))

      step_at : (i : ℕ) → from ≤ i → i < to → steps_up i ≡ true
      step_at i u l =
          let z : from + (i - from) ≡ i = omega arith in
          first (steps_up i) (passes_from (i + 1)) (sym (passes_more i l) ∙ rw z at (reached (i - from) (omega arith)))

      pub passes_rising : Rising lowest at p from to
      passes_rising =
          record {
            each = λ i u l. first (p (at i)) (cond (ltb (i + 1) to) (before lowest (at i) (at (i + 1))) true) (step_at i u l);
            up = λ i u l. rw (lt-ltb (i + 1) to l) at (second (p (at i)) (cond (ltb (i + 1) to) (before lowest (at i) (at (i + 1))) true) (step_at i u (omega arith)));
          }

-- ---- rows and pairs in words

module _ (vs : List ℕ) (mask from to : ℕ) where
  rows_many : most_rows < to - from → false ≡ rows_fit mask (rows_from vs from (to - from))
  rows_many l = rw (lt-leb (length (rows_from vs from (to - from))) most_rows (omega (arith, rows_length vs from (to - from))))

  rows_fit_lem : to - from ≤ most_rows → passes_from (lowest_of (in_mask mask)) (row_at vs) (row_cut mask) to from ≡ rows_fit mask (rows_from vs from (to - from))
  unfolding rows_from
  rows_fit_lem l = rw (le-leb (length (rows_from vs from (to - from))) most_rows (omega (arith, rows_length vs from (to - from))))

  pub rows_of_lem : to - from ≤ most_rows → Rising (lowest_of (in_mask mask)) (row_at vs) (row_cut mask) from to → rows_fit mask (rows_from vs from (to - from)) ≡ true
  rows_of_lem l h = sym (rows_fit_lem l) ∙ rising_passes (lowest_of (in_mask mask)) (row_at vs) (row_cut mask) to from h

  pub rows_rise : rows_fit mask (rows_from vs from (to - from)) ≡ true → (to - from ≤ most_rows) × Rising (lowest_of (in_mask mask)) (row_at vs) (row_cut mask) from to
  rows_rise t = go (tested (leb (to - from) most_rows))
    where
      go : Tested (leb (to - from) most_rows) → (to - from ≤ most_rows) × Rising (lowest_of (in_mask mask)) (row_at vs) (row_cut mask) from to
      go (passed e) = let l : to - from ≤ most_rows = leb-true (to - from) most_rows e in (l, passes_rising (lowest_of (in_mask mask)) (row_at vs) (row_cut mask) to from (rows_fit_lem l ∙ t))
      go (failed e) = absurd (true≢false (sym t ∙ sym (rows_many (leb-false (to - from) most_rows e))))

pub pairs_fit_lem : (ns vs : List ℕ) (mask : ℕ) (w : Window) (from to : ℕ) → passes_from (suc (lowest_of (in_mask mask))) (pair_at ns vs) (pair_cut mask w) to from ≡ aged_fit mask w (pairs_from ns vs from (to - from))
unfolding pairs_from
pairs_fit_lem ns vs mask w from to = refl
