-- What a log that the keeper reaches stores is well formed: refusal 8 is never met from a start.
use Prim.Native.Nat.{ℕ, zero, suc, ◌+◌, ◌-◌, ◌≤◌, ◌<◌}
use native.Mathlib.Omega.{arith}
use mathlib.Core.Path.{◌≡◌, refl, sym, ◌∙◌, ap, subst}
use mathlib.Core.Bool.{Bool, true, false, not, cond, ◌&&◌, true≢false}
use mathlib.Core.Logic.{inl, inr}
use mathlib.Core.List.Memᴰ
use mathlib.Core.List.{List, [], ◌∷◌, ◌++◌, map, Memᴰ}
use lib.ListN.{length, get_or, drop, length-map}
use lib.Dec.{ltb, eqb}
use borrow.Author.Tests.{ltb-true, ltb-false, le-leb, eq-eqb, ne_eqb}
use Rattle.meaning.specs.Lists.{all, any, range, gather}
use Rattle.meaning.specs.Outcome.{given, most_open, most_kept, most_points, most_rows}
use Rattle.meaning.specs.Order.{ascending}
use Rattle.meaning.specs.Log.{Log, Ordered, Taken, in_order, point, stamp, point_before, point_after, size, time, latest, points_from, log_of}
use Rattle.meaning.specs.Formula.{Formula, free, lowest_of}
use Rattle.meaning.specs.Definition2.{Valuation}
use Rattle.meaning.specs.Evaluator.{cut_to, valuation_of, vals}
use Rattle.meaning.specs.Settled.{settled, settled_count}
use Rattle.meaning.specs.View.{view_of, children_in}
use Rattle.meaning.specs.RuleFile.{Accepted, checking, node_count, node_at, children_of, formula_of, formula_at, last_node, pattern, is_accepted}
use Rattle.meaning.specs.Kept.{counted_age, pairs, last_pairs, Entry, entry_of, point_entries, age_entries, entries_of, entries, kept, open_points}
use Rattle.meaning.specs.Keeper.{Fed, event, notice, Taking, newly_settled, backlog_of, crowded_at, grown, keeper_log}
use Rattle.meaning.specs.declared.Point.{Point}
use Rattle.meaning.specs.declared.Window.{Window}
use Rattle.meaning.specs.declared.Node.{Node}
use Rattle.meaning.specs.declared.Children.{Children}
use Rattle.meaning.specs.declared.Children.TheVariants.{None, One, Two}
use Rattle.meaning.specs.declared.Times.{Times}
use Rattle.meaning.specs.declared.Times.TheVariants.{Here, Before, After, Past, Future}
use Rattle.meaning.specs.declared.View.{View}
use Rattle.meaning.proofs.Fine.{Fine}
use Rattle.meaning.proofs.Tree.{formula_step}
use Rattle.meaning.proofs.Accepted.{accepted, lower, fine, nodes_most, last_is_node}
use Rattle.meaning.proofs.Agreement.{ascends, rows_cut}
use Rattle.meaning.proofs.Growth.{Extends, log_ordered}
use Rattle.meaning.proofs.Steady.{steady_by}
use Rattle.meaning.proofs.Settles.{UntilSettled, until_parts, since_each, present, prefix}
use Rattle.meaning.proofs.Rows.{any_of, all_of, select_of, range_at, points_of_lem, all_points, same_row_lem, words_same, words_at}
use Rattle.meaning.proofs.Points.{both, first, second, Tested, passed, failed, tested}
use Rattle.meaning.proofs.Takings.{Accepts, accepts_ordered, every_log}
use Rattle.method.specs.Stored.{Stored, least_of, first_retained, stored_of}
use Rattle.method.specs.Settle.{has_pairs}
use Rattle.method.specs.Step.{words_of, points_added, wanted_from, counts_stored, count_before, open_stored, stored_run}
use Rattle.method.specs.WellFormed.{most_times, not_falling, row_of_node, set_fits, pair_fits, pairs_fit, own_entries, node_fits, well_formed}
use Rattle.method.proofs.Least.{least_most, least_above}
use Rattle.method.proofs.Views.{children_settled, earlier, settled_by, Ended, AgedRows, PairsBy, viewed}
use Rattle.method.proofs.Counted.{Counted, end_in, counted_most, counts_length, counts_grow, upto_holds, upto_below}
use Rattle.method.proofs.Lists.{gather_each, gather_none}
use Rattle.method.proofs.Formed.{same_entries_lem}
use Rattle.method.proofs.Parents.{has_parent}
use Rattle.method.proofs.Keeps.{wanted_low, count_of, held_is, held_pairs_is, entries_run}
use Rattle.method.proofs.Turns.{from_get_d, gather_over, points_length}
use Rattle.method.proofs.Stepped.{Joins, count_before_lem, open_run, open_stored_lem, wanted_same}
use Rattle.method.proofs.Whole.{joins, whole_stored}

-- ---- what holds of every log that the keeper reaches

pub record Reached (b : List ℕ) (l : Log) : Type 0 where
  pub ordered : Ordered l
  pub few_points : size l ≤ most_points
  pub few_open : open_points b l ≤ most_open
  pub few_kept : kept b l ≤ most_kept
  pub few_rows : (x : ℕ) → x < node_count b → (j : Point) → settled l (formula_at b x) j ≡ true → length (vals l (formula_at b x) j) ≤ most_rows

-- what no element passes
none_pass : {A : Type 0} (p : A → Bool) {x : A} {xs : List A} → any p xs ≡ false → Memᴰ x xs → p x ≡ false
none_pass p {x} {xs} e m = elim (tested (p x)) [ passed t ↦ absurd (true≢false (sym (any_of p m t) ∙ e)) | failed t ↦ t ]

-- an empty log has no entries
pub empty_entries : (b : List ℕ) (x : ℕ) → entries_of b (log_of []) x ≡ []
unfolding log_of size entries_of point_entries age_entries last_pairs
empty_entries b x = go (eqb x (last_node b))
  where
    go : (t : Bool) → ◌++◌ {A = Entry} (cond t [] []) [] ≡ []
    go true = refl
    go false = refl

module _ (b : List ℕ) (a : Accepted) (ok : checking b ≡ given a) where
  empty_kept : kept b (log_of []) ≤ most_kept
  unfolding kept entries
  empty_kept = rw (gather_none (entries_of b (log_of [])) 0 (node_count b) (λ x u o. empty_entries b x)) (omega arith)

  empty_open : open_points b (log_of []) ≤ most_open
  unfolding log_of size open_points
  empty_open = omega arith

  no_points : size (log_of []) ≡ 0
  unfolding log_of size
  no_points = refl

  empty_reached : Reached b (log_of [])
  empty_reached =
      record { ordered = log_ordered [] refl; few_points = omega (arith, no_points); few_open = empty_open; few_kept = empty_kept; few_rows = λ x o j e. absurd (omega (arith, no_points, present (log_of []) (formula_at b x) j e)) }

  -- no more points are open where a log goes on by a notice
  open_falls : (l l' : Log) → Extends l l' → size l' ≡ size l → open_points b l' ≤ open_points b l
  unfolding open_points
  open_falls l l' x z =
      let p : ℕ = settled_count l (pattern b) in
      let q : ℕ = settled_count l' (pattern b) in
      let h : Counted l (pattern b) p = count_of b a ok l x.before (last_node b) (last_is_node b a ok) in
      let k : Counted l' (pattern b) q = count_of b a ok l' x.ordered (last_node b) (last_is_node b a ok) in
      omega (arith, counts_grow l l' x (pattern b) p q h k, open_run b a ok l x.before l p h, open_run b a ok l x.before l' q k)

  module _ (es : List Taken) (t : Taking) (n : ℕ) (ordered : in_order (stamp 0) es ≡ true) (r : Reached b (log_of es)) (p : Accepts b es t n) where
    abbrev l : Log
    l = log_of es

    abbrev l' : Log
    l' = log_of (grown b es t.fed)

    joined : Joins b l (words_of t.fed) l'
    joined = joins b es t.fed p.form ordered p.later

    grows : Extends l l'
    grows = joined.grows

    -- a point settled before has the rows that it had; one settled now passed 13
    rows_stay : (x : ℕ) → x < node_count b → (j : Point) → settled l' (formula_at b x) j ≡ true → length (vals l' (formula_at b x) j) ≤ most_rows
    unfolding crowded_at newly_settled
    rows_stay x o j e = go (tested (settled l (formula_at b x) j))
      where
        go : Tested (settled l (formula_at b x) j) → length (vals l' (formula_at b x) j) ≤ most_rows
        go (passed s) = rw (← steady_by l l' grows (formula_at b x) (fine b a ok x o) j s) (r.few_rows x o j s)
        go (failed s) =
            ltb-false most_rows (length (vals l' (formula_at b x) j))
            (none_pass (λ i. ltb most_rows (length (vals l' (formula_at b x) i))) (p.figures.none_crowded x o)
            (select_of (λ i. settled l' (formula_at b x) i && not (settled l (formula_at b x) i)) (points_of_lem 0 (size l') (omega arith) (omega (arith, present l' (formula_at b x) j e))) (both e (rw s))))

    -- an event passed 14; a notice adds no point
    open_stays : (f : Fed) → t.fed ≡ f → open_points b l' ≤ most_open
    open_stays (event w) e = subst (λ g. backlog_of g (open_points b l') ≤ most_open) e p.figures.few_open
    open_stays (notice u) e =
        let z : size l' ≡ size l = joined.many ∙ ap (λ g. size l + points_added (words_of g)) e ∙ omega arith in
        omega (arith, open_falls l l' grows z, r.few_open)

    step_reached : Reached b l'
    step_reached =
        record {
          ordered = grows.ordered;
          few_points = p.few_points r.few_points;
          few_open = open_stays t.fed refl;
          few_kept = p.figures.few_kept;
          few_rows = rows_stay;
        }

  pub reached : (ts : List Taking) → Reached b (log_of (keeper_log b [] ts))
  reached ts =
      (every_log b (λ es. (in_order (stamp 0) es ≡ true) × Reached b (log_of es)) (λ es t n r p. (accepts_ordered b es t r.0 n p, step_reached es t n r.0 r.1 p)) ts [] (refl, empty_reached)).1

-- ---- how far a node can lag behind the last

-- where a point is settled for a node, the point before it is for its children
module _ (l : Log) (o : Ordered l) (F : ℕ → Formula) (y : ℕ) (g : Fine (F y)) (i : Point) (h : 0 < i.0) where
  back : settled l (F y) i ≡ true → settled l (F y) (point_before i) ≡ true
  back = prefix l o (F y) g i (point_before i) (omega arith)

  -- all children together, and so each
  each : (c : Children) → Memᴰ y (children_in c) → (j : Point) → children_settled l F c j ≡ true → settled l (F y) j ≡ true
  each None m j e = absurd (Memᴰ.not-nil m)
  each (One a) m j e = subst (λ z. settled l (F z) j ≡ true) (sym (Memᴰ.eq_of_singleton m)) e
  each (Two a b) m j e = elim (Memᴰ.cases_cons m) [
    | inl q ↦ subst (λ z. settled l (F z) j ≡ true) (sym q) (first (settled l (F a) j) (settled l (F b) j) e)
    | inr q ↦ subst (λ z. settled l (F z) j ≡ true) (sym (Memᴰ.eq_of_singleton q)) (second (settled l (F a) j) (settled l (F b) j) e)
  ]

  behind_by : (w : Window) (t : Times) → Ended w t → (p : Point → Bool) → ((j : Point) → p j ≡ true → settled l (F y) j ≡ true) → settled_by l p w t i ≡ true → settled l (F y) (point_before i) ≡ true
  behind_by w Here f p k e = back (k i e)
  behind_by w Before f p k e = k (point_before i) (rw (ne_eqb i.0 0 (λ z. omega arith)) at (second (ltb i.0 (size l)) (earlier p i) e))
  behind_by w After f p k e = prefix l o (F y) g (point_after i) (point_before i) (omega arith) (k (point_after i) e)
  behind_by w Past f p k e = back (k i (since_each p i e i (omega arith)))
  behind_by w Future f p k e = let q : UntilSettled l w p i = until_parts l w p i e in back (k i (q.inner i (omega arith) q.here (omega arith)))

  behind : (n : Node) → Fine (formula_of F n) → Memᴰ y (children_of n) → settled l (formula_of F n) i ≡ true → settled l (F y) (point_before i) ≡ true
  behind n f m e = behind_by (view_of n).window (view_of n).times ((viewed F n).ended f) (children_settled l F (view_of n).children) (each (view_of n).children m) (sym ((viewed F n).settles l i) ∙ e)

-- ---- rows and pairs

-- a row that is cut down stays as it is
cut_again : (f : ℕ → Bool) (v : Valuation) → cut_to f v ≡ cut_to f (valuation_of (cut_to f v))
cut_again f v = words_same (λ x h. go x (f x) (words_at (λ y. cond (f y) (v y) 0) x h))
  where
    go : (x : ℕ) (t : Bool) {c : ℕ} → c ≡ cond t (v x) 0 → cond t (v x) 0 ≡ cond t c 0
    go x true e = sym e
    go x false e = refl

module _ (b : List ℕ) (x : ℕ) where
  -- the pairs of since: ages in range, rows of the node
  pairs_fit_lem : (w : Window) {f : ℕ → Bool} → free (formula_at b x) ≡ f → {rows : List (List ℕ)} → AgedRows f w rows → (ascending (suc (lowest_of (free (formula_at b x)))) rows && all (pair_fits b x w) rows) ≡ true
  pairs_fit_lem w {f} q {rows} e = both (ap (λ (g : ℕ → Bool). ascending (suc (lowest_of g)) rows) q ∙ e.ascends) (all_of (pair_fits b x w) rows one)
    where
      one : (p : List ℕ) → Memᴰ p rows → pair_fits b x w p ≡ true
      one p m =
          let (y, v, d, k, h) = e.each p m in
          rw (d, q) (both (both k (eq-eqb (counted_age w y) y h)) ((same_row_lem _ _).1 (cut_again f v)))

  -- no pairs fit every node
  pub no_pairs_fit : (v : View) → pairs_fit b x v [] ≡ true
  no_pairs_fit v = go (has_pairs v.times)
    where
      go : (t : Bool) → cond t true true ≡ true
      go true = refl
      go false = refl

  some-pairs_fit : {f : ℕ → Bool} → free (formula_at b x) ≡ f → (v : View) (rows : List (List ℕ)) → PairsBy f v.window rows (has_pairs v.times) → pairs_fit b x v rows ≡ true
  some-pairs_fit {f} q v rows = go (has_pairs v.times)
    where
      go : (t : Bool) → PairsBy f v.window rows t → cond t (ascending (suc (lowest_of (free (formula_at b x)))) rows && all (pair_fits b x v.window) rows) (eqb (length rows) 0) ≡ true
      go true e = pairs_fit_lem v.window q e
      go false e = rw e

-- ---- the conditions, one by one

module _ (b : List ℕ) (a : Accepted) (ok : checking b ≡ given a) (l : Log) (r : Reached b l) where
  abbrev s : Stored
  s = stored_of b l

  abbrev was : ℕ → ℕ
  was x = settled_count l (formula_at b x)

  -- a child lags at most one point behind its parent
  lags : (y : ℕ) → y < node_count b → (x : ℕ) → x < node_count b → Memᴰ y (children_of (node_at b x)) → was x ≤ was y + 1
  lags y p x o m = go (tested (ltb 1 (was x)))
    where
      step : formula_at b x ≡ formula_of (formula_at b) (node_at b x)
      step = formula_step b x (lower b (node_count b) (accepted b a ok).each x o)

      go : Tested (ltb 1 (was x)) → was x ≤ was y + 1
      go (failed e) = omega (arith, ltb-false 1 (was x) e)
      go (passed e) =
          let h : 1 < was x = ltb-true 1 (was x) e in
          let i : Point = point (was x - 1) in
          let t : settled l (formula_of (formula_at b) (node_at b x)) i ≡ true = subst (λ φ. settled l φ i ≡ true) step (upto_holds (settled l (formula_at b x)) (was x) (count_of b a ok l r.ordered x o) i (omega arith)) in
          let k : settled l (formula_at b y) (point_before i) ≡ true = behind l r.ordered (formula_at b) y (fine b a ok y p) i (omega arith) (node_at b x) (subst Fine step (fine b a ok x o)) m t in
          omega (arith, upto_below (settled l (formula_at b y)) (was y) (count_of b a ok l r.ordered y p) (point_before i) k)

  -- `open` is what the last node lags
  open_is : was (last_node b) + open_points b l ≡ size l
  unfolding open_points
  open_is =
      let n : was (last_node b) ≤ size l = counted_most l (pattern b) (was (last_node b)) (count_of b a ok l r.ordered (last_node b) (last_is_node b a ok)) in
      omega (arith, open_run b a ok l r.ordered l (was (last_node b)) (count_of b a ok l r.ordered (last_node b) (last_is_node b a ok)))

  depth : (k x : ℕ) → x < node_count b → last_node b - x ≤ k → size l ≤ was x + open_points b l + (last_node b - x)
  depth zero x o h = let e : x ≡ last_node b = omega arith in let z : was x ≡ was (last_node b) = ap was e in omega (arith, open_is)
  depth (suc k) x o h = go (depth k) (tested (ltb x (node_count b - 1)))
    where
      go : ((y : ℕ) → y < node_count b → last_node b - y ≤ k → size l ≤ was y + open_points b l + (last_node b - y)) → Tested (ltb x (node_count b - 1)) → size l ≤ was x + open_points b l + (last_node b - x)
      go rest (failed e) = let q : x ≡ last_node b = omega (arith, ltb-false x (node_count b - 1) e) in let z : was x ≡ was (last_node b) = ap was q in omega (arith, open_is)
      go rest (passed e) =
          let q : x < node_count b - 1 = ltb-true x (node_count b - 1) e in
          let (y, n, m) = has_parent b a ok x q in
          let under : x < y = lower b (node_count b) (accepted b a ok).each y n y (omega arith) x m in
          omega (arith, lags x o y n m, rest y n (omega arith))

  -- the counts that are stored
  counts_many : length (counts_stored s) ≡ node_count b
  unfolding counts_stored stored_of
  counts_many = counts_length b _ (end_in l) _ (node_count b)

  count_entry : (x : ℕ) → x < node_count b → get_or (counts_stored s) x 0 ≡ was x
  unfolding count_before
  count_entry x o = count_before_lem b a ok l r.ordered x o

  counts_are : counts_stored s ≡ map was (range 0 (node_count b))
  counts_are = from_get_d (counts_stored s) (node_count b) was counts_many count_entry

  few_times : size l - (first_retained (size l) (map was (range 0 (node_count b)))).0 ≤ most_times
  few_times =
      let h : size l - 63 ≤ least_of (size l) (map was (range 0 (node_count b))) =
      least_above (size l - 63) (size l) was (range 0 (node_count b)) (omega arith)
      (λ x m. let (u, o) = range_at 0 (node_count b) m in omega (arith, depth (last_node b - x) x (omega arith) (omega arith), r.few_open, nodes_most b a ok)) in
      omega arith

  -- the times don't fall, nor is the latest known time below the last
  run_rises : (k n : ℕ) → k + n ≤ size l → not_falling (map (λ i. (time l i).0) (points_from (point k) n) ++ (latest l).0 ∷ []) ≡ true
  run_rises k zero h = refl
  run_rises k (suc zero) h = both (le-leb (time l (point k)).0 (latest l).0 (r.ordered.late (point k) (omega arith))) refl
  run_rises k (suc (suc n)) h = both (le-leb (time l (point k)).0 (time l (point (suc k))).0 (r.ordered.steps (point k) (point (suc k)) (omega arith) (omega arith))) (run_rises (suc k) (suc n) (omega arith))

  -- each node's rows and pairs
  last_pairs_fit : (x : ℕ) → x < node_count b → pairs_fit b x (view_of (node_at b x)) (last_pairs l (formula_at b x)) ≡ true
  unfolding last_pairs
  last_pairs_fit x o = go (eqb (was x) 0)
    where
      step : formula_at b x ≡ formula_of (formula_at b) (node_at b x)
      step = formula_step b x (lower b (node_count b) (accepted b a ok).each x o)

      go : (t : Bool) → pairs_fit b x (view_of (node_at b x)) (cond t [] (pairs l (formula_at b x) (point (was x - 1)))) ≡ true
      go true = no_pairs_fit b x (view_of (node_at b x))
      go false = subst (λ φ. pairs_fit b x (view_of (node_at b x)) (pairs l φ (point (was x - 1))) ≡ true) (sym step) (some-pairs_fit b x (ap free step) (view_of (node_at b x)) _ ((viewed (formula_at b) (node_at b x)).paired (subst Fine step (fine b a ok x o)) l (point (was x - 1))))

  set_fits_lem : (x : ℕ) → x < node_count b → (j : Point) → settled l (formula_at b x) j ≡ true → set_fits b x (vals l (formula_at b x) j) ≡ true
  set_fits_lem x o j e =
      both (both (le-leb (length (vals l (formula_at b x) j)) most_rows (r.few_rows x o j e)) (ascends l (formula_at b x) (fine b a ok x o) j))
      (all_of (row_of_node b x) (vals l (formula_at b x) j) (λ u m. (same_row_lem u _).1 (rows_cut l (formula_at b x) (fine b a ok x o) j u m)))

  wanted_now : (x : ℕ) → x < node_count b → wanted_from b (count_before s) x ≡ wanted_from b was x
  wanted_now x o = wanted_same b a ok l r.ordered (count_before s) was (count_before_lem b a ok l r.ordered) x o

  node_fits_lem : (x : ℕ) → x < node_count b → node_fits s x ≡ true
  unfolding node_fits stored_of
  node_fits_lem x o =
      rw (wanted_now x o, count_before_lem b a ok l r.ordered x o, held_pairs_is b a ok l r.ordered x o)
      (both
      ((all_points _ (wanted_from b was x).0 (was x - (wanted_from b was x).0)).1
      (λ j u v. rw (held_is b a ok l r.ordered x o j u (omega (arith, wanted_low b was x)))
      (set_fits_lem x o j (upto_holds (settled l (formula_at b x)) (was x) (count_of b a ok l r.ordered x o) j (omega (arith, wanted_low b was x))))))
      (last_pairs_fit x o))

  own_entries_lem : (x : ℕ) → x < node_count b → entries_of b l x ≡ own_entries s x
  unfolding own_entries stored_of
  own_entries_lem x o =
      entries_run b a ok l r.ordered x o
      ∙ sym
      (rw (wanted_now x o, count_before_lem b a ok l r.ordered x o, held_pairs_is b a ok l r.ordered x o)
      (ap (λ es. es ++ map (λ p. entry_of x 1 (get_or p 0 0) (drop 1 p)) (last_pairs l (formula_at b x)))
      (gather_over _ (λ j. map (entry_of x 0 j.0) (vals l (formula_at b x) j)) (wanted_from b was x).0 (was x - (wanted_from b was x).0)
      (λ j u v. ap (map (entry_of x 0 j.0)) (held_is b a ok l r.ordered x o j u (omega (arith, wanted_low b was x)))))))

  entries_own : entries b l ≡ gather (own_entries s) (range 0 (node_count b))
  unfolding entries
  entries_own = gather_each (entries_of b l) (own_entries s) 0 (node_count b) (λ x u o. own_entries_lem x (omega arith))

  all_nodes_fit : (k n : ℕ) → k + n ≤ node_count b → all (node_fits s) (range k n) ≡ true
  all_nodes_fit k zero h = refl
  all_nodes_fit k (suc n) h = both (node_fits_lem k (omega arith)) (all_nodes_fit (suc k) n (omega arith))

  abbrev base : Point
  base = first_retained (size l) (map was (range 0 (node_count b)))

  base_size : base.0 ≤ size l
  base_size = let h : least_of (size l) (map was (range 0 (node_count b))) ≤ size l = least_most (size l) (map was (range 0 (node_count b))) in omega arith

  times_many : length (map (λ i. (time l i).0) (points_from base (size l - base.0))) ≡ size l - base.0
  times_many = length-map (points_from base (size l - base.0)) _ ∙ points_length base (size l - base.0)

  kept_few : length (entries b l) ≤ most_kept
  unfolding kept
  kept_few = r.few_kept

  open_few : open_stored s ≤ most_open
  open_few = rw (open_stored_lem b a ok l r.ordered) r.few_open

  -- what the log stores is well formed
  pub stored_well_formed : well_formed s ≡ true
  unfolding well_formed stored_of
  stored_well_formed =
      both (both (both (both (both (both (both (both
      (ap is_accepted ok)
      (le-leb (size l) most_points r.few_points))
      (rw times_many (le-leb (size l - base.0) most_times few_times)))
      (le-leb (open_stored s) most_open open_few))
      (eq-eqb _ _ (times_many ∙ ap (λ cs. size l - (first_retained (size l) cs).0) (sym counts_are))))
      (run_rises base.0 (size l - base.0) (omega (arith, base_size))))
      (le-leb (length (entries b l)) most_kept kept_few))
      (same_entries_lem (entries b l) (gather (own_entries s) (range 0 (node_count b))) entries_own))
      (all_nodes_fit 0 (node_count b) (omega arith))

-- No state reached from a start meets 8.
pub always_well_formed : (b : List ℕ) (a : Accepted) → checking b ≡ given a → (ts : List Taking) → well_formed (stored_run (stored_of b (log_of [])) ts) ≡ true
always_well_formed b a ok ts = rw (whole_stored b a ok ts) (stored_well_formed b a ok (log_of (keeper_log b [] ts)) (reached b a ok ts))
