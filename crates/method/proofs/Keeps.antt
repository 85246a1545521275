-- What is kept, as runs of points: each node's rows from the first point that its parent still consults, and its pairs; and how they are read off the entries again.
use Prim.Native.Nat.{ℕ, zero, suc, ◌+◌, ◌-◌, ◌≤◌, ◌<◌, min}
use native.Mathlib.Omega.{arith}
use mathlib.Core.Path.{◌≡◌, refl, sym, ◌∙◌, ap, subst, fun_ext}
use mathlib.Core.Bool.{Bool, true, false, not, cond, ◌&&◌, false≢true}
use mathlib.Core.List.Memᴰ
use mathlib.Core.List.{List, [], ◌∷◌, ◌++◌, map, Memᴰ}
use lib.ListN.{get_or, drop}
use lib.Dec.{ltb, leb, eqb}
use borrow.Author.Tests.{ltb-true, ltb-false, le-ltb, leb-true, le-leb, lt-leb, eqb-true, eq-eqb, eqb-false, ne_eqb, not-true}
use Rattle.meaning.specs.Lists.{any, range, select, gather}
use Rattle.meaning.specs.Outcome.{given}
use Rattle.meaning.specs.Log.{Log, Ordered, point, size, points_from, points_of}
use Rattle.meaning.specs.Formula.{Formula}
use Rattle.meaning.specs.Evaluator.{vals}
use Rattle.meaning.specs.Settled.{settled, settled_count}
use Rattle.meaning.specs.View.{view_of}
use Rattle.meaning.specs.RuleFile.{Accepted, checking, node_count, node_at, children_of, formula_of, formula_at, last_node}
use Rattle.meaning.specs.Kept.{pairs, last_pairs, consulted, Entry, entry_of, parent_of, point_entries, age_entries, entries_of, entries}
use Rattle.meaning.specs.declared.Point.{Point}
use Rattle.meaning.specs.declared.Window.{Window}
use Rattle.meaning.specs.declared.Node.{Node}
use Rattle.meaning.specs.declared.Times.{Times}
use Rattle.meaning.specs.declared.Times.TheVariants.{Here, Before, After, Past, Future}
use Rattle.meaning.proofs.Points.{first, second, both, Tested, passed, failed, tested}
use Rattle.meaning.proofs.Rows.{both_ways}
use Rattle.method.specs.Stored.{held, held_pairs}
use Rattle.method.specs.Settle.{has_pairs}
use Rattle.method.specs.Step.{first_wanted, wanted_from}
use Rattle.meaning.proofs.Fine.{Fine}
use Rattle.meaning.proofs.Tree.{formula_step}
use Rattle.meaning.proofs.Accepted.{accepted, lower, fine}
use Rattle.method.proofs.Views.{consults_by, PairsBy, viewed}
use Rattle.method.proofs.Counted.{Counted, counted_most, count_counted}
use Rattle.method.proofs.Parents.{parent_is, has_parent}
use Rattle.method.proofs.Lists.{any_is, select_run, gather_each}
use Rattle.method.proofs.Held

-- ---- the points that a parent still consults, with p of its points settled

-- the test that an unsettled point i of the parent consults j, over those that may
module _ (l : Log) (φ : Formula) (p : ℕ) (counted : Counted l φ p) (j : ℕ) where
  unsettled : (i : ℕ) → p ≤ i → not (settled l φ (point i)) ≡ true
  unsettled i h = rw (counted (point i), le-ltb i p h)

  past : (i : ℕ) → not (settled l φ (point i)) ≡ true → p ≤ i
  past i e = ltb-false i p (sym (counted (point i)) ∙ not-true (settled l φ (point i)) e)

  -- one point consults j
  consult_one : (c : ℕ → Bool) (i : ℕ) → i < j + 2 → ((k : ℕ) → c k ≡ true → k ≡ i) → c i ≡ true → any (λ k. not (settled l φ (point k)) && c k) (range 0 (j + 2)) ≡ leb p i
  consult_one c i o only here =
      any_is (λ k. not (settled l φ (point k)) && c k) (j + 2) (leb p i)
      (λ k u e. le-leb p i (let h : k ≡ i = only k (second (not (settled l φ (point k))) (c k) e) in omega (arith, past k (first (not (settled l φ (point k))) (c k) e))))
      (λ e. (i, o, both (unsettled i (leb-true p i e)) here))

  -- no point does
  consult_none : (c : ℕ → Bool) (t : Bool) → t ≡ false → ((k : ℕ) → c k ≡ false) → any (λ k. not (settled l φ (point k)) && c k) (range 0 (j + 2)) ≡ t
  consult_none c t e none =
      any_is (λ k. not (settled l φ (point k)) && c k) (j + 2) t
      (λ k u h. absurd (false≢true (sym (none k) ∙ second (not (settled l φ (point k))) (c k) h)))
      (λ h. absurd (false≢true (sym e ∙ h)))

  -- every point up to j does
  consult_up : any (λ k. not (settled l φ (point k)) && leb k j) (range 0 (j + 2)) ≡ leb p j
  consult_up =
      any_is (λ k. not (settled l φ (point k)) && leb k j) (j + 2) (leb p j)
      (λ k u e. le-leb p j (omega (arith, past k (first (not (settled l φ (point k))) (leb k j) e), leb-true k j (second (not (settled l φ (point k))) (leb k j) e))))
      (λ e. (j, omega arith, both (unsettled j (leb-true p j e)) (le-leb j j (omega arith))))

  consult_same : any (λ k. not (settled l φ (point k)) && eqb j k) (range 0 (j + 2)) ≡ leb p j
  consult_same = consult_one (eqb j) j (omega arith) (λ k e. sym (eqb-true j k e)) (eq-eqb j j refl)

-- what the parent's times say, of a formula that consults as they do
module _ (l : Log) (φ : Formula) (p : ℕ) (c : Counted l φ p) (j : Point) where
  from_times : (t : Times) → any (λ i. not (settled l φ (point i)) && consults_by t (point i) j) (range 0 (j.0 + 2)) ≡ leb (first_wanted t p).0 j.0
  from_times Here = consult_same l φ p c j.0
  from_times Before =
      consult_one l φ p c j.0 (λ k. eqb (suc j.0) k) (suc j.0) (omega arith) (λ k e. sym (eqb-true (suc j.0) k e)) (eq-eqb (suc j.0) (suc j.0) refl) ∙ shift
    where
      shift : leb p (suc j.0) ≡ leb (p - 1) j.0
      shift = both_ways (leb p (suc j.0)) (leb (p - 1) j.0) (λ e. le-leb (p - 1) j.0 (omega (arith, leb-true p (suc j.0) e))) (λ e. le-leb p (suc j.0) (omega (arith, leb-true (p - 1) j.0 e)))
  from_times After = go j.0 refl
    where
      shift : (k : ℕ) → leb p k ≡ leb (p + 1) (suc k)
      shift k = both_ways (leb p k) (leb (p + 1) (suc k)) (λ e. le-leb (p + 1) (suc k) (omega (arith, leb-true p k e))) (λ e. le-leb p k (omega (arith, leb-true (p + 1) (suc k) e)))

      go : (k : ℕ) → j.0 ≡ k → any (λ i. not (settled l φ (point i)) && eqb k (suc i)) (range 0 (k + 2)) ≡ leb (p + 1) k
      go zero e = consult_none l φ p c 0 (λ i. eqb 0 (suc i)) (leb (p + 1) 0) (lt-leb (p + 1) 0 (omega arith)) (λ i. ne_eqb 0 (suc i) (λ d. omega arith))
      go (suc k) e = consult_one l φ p c (suc k) (λ i. eqb (suc k) (suc i)) k (omega arith) (λ i d. let q : suc k ≡ suc i = eqb-true (suc k) (suc i) d in omega arith) (eq-eqb (suc k) (suc k) refl) ∙ shift k
  from_times Past = consult_same l φ p c j.0
  from_times Future = consult_up l φ p c j.0

pub consulted-from : (l : Log) (F : ℕ → Formula) (n : Node) (p : ℕ) → Counted l (formula_of F n) p → (y : ℕ) → Memᴰ y (children_of n) → (j : Point) → consulted l (formula_of F n) j ≡ leb (first_wanted (view_of n).times p).0 j.0
unfolding consulted
consulted-from l F n p c y m j =
    ap (λ (t : ℕ → Bool). any (λ i. not (settled l (formula_of F n) (point i)) && t i) (range 0 (j.0 + 2))) (fun_ext (λ i. (viewed F n).asks y m (point i) j))
    ∙ from_times l (formula_of F n) p c j (view_of n).times

-- ---- a pair is an age and a row

pair_whole_in : (f : ℕ → Bool) (w : Window) (rows : List (List ℕ)) (t : Bool) → PairsBy f w rows t → (p : List ℕ) → Memᴰ p rows → get_or p 0 0 ∷ drop 1 p ≡ p
pair_whole_in f w rows true e p m = let (y, v, d, k, h) = e.each p m in rw d
pair_whole_in f w rows false e p m = absurd (Memᴰ.not-nil (rw e at m))

-- ---- a node's entries as runs

-- a node's rows are wanted from no later than its first unsettled point
pub wanted_low : (b : List ℕ) (c : ℕ → ℕ) (x : ℕ) → (wanted_from b c x).0 ≤ c x
unfolding wanted_from
wanted_low b c x = go (eqb x (last_node b)) _
  where
    go : (t : Bool) (f : ℕ) → cond t (c x) (min (c x) f) ≤ c x
    go true f = omega arith
    go false f = omega arith

module _ (b : List ℕ) (a : Accepted) (ok : checking b ≡ given a) (l : Log) (ordered : Ordered l) where
  abbrev pub count_in : ℕ → ℕ
  count_in x = settled_count l (formula_at b x)

  pub count_of : (x : ℕ) → x < node_count b → Counted l (formula_at b x) (count_in x)
  count_of x o = count_counted l (formula_at b x) ordered (fine b a ok x o)

  -- the points at which a node that isn't the last keeps its rows
  kept_run : (x : ℕ) → x < node_count b - 1
      → select (λ j. settled l (formula_at b x) j && consulted l (formula_at b (parent_of b x)) j) (points_of l) ≡ points_from (wanted_from b count_in x) (count_in x - (wanted_from b count_in x).0)
  unfolding wanted_from
  kept_run x o =
      let (p, n, m) = has_parent b a ok x o in
      let e : parent_of b x ≡ p = parent_is b a ok p n x m in
      let lo : ℕ = min (count_in x) (first_wanted (view_of (node_at b p)).times (count_in p)).0 in
      let z : eqb x (last_node b) ≡ false = ne_eqb x (last_node b) (λ d. omega arith) in
      rw (z, e)
      (select_run (λ j. settled l (formula_at b x) j && consulted l (formula_at b p) j) (size l) lo (count_in x) (omega arith)
      (counted_most l (formula_at b x) (count_in x) (count_of x (omega arith)))
      (λ j h. rw (count_of x (omega arith) j, asked p n m j) (ends (count_in x) (first_wanted (view_of (node_at b p)).times (count_in p)).0 j.0)))
    where
      asked : (p : ℕ) → p < node_count b → Memᴰ x (children_of (node_at b p)) → (j : Point) → consulted l (formula_at b p) j ≡ leb (first_wanted (view_of (node_at b p)).times (count_in p)).0 j.0
      asked p n m j =
          let step : formula_at b p ≡ formula_of (formula_at b) (node_at b p) = formula_step b p (lower b (node_count b) (accepted b a ok).each p n) in
          ap (λ φ. consulted l φ j) step ∙ consulted-from l (formula_at b) (node_at b p) (count_in p) (subst (λ φ. Counted l φ (count_in p)) step (count_of p n)) x m j

      ends : (c f j : ℕ) → (ltb j c && leb f j) ≡ (leb (min c f) j && ltb j c)
      ends c f j = both_ways (ltb j c && leb f j) (leb (min c f) j && ltb j c)
          (λ e. both (le-leb (min c f) j (omega (arith, leb-true f j (second (ltb j c) (leb f j) e)))) (first (ltb j c) (leb f j) e))
          (λ e. let u : j < c = ltb-true j c (second (leb (min c f) j) (ltb j c) e) in both (second (leb (min c f) j) (ltb j c) e) (le-leb f j (omega (arith, leb-true (min c f) j (first (leb (min c f) j) (ltb j c) e)))))

  -- the last node keeps no rows
  last_wanted : (x : ℕ) → eqb x (last_node b) ≡ true → count_in x - (wanted_from b count_in x).0 ≡ 0
  unfolding wanted_from
  last_wanted x e = rw e (omega arith)

  abbrev pub row_entries : ℕ → List Entry
  row_entries x = gather (λ j. map (entry_of x 0 j.0) (vals l (formula_at b x) j)) (points_from (wanted_from b count_in x) (count_in x - (wanted_from b count_in x).0))

  abbrev pub pair_entries : ℕ → List Entry
  pair_entries x = map (λ p. entry_of x 1 (get_or p 0 0) (drop 1 p)) (last_pairs l (formula_at b x))

  row_entries_lem : (x : ℕ) → x < node_count b - 1 → point_entries b l x ≡ row_entries x
  unfolding point_entries
  row_entries_lem x o = ap (gather (λ j. map (entry_of x 0 j.0) (vals l (formula_at b x) j))) (kept_run x o)

  pub entries_run : (x : ℕ) → x < node_count b → entries_of b l x ≡ row_entries x ++ pair_entries x
  unfolding entries_of age_entries
  entries_run x o = ap (λ es. es ++ pair_entries x) (go (tested (eqb x (last_node b))))
    where
      none : eqb x (last_node b) ≡ true → [] ≡ row_entries x
      none e = ap (λ k. gather (λ j. map (entry_of x 0 j.0) (vals l (formula_at b x) j)) (points_from (wanted_from b count_in x) k)) (sym (last_wanted x e))

      go : Tested (eqb x (last_node b)) → cond (eqb x (last_node b)) [] (point_entries b l x) ≡ row_entries x
      go (passed e) = rw e (none e)
      go (failed e) = let d : x ≡ last_node b → ⊥ = eqb-false x (last_node b) e in rw e (row_entries_lem x (omega arith))

  -- ---- rows and pairs read off the entries

  -- a kept pair is an age and a row
  pair_whole : (x : ℕ) → x < node_count b → (p : List ℕ) → Memᴰ p (last_pairs l (formula_at b x)) → get_or p 0 0 ∷ drop 1 p ≡ p
  unfolding last_pairs
  pair_whole x o p m = go (settled_count l (formula_at b x)) m
    where
      step : formula_at b x ≡ formula_of (formula_at b) (node_at b x)
      step = formula_step b x (lower b (node_count b) (accepted b a ok).each x o)

      whole : (i : Point) → Memᴰ p (pairs l (formula_at b x) i) → get_or p 0 0 ∷ drop 1 p ≡ p
      whole i h = pair_whole_in _ (view_of (node_at b x)).window _ (has_pairs (view_of (node_at b x)).times) ((viewed (formula_at b) (node_at b x)).paired (subst Fine step (fine b a ok x o)) l i) p (subst (λ φ. Memᴰ p (pairs l φ i)) step h)

      go : (k : ℕ) → Memᴰ p (cond (eqb k 0) [] (pairs l (formula_at b x) (point (k - 1)))) → get_or p 0 0 ∷ drop 1 p ≡ p
      go k h = elim (tested (eqb k 0)) [ passed t ↦ absurd (Memᴰ.not-nil (rw t at h)) | failed t ↦ whole (point (k - 1)) (rw t at h) ]

  -- the entries are the nodes' in turn
  entries-runs : entries b l ≡ gather (λ x. row_entries x ++ pair_entries x) (range 0 (node_count b))
  unfolding entries
  entries-runs = gather_each (entries_of b l) (λ x. row_entries x ++ pair_entries x) 0 (node_count b) (λ x u o. entries_run x (omega arith))

  abbrev runs : ℕ → ℕ
  runs x = count_in x - (wanted_from b count_in x).0

  pub held_is : (x : ℕ) → x < node_count b → (j : Point) → (wanted_from b count_in x).0 ≤ j.0 → j.0 < count_in x → held (entries b l) x j ≡ vals l (formula_at b x) j
  held_is x o j u n =
      ap (λ es. held es x j) entries-runs
      ∙ Held.held_is (wanted_from b count_in) runs (λ y. vals l (formula_at b y)) (λ y. last_pairs l (formula_at b y)) (node_count b) x o j u (omega arith)

  pub held_pairs_is : (x : ℕ) → x < node_count b → held_pairs (entries b l) x ≡ last_pairs l (formula_at b x)
  held_pairs_is x o =
      ap (λ es. held_pairs es x) entries-runs
      ∙ Held.held_pairs_is (wanted_from b count_in) runs (λ y. vals l (formula_at b y)) (λ y. last_pairs l (formula_at b y)) (node_count b) x o (pair_whole x o)
