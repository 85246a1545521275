-- From a well-formed state, whether or not a log reaches it: the rows that a node's turn holds at a point ascend, and are 0 at variables that aren't free in the node.
use Prim.Native.Nat.{ℕ, zero, suc, ◌-◌, ◌≤◌, ◌<◌}
use native.Mathlib.Omega.{arith}
use mathlib.Core.Path.{◌≡◌, refl, sym, subst}
use mathlib.Core.Bool.{Bool, true, ◌&&◌}
use mathlib.Core.Logic.Iff
use mathlib.Core.Logic.{inl, inr}
use mathlib.Core.List.Memᴰ
use mathlib.Core.List.{List, [], ◌∷◌, ◌++◌, map, Memᴰ}
use lib.ListN.{get_or, drop}
use lib.Dec.{ltb}
use Rattle.meaning.specs.Lists.{select, gather}
use Rattle.meaning.specs.Order.{ascending}
use Rattle.meaning.specs.Log.{point, elapsed, point_before, point_after, points_from}
use Rattle.meaning.specs.Formula.{Formula, in_window, free, lowest_of, terms_of}
use Rattle.meaning.specs.Evaluator.{cut_to, valuation_of, set_of, lasting, leading, until_rows}
use Rattle.meaning.specs.Exact.{Exact}
use Rattle.meaning.specs.View.{view_of}
use Rattle.meaning.specs.RuleFile.{node_count, node_at, children_of, formula_of, formula_at}
use Rattle.meaning.specs.declared.Point.{Point}
use Rattle.meaning.specs.declared.Window.{Window}
use Rattle.meaning.specs.declared.Node.{Node}
use Rattle.meaning.specs.declared.Node.TheVariants.{Atom, And, AndNot, Keep, Or, Exists, Previous, Next, Since, NotSince, Until, NotUntil, Once, Eventually}
use Rattle.meaning.specs.declared.View.{View}
use Rattle.meaning.proofs.Fine.{Fine}
use Rattle.meaning.proofs.Tree.{formula_step}
use Rattle.meaning.proofs.Accepted.{accepted, lower, fine}
use Rattle.meaning.proofs.Agreement.{gives_or, gives_exists, gives_and, gives_atom}
use Rattle.meaning.proofs.Points.{first, second}
use Rattle.meaning.proofs.Rows.{all_at, cond_at, select_at, gather_at, same_row_lem, insert_all_at, set_of_ascends}
use Rattle.method.specs.Stored.{Stored, held, held_pairs}
use Rattle.method.specs.Settle.{Inputs, fresh, rows_since, candidates, settle, rows_of_turn}
use Rattle.method.specs.Step.{wanted_from, new_rows, turn_of, inputs_of, turns_to, rows_taken, stamps_now, count_before, count_after, turn}
use Rattle.method.specs.WellFormed.{row_of_node, set_fits, pair_fits, pairs_fit, node_fits, Formed}
use Rattle.method.proofs.Rowed.{pairs_each}
use Rattle.method.proofs.Bounds.{by_children}
use Rattle.method.proofs.Inputs.{one, two}
use Rattle.method.proofs.Turns.{turns_at, turns_seen}

-- the row is 0 at variables outside f
abbrev pub Cut : (ℕ → Bool) → List ℕ → Type 0
Cut f u = u ≡ cut_to f (valuation_of u)

-- the rows of a node with free variables f at a point: they ascend, and are 0 at other variables
pub record RowsOf (f : ℕ → Bool) (rows : List (List ℕ)) : Type 0 where
  pub ascends : ascending (lowest_of f) rows ≡ true
  pub cut : (u : List ℕ) → Memᴰ u rows → Cut f u

-- its pairs, each an age and such a row
record PairsOf (f : ℕ → Bool) (ps : List (List ℕ)) : Type 0 where
  cut : (p : List ℕ) → Memᴰ p ps → Cut f (drop 1 p)

set_at : (lowest : ℕ) {r : List ℕ} (rows : List (List ℕ)) → Memᴰ r (set_of lowest rows) → Memᴰ r rows
set_at lowest rows m = elim (insert_all_at lowest [] rows m) [ inl k ↦ absurd (Memᴰ.not-nil k) | inr k ↦ k ]

-- such rows give the valuations that they are, so that what is shown of each kind for the evaluator serves here too
exactly : {f : ℕ → Bool} {rows : List (List ℕ)} → RowsOf f rows → Exact f (λ v. Memᴰ (cut_to f v) rows) rows
exactly r = record { gives = record { cut = r.cut; same = λ v. Iff.rfl }; ascends = r.ascends }

-- what holds of every element holds of the one at a place
at_place : {A : Type 0} (P : A → Type 0) {d : A} → P d → (xs : List A) → ((x : A) → Memᴰ x xs → P x) → (k : ℕ) → P (get_or xs k d)
at_place P p [] h k = p
at_place P p (x ∷ xs) h zero = h x (Memᴰ.head refl)
at_place P p (x ∷ xs) h (suc k) = at_place P p xs (λ y m. h y (Memᴰ.tail m)) k

-- ---- a node at newly settled points

module _ (v : Inputs) {f : ℕ → Bool} where
  until_cut : (n : ℕ) (w : Window) (left : List ℕ → Point → Bool) (right : Point → List (List ℕ)) (i : Point) → ((j : Point) → RowsOf f (right j))
      → (u : List ℕ) → Memᴰ u (until_rows v.stamps n w left right i) → Cut f u
  until_cut n w left right i r u m =
      let (j, a, k) = gather_at (leading left right i) (select (λ j. in_window w (elapsed (v.stamps i) (v.stamps j))) (points_from i (n - i.0))) m in
      (r j).cut u (select_at _ (right j) k).0

  since_cut : (w : Window) (left : List ℕ → Point → Bool) (right : Point → List (List ℕ)) (held : List (List ℕ)) (start i : Point) → ((j : Point) → RowsOf f (right j)) → PairsOf f held
      → (u : List ℕ) → Memᴰ u (rows_since v.stamps w left right held start i) → Cut f u
  unfolding rows_since
  since_cut w left right held start i r c u m = elim (Memᴰ.append_cases (gather (lasting left right i) new) m) [
    | inl k ↦ let (j, a, n) = gather_at (lasting left right i) new k in (r j).cut u (select_at _ (right j) n).0
    | inr k ↦ let (p, n, e) = Memᴰ.of_map (drop 1) _ k in subst (Cut f) e (c.cut p (select_at _ held n).0)
  ]
    where
      new : List Point
      new = select (λ j. in_window w (elapsed (v.stamps j) (v.stamps i))) (fresh v.stamps w left right held start i)

no_pairs : (f : ℕ → Bool) → PairsOf f []
no_pairs f = record { cut = λ p m. absurd (Memᴰ.not-nil m) }

-- the children's rows are their own
module _ (F : ℕ → Formula) (v : Inputs) (same : v.free ≡ (λ y. free (F y))) where
  abbrev Children : Node → Type 0
  Children n = (y : ℕ) → Memᴰ y (children_of n) → (j : Point) → RowsOf (free (F y)) (v.rows y j)

  candidates-cut : (n : Node) → Fine (formula_of F n) → Children n → (ps : List (List ℕ)) → PairsOf (free (formula_of F n)) ps → (start i : Point) (u : List ℕ) → Memᴰ u (candidates v ps start i n) → Cut (free (formula_of F n)) u
  candidates-cut (Atom r t) f s ps c start i u m = (gives_atom (terms_of t) f (v.event r)).cut u m
  candidates-cut (And a b) f s ps c start i u m = (gives_and (exactly (s a one i)) (exactly (s b two i))).cut u (rw same at m)
  candidates-cut (AndNot a b) f s ps c start i u m = (s a one i).cut u (select_at _ (v.rows a i) m).0
  candidates-cut (Keep a k t) f s ps c start i u m = (s a one i).cut u (select_at _ (v.rows a i) m).0
  candidates-cut (Or a b) f s ps c start i u m = (gives_or (exactly (s a one i)) (exactly (s b two i)) f.2 f.3).cut u m
  candidates-cut (Exists a x) f s ps c start i u m = (gives_exists (exactly (s a one i)) x).cut u m
  candidates-cut (Previous a w) f s ps c start i u m = (s a one (point_before i)).cut u (cond_at (ltb 0 i.0 && in_window w (elapsed (v.stamps (point_before i)) (v.stamps i))) (v.rows a (point_before i)) m).1
  candidates-cut (Next a w) f s ps c start i u m = (s a one (point_after i)).cut u (cond_at (in_window w (elapsed (v.stamps i) (v.stamps (point_after i)))) (v.rows a (point_after i)) m).1
  candidates-cut (Since a b w) f s ps c start i u m = since_cut v w _ (v.rows b) ps start i (s b two) c u m
  candidates-cut (NotSince a b w) f s ps c start i u m = since_cut v w _ (v.rows b) ps start i (s b two) c u m
  candidates-cut (Until a b w) f s ps c start i u m = until_cut v _ w _ (v.rows b) i (s b two) u m
  candidates-cut (NotUntil a b w) f s ps c start i u m = until_cut v _ w _ (v.rows b) i (s b two) u m
  candidates-cut (Once a w) f s ps c start i u m = since_cut v w _ (v.rows a) ps start i (s a one) c u m
  candidates-cut (Eventually a w) f s ps c start i u m = until_cut v _ w (λ u k. true) (v.rows a) i (s a one) u m

  new_rows_lem : (n : Node) → Fine (formula_of F n) → Children n → (start : Point) (count : ℕ) (ps : List (List ℕ)) → PairsOf (free (formula_of F n)) ps → (rows : List (List ℕ)) → Memᴰ rows (new_rows v (lowest_of (free (formula_of F n))) n start count ps) → RowsOf (free (formula_of F n)) rows
  unfolding settle
  new_rows_lem n f s start count ps c rows m =
      let (i, k, e) = Memᴰ.of_map (λ i. settle v (lowest_of (free (formula_of F n))) ps start i n) (points_from start count) m in
      subst (RowsOf (free (formula_of F n))) e (record { ascends = set_of_ascends (lowest_of (free (formula_of F n))) (candidates v ps start i n); cut = λ u k. candidates-cut n f s ps c start i u (set_at (lowest_of (free (formula_of F n))) (candidates v ps start i n) k) })

-- ---- what is held

module _ (b : List ℕ) (x : ℕ) where
  pairs_held_lem : (v : View) (ps : List (List ℕ)) → pairs_fit b x v ps ≡ true → PairsOf (free (formula_at b x)) ps
  pairs_held_lem v ps e = record { cut = λ p m. let t : pair_fits b x v.window p ≡ true = all_at (pair_fits b x v.window) m (pairs_each b x v ps e).1 in (same_row_lem (drop 1 p) _).0 (search second) }

  rows_held : (rows : List (List ℕ)) → set_fits b x rows ≡ true → RowsOf (free (formula_at b x)) rows
  rows_held rows e = record { ascends = search (first, second); cut = λ u m. (same_row_lem u _).0 (all_at (row_of_node b x) m (search second)) }

-- ---- the turns

module _ (s : Stored) (f : Formed s) (w : List ℕ) where
  abbrev b : List ℕ
  b = s.rule

  -- the rows of node x at a point, held and new
  abbrev Own : ℕ → List (List ℕ) → Type 0
  Own x rows = RowsOf (free (formula_at b x)) rows

  abbrev sight : ℕ → Inputs
  sight x = inputs_of b (stamps_now s w) (count_after s w) (rows_taken b w) (turns_to b s.entries (stamps_now s w) (count_before s) (count_after s w) (rows_taken b w) x)

  turn_is : (x : ℕ) → x < node_count b → turn s w x ≡ turn_of b s.entries (count_before s) (count_after s w) (sight x) x
  unfolding turn
  turn_is x o = turns_at b s.entries (stamps_now s w) (count_before s) (count_after s w) (rows_taken b w) (node_count b) x o

  seen : (x y : ℕ) → y < x → x < node_count b → (sight x).rows y ≡ rows_of_turn (turn s w y)
  unfolding turn
  seen x y h o = turns_seen b s.entries (stamps_now s w) (count_before s) (count_after s w) (rows_taken b w) (node_count b) x y h (omega arith)

  -- the rows of node x that are held, and those of its newly settled points
  module _ (x : ℕ) (o : x < node_count b) where
    abbrev points : List Point
    points = points_from (wanted_from b (count_before s) x) (count_before s x - (wanted_from b (count_before s) x).0)

    abbrev old : List (List (List ℕ))
    old = map (held s.entries x) points

    abbrev new : List (List (List ℕ))
    new = new_rows (sight x) (lowest_of (free (formula_at b x))) (node_at b x) (point (count_before s x)) (count_after s w x - count_before s x) (held_pairs s.entries x)

    fits : node_fits s x ≡ true
    fits = f.nodes_fit x o

    old_own : (rows : List (List ℕ)) → Memᴰ rows old → Own x rows
    unfolding node_fits
    old_own rows m =
        let (j, k, e) = Memᴰ.of_map (held s.entries x) points m in
        subst (Own x) e (rows_held b x (held s.entries x j) (all_at (λ j. set_fits b x (held s.entries x j)) {xs = points} k (search (fits, first))))

    pairs_own : PairsOf (free (formula_at b x)) (held_pairs s.entries x)
    unfolding node_fits
    pairs_own = pairs_held_lem b x (view_of (node_at b x)) (held_pairs s.entries x) (search (fits, second))

    low : (y : ℕ) → y ≤ x → (c : ℕ) → Memᴰ c (children_of (node_at b y)) → c < y
    low = lower b (node_count b) (accepted b f.accepted.0 f.accepted.1).each x o

    step : formula_at b x ≡ formula_of (formula_at b) (node_at b x)
    step = formula_step b x low

    module _ (under : (y : ℕ) → Memᴰ y (children_of (node_at b x)) → (j : Point) → Own y (rows_of_turn (turn s w y) j)) where
      new_own : (rows : List (List ℕ)) → Memᴰ rows new → Own x rows
      new_own =
          rw step
          (new_rows_lem (formula_at b) (sight x) refl (node_at b x) (subst Fine step (fine b f.accepted.0 f.accepted.1 x o))
          (λ y m j. subst (λ g. Own y (g j)) (sym (seen x y (low x (omega arith) y m) o)) (under y m j))
          (point (count_before s x)) (count_after s w x - count_before s x) (held_pairs s.entries x) (rw step at pairs_own))

      turn_own : (j : Point) → Own x (rows_of_turn (turn s w x) j)
      unfolding turn_of
      turn_own j =
          rw (turn_is x o)
          (at_place (Own x) (record { ascends = refl; cut = λ u m. absurd (Memᴰ.not-nil m) }) (old ++ new)
          (λ rows m. elim (Memᴰ.append_cases old m) [ inl k ↦ old_own rows k | inr k ↦ new_own rows k ])
          (j.0 - (wanted_from b (count_before s) x).0))

  -- whatever the event, what a node's turn gives at a point are rows of the node
  pub turn_rows : (x : ℕ) → x < node_count b → (j : Point) → RowsOf (free (formula_at b x)) (rows_of_turn (turn s w x) j)
  turn_rows = by_children b f.accepted.0 f.accepted.1 (λ x. (j : Point) → Own x (rows_of_turn (turn s w x) j)) turn_own
