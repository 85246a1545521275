-- An entry of what is well formed is a row of a node or a pair: its mark is 0 or 1, and it has four values.
use Prim.Native.Nat.{ℕ, suc, ◌-◌, ◌*◌, ◌<◌}
use native.Mathlib.Omega.{arith}
use mathlib.Core.Path.{◌≡◌, refl, ap}
use mathlib.Core.Bool.{Bool, true, false, cond, ◌&&◌}
use mathlib.Core.Logic.{◌⊎◌, inl, inr}
use mathlib.Core.List.Memᴰ
use mathlib.Core.List.{List, [], ◌∷◌, map, Memᴰ}
use lib.ListN.{length, get_or, drop, length-append}
use lib.Dec.{eqb}
use borrow.Author.Tests.{eqb-true}
use Rattle.meaning.specs.Lists.{all, range, gather}
use Rattle.meaning.specs.Order.{ascending}
use Rattle.meaning.specs.Log.{points_from}
use Rattle.meaning.specs.Formula.{free, lowest_of}
use Rattle.meaning.specs.Evaluator.{cut_to, valuation_of}
use Rattle.meaning.specs.View.{view_of}
use Rattle.meaning.specs.RuleFile.{node_count, node_at, formula_at}
use Rattle.meaning.specs.Kept.{Entry, entry_of}
use Rattle.meaning.specs.declared.Point.{Point}
use Rattle.meaning.specs.declared.View.{View}
use Rattle.meaning.proofs.Points.{first, second}
use Rattle.meaning.proofs.Rows.{all_at, gather_at, range_at, same_row_lem}
use Rattle.method.specs.Stored.{Stored, held, held_pairs}
use Rattle.method.specs.Settle.{has_pairs}
use Rattle.method.specs.Step.{wanted_from, count_before}
use Rattle.method.specs.WellFormed.{row_of_node, set_fits, pair_fits, pairs_fit, own_entries, node_fits, Formed}

-- the mark is 0 or 1, and there are four values
abbrev pub Rowed : Entry → Type 0
Rowed e = (e.mark < 2) × (length e.values ≡ 4)

module _ (b : List ℕ) (x : ℕ) where
  four_values : (u : List ℕ) → row_of_node b x u ≡ true → length u ≡ 4
  four_values u t = ap length ((same_row_lem u (cut_to (free (formula_at b x)) (valuation_of u))).0 t)

  -- pairs that fit ascend, and each fits; a node that has none has only such
  pub pairs_each : (v : View) (ps : List (List ℕ)) → pairs_fit b x v ps ≡ true → (ascending (suc (lowest_of (free (formula_at b x)))) ps ≡ true) × (all (pair_fits b x v.window) ps ≡ true)
  pairs_each v ps = go (has_pairs v.times) ps
    where
      ascends : List (List ℕ) → Bool
      ascends ps = ascending (suc (lowest_of (free (formula_at b x)))) ps

      go : (t : Bool) (ps : List (List ℕ)) → cond t (ascends ps && all (pair_fits b x v.window) ps) (eqb (length ps) 0) ≡ true → (ascends ps ≡ true) × (all (pair_fits b x v.window) ps ≡ true)
      go true ps e = (first (ascends ps) (all (pair_fits b x v.window) ps) e, second (ascends ps) (all (pair_fits b x v.window) ps) e)
      go false [] e = (refl, refl)
      go false (q ∷ ps) e = absurd (omega (arith, eqb-true (length (q ∷ ps)) 0 e))

  pair_values : (v : View) (ps : List (List ℕ)) {p : List ℕ} → Memᴰ p ps → pairs_fit b x v ps ≡ true → length (drop 1 p) ≡ 4
  pair_values v ps {p} m e =
      let fits : pair_fits b x v.window p ≡ true = all_at (pair_fits b x v.window) m (pairs_each v ps e).1 in
      four_values (drop 1 p) (search second)

module _ (s : Stored) (x : ℕ) where
  abbrev rows_at : Point → List Entry
  rows_at j = map (entry_of x 0 j.0) (held s.entries x j)

  abbrev consulted : List Point
  consulted = points_from (wanted_from s.rule (count_before s) x) (count_before s x - (wanted_from s.rule (count_before s) x).0)

  abbrev pairs_of : List Entry
  pairs_of = map (λ p. entry_of x 1 (get_or p 0 0) (drop 1 p)) (held_pairs s.entries x)

  module _ (fits : node_fits s x ≡ true) (e : Entry) where
    a_row : (j : Point) → Memᴰ j consulted → Memᴰ e (rows_at j) → Rowed e
    unfolding node_fits
    a_row j at m =
        let (u, n, d) = Memᴰ.of_map (entry_of x 0 j.0) (held s.entries x j) m in
        let set : set_fits s.rule x (held s.entries x j) ≡ true = all_at (λ k. set_fits s.rule x (held s.entries x k)) at (search first) in
        rw (← d) (omega arith, four_values s.rule x u (all_at (row_of_node s.rule x) n (search second)))

    a_pair : Memᴰ e pairs_of → Rowed e
    unfolding node_fits
    a_pair m =
        let (p, n, d) = Memᴰ.of_map (λ p. entry_of x 1 (get_or p 0 0) (drop 1 p)) (held_pairs s.entries x) m in
        rw (← d) (omega arith, pair_values s.rule x (view_of (node_at s.rule x)) (held_pairs s.entries x) n (search second))

    own : Memᴰ e (own_entries s x) → Rowed e
    unfolding own_entries
    own m = go (Memᴰ.append_cases (gather rows_at consulted) m)
      where
        go : Memᴰ e (gather rows_at consulted) ⊎ Memᴰ e pairs_of → Rowed e
        go (inl k) = let (j, at, h) = gather_at rows_at consulted k in a_row j at h
        go (inr k) = a_pair k

pub rowed : {s : Stored} → Formed s → (e : Entry) → Memᴰ e s.entries → Rowed e
rowed {s} f e m =
    let (x, at, k) = gather_at (own_entries s) (range 0 (node_count s.rule)) (rw f.entries_own at m) in
    own s x (f.nodes_fit x (omega (arith, range_at 0 (node_count s.rule) at))) e k

-- so the values of such entries, end to end, are four words each
pub values_are_long : (es : List Entry) → ((e : Entry) → Memᴰ e es → Rowed e) → length (gather (λ e. e.values) es) ≡ length es * 4
values_are_long [] h = refl
values_are_long (e ∷ es) h =
    let one : length e.values ≡ 4 = (h e (Memᴰ.head refl)).1 in
    let rest : length (gather (λ e. e.values) es) ≡ length es * 4 = values_are_long es (λ f m. h f (Memᴰ.tail m)) in
    simp length-append (omega arith)
