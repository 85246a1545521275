-- Entries of what is well formed ascend: by node, rows before pairs, by number, and then in the order of valuations.
use Prim.Native.Nat.{ℕ, zero, suc, ◌+◌, ◌-◌, ◌≤◌, ◌<◌}
use native.Mathlib.Omega.{arith}
use mathlib.Core.Path.{◌≡◌, refl, ◌∙◌, ap}
use mathlib.Core.Bool.{true, false≢true}
use mathlib.Core.Logic.{◌⊎◌, inl, inr}
use mathlib.Core.List.Memᴰ
use mathlib.Core.List.{List, [], ◌∷◌, ◌++◌, map, Memᴰ}
use lib.ListN.{get_or, drop}
use borrow.Author.Tests.{lt-ltb, le-ltb, eq-eqb}
use Rattle.meaning.specs.Lists.{range, gather}
use Rattle.meaning.specs.Order.{before, ascending}
use Rattle.meaning.specs.Log.{point}
use Rattle.meaning.specs.Formula.{free, lowest_of}
use Rattle.meaning.specs.View.{view_of}
use Rattle.meaning.specs.RuleFile.{node_count, node_at, formula_at}
use Rattle.meaning.specs.Kept.{Entry, entry_of}
use Rattle.meaning.specs.declared.Point.{Point}
use Rattle.meaning.proofs.Points.{both, first, second}
use Rattle.meaning.proofs.Rows.{all_points, gather_at, range_at}
use Rattle.method.specs.Stored.{Stored, held, held_pairs}
use Rattle.method.specs.Step.{wanted_from, count_before}
use Rattle.method.specs.WellFormed.{set_fits, own_entries, node_fits, well_formed, Formed}
use Rattle.method.proofs.Rowed.{pairs_each}
use Rattle.method.proofs.Formed.{formed}
use Rattle.method.proofs.Lists.{gather_map}
use Rattle.image.specs.ImageLaws.{entry_before, entries_ascend}

-- ---- words by their first

lower_first : (l w z : ℕ) (u v : List ℕ) → w < z → before (suc l) (w ∷ u) (z ∷ v) ≡ true
lower_first l w z u v h = rw (lt-ltb w z h)

same_first : (l w : ℕ) (u v : List ℕ) → before l u v ≡ true → before (suc l) (w ∷ u) (w ∷ v) ≡ true
same_first l w u v h = rw (le-ltb w w (omega arith), eq-eqb w w refl, h)

three_more : (l : ℕ) → 3 + l ≡ suc (suc (suc l))
three_more l = omega arith

-- a pair's entry: its age is the number
abbrev pair_entry : ℕ → List ℕ → Entry
pair_entry x p = entry_of x 1 (get_or p 0 0) (drop 1 p)

module _ (b : List ℕ) where
  abbrev lowest : ℕ → ℕ
  lowest x = lowest_of (free (formula_at b x))

  -- ---- one entry before another

  lower_node : (e f : Entry) → e.node < f.node → entry_before b e f ≡ true
  lower_node e f h = rw (three_more (lowest e.node)) (lower_first (suc (suc (lowest e.node))) e.node f.node (e.mark ∷ e.number ∷ e.values) (f.mark ∷ f.number ∷ f.values) h)

  -- entries of one node stand as the words behind it
  same_node : (x m n k i : ℕ) (u v : List ℕ) → before (suc (suc (lowest x))) (m ∷ k ∷ u) (n ∷ i ∷ v) ≡ true → entry_before b (entry_of x m k u) (entry_of x n i v) ≡ true
  same_node x m n k i u v h = rw (three_more (lowest x)) (same_first (suc (suc (lowest x))) x (m ∷ k ∷ u) (n ∷ i ∷ v) h)

  module _ (x : ℕ) where
    -- rows at one point, rows at two, a row and a pair, and two pairs; what stands before something has words, so such a pair has an age
    row-row : (k : ℕ) (u v : List ℕ) → before (lowest x) u v ≡ true → entry_before b (entry_of x 0 k u) (entry_of x 0 k v) ≡ true
    row-row k u v h = same_node x 0 0 k k u v (same_first (suc (lowest x)) 0 (k ∷ u) (k ∷ v) (same_first (lowest x) k u v h))

    row-later : (k i : ℕ) (u v : List ℕ) → k < i → entry_before b (entry_of x 0 k u) (entry_of x 0 i v) ≡ true
    row-later k i u v h = same_node x 0 0 k i u v (same_first (suc (lowest x)) 0 (k ∷ u) (i ∷ v) (lower_first (lowest x) k i u v h))

    row_pair : (k : ℕ) (u p : List ℕ) → entry_before b (entry_of x 0 k u) (pair_entry x p) ≡ true
    row_pair k u p = same_node x 0 1 k (get_or p 0 0) u (drop 1 p) (lower_first (suc (lowest x)) 0 1 (k ∷ u) (get_or p 0 0 ∷ drop 1 p) (omega arith))

    pair_pair : (p q : List ℕ) → before (suc (lowest x)) p q ≡ true → entry_before b (pair_entry x p) (pair_entry x q) ≡ true
    pair_pair [] q h = absurd (false≢true h)
    pair_pair (k ∷ u) [] h = absurd (false≢true h)
    pair_pair (k ∷ u) (i ∷ v) h = same_node x 1 1 k i u v (same_first (suc (lowest x)) 1 (k ∷ u) (i ∷ v) h)

  -- ---- lists of entries

  -- each of the first stands before each of the second
  abbrev Apart : List Entry → List Entry → Type 0
  Apart es fs = (e f : Entry) → Memᴰ e es → Memᴰ f fs → entry_before b e f ≡ true

  joined : (es fs : List Entry) → entries_ascend b es ≡ true → entries_ascend b fs ≡ true → Apart es fs → entries_ascend b (es ++ fs) ≡ true
  joined [] fs h k a = k
  joined (e ∷ []) [] h k a = refl
  joined (e ∷ []) (f ∷ fs) h k a = both (a e f (Memᴰ.head refl) (Memᴰ.head refl)) k
  joined (e ∷ d ∷ es) fs h k a = both (first (entry_before b e d) (entries_ascend b (d ∷ es)) h) (joined (d ∷ es) fs (second (entry_before b e d) (entries_ascend b (d ∷ es)) h) k (λ c f m. a c f (Memᴰ.tail m)))

  -- the lists that a run of numbers gives, end to end
  gathered : (g : ℕ → List Entry) (a n : ℕ) → ((x : ℕ) → a ≤ x → x < a + n → entries_ascend b (g x) ≡ true) → ((x y : ℕ) → x < y → Apart (g x) (g y)) → entries_ascend b (gather g (range a n)) ≡ true
  gathered g a zero h c = refl
  gathered g a (suc n) h c = joined (g a) (gather g (range (suc a) n)) (h a (omega arith) (omega arith)) (gathered g (suc a) n (λ x u v. h x (omega arith) (omega arith)) c) later
    where
      later : Apart (g a) (gather g (range (suc a) n))
      later e f m k = let (y, at, j) = gather_at g (range (suc a) n) k in c a y (range_at (suc a) n at).0 e f m j

  -- a row's entry stands before another's where the row does
  mapped : (g : List ℕ → Entry) (l : ℕ) → ((u v : List ℕ) → before l u v ≡ true → entry_before b (g u) (g v) ≡ true) → (rows : List (List ℕ)) → ascending l rows ≡ true → entries_ascend b (map g rows) ≡ true
  mapped g l on [] h = refl
  mapped g l on (u ∷ []) h = refl
  mapped g l on (u ∷ v ∷ rows) h = both (on u v (first (before l u v) (ascending l (v ∷ rows)) h)) (mapped g l on (v ∷ rows) (second (before l u v) (ascending l (v ∷ rows)) h))

-- ---- the entries of a node

module _ (s : Stored) (x : ℕ) where
  abbrev rows_at : ℕ → List Entry
  rows_at k = map (entry_of x 0 k) (held s.entries x (point k))

  abbrev wanted : ℕ
  wanted = (wanted_from s.rule (count_before s) x).0

  abbrev many : ℕ
  many = count_before s x - wanted

  abbrev rows_of : List Entry
  rows_of = gather rows_at (range wanted many)

  abbrev pairs_of : List Entry
  pairs_of = map (pair_entry x) (held_pairs s.entries x)

  -- its rows at the points that are still consulted, and its pairs
  own_two : own_entries s x ≡ rows_of ++ pairs_of
  unfolding own_entries
  own_two = ap (λ es. es ++ pairs_of) (gather_map (λ (j : Point). map (entry_of x 0 j.0) (held s.entries x j)) point (range wanted many))

  row_at_lem : (k : ℕ) (e : Entry) → Memᴰ e (rows_at k) → (u : List ℕ) × (entry_of x 0 k u ≡ e)
  row_at_lem k e m = let (u, n, d) = Memᴰ.of_map (entry_of x 0 k) (held s.entries x (point k)) m in (u, d)

  row_of : (e : Entry) → Memᴰ e rows_of → (k : ℕ) × (u : List ℕ) × (entry_of x 0 k u ≡ e)
  row_of e m =
      let (k, at, n) = gather_at rows_at (range wanted many) m in
      let (u, d) = row_at_lem k e n in
      (k, u, d)

  pair_of : (e : Entry) → Memᴰ e pairs_of → (p : List ℕ) × (pair_entry x p ≡ e)
  pair_of e m = let (p, n, d) = Memᴰ.of_map (pair_entry x) (held_pairs s.entries x) m in (p, d)

  own_node : (e : Entry) → Memᴰ e (own_entries s x) → x ≡ e.node
  own_node e m = go (Memᴰ.append_cases rows_of (rw own_two at m))
    where
      go : Memᴰ e rows_of ⊎ Memᴰ e pairs_of → x ≡ e.node
      go (inl n) = let (k, u, d) = row_of e n in ap (λ (f : Entry). f.node) d
      go (inr n) = let (p, d) = pair_of e n in ap (λ (f : Entry). f.node) d

  points_apart : (k i : ℕ) → k < i → Apart s.rule (rows_at k) (rows_at i)
  points_apart k i h e f m n =
      let (u, d) = row_at_lem k e m in
      let (v, c) = row_at_lem i f n in
      rw (← d, ← c) (row-later s.rule x k i u v h)

  rows_pairs : Apart s.rule rows_of pairs_of
  rows_pairs e f m n =
      let (k, u, d) = row_of e m in
      let (p, c) = pair_of f n in
      rw (← d, ← c) (row_pair s.rule x k u p)

  module _ (fits : node_fits s x ≡ true) where
    rows_ascend : (k : ℕ) → wanted ≤ k → k < wanted + many → entries_ascend s.rule (rows_at k) ≡ true
    unfolding node_fits
    rows_ascend k u v =
        let set : set_fits s.rule x (held s.entries x (point k)) ≡ true = (all_points (λ j. set_fits s.rule x (held s.entries x j)) wanted many).0 (search first) (point k) u v in
        mapped s.rule (entry_of x 0 k) (lowest s.rule x) (row-row s.rule x k) (held s.entries x (point k)) (search (first, second))

    pairs_ascend : entries_ascend s.rule pairs_of ≡ true
    unfolding node_fits
    pairs_ascend = mapped s.rule (pair_entry x) (suc (lowest s.rule x)) (pair_pair s.rule x) (held_pairs s.entries x) (pairs_each s.rule x (view_of (node_at s.rule x)) (held_pairs s.entries x) (search second)).0

    own_ascends : entries_ascend s.rule (own_entries s x) ≡ true
    own_ascends = ap (entries_ascend s.rule) own_two ∙ joined s.rule rows_of pairs_of (gathered s.rule rows_at wanted many rows_ascend points_apart) pairs_ascend rows_pairs

nodes_apart : (s : Stored) (x y : ℕ) → x < y → Apart s.rule (own_entries s x) (own_entries s y)
nodes_apart s x y h e f m n = lower_node s.rule e f (omega (arith, own_node s x e m, own_node s y f n))

pub entries_ascend_lem : (s : Stored) → well_formed s ≡ true → entries_ascend s.rule s.entries ≡ true
entries_ascend_lem s t =
    let f : Formed s = formed s t in
    ap (entries_ascend s.rule) f.entries_own ∙ gathered s.rule (own_entries s) 0 (node_count s.rule) (λ x u v. own_ascends s x (f.nodes_fit x (omega arith))) (nodes_apart s)
