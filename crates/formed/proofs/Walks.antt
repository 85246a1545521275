-- Entries walked through from the first. What a walk finds and what is behind it are the entries again; a walk through the entries of nodes in turn ends behind the last;
-- so the runs that a walk finds fit, and nothing is behind them, where the entries are those that are read off them for each node and these fit.
use Prim.Native.Nat.{ℕ, zero, suc, ◌+◌, ◌-◌, ◌≤◌, ◌<◌}
use native.Mathlib.Numerals.{add-one}
use native.Mathlib.Omega.{arith}
use mathlib.Core.Path.{◌≡◌, refl, sym, ap, ap₂, ◌∙◌}
use mathlib.Core.Bool.{true, false, ◌&&◌}
use mathlib.Core.List.Memᴰ
use mathlib.Core.List.{List, [], ◌∷◌, ◌++◌, map, append_assoc, append-nil, append_cancel_right, Memᴰ}
use lib.ListN.{get_or, drop}
use lib.Dec.{eqb}
use borrow.Author.Tests.{eqb-true, eq-eqb, ne_eqb}
use Rattle.meaning.specs.Lists.{range, gather}
use Rattle.meaning.specs.Log.{point}
use Rattle.meaning.specs.View.{view_of}
use Rattle.meaning.specs.RuleFile.{node_at}
use Rattle.meaning.specs.Kept.{Entry, entry_of}
use Rattle.meaning.specs.declared.Point.{Point}
use Rattle.meaning.proofs.Points.{first, second, both, all_same}
use Rattle.meaning.proofs.Rows.{all_at, all_of, gather_at, range_at, range_of}
use Rattle.method.specs.Stored.{held, held_pairs}
use Rattle.method.specs.WellFormed.{set_fits, pairs_fit}
use Rattle.method.proofs.Lists.{map_id, map-map, gather_each}
use Rattle.method.proofs.Turns.{gather_over}
use Rattle.method.proofs.Held.{node_of, of_node, held_is, held_pairs_is}
use Rattle.method.proofs.Formed.{same_entries_lem, entries_same}
use Rattle.rulefile.proofs.Ranges.{gather_last}
use Rattle.entries.specs.Entries.{begins, has_owner, is_entry}
use Rattle.entries.proofs.Walking.{all_are}
use Rattle.node_sets.specs.NodeEntries.{set_entries, aged_entries}
use Rattle.node_sets.proofs.Gathered.{sets_more, sets_first, sets-later}
use Rattle.node_sets.proofs.Paired.{pair_of, all_owned}
use Rattle.formed.specs.Walk.{front, behind, sets_rest, rows_found, pairs_found, nodes_rest, runs_fit, own_runs, own_fit, entries_fit}
use Rattle.formed.specs.Steps.{OwnFirst}
use Rattle.formed.proofs.Fronts.{two_parts, front-passes, behind_these, begins_none}

-- ---- what is found, and what is behind it

module _ (x : ℕ) where
  entry_parts : (e : Entry) (mark number : ℕ) → has_owner x mark e ≡ true → e.number ≡ number → entry_of x mark number e.values ≡ e
  entry_parts e mark number t h =
      let n : x ≡ e.node = sym (eqb-true e.node x (search first)) in
      let m : mark ≡ e.mark = sym (eqb-true e.mark mark (search second)) in
      λ i. record { node = n i; mark = m i; number = sym h i; values = e.values }

  -- a run's entries by their rows, and those of pairs by their ages and rows
  pub rows_back : (number : ℕ) (es : List Entry) → map (entry_of x 0 number) (map (λ e. e.values) (front (is_entry x 0 number) es)) ≡ front (is_entry x 0 number) es
  rows_back number es =
      let q = is_entry x 0 number in
      map-map (entry_of x 0 number) (λ e. e.values) (front q es)
      ∙ map_id (λ e. entry_of x 0 number e.values) (front q es)
      (λ e m. let t : q e ≡ true = all_at q m (front-passes q es) in entry_parts e 0 number (first (has_owner x 0 e) (eqb e.number number) t) (eqb-true e.number number (second (has_owner x 0 e) (eqb e.number number) t)))

  pub pairs_back : (es : List Entry) → aged_entries x (pairs_found x es) ≡ front (has_owner x 1) es
  pairs_back es =
      map-map (λ p. entry_of x 1 (get_or p 0 0) (drop 1 p)) pair_of (front (has_owner x 1) es)
      ∙ map_id (λ e. entry_of x 1 e.number e.values) (front (has_owner x 1) es) (λ e m. entry_parts e 1 e.number (all_at (has_owner x 1) m (front-passes (has_owner x 1) es)) refl)

  sets_whole : (low : Point) (n : ℕ) (es : List Entry) → set_entries x (rows_found x low es) low n ++ sets_rest x low n es ≡ es
  sets_whole low zero es = refl
  sets_whole low (suc n) es =
      let S = rows_found x low es in
      let q = is_entry x 0 (low.0 + n) in
      let r : List Entry = sets_rest x low n es in
      let z : low.0 + n - low.0 ≡ n = omega arith in
      let here : map (entry_of x 0 (low.0 + n)) (S (point (low.0 + n))) ≡ front q r = ap (λ k. map (entry_of x 0 (low.0 + n)) (map (λ e. e.values) (front q (sets_rest x low k es)))) z ∙ rows_back (low.0 + n) r in
      let one_more : set_entries x S low (suc n) ≡ set_entries x S low n ++ front q r = ap (set_entries x S low) (sym (add-one n)) ∙ sets_more x S low n ∙ ap (λ ys. set_entries x S low n ++ ys) here in
      ap (λ ys. ys ++ behind q r) one_more ∙ append_assoc (set_entries x S low n) (front q r) (behind q r) ∙ ap (λ ys. set_entries x S low n ++ ys) (two_parts q r) ∙ sets_whole low n es

  node_whole : (low : Point) (n : ℕ) (es : List Entry)
      → (set_entries x (rows_found x low es) low n ++ aged_entries x (pairs_found x (sets_rest x low n es))) ++ behind (has_owner x 1) (sets_rest x low n es) ≡ es
  node_whole low n es =
      let A : List Entry = set_entries x (rows_found x low es) low n in
      let r : List Entry = sets_rest x low n es in
      append_assoc A (aged_entries x (pairs_found x r)) (behind (has_owner x 1) r)
      ∙ ap (λ ys. A ++ ys) (ap (λ ys. ys ++ behind (has_owner x 1) r) (pairs_back r) ∙ two_parts (has_owner x 1) r) ∙ sets_whole low n es

-- ---- a walk through sets and pairs

module _ (x : ℕ) (S : Point → List (List ℕ)) (low : Point) (n : ℕ) (rest : List Entry) (other : begins (has_owner x 0) rest ≡ false) where
  through_some : (k : ℕ) → k ≤ n → sets_rest x low k (set_entries x S low n ++ rest) ≡ set_entries x S (point (low.0 + k)) (n - k) ++ rest
  through_some zero l =
      let e : low.0 + 0 ≡ low.0 = omega arith in
      let f : n - 0 ≡ n = omega arith in
      rw (e, f)
  through_some (suc k) l =
      ap (behind (is_entry x 0 (low.0 + k))) (through_some k (omega arith) ∙ sets_first x S rest low k n l)
      ∙ behind_these (is_entry x 0 (low.0 + k)) (map (entry_of x 0 (low.0 + k)) (S (point (low.0 + k)))) (set_entries x S (point (low.0 + (k + 1))) (n - (k + 1)) ++ rest)
      (all_are x 0 (low.0 + k) (S (point (low.0 + k)))) (sets-later x S rest other (point (low.0 + k)) (point (low.0 + (k + 1))) (n - (k + 1)) (omega arith))
      ∙ ap (λ m. set_entries x S (point (low.0 + m)) (n - m) ++ rest) (add-one k)

  through_sets : sets_rest x low n (set_entries x S low n ++ rest) ≡ rest
  through_sets =
      let z : n - n ≡ 0 = omega arith in
      through_some n (omega arith) ∙ ap (λ m. set_entries x S (point (low.0 + n)) m ++ rest) z

-- a node's pairs don't begin with an entry of its sets
pairs_other : (x : ℕ) (pairs : List (List ℕ)) (rest : List Entry) → begins (has_owner x 0) rest ≡ false → begins (has_owner x 0) (aged_entries x pairs ++ rest) ≡ false
pairs_other x [] rest b = b
pairs_other x (p ∷ pairs) rest b = rw (eq-eqb x x refl)

module _ (low : ℕ → Point) (end : ℕ → ℕ) (sets : ℕ → Point → List (List ℕ)) (pairs : ℕ → List (List ℕ)) where
  abbrev runs : ℕ → List Entry
  runs = node_of low (λ x. end x - (low x).0) sets pairs

  -- the entries of later nodes don't begin with one of node x
  later_other : (x mark m : ℕ) → begins (has_owner x mark) (gather runs (range (suc x) m)) ≡ false
  later_other x mark m =
      begins_none (has_owner x mark) (gather runs (range (suc x) m))
      (λ e k.
      let (y, i, h) = gather_at runs (range (suc x) m) k in
      let r = range_at (suc x) m i in
      let z : e.node ≡ y = of_node low (λ x. end x - (low x).0) sets pairs y e h in
      rw (ne_eqb e.node x (λ d. omega arith)))

  -- from the node's own entries on, its sets and what is behind them, and then its pairs
  module _ (k m : ℕ) {es : List Entry} (h : es ≡ gather runs (range k (suc m))) where
    past_sets : sets_rest k (low k) (end k - (low k).0) es ≡ aged_entries k (pairs k) ++ gather runs (range (suc k) m)
    past_sets =
        let later : List Entry = gather runs (range (suc k) m) in
        let n : ℕ = end k - (low k).0 in
        ap (sets_rest k (low k) n) (h ∙ append_assoc (set_entries k (sets k) (low k) n) (aged_entries k (pairs k)) later)
        ∙ through_sets k (sets k) (low k) n (aged_entries k (pairs k) ++ later) (pairs_other k (pairs k) later (later_other k 0 m))

    past_pairs : behind (has_owner k 1) (sets_rest k (low k) (end k - (low k).0) es) ≡ gather runs (range (suc k) m)
    past_pairs = ap (behind (has_owner k 1)) past_sets ∙ behind_these (has_owner k 1) (aged_entries k (pairs k)) (gather runs (range (suc k) m)) (all_owned k (pairs k)) (later_other k 1 m)

    sets_end : begins (has_owner k 0) (sets_rest k (low k) (end k - (low k).0) es) ≡ false
    sets_end = ap (begins (has_owner k 0)) past_sets ∙ pairs_other k (pairs k) (gather runs (range (suc k) m)) (later_other k 0 m)

  left_over : (nodes k : ℕ) → suc k ≤ nodes → gather runs (range k (nodes - k)) ≡ gather runs (range k (suc (nodes - suc k)))
  left_over nodes k l =
      let e : nodes - k ≡ suc (nodes - suc k) = omega arith in
      ap (λ m. gather runs (range k m)) e

  through_nodes : (nodes k : ℕ) → k ≤ nodes → nodes_rest low end (gather runs (range 0 nodes)) k ≡ gather runs (range k (nodes - k))
  through_nodes nodes zero l = let e : nodes - 0 ≡ nodes = omega arith in rw e
  through_nodes nodes (suc k) l = past_pairs k (nodes - suc k) (through_nodes nodes k (omega arith) ∙ left_over nodes k l)

-- ---- the walk and the entries that are read off

module _ (b : List ℕ) (low : ℕ → Point) (end : ℕ → ℕ) (es : List Entry) (nodes : ℕ) where
  abbrev many : ℕ → ℕ
  many x = end x - (low x).0

  abbrev sets_in : ℕ → Point → List (List ℕ)
  sets_in x = rows_found x (low x) (nodes_rest low end es x)

  abbrev pairs_in : ℕ → List (List ℕ)
  pairs_in x = pairs_found x (sets_rest x (low x) (many x) (nodes_rest low end es x))

  abbrev found : ℕ → List Entry
  found = node_of low many sets_in pairs_in

  nodes_whole : (k : ℕ) → gather found (range 0 k) ++ nodes_rest low end es k ≡ es
  nodes_whole zero = refl
  nodes_whole (suc k) =
      let z : 0 + k ≡ k = omega arith in
      let next : List Entry = nodes_rest low end es (suc k) in
      ap (λ m. gather found (range 0 m) ++ next) (sym (add-one k))
      ∙ ap (λ ys. ys ++ next) (gather_last found 0 k ∙ ap (λ m. gather found (range 0 k) ++ found m) z)
      ∙ append_assoc (gather found (range 0 k)) (found k) next
      ∙ ap (λ ys. gather found (range 0 k) ++ ys) (node_whole k (low k) (many k) (nodes_rest low end es k)) ∙ nodes_whole k

  -- where nothing is behind the walk, what it found is what is read off the entries
  module _ (done : nodes_rest low end es nodes ≡ []) where
    all_found : es ≡ gather found (range 0 nodes)
    all_found = sym (nodes_whole nodes) ∙ ap (λ ys. gather found (range 0 nodes) ++ ys) done ∙ append-nil (gather found (range 0 nodes))

    pair_there : (x : ℕ) (p : List ℕ) → Memᴰ p (pairs_in x) → get_or p 0 0 ∷ drop 1 p ≡ p
    pair_there x p m =
        let (e, k, d) = Memᴰ.of_map pair_of (front (has_owner x 1) (sets_rest x (low x) (many x) (nodes_rest low end es x))) m in
        rw (sym d)

    module _ (x : ℕ) (o : x < nodes) where
      sets-held : (j : Point) → (low x).0 ≤ j.0 → j.0 < (low x).0 + many x → sets_in x j ≡ held es x j
      sets-held j u l = sym (ap (λ ys. held ys x j) all_found ∙ held_is low many sets_in pairs_in nodes x o j u l)

      pairs_held_lem : pairs_in x ≡ held_pairs es x
      pairs_held_lem = sym (ap (λ ys. held_pairs ys x) all_found ∙ held_pairs_is low many sets_in pairs_in nodes x o (pair_there x))

      sets_own : set_entries x (sets_in x) (low x) (many x) ≡ set_entries x (held es x) (low x) (many x)
      sets_own = gather_over (λ j. map (entry_of x 0 j.0) (sets_in x j)) (λ j. map (entry_of x 0 j.0) (held es x j)) (low x).0 (many x) (λ j u l. ap (map (entry_of x 0 j.0)) (sets-held j u l))

      found_own : found x ≡ own_runs b low end es x
      unfolding own_runs
      found_own = ap₂ (λ s t. s ++ t) sets_own (ap (aged_entries x) pairs_held_lem)

      -- what stands before the rest, at the node's first entry and at its first pair
      pub rows_own : (A : List Entry) → A ++ sets_rest x (low x) (many x) (nodes_rest low end es x) ≡ nodes_rest low end es x → A ≡ set_entries x (held es x) (low x) (many x)
      rows_own A h =
          let rest : List Entry = sets_rest x (low x) (many x) (nodes_rest low end es x) in
          append_cancel_right A (set_entries x (sets_in x) (low x) (many x)) rest (h ∙ sym (sets_whole x (low x) (many x) (nodes_rest low end es x))) ∙ sets_own

      pub pairs_own : (A : List Entry) → A ++ nodes_rest low end es (suc x) ≡ sets_rest x (low x) (many x) (nodes_rest low end es x) → A ≡ aged_entries x (held_pairs es x)
      pairs_own A h =
          let at : List Entry = sets_rest x (low x) (many x) (nodes_rest low end es x) in
          append_cancel_right A (front (has_owner x 1) at) (behind (has_owner x 1) at) (h ∙ sym (two_parts (has_owner x 1) at)) ∙ sym (pairs_back x at) ∙ ap (aged_entries x) pairs_held_lem

      fit_same : runs_fit b x (low x) (many x) (nodes_rest low end es x) ≡ own_fit b low end es x
      unfolding runs_fit own_fit
      fit_same =
          ap₂ (λ s t. s && t)
          (all_same (λ j. set_fits b x (sets_in x j)) (λ j. set_fits b x (held es x j)) (low x).0 (many x) (λ j u l. ap (set_fits b x) (sets-held j u l)))
          (ap (pairs_fit b x (view_of (node_at b x))) pairs_held_lem)

    own_whole : es ≡ gather (own_runs b low end es) (range 0 nodes)
    own_whole = all_found ∙ gather_each found (own_runs b low end es) 0 nodes (λ x u o. found_own x (omega arith))

  -- the runs fit, and nothing is behind them
  pub walk_passes : ((x : ℕ) → x < nodes → runs_fit b x (low x) (many x) (nodes_rest low end es x) ≡ true) → nodes_rest low end es nodes ≡ [] → entries_fit b low end es nodes ≡ true
  unfolding entries_fit
  walk_passes fit done =
      both (same_entries_lem es (gather (own_runs b low end es) (range 0 nodes)) (own_whole done))
      (all_of (own_fit b low end es) (range 0 nodes) (λ x m. let r = range_at 0 nodes m in let o : x < nodes = omega (arith, r.1) in sym (fit_same done x o) ∙ fit x o))

  -- and back
  module _ (t : entries_fit b low end es nodes ≡ true) where
    gathered : es ≡ gather (own_runs b low end es) (range 0 nodes)
    unfolding entries_fit
    gathered = entries_same es _ (search first)

    through : (k : ℕ) → k ≤ nodes → nodes_rest low end es k ≡ gather (node_of low many (held es) (held_pairs es)) (range k (nodes - k))
    unfolding own_runs
    through k l = ap (λ ys. nodes_rest low end ys k) gathered ∙ through_nodes low end (held es) (held_pairs es) nodes k l

    pub walk_ends : nodes_rest low end es nodes ≡ []
    walk_ends =
        let z : nodes - nodes ≡ 0 = omega arith in
        through nodes (omega arith) ∙ ap (λ m. gather (node_of low many (held es) (held_pairs es)) (range nodes m)) z

    pub walk_fits : (x : ℕ) → x < nodes → OwnFirst b x (low x) (many x) (nodes_rest low end es x)
    unfolding entries_fit
    walk_fits x o =
        record {
          fit = fit_same walk_ends x o ∙ all_at (own_fit b low end es) (range_of 0 nodes (omega arith) (omega arith)) (search second);
          ends = sets_end low end (held es) (held_pairs es) x (nodes - suc x) (through x (omega arith) ∙ left_over low end (held es) (held_pairs es) nodes x o);
        }
