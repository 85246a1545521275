-- Pairs put in at once behind those that are there: where they ascend, and all that are there stand before them, that is what putting them in one by one gives.
use Prim.Native.Nat.{ℕ, suc, ◌+◌, ◌-◌, ◌*◌, ◌≤◌, ◌<◌, min}
use native.Mathlib.Nat.{eq-or-lt_of_le}
use native.Mathlib.Omega.{arith}
use mathlib.Core.Path.{◌≡◌, refl, sym, ap, ap₂, subst, ◌∙◌}
use mathlib.Core.Bool.{true}
use mathlib.Core.Logic.{◌⊎◌, inl, inr}
use mathlib.Core.List.Memᴰ
use mathlib.Core.List.{List, [], ◌∷◌, ◌++◌, map, append-nil, Memᴰ}
use lib.ListN.{length, get_or, drop}
use lib.Seq.{append_snoc}
use borrow.Author.Tests.{lt-ltb}
use Rattle.meaning.specs.Lists.{range}
use Rattle.meaning.specs.Order.{before, ascending}
use Rattle.meaning.specs.Evaluator.{insert, insert_all}
use Rattle.meaning.proofs.Rows.{range_at, before_transitive, head_before, ascending_tail}
use Rattle.rowset.specs.Rows.{row_at}
use Rattle.rowset.specs.Sets.{Led}
use Rattle.rowset.specs.declared.Gathered.{Gathered}
use Rattle.meaning.proofs.Order.{asymmetric}
use Rattle.rowset.proofs.Runs.{run_append, run_same}
use Rattle.kinds.specs.Kinds.{pair_at, pairs_from}
use Rattle.entries.specs.Appended.{WordsPut}
use Rattle.entries.proofs.Listed.{listed_moved, map_twice}
use Rattle.pairs.specs.Pairs.{PairRoom, PairsStand, PairsAdded, grown_pairs, Behind}
use Rattle.pairs.proofs.Runs.{pairs-length}
use Rattle.pairs.proofs.Growing.{pairs_as}
use Rattle.pairs.proofs.Ascents.{ascends_run, next_before, both_grown, rising}

-- what stands behind a list is put behind it
insert_behind : (lowest : ℕ) (set : List (List ℕ)) (x : List ℕ) → ((s : List ℕ) → Memᴰ s set → before lowest s x ≡ true) → insert lowest x set ≡ set ++ x ∷ []
insert_behind lowest [] x h = refl
insert_behind lowest (s ∷ set) x h =
    let p : before lowest s x ≡ true = h s (Memᴰ.head refl) in
    rw (asymmetric lowest s x p, p) (ap (λ t. s ∷ t) (insert_behind lowest set x (λ u m. h u (Memᴰ.tail m))))

insert_all_behind : (lowest : ℕ) (set xs : List (List ℕ)) → ascending lowest xs ≡ true → ((s x : List ℕ) → Memᴰ s set → Memᴰ x xs → before lowest s x ≡ true) → insert_all lowest set xs ≡ set ++ xs
insert_all_behind lowest set [] a h = sym (append-nil set)
insert_all_behind lowest set (x ∷ xs) a h =
    ap (λ s. insert_all lowest s xs) (insert_behind lowest set x (λ s m. h s x m (Memᴰ.head refl)))
    ∙ insert_all_behind lowest (set ++ x ∷ []) xs (ascending_tail lowest x xs a) (λ s y m o. next s y o (Memᴰ.append_cases set m))
    ∙ append_snoc set x xs
  where
    next : (s y : List ℕ) → Memᴰ y xs → Memᴰ s set ⊎ Memᴰ s (x ∷ []) → before lowest s y ≡ true
    next s y o (inl m) = h s y m (Memᴰ.tail o)
    next s y o (inr m) = first_of (Memᴰ.cases_cons m)
      where
        first_of : (s ≡ x) ⊎ Memᴰ s [] → before lowest s y ≡ true
        first_of (inl e) = rw e (head_before lowest x a o)
        first_of (inr n) = absurd (Memᴰ.not-nil n)

module _ (lowest : ℕ) (old_ages old_values : List ℕ) (m by most : ℕ) (up : ascending (suc lowest) (pairs_from old_ages old_values 0 m) ≡ true) where
  -- pair k grown older, and all where none is cut down
  abbrev grown_at : ℕ → List ℕ
  grown_at k = (get_or old_ages k 0 + by) ∷ row_at old_values k

  pub ages_small : 0 < m → get_or old_ages (m - 1) 0 + by ≤ most → (k : ℕ) → k < m → get_or old_ages k 0 + by ≤ most
  ages_small s u k l = omega (arith, rising lowest old_ages old_values m up k (m - 1) (omega arith) (omega arith))

  uncut : 0 < m → get_or old_ages (m - 1) 0 + by ≤ most → map grown_at (range 0 m) ≡ grown_pairs by most (pairs_from old_ages old_values 0 m)
  unfolding pairs_from
  uncut s u =
      run_same grown_at (λ k. min (get_or old_ages k 0 + by) most ∷ row_at old_values k) 0 m (λ k a b. let e : get_or old_ages k 0 + by ≡ min (get_or old_ages k 0 + by) most = omega (arith, ages_small s u k (omega arith)) in ap (λ age. age ∷ row_at old_values k) e)
      ∙ sym (map_twice (λ p. min (get_or p 0 0 + by) most ∷ drop 1 p) (pair_at old_ages old_values) (range 0 m))

  module _ {ages values : List ℕ} {set : Gathered} {ages' values' : List ℕ} (b : Behind old_ages m by most ages set) (room : PairRoom lowest ages values set)
      (p : WordsPut ages set.count ages' m (λ k. get_or old_ages k 0 + by)) (q : WordsPut values (set.count * 4) values' (m * 4) (λ k. get_or old_values k 0)) where
    abbrev n : ℕ
    n = set.count

    stays_at : (k : ℕ) → k < n → pair_at ages' values' k ≡ pair_at ages values k
    stays_at k l =
        let e = p.below k l in
        let e0 = q.below (k * 4) (omega arith) in
        let e1 = q.below (k * 4 + 1) (omega arith) in
        let e2 = q.below (k * 4 + 2) (omega arith) in
        let e3 = q.below (k * 4 + 3) (omega arith) in
        λ t. e t ∷ e0 t ∷ e1 t ∷ e2 t ∷ e3 t ∷ []

    word_put : (k c : ℕ) → k < m → c < 4 → get_or values' ((n + k) * 4 + c) 0 ≡ get_or old_values (k * 4 + c) 0
    word_put k c l u =
        let z : (n + k) * 4 + c ≡ n * 4 + (k * 4 + c) = omega arith in
        rw z (q.there (k * 4 + c) (omega arith))

    put_at : (k : ℕ) → k < m → pair_at ages' values' (n + k) ≡ grown_at k
    put_at k l =
        let z : (n + k) * 4 ≡ n * 4 + k * 4 = omega arith in
        let e = p.there k l in
        let e0 : get_or values' ((n + k) * 4) 0 ≡ get_or old_values (k * 4) 0 = rw z (q.there (k * 4) (omega arith)) in
        let e1 = word_put k 1 l (omega arith) in
        let e2 = word_put k 2 l (omega arith) in
        let e3 = word_put k 3 l (omega arith) in
        λ t. e t ∷ e0 t ∷ e1 t ∷ e2 t ∷ e3 t ∷ []

    pairs_are : pairs_from ages' values' 0 (n + m) ≡ pairs_from ages values 0 n ++ map grown_at (range 0 m)
    unfolding pairs_from
    pairs_are =
        run_append (pair_at ages' values') 0 n m
        ∙ ap₂ (λ us vs. us ++ vs) (run_same (pair_at ages' values') (pair_at ages values) 0 n (λ k u o. stays_at k (omega arith)))
        (listed_moved (pair_at ages' values') grown_at (0 + n) 0 m
        (λ k l.
        let y : 0 + n + k ≡ n + k = omega arith in
        let z : 0 + k ≡ k = omega arith in
        rw (y, z) (put_at k l)))

    -- each pair that is there stands before each that is put in
    all_before : (k j : ℕ) → k < n → j < m → before (suc lowest) (pair_at ages values k) (grown_at j) ≡ true
    all_before k j l o = go (eq-or-lt_of_le (omega arith))
      where
        last_before : before (suc lowest) (pair_at ages values (n - 1)) (grown_at j) ≡ true
        last_before = rw (lt-ltb (get_or ages (n - 1) 0) (get_or old_ages j 0 + by) (omega (arith, b.after (omega arith), rising lowest old_ages old_values m up 0 j (omega arith) o)))

        go : (k ≡ n - 1) ⊎ (k < n - 1) → before (suc lowest) (pair_at ages values k) (grown_at j) ≡ true
        go (inl e) = ap (λ i. before (suc lowest) (pair_at ages values i) (grown_at j)) e ∙ last_before
        go (inr v) =
            let near : set.near ≡ n - 1 = b.last (omega arith) in
            let led : Led (suc lowest) (pair_at ages values) (n - 1) = subst (Led (suc lowest) (pair_at ages values)) near room.led in
            before_transitive (suc lowest) (pair_at ages values k) (pair_at ages values (n - 1)) (grown_at j) (led k v) last_before

    item_at : {at : ℕ → List ℕ} {c : ℕ} (u : List ℕ) → Memᴰ u (map at (range 0 c)) → (k : ℕ) × (k < c) × (at k ≡ u)
    item_at {at} {c} u h =
        let (k, i, e) = Memᴰ.of_map at (range 0 c) h in
        (k, omega (arith, (range_at 0 c i).1), e)

    grown_ascend : ascending (suc lowest) (map grown_at (range 0 m)) ≡ true
    grown_ascend =
        ascends_run (suc lowest) grown_at 0 m
        (λ k u o. both_grown lowest (get_or old_ages k 0) (get_or old_ages (k + 1) 0) (row_at old_values k) (row_at old_values (k + 1)) (next_before lowest old_ages old_values m up k (omega arith)) by)

    put_behind : insert_all (suc lowest) (pairs_from ages values 0 n) (map grown_at (range 0 m)) ≡ pairs_from ages values 0 n ++ map grown_at (range 0 m)
    unfolding pairs_from
    put_behind =
        insert_all_behind (suc lowest) (pairs_from ages values 0 n) (map grown_at (range 0 m)) grown_ascend
        (λ s x i o.
        let (k, l, e) = item_at {at = pair_at ages values} {c = n} s i in
        let (j, q, f) = item_at {at = grown_at} {c = m} x o in
        sym (ap₂ (before (suc lowest)) e f) ∙ all_before k j l q)

    pub add_behind : PairsAdded lowest ages values set ages' values' (record { count = n + m; near = 0 }) (grown_pairs by most (pairs_from old_ages old_values 0 m))
    add_behind =
        let few = b.room in
        let put : PairsAdded lowest ages values set ages' values' (record { count = n + m; near = 0 }) (map grown_at (range 0 m))
        = record {
          ages_long = p.long;
          values_long = q.long;
          room = record { most = omega (arith, p.long); values_there = omega (arith, p.long, q.long, room.values_there); led = λ k l. absurd (omega arith) };
          put = λ s h. stand s h;
        } in
        pairs_as put (uncut b.some b.uncut)
      where
        stand : (s : List (List ℕ)) → PairsStand ages values n s → PairsStand ages' values' (n + m) (insert_all (suc lowest) s (map grown_at (range 0 m)))
        stand s h =
            let few = b.room in
            let e : pairs_from ages' values' 0 (n + m) ≡ insert_all (suc lowest) s (map grown_at (range 0 m)) = pairs_are ∙ sym put_behind ∙ ap (λ us. insert_all (suc lowest) us (map grown_at (range 0 m))) (h.set (omega arith)) in
            let c : length (insert_all (suc lowest) s (map grown_at (range 0 m))) ≡ n + m = ap length (sym e) ∙ pairs-length ages' values' 0 (n + m) in
            record { counted = omega (arith, p.long); set = λ _. e }
