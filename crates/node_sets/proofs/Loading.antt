-- A node's entries as its sets at a run of points: where each set's rows begin, and which number stands beside each; and the marks that are set so.
use Prim.Native.Nat.{ℕ, zero, suc, ◌+◌, ◌-◌, ◌≤◌, ◌<◌}
use mathlib.Core.Path.{◌≡◌, refl, ap, ap₂, ◌∙◌}
use mathlib.Core.List.{List}
use native.Mathlib.Omega.{arith}
use lib.ListN.{length, get_or}
use lib.Dec.{ltb}
use borrow.Author.Tests.{eqb-true, ltb-true, ltb-false}
use Rattle.meaning.specs.Log.{point}
use Rattle.meaning.specs.declared.Point.{Point}
use Rattle.meaning.proofs.Points.{Tested, passed, failed, tested}
use Rattle.rowset.specs.Rows.{rows_from}
use Rattle.room.specs.Room.{set_in, SetsInOrder}
use Rattle.entries.specs.Entries.{entries_from, is_word, run_of}
use Rattle.entries.specs.Appended.{WordsPut, Copied, Extended}
use Rattle.entries.proofs.Copies.{rows_part}
use Rattle.entries.proofs.Growth.{extended_none, extended_over, extended_as}
use Rattle.entries.proofs.Streaks.{streak_all}
use Rattle.entries.proofs.Walking.{RunAt, number_walked}
use Rattle.node_sets.specs.NodeEntries.{set_entries, Spaces, NumbersWithin, Loaded}
use Rattle.node_sets.specs.Parts.{EndsMarked, MarksRaised, PointsStand}
use Rattle.node_sets.proofs.Gathered.{entries_many, sets_apart, numbers_later}

-- ---- a node's sets, one after the other

module _ (S : Point → List (List ℕ)) (low : Point) where
  -- how many rows the sets at k points from low on have
  abbrev ahead : ℕ → ℕ
  ahead zero = 0
  ahead (suc k) = ahead k + length (S (point (low.0 + k)))

  ahead_rises : (a d : ℕ) → ahead a ≤ ahead (a + d)
  ahead_rises a zero = let e : a + 0 ≡ a = omega arith in rw e (omega arith)
  ahead_rises a (suc d) = let e : a + suc d ≡ suc (a + d) = omega arith in rw e (omega (arith, ahead_rises a d))

  ahead_before : (a b : ℕ) → a < b → ahead (suc a) ≤ ahead b
  ahead_before a b l = let e : suc a + (b - suc a) ≡ b = omega arith in rw e at (ahead_rises (suc a) (b - suc a))

  -- a row of k sets is one of a set among them
  set_of_row : (k i : ℕ) → i < ahead k → (q : ℕ) × (q < k) × (ahead q ≤ i) × (i < ahead (suc q))
  set_of_row zero i l = absurd (omega arith)
  set_of_row (suc k) i l = go (set_of_row k i) (tested (ltb i (ahead k)))
    where
      go : (i < ahead k → (q : ℕ) × (q < k) × (ahead q ≤ i) × (i < ahead (suc q))) → Tested (ltb i (ahead k)) → (q : ℕ) × (q < suc k) × (ahead q ≤ i) × (i < ahead (suc q))
      go h (passed t) =
          let (q, a, b, c) = h (ltb-true i (ahead k) t) in
          (q, omega arith, b, c)
      go h (failed t) = (k, omega arith, ltb-false i (ahead k) t, l)

  -- where the entries from cursor on are those of node x at n points from low on
  module _ (os ns vs : List ℕ) (cursor count x n : ℕ) (ordered : cursor ≤ count) (r : entries_from os ns vs cursor (count - cursor) ≡ set_entries x S low n) where
    -- those of k points are passed
    abbrev Behind : ℕ → Type 0
    Behind k = (cursor + ahead k ≤ count) × (entries_from os ns vs (cursor + ahead k) (count - (cursor + ahead k)) ≡ set_entries x S (point (low.0 + k)) (n - k))

    run_of_lem : (k : ℕ) → k < n → Behind k → RunAt os ns vs (cursor + ahead k) count (run_of ns (cursor + ahead k) count (low.0 + k)) (S (point (low.0 + k))) (set_entries x S (point (low.0 + (k + 1))) (n - (k + 1)))
    run_of_lem k l b =
        number_walked os ns vs (cursor + ahead k) count x b.0 0 (low.0 + k) (S (point (low.0 + k))) (set_entries x S (point (low.0 + (k + 1))) (n - (k + 1))) (b.1 ∙ sets_apart x S low k n l)
        (numbers_later x S (point (low.0 + k)) (point (low.0 + (k + 1))) (n - (k + 1)) (omega arith))

    behind : (k : ℕ) → k ≤ n → Behind k
    behind zero l =
        let e : cursor + 0 ≡ cursor = omega arith in
        let f : low.0 + 0 ≡ low.0 = omega arith in
        let g : n - 0 ≡ n = omega arith in
        (omega arith, rw (e, f, g) r)
    behind (suc k) l =
        let u = run_of_lem k (omega arith) (behind k (omega arith)) in
        let e : cursor + ahead k + length (S (point (low.0 + k))) ≡ cursor + ahead (suc k) = omega arith in
        let f : k + 1 ≡ suc k = omega arith in
        (rw e at u.within, rw (e, f) at u.behind)

    -- all entries are passed
    ahead_all : cursor + ahead n ≡ count
    ahead_all =
        let b = behind n (omega arith) in
        let e : n - n ≡ 0 = omega arith in
        let none = ap length (rw e at b.1) in
        omega (arith, b.0, entries_many os ns vs (cursor + ahead n) (count - (cursor + ahead n)))

    pub set_rows : (k : ℕ) → k < n → rows_from vs (cursor + ahead k) (length (S (point (low.0 + k)))) ≡ S (point (low.0 + k))
    set_rows k l = (run_of_lem k l (behind k (omega arith))).these

    pub set_numbers : (k j : ℕ) → k < n → j < length (S (point (low.0 + k))) → get_or ns (cursor + ahead k + j) 0 ≡ low.0 + k
    unfolding run_of
    set_numbers k j l m =
        let u = run_of_lem k l (behind k (omega arith)) in
        eqb-true (get_or ns (cursor + ahead k + j) 0) (low.0 + k) (streak_all (is_word ns (low.0 + k)) (cursor + ahead k) (count - (cursor + ahead k)) j (omega (arith, u.many)))

    -- the set that an entry's row is in, which its number says
    entry_of : (i : ℕ) → cursor ≤ i → i < count → (q : ℕ) × (q < n) × (ahead q ≤ i - cursor) × (i - cursor < ahead (suc q)) × (get_or ns i 0 ≡ low.0 + q)
    entry_of i a b =
        let (q, l, c, d) = set_of_row n (i - cursor) (omega (arith, ahead_all)) in
        let f : cursor + ahead q + (i - cursor - ahead q) ≡ i = omega arith in
        (q, l, c, d, rw f at (set_numbers q (i - cursor - ahead q) l (omega arith)))

    pub row_of : (i k : ℕ) → cursor ≤ i → i < count → get_or ns i 0 ≡ low.0 + k → i - cursor < ahead (suc k)
    row_of i k a b e =
        let (q, l, c, d, f) = entry_of i a b in
        let g : q ≡ k = omega arith in
        rw g at d

    -- the last row of k sets has an entry of one of their points
    pub last_of : (k : ℕ) → k ≤ n → 0 < ahead k → (q : ℕ) × (q < k) × (cursor + ahead k ≤ count) × (get_or ns (cursor + ahead k - 1) 0 ≡ low.0 + q)
    last_of k l m =
        let (q, o, c, d) = set_of_row k (ahead k - 1) (omega arith) in
        let f : cursor + ahead q + (ahead k - 1 - ahead q) ≡ cursor + ahead k - 1 = omega arith in
        (q, o, (behind k l).0, rw f at (set_numbers q (ahead k - 1 - ahead q) (omega arith) (omega arith)))

    -- the numbers of a node's entries are its points
    pub numbers_within : NumbersWithin ns cursor count low.0 n
    numbers_within = record { least = λ i a b. let (q, l, c, d, f) = entry_of i a b in omega arith; most = λ i a b. let (q, l, c, d, f) = entry_of i a b in omega arith }

-- ---- nothing to load

pub loaded_none : (ns vs : List ℕ) (cursor count : ℕ) (low : Point) (n : ℕ) {rows at : List ℕ} {sets : ℕ} → n ≡ 0 → SetsInOrder rows at sets → Loaded ns vs cursor count low n rows at rows at sets
loaded_none ns vs cursor count low n {rows} {at} {sets} e h =
    let f : sets + 0 ≡ sets = omega arith in
    rw e
    (record {
      end = rw f (omega arith);
      more = extended_none h;
      read = λ os x S r. extended_none h;
      numbered = λ os x S r k j l m. absurd (omega arith);
    })

-- ---- all loaded: rows copied, marks filled, set by the entries, and raised

-- there is a mark behind the set of each number's point
pub numbers_fit : {ns : List ℕ} {cursor count low n : ℕ} {rows at at₁ : List ℕ} {sets : ℕ} {word : ℕ → ℕ} → Spaces rows at sets n (count - cursor) → NumbersWithin ns cursor count low n → WordsPut at (sets + 1) at₁ n word
    → NumbersWithin ns cursor count low (length at₁ - 1 - sets)
numbers_fit s w f = record { least = w.least; most = λ i a b. omega (arith, w.most i a b, s.marks, f.long) }

module _ {ns : List ℕ} (vs : List ℕ) {cursor count : ℕ} {low : Point} {n : ℕ} {rows₀ rows at at₁ at₂ at₃ : List ℕ} {sets : ℕ} (ordered : cursor ≤ count) (s : Spaces rows₀ at sets n (count - cursor))
    (c : Copied rows₀ (get_or at sets 0) rows (count - cursor) (rows_from vs cursor (count - cursor))) (f : WordsPut at (sets + 1) at₁ n (λ _. get_or at sets 0)) (m : EndsMarked ns cursor count low.0 at₁ at₂ sets (get_or at sets 0))
    (t : MarksRaised at₂ at₃ sets n) where
  all_long : length at₃ ≡ length at
  all_long = t.long ∙ m.long ∙ f.long

  marks_stay : (q : ℕ) → q ≤ sets → get_or at₃ q 0 ≡ get_or at q 0
  marks_stay q l = t.below q l ∙ m.below q l ∙ f.below q (omega arith)

  -- a mark is no higher than the entries of the points before it make it
  mark_most : (k b : ℕ) → k ≤ n → get_or at sets 0 ≤ b → ((i j : ℕ) → j < k → cursor ≤ i → i < count → get_or ns i 0 ≡ low.0 + j → get_or at sets 0 + (i + 1 - cursor) ≤ b) → get_or at₃ (sets + k) 0 ≤ b
  mark_most k b l h g = t.most k b l go
    where
      go : (j : ℕ) → j ≤ k → get_or at₂ (sets + j) 0 ≤ b
      go zero o =
          let e : sets + 0 ≡ sets = omega arith in
          rw e (omega (arith, m.below sets (omega arith), f.below sets (omega arith)))
      go (suc j) o =
          let e : sets + suc j ≡ sets + j + 1 = omega arith in
          let d : sets + 1 + j ≡ sets + j + 1 = omega arith in
          let u : get_or at₁ (sets + j + 1) 0 ≡ get_or at sets 0 = rw d at (f.there j (omega arith)) in
          rw e (m.most j b (omega arith) (λ i p q r. g i j (omega arith) p q r))

  -- and as high
  mark_over : (i j k : ℕ) → j < k → k ≤ n → cursor ≤ i → i < count → get_or ns i 0 ≡ low.0 + j → get_or at sets 0 + (i + 1 - cursor) ≤ get_or at₃ (sets + k) 0
  mark_over i j k l h a b e =
      let d : sets + (j + 1) ≡ sets + j + 1 = omega arith in
      let u : get_or at₂ (sets + j + 1) 0 ≤ get_or at₃ (sets + k) 0 = rw d at (t.over (j + 1) k (omega arith) h) in
      omega (arith, m.over i j a b e)

  begin_over : (k : ℕ) → k ≤ n → get_or at sets 0 ≤ get_or at₃ (sets + k) 0
  begin_over k l =
      let e : sets + 0 ≡ sets = omega arith in
      let u : get_or at₂ sets 0 ≤ get_or at₃ (sets + k) 0 = rw e at (t.over 0 k (omega arith) l) in
      omega (arith, m.below sets (omega arith), f.below sets (omega arith))

  all_end : get_or at₃ (sets + n) 0 ≤ get_or at sets 0 + (count - cursor)
  all_end = mark_most n (get_or at sets 0 + (count - cursor)) (omega arith) (omega arith) (λ i j o a b e. omega arith)

  all_steps : (q : ℕ) → q < sets + n → get_or at₃ q 0 ≤ get_or at₃ (q + 1) 0
  all_steps q l = go (tested (ltb q sets))
    where
      go : Tested (ltb q sets) → get_or at₃ q 0 ≤ get_or at₃ (q + 1) 0
      go (passed u) =
          let o : q < sets = ltb-true q sets u in
          omega (arith, marks_stay q (omega arith), marks_stay (q + 1) (omega arith), s.laid.steps q o)
      go (failed u) =
          let o : sets ≤ q = ltb-false q sets u in
          let e : sets + (q - sets) ≡ q = omega arith in
          let g : sets + (q - sets + 1) ≡ q + 1 = omega arith in
          rw (e, g) at (t.most (q - sets) (get_or at₃ (sets + (q - sets + 1)) 0) (omega arith) (λ j a. t.over j (q - sets + 1) (omega arith) (omega arith)))

  all_more : Extended rows at rows at₃ sets n (λ k. set_in rows at₃ (sets + k))
  all_more =
      record {
        rows_long = refl;
        at_long = all_long;
        laid = record { marks = omega (arith, all_long, s.marks); steps = all_steps; words = omega (arith, all_end, c.long, s.words) };
        marks = marks_stay;
        earlier = λ q l. ap₂ (λ a b. rows_from rows a (b - a)) (marks_stay q (omega arith)) (marks_stay (q + 1) (omega arith));
        sets = λ k l. refl;
      }

  module _ (os : List ℕ) (x : ℕ) (S : Point → List (List ℕ)) (r : entries_from os ns vs cursor (count - cursor) ≡ set_entries x S low n) where
    mark_is : (k : ℕ) → k ≤ n → get_or at₃ (sets + k) 0 ≡ get_or at sets 0 + ahead S low k
    mark_is k l = omega (arith, most, over (tested (ltb 0 (ahead S low k))))
      where
        most : get_or at₃ (sets + k) 0 ≤ get_or at sets 0 + ahead S low k
        most = mark_most k (get_or at sets 0 + ahead S low k) l (omega arith) (λ i j o a b e. omega (arith, row_of S low os ns vs cursor count x n ordered r i j a b e, ahead_before S low j k o))

        over : Tested (ltb 0 (ahead S low k)) → get_or at sets 0 + ahead S low k ≤ get_or at₃ (sets + k) 0
        over (passed u) =
            let o : 0 < ahead S low k = ltb-true 0 (ahead S low k) u in
            let (q, a, b, e) = last_of S low os ns vs cursor count x n ordered r k l o in
            omega (arith, mark_over (cursor + ahead S low k - 1) q k a l (omega arith) (omega arith) e)
        over (failed u) = omega (arith, ltb-false 0 (ahead S low k) u, begin_over k l)

    next_is : (k : ℕ) → k < n → get_or at₃ (sets + k + 1) 0 ≡ get_or at sets 0 + (ahead S low k + length (S (point (low.0 + k))))
    next_is k l =
        let e : sets + suc k ≡ sets + k + 1 = omega arith in
        rw e at (mark_is (suc k) (omega arith))

    set_is : (k : ℕ) → k < n → set_in rows at₃ (sets + k) ≡ S (point (low.0 + k))
    set_is k l =
        let b : ℕ = get_or at sets 0 in
        let d : ℕ = ahead S low k in
        let g : ℕ = length (S (point (low.0 + k))) in
        let e : b + (d + g) - (b + d) ≡ g = omega arith in
        ap₂ (λ p q. rows_from rows p (q - p)) (mark_is k (omega arith)) (next_is k l)
        ∙ ap (rows_from rows (b + d)) e
        ∙ rows_part rows vs b cursor (count - cursor) c.there d g (omega (arith, all_end, next_is k l, ahead_fits))
        ∙ set_rows S low os ns vs cursor count x n ordered r k l
      where
        ahead_fits : ahead S low (suc k) ≤ count - cursor
        ahead_fits = omega (arith, ahead_before S low k n l, mark_is n (omega arith), all_end)

    points_are : PointsStand at₃ sets n low.0 ns cursor
    points_are k j l o =
        let e : cursor + (get_or at₃ (sets + k) 0 - get_or at₃ sets 0) ≡ cursor + ahead S low k = omega (arith, mark_is k (omega arith), marks_stay sets (omega arith)) in
        rw e (set_numbers S low os ns vs cursor count x n ordered r k j l (omega (arith, mark_is k (omega arith), next_is k l)))

  pub loaded_all : Loaded ns vs cursor count low n rows₀ at rows at₃ sets
  loaded_all =
      record {
        end = all_end;
        more = extended_over s.laid c all_more;
        read = λ os x S r. extended_over s.laid c (extended_as all_more (set_is os x S r));
        numbered = points_are;
      }
