-- How much room a walk over the rule's tree needs at most: each node's sets more that the room can hold double the nodes that it is enough for.
use Prim.Native.Nat.{ℕ, zero, suc, ◌+◌, ◌-◌, ◌*◌, ◌^◌, ◌≤◌, ◌<◌, max}
use native.Mathlib.Nat.{two-pow-succ}
use native.Mathlib.Omega.{arith}
use mathlib.Core.Path.{◌≡◌, refl, sym, ap, ap₂, ◌∙◌}
use mathlib.Core.List.{List, [], ◌∷◌, map, Memᴰ}
use lib.ListN.{length, get_or, drop, length-append, length-map}
use lib.Dec.{ltb}
use borrow.Author.Tests.{ltb-true, ltb-false}
use Rattle.meaning.specs.Lists.{range, gather}
use Rattle.meaning.specs.Log.{points_from}
use Rattle.meaning.specs.Kept.{Entry, entry_of}
use Rattle.meaning.specs.declared.Point.{Point}
use Rattle.meaning.specs.Outcome.{given, most_open, most_kept, most_rows}
use Rattle.meaning.specs.View.{view_of, children_in}
use Rattle.meaning.specs.RuleFile.{Accepted, checking, node_count, node_at, children_of, formula_at, last_node}
use Rattle.meaning.proofs.Accepted.{nodes_most, last_is_node}
use Rattle.meaning.proofs.Points.{Tested, passed, failed, tested}
use Rattle.method.specs.Stored.{Stored, held, held_pairs}
use Rattle.method.specs.Step.{wanted_from, count_before}
use Rattle.method.specs.WellFormed.{own_entries, Formed}
use Rattle.method.specs.Room.{weight, other_at, previous_in, others_in, heavier, lighter, need, new_points, kept_rows, rows_most, sets_most, sets_needed, marks_needed, SettlesAtMost, most_sets, marks_to_time, RoomEnough}
use Rattle.method.proofs.Views.{Branches, none, single, double, viewed}
use Rattle.method.proofs.Bounds.{below, by_children, span}
use Rattle.method.proofs.Inputs.{one, two}
use Rattle.method.proofs.Sums.{sum_same, sum_plus, length_gather}
use Rattle.method.proofs.Lags.{new_points_lem}
use Rattle.method.proofs.Weights.{both_sides, lighter_less, weight-step, weight_two, need_step, whole_weight, nodes_split, no_shares}

module _ (b : List ℕ) (a : Accepted) (ok : checking b ≡ given a) where
  -- every tree has a node that isn't "previous"
  some_others : (x : ℕ) → x < node_count b → 1 ≤ others_in b x
  some_others = by_children b a ok (λ x. 1 ≤ others_in b x) (λ x o h. go x o h (viewed (formula_at b) (node_at b x)).shape)
    where
      go : (x : ℕ) → x < node_count b → ((y : ℕ) → Memᴰ y (children_of (node_at b x)) → 1 ≤ others_in b y) → Branches (view_of (node_at b x)) → 1 ≤ others_in b x
      go x o h (none e p) = rw (weight-step b a ok _ x o, p) (omega arith)
      go x o h (single c e) = rw (weight-step b a ok _ x o, e) (omega (arith, h c (rw e one)))
      go x o h (double c d e p) = rw (weight-step b a ok _ x o, p) (omega arith)

  -- Each node's sets take at most a fixed size beside its share.
  module _ (size share : ℕ → ℕ) (most : ℕ) (fits : (x : ℕ) → x < node_count b → size x ≤ share x + most) where
    -- the shares of a tree and m times that size are enough for fewer than 2 ^ m - 1 nodes
    abbrev Within : ℕ → Type 0
    Within x = (m : ℕ) → others_in b x + 1 < 2 ^ m → need b size x ≤ weight b share x + m * most

    share_within : (x : ℕ) → x < node_count b → size x ≤ weight b share x + most
    share_within x o = omega (arith, fits x o, weight-step b a ok share x o)

    pub need_within : (x : ℕ) → x < node_count b → Within x
    need_within = by_children b a ok Within (λ x o h. go x o h (viewed (formula_at b) (node_at b x)).shape)
      where
        go : (x : ℕ) → x < node_count b → ((y : ℕ) → Memᴰ y (children_of (node_at b x)) → Within y) → Branches (view_of (node_at b x)) → Within x
        go x o h t zero u = absurd (omega arith)
        go x o h t (suc zero) u = absurd (omega (arith, some_others x o))
        go x o h (none e p) (suc (suc m)) u =
            let nx : need b size x ≡ size x = rw e at (need_step b a ok size x o) in
            omega (arith, share_within x o)
        go x o h (single c e) (suc (suc m)) u =
            let l : c < x = below b a ok x o c (rw e one) in
            let nx : need b size x ≡ max (need b size c) (size c + size x) = rw e at (need_step b a ok size x o) in
            let wx = rw e at (weight-step b a ok share x o) in
            let ox = rw e at (weight-step b a ok (other_at b) x o) in
            omega (arith, h c (rw e one) (suc (suc m)) (omega arith), fits x o, share_within c (omega arith))
        go x o h (double c d e p) (suc (suc m)) u = both m u
          where
            H : ℕ
            H = heavier b c d

            L : ℕ
            L = lighter b c d

            low : (H < node_count b) × (L < node_count b)
            low = both_sides b c d (λ y. y < node_count b) (omega (arith, below b a ok x o c (rw e one))) (omega (arith, below b a ok x o d (rw e two)))

            others : others_in b x ≡ 1 + (others_in b H + others_in b L)
            others = rw p at (weight_two b a ok (other_at b) x c d o (ap children_in e))

            -- the lighter has less than half of the nodes, and is walked beside the heavier's sets alone
            both : (m : ℕ) → others_in b x + 1 < 2 ^ suc (suc m) → need b size x ≤ weight b share x + suc (suc m) * most
            both zero u = absurd (omega (arith, others, some_others H low.0, some_others L low.1))
            both (suc m) u =
                let (first, second) = both_sides b c d Within (h c (rw e one)) (h d (rw e two)) in
                let nx : need b size x ≡ max (need b size H) (max (size H + need b size L) (size H + size L + size x)) = rw e at (need_step b a ok size x o) in
                omega (
                  arith,
                  first (suc (suc (suc m))) (omega (arith, others)),
                  second (suc (suc m)) (omega (arith, others, lighter_less b c d, two-pow-succ (suc (suc m)))),
                  weight_two b a ok share x c d o (ap children_in e),
                  fits x o,
                  share_within H low.0,
                  share_within L low.1,
                )

-- ---- the room of a call

-- with q of 32 nodes "previous": the worst is five times 33 + 17
worst : (k q : ℕ) → k + q ≤ 32 → (m : ℕ) × (k + 1 < 2 ^ m) × (m * (most_open + 1 + q) ≤ most_sets)
worst k q u = go (tested (ltb q 2)) (tested (ltb q 18)) (tested (ltb q 30))
  where
    go : Tested (ltb q 2) → Tested (ltb q 18) → Tested (ltb q 30) → (m : ℕ) × (k + 1 < 2 ^ m) × (m * (most_open + 1 + q) ≤ most_sets)
    go (passed c) d e = (6, omega arith, omega (arith, ltb-true))
    go (failed c) (passed d) e = (5, omega (arith, ltb-false), omega (arith, ltb-true))
    go (failed c) (failed d) (passed e) = (4, omega (arith, ltb-false), omega (arith, ltb-true))
    go (failed c) (failed d) (failed e) = (3, omega (arith, ltb-false), omega arith)

-- each row of some sets as an entry
pub entries_rows : (e : Point → List ℕ → Entry) (S : Point → List (List ℕ)) (js : List Point) → length (gather (λ j. map (e j) (S j)) js) ≡ length (gather S js)
entries_rows e S [] = refl
entries_rows e S (j ∷ js) =
    length-append (map (e j) (S j)) (gather (λ j. map (e j) (S j)) js) ∙ ap₂ (λ p q. p + q) (length-map (S j) (e j)) (entries_rows e S js) ∙ sym (length-append (S j) (gather S js))

module _ (s : Stored) (f : Formed s) (w : List ℕ) where
  -- a node's entries are its rows and its pairs
  entries-split : (x : ℕ) → length (own_entries s x) ≡ length (kept_rows s w x) + length (held_pairs s.entries x)
  unfolding own_entries
  entries-split x =
      let low : Point = wanted_from s.rule (count_before s) x in
      length-append (gather (λ j. map (entry_of x 0 j.0) (held s.entries x j)) (points_from low (count_before s x - low.0))) _
      ∙ ap₂ (λ p q. p + q) (entries_rows (λ j. entry_of x 0 j.0) (held s.entries x) (points_from low (count_before s x - low.0)))
      (length-map (held_pairs s.entries x) (λ p. entry_of x 1 (get_or p 0 0) (drop 1 p)))

  kept_shares : weight s.rule (λ x. length (kept_rows s w x)) (last_node s.rule) ≤ most_kept
  kept_shares =
      let (a, ok) = f.accepted in
      let nodes : List ℕ = range 0 (node_count s.rule) in
      omega (
        arith,
        whole_weight s.rule a ok (λ x. length (kept_rows s w x)),
        length_gather (own_entries s) nodes,
        sum_same (λ x. length (own_entries s x)) (λ x. length (kept_rows s w x) + length (held_pairs s.entries x)) nodes (λ x m. entries-split x),
        sum_plus (λ x. length (kept_rows s w x)) (λ x. length (held_pairs s.entries x)) nodes,
        ap length f.entries_own,
        f.few_kept,
      )

  pub room_enough : RoomEnough s w
  room_enough =
      let (m, u, v) = worst (others_in b (last_node b)) q nodes in
      record {
        points = news;
        by_points = λ most m h u. within most m h (omega arith);
        calm = λ h. omega (arith, within 1 6 h (omega (arith, nodes)));
        sets = omega (arith, within (most_open + 1 + q) m news u);
        rows = omega (arith, kept_shares, need_within b a ok (rows_most s w) (λ x. length (kept_rows s w x)) (most_rows * (most_open + 1 + q)) (λ x o. omega (arith, news x o)) (last_node b) last m u);
        by_times = by_times;
        marks = omega (arith, by_times, f.few_times);
      }
    where
      b : List ℕ
      b = s.rule

      a : Accepted
      a = f.accepted.0

      ok : checking b ≡ given a
      ok = f.accepted.1

      q : ℕ
      q = previous_in b (last_node b)

      last : last_node b < node_count b
      last = last_is_node b a ok

      nodes : others_in b (last_node b) + q ≤ 32
      nodes = omega (arith, nodes_split b a ok, nodes_most b a ok)

      news : SettlesAtMost s w (most_open + 1 + q)
      news = new_points_lem s f w

      by_times : marks_needed s w ≤ marks_to_time * (length s.times + 1)
      by_times =
          omega (arith, need_within b a ok (sets_most s w) (λ x. 0) (length s.times + 1) (λ x o. omega (arith, span s a ok f.few_times f.times_many w x o)) (last_node b) last marks_to_time (omega (arith, nodes)), no_shares b a ok)

      within : (most m : ℕ) → SettlesAtMost s w most → others_in b (last_node b) + 1 < 2 ^ m → sets_needed s w ≤ m * most
      within most m h u = omega (arith, need_within b a ok (new_points s w) (λ x. 0) most (λ x o. omega (arith, h x o)) (last_node b) last m u, no_shares b a ok)
