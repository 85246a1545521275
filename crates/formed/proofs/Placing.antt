-- Where each node's entries stand: noted in a walk through them, and in the end those that are read off all entries for the node.
use Prim.Native.Nat.{ℕ, suc, ◌+◌, ◌-◌, ◌≤◌, ◌<◌}
use native.Mathlib.Omega.{arith}
use mathlib.Core.Path.{◌≡◌, sym, ap, ◌∙◌}
use mathlib.Core.List.{List, [], ◌++◌}
use lib.ListN.{length, get_or, set, length-set}
use lib.Seq.{get_or-set_same, get_or-set_other}
use borrow.Author.Count.{below_more}
use Rattle.meaning.specs.Kept.{Entry}
use Rattle.meaning.specs.declared.Point.{Point}
use Rattle.method.specs.Stored.{held}
use Rattle.entries.specs.Entries.{entries_from, has_owner}
use Rattle.entries.proofs.Entries.{entries_append}
use Rattle.node_sets.specs.NodeEntries.{set_entries}
use Rattle.formed.specs.Walk.{behind, sets_rest, nodes_rest}
use Rattle.formed.specs.Steps.{rest_at, NodeTo, EntriesPlaced}
use Rattle.formed.proofs.Walks.{rows_own, pairs_own}
use Rattle.formed.proofs.Nodes.{NodesGoing}

-- node y's entries begin at a, its pairs at p, and r is behind them
pub record NotedAt (os ns vs : List ℕ) (count : ℕ) (low : ℕ → Point) (end : ℕ → ℕ) (y a p r : ℕ) : Type 0 where
  pub rows_first : a ≤ p
  pub pairs_last : p ≤ r
  pub within : r ≤ count
  pub begun : rest_at os ns vs count a ≡ nodes_rest low end (entries_from os ns vs 0 count) y
  pub paired : rest_at os ns vs count p ≡ sets_rest y (low y) (end y - (low y).0) (nodes_rest low end (entries_from os ns vs 0 count) y)
  pub ended : rest_at os ns vs count r ≡ nodes_rest low end (entries_from os ns vs 0 count) (suc y)

-- the same of each node below x, in lists, and the next one's entries begin at next
pub record Noted (os ns vs : List ℕ) (count : ℕ) (low : ℕ → Point) (end : ℕ → ℕ) (nodes : ℕ) (begins pairs : List ℕ) (next x : ℕ) : Type 0 where
  pub room : nodes < length begins
  pub room_pairs : nodes ≤ length pairs
  pub here : get_or begins x 0 ≡ next
  pub each : (y : ℕ) → y < x → NotedAt os ns vs count low end y (get_or begins y 0) (get_or pairs y 0) (get_or begins (y + 1) 0)

module _ (os ns vs : List ℕ) (count : ℕ) (b : List ℕ) (low : ℕ → Point) (end : ℕ → ℕ) (nodes : ℕ) where
  pub noted_none : (begins pairs : List ℕ) → nodes < length begins → nodes ≤ length pairs → Noted os ns vs count low end nodes (set begins 0 0) pairs 0 0
  noted_none begins pairs l m = record { room = omega (arith, length-set begins 0 0); room_pairs = m; here = get_or-set_same begins 0 0 0 (omega arith); each = λ y o. absurd (omega arith) }

  module _ {begins pairs : List ℕ} {next x : ℕ} (n : Noted os ns vs count low end nodes begins pairs next x) (o : x < nodes) (g : NodesGoing os ns vs count b low end next x) where
    pub noted_more : {p r : ℕ} → NodeTo os ns vs count next b x (low x) (end x - (low x).0) p r → Noted os ns vs count low end nodes (set begins (x + 1) r) (set pairs x p) r (x + 1)
    noted_more {p} {r} s =
        record {
          room = omega (arith, n.room, length-set begins (x + 1) r);
          room_pairs = omega (arith, n.room_pairs, length-set pairs x p);
          here = new_begin;
          each = below_more (λ y. NotedAt os ns vs count low end y (get_or (set begins (x + 1) r) y 0) (get_or (set pairs x p) y 0) (get_or (set begins (x + 1) r) (y + 1) 0)) x
              (λ y l. rw (get_or-set_other begins (x + 1) y r 0 (λ e. omega arith), get_or-set_other pairs x y p 0 (λ e. omega arith), get_or-set_other begins (x + 1) (y + 1) r 0 (λ e. omega arith)) (n.each y l))
              (rw (get_or-set_other begins (x + 1) x r 0 (λ e. omega arith), n.here, get_or-set_same pairs x p 0 (omega (arith, n.room_pairs)), new_begin) own);
        }
      where
        new_begin : get_or (set begins (x + 1) r) (x + 1) 0 ≡ r
        new_begin = get_or-set_same begins (x + 1) r 0 (omega (arith, n.room))

        own : NotedAt os ns vs count low end x next p r
        own =
            record {
              rows_first = s.rows_first;
              pairs_last = s.pairs_last;
              within = s.within;
              begun = g.rest;
              paired = s.paired ∙ ap (sets_rest x (low x) (end x - (low x).0)) g.rest;
              ended = s.rest ∙ ap (λ es. behind (has_owner x 1) (sets_rest x (low x) (end x - (low x).0) es)) g.rest;
            }

  -- from one entry to another, and then the rest
  span : (a p : ℕ) → a ≤ p → p ≤ count → entries_from os ns vs a (p - a) ++ rest_at os ns vs count p ≡ rest_at os ns vs count a
  span a p l m =
      let e : count - a ≡ (p - a) + (count - p) = omega arith in
      let f : a + (p - a) ≡ p = omega arith in
      sym (ap (entries_from os ns vs a) e ∙ entries_append os ns vs a (p - a) (count - p) ∙ ap (λ k. entries_from os ns vs a (p - a) ++ entries_from os ns vs k (count - p)) f)

  module _ {begins pairs : List ℕ} {next x : ℕ} (n : Noted os ns vs count low end nodes begins pairs next x) (e : x ≡ nodes) (done : nodes_rest low end (entries_from os ns vs 0 count) nodes ≡ []) where
    at : (y : ℕ) → y < nodes → NotedAt os ns vs count low end y (get_or begins y 0) (get_or pairs y 0) (get_or begins (y + 1) 0)
    at y o = n.each y (omega arith)

    pub noted_all : EntriesPlaced os ns vs count low end nodes begins pairs
    noted_all =
        record {
          rows_first = λ y o. (at y o).rows_first;
          pairs_last = λ y o. (at y o).pairs_last;
          within = λ y o. (at y o).within;
          rows_there = λ y o.
              let h = at y o in
              let A : List Entry = entries_from os ns vs (get_or begins y 0) (get_or pairs y 0 - get_or begins y 0) in
              rows_own b low end (entries_from os ns vs 0 count) nodes done y o A
              (ap (λ ys. A ++ ys) (sym h.paired) ∙ span (get_or begins y 0) (get_or pairs y 0) h.rows_first (omega (arith, h.pairs_last, h.within)) ∙ h.begun);
          pairs_there = λ y o.
              let h = at y o in
              let A : List Entry = entries_from os ns vs (get_or pairs y 0) (get_or begins (y + 1) 0 - get_or pairs y 0) in
              pairs_own b low end (entries_from os ns vs 0 count) nodes done y o A (ap (λ ys. A ++ ys) (sym h.ended) ∙ span (get_or pairs y 0) (get_or begins (y + 1) 0) h.pairs_last h.within ∙ h.paired);
        }

-- the first kept points by another name
pub placed_as : {os ns vs : List ℕ} {count : ℕ} {low low' : ℕ → Point} {end : ℕ → ℕ} {nodes : ℕ} {begins pairs : List ℕ} → ((x : ℕ) → x < nodes → low x ≡ low' x)
    → EntriesPlaced os ns vs count low end nodes begins pairs → EntriesPlaced os ns vs count low' end nodes begins pairs
placed_as {os} {ns} {vs} {count} {low} {low'} {end} same p =
    record {
      rows_first = p.rows_first;
      pairs_last = p.pairs_last;
      within = p.within;
      rows_there = λ x o. p.rows_there x o ∙ ap (λ (k : Point). set_entries x (held (entries_from os ns vs 0 count) x) k (end x - k.0)) (same x o);
      pairs_there = p.pairs_there;
    }
