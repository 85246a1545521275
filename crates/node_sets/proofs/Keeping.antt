-- Points put as numbers, set after set, and the rows of sets, or pairs, put behind what is kept.
use Prim.Native.Nat.{ℕ, zero, suc, ◌+◌, ◌-◌, ◌≤◌, ◌<◌}
use mathlib.Core.Path.{◌≡◌, refl, sym, ap, ap₂, ◌∙◌}
use mathlib.Core.List.{List, [], ◌∷◌, ◌++◌, map}
use native.Mathlib.Omega.{arith}
use lib.ListN.{length, get_or, take, drop, length-append, length-map}
use lib.Seq.{get_or-take, get_or-drop}
use lib.Dec.{ltb}
use borrow.Author.Tests.{ltb-true, ltb-false}
use Rattle.meaning.specs.Lists.{range}
use Rattle.meaning.specs.Log.{point}
use Rattle.meaning.specs.Kept.{Entry, entry_of}
use Rattle.meaning.specs.declared.Point.{Point}
use Rattle.meaning.proofs.Lists.{range_length}
use Rattle.meaning.proofs.Points.{Tested, passed, failed, tested}
use Rattle.rowset.specs.Rows.{row_at, rows_from}
use Rattle.rowset.specs.Sets.{Run}
use Rattle.rowset.proofs.Runs.{rows_at, rows_length}
use Rattle.kinds.specs.Kinds.{pairs_from}
use Rattle.room.specs.Room.{set_in, set_at, SetsInOrder}
use Rattle.room.proofs.SetsInOrder.{marks_rise}
use Rattle.entries.specs.Appended.{WordsPut, Copied}
use Rattle.entries.proofs.Listed.{listed_append, listed_moved, map_twice}
use Rattle.node_sets.specs.NodeEntries.{set_entries, aged_entries}
use Rattle.node_sets.specs.Blocks.{EntriesPut}
use Rattle.node_sets.specs.Parts.{PointsPut, Numbered}
use Rattle.node_sets.proofs.Gathered.{sets_more}

-- marks that rise up to one of them
marks_up : (at : List ℕ) (a c : ℕ) → a ≤ c → ((s : ℕ) → s < c → get_or at s 0 ≤ get_or at (s + 1) 0) → get_or at a 0 ≤ get_or at c 0
marks_up at a c l up =
    let e : a + (c - a) ≡ c = omega arith in
    rw e at (marks_rise at a (c - a) (λ s m. up s (omega arith)))

-- the points of k of n sets are put, and next is where those of the next set go
pub record Numbering (at : List ℕ) (q n from : ℕ) (old : List ℕ) (end : ℕ) (new : List ℕ) (next k : ℕ) : Type 0 where
  pub reached : k ≤ n
  pub place : next ≡ end + (get_or at (q + k) 0 - get_or at q 0)
  pub done : PointsPut at q k from old end new

pub points_none : (at : List ℕ) (q n from : ℕ) (old : List ℕ) (end : ℕ) → Numbering at q n from old end old end 0
points_none at q n from old end =
    let e : q + 0 ≡ q = omega arith in
    record { reached = omega arith; place = rw e (omega arith); done = record { long = refl; below = λ j l. refl; there = λ k j l m. absurd (omega arith) } }

-- the sets have no rows
pub points_empty : (at : List ℕ) (q n from : ℕ) (old : List ℕ) (end : ℕ) → ((s : ℕ) → s < q + n → get_or at s 0 ≤ get_or at (s + 1) 0) → get_or at q 0 ≡ get_or at (q + n) 0 → PointsPut at q n from old end old
points_empty at q n from old end up e =
    record {
      long = refl;
      below = λ j l. refl;
      there = λ k j l m.
          let a = marks_up at q (q + k) (omega arith) (λ s o. up s (omega arith)) in
          let b = marks_up at (q + k + 1) (q + n) (omega arith) up in
          absurd (omega arith);
    }

module _ {at : List ℕ} {q n from : ℕ} {old : List ℕ} {end : ℕ} {new : List ℕ} {next k : ℕ} (t : Numbering at q n from old end new next k) where
  module _ (up : (s : ℕ) → s < q + n → get_or at s 0 ≤ get_or at (s + 1) 0) (l : k < n) where
    -- the marks of the first set and of the next one, and behind all
    begun : get_or at q 0 ≤ get_or at (q + k) 0
    begun = marks_up at q (q + k) (omega arith) (λ s m. up s (omega arith))

    pub next_rises : get_or at (q + k) 0 ≤ get_or at (q + k + 1) 0
    next_rises = up (q + k) (omega arith)

    left : get_or at (q + k + 1) 0 ≤ get_or at (q + n) 0
    left = marks_up at (q + k + 1) (q + n) (omega arith) up

    pub points_fit : end + (get_or at (q + n) 0 - get_or at q 0) ≤ length old → next + (get_or at (q + k + 1) 0 - get_or at (q + k) 0) ≤ length new
    points_fit room = omega (arith, begun, next_rises, left, t.place, t.done.long)

    module _ {new' : List ℕ} (p : WordsPut new next new' (get_or at (q + k + 1) 0 - get_or at (q + k) 0) (λ _. from + k)) where
      point_there : (i j : ℕ) → i < k + 1 → j < get_or at (q + i + 1) 0 - get_or at (q + i) 0 → Tested (ltb i k) → get_or new' (end + (get_or at (q + i) 0 - get_or at q 0) + j) 0 ≡ from + i
      point_there i j h m (passed w) =
          let u : i < k = ltb-true i k w in
          let a = marks_up at q (q + i) (omega arith) (λ s o. up s (omega arith)) in
          let b = marks_up at (q + i + 1) (q + k) (omega arith) (λ s o. up s (omega arith)) in
          p.below (end + (get_or at (q + i) 0 - get_or at q 0) + j) (omega (arith, t.place)) ∙ t.done.there i j u m
      point_there i j h m (failed w) =
          let u : i ≡ k = omega (arith, ltb-false i k w) in
          let o : j < get_or at (q + k + 1) 0 - get_or at (q + k) 0 = rw u at m in
          rw u (ap (λ a. get_or new' (a + j) 0) (sym t.place) ∙ p.there j o)

      pub points_more : Numbering at q n from old end new' (next + (get_or at (q + k + 1) 0 - get_or at (q + k) 0)) (k + 1)
      points_more =
          let e : q + (k + 1) ≡ q + k + 1 = omega arith in
          record {
            reached = omega arith;
            place = rw e (omega (arith, begun, next_rises, t.place));
            done = record {
              long = p.long ∙ t.done.long;
              below = λ j h. p.below j (omega (arith, t.place)) ∙ t.done.below j h;
              there = λ i j h m. point_there i j h m (tested (ltb i k));
            };
          }

  pub points_all : n ≤ k → PointsPut at q n from old end new
  points_all l =
      let e : k ≡ n = omega (arith, t.reached) in
      rw e at t.done

-- a word of a part of others
pub part_word : (ws : List ℕ) (a count k : ℕ) → k < count → get_or (take (a + count - a) (drop a ws)) k 0 ≡ get_or ws (a + k) 0
part_word ws a count k l =
    let m : k < a + count - a = omega arith in
    rw (get_or-take, get_or-drop)

-- the marks of sets first, q, q + m and q + n rise, and the points of those from set q on before set q + m stand within so many words, where those from set first on begin at word begin
pub record Spans (at : List ℕ) (first q m n begin long : ℕ) : Type 0 where
  pub up_to : get_or at first 0 ≤ get_or at q 0
  pub rise : get_or at q 0 ≤ get_or at (q + m) 0
  pub left : get_or at (q + m) 0 ≤ get_or at (q + n) 0
  pub within : begin + (get_or at q 0 - get_or at first 0) + (get_or at (q + m) 0 - get_or at q 0) ≤ long

-- the points of the sets before point `before` copied from words where they stand, and those of the others put behind them
module _ (at : List ℕ) (first low from n before begin end : ℕ) (numbers : List ℕ) (begun : low ≤ from) (up : (s : ℕ) → s < first + (from - low) + n → get_or at s 0 ≤ get_or at (s + 1) 0) (h : Numbered at first (before - low) low numbers begin) (l : from < before) (o : before ≤ from + n) where
  abbrev q : ℕ
  q = first + (from - low)

  -- how many rows the sets from point `from` on before point `before` have, and where their points stand
  abbrev count : ℕ
  count = get_or at (q + (before - from)) 0 - get_or at q 0

  abbrev start : ℕ
  start = begin + (get_or at q 0 - get_or at first 0)

  rises : (a b : ℕ) → a ≤ b → b ≤ q + n → get_or at a 0 ≤ get_or at b 0
  rises a b i j = marks_up at a b i (λ s m. up s (omega arith))

  pub spans : Spans at first q (before - from) n begin (length numbers)
  spans =
      let e : first + (before - low) ≡ q + (before - from) = omega arith in
      let a = rises first q (omega arith) (omega arith) in
      let b = rises q (q + (before - from)) (omega arith) (omega arith) in
      record { up_to = a; rise = b; left = rises (q + (before - from)) (q + n) (omega arith) (omega arith); within = omega (arith, rw e at h.within) }

  module _ {old mid new : List ℕ} {words : ℕ → ℕ} (are : (k : ℕ) → k < count → words k ≡ get_or numbers (start + k) 0) (c : WordsPut old end mid count words) (p : PointsPut at (q + (before - from)) (n - (before - from)) before mid (end + count) new) where
    copied_there : (k j : ℕ) → k < n → j < get_or at (q + k + 1) 0 - get_or at (q + k) 0 → Tested (ltb k (before - from)) → get_or new (end + (get_or at (q + k) 0 - get_or at q 0) + j) 0 ≡ from + k
    copied_there k j u m (passed w) =
        let v : k < before - from = ltb-true k (before - from) w in
        let a = rises q (q + k) (omega arith) (omega arith) in
        let b = rises (q + k + 1) (q + (before - from)) (omega arith) (omega arith) in
        let d : get_or at (q + k) 0 - get_or at q 0 + j < count = omega arith in
        let e : end + (get_or at (q + k) 0 - get_or at q 0 + j) ≡ end + (get_or at (q + k) 0 - get_or at q 0) + j = omega arith in
        let f : start + (get_or at (q + k) 0 - get_or at q 0 + j) ≡ begin + (get_or at (q + k) 0 - get_or at first 0) + j = omega (arith, spans.up_to) in
        let g : first + (from - low + k) ≡ q + k = omega arith in
        let i : low + (from - low + k) ≡ from + k = omega arith in
        p.below (end + (get_or at (q + k) 0 - get_or at q 0) + j) (omega arith)
        ∙ rw e at (c.there (get_or at (q + k) 0 - get_or at q 0 + j) d)
        ∙ rw f at (are (get_or at (q + k) 0 - get_or at q 0 + j) d)
        ∙ rw (g, i) at (h.points (from - low + k) j (omega arith) (rw g m))
    copied_there k j u m (failed w) =
        let v : before - from ≤ k = ltb-false k (before - from) w in
        let a = rises (q + (before - from)) (q + k) (omega arith) (omega arith) in
        let g : q + (before - from) + (k - (before - from)) ≡ q + k = omega arith in
        let i : before + (k - (before - from)) ≡ from + k = omega arith in
        let d : end + count + (get_or at (q + k) 0 - get_or at (q + (before - from)) 0) + j ≡ end + (get_or at (q + k) 0 - get_or at q 0) + j = omega (arith, spans.rise) in
        rw (g, i, d) at (p.there (k - (before - from)) j (omega arith) (rw g m))

    pub points_copied : PointsPut at q n from old end new
    points_copied =
        record {
          long = p.long ∙ c.long;
          below = λ j m. p.below j (omega arith) ∙ c.below j m;
          there = λ k j u m. copied_there k j u m (tested (ltb k (before - from)));
        }

-- there is no room for them: nothing is written
pub entries_full : (x mark : ℕ) (on ov : List ℕ) (kept : ℕ) (es : List Entry) → length on < kept + length es → EntriesPut x mark on ov on ov kept (length on + 1) es
entries_full x mark on ov kept es l =
    record {
      on_long = refl;
      ov_long = refl;
      counted = omega arith;
      numbers_below = λ j m. refl;
      rows_below = λ j m. refl;
      there = λ m. absurd (omega arith);
    }

-- entry k of those that are kept, as one of node x's
abbrev kept_at : ℕ → ℕ → List ℕ → List ℕ → ℕ → Entry
kept_at x mark on ov k = entry_of x mark (get_or on k 0) (row_at ov k)

-- there is room: numbers and rows are put behind those that are kept
module _ (x mark : ℕ) {on ov on' ov' : List ℕ} (kept count : ℕ) {rows : List (List ℕ)} (long : length on' ≡ length on) (below : (j : ℕ) → j < kept → get_or on' j 0 ≡ get_or on j 0) (v : Copied ov kept ov' count rows) where
  pub entries_there : (es : List Entry) → kept + count ≤ length on → length es ≡ count → map (kept_at x mark on' ov') (range kept count) ≡ es → EntriesPut x mark on ov on' ov' kept (kept + count) es
  entries_there es l n h =
      let e : kept + count - kept ≡ count = omega arith in
      record {
        on_long = long;
        ov_long = v.long;
        counted = omega arith;
        numbers_below = below;
        rows_below = v.below;
        there = λ m. rw e h;
      }

-- one of the rows that were copied
copied_row : {old : List ℕ} {end : ℕ} {new : List ℕ} {count : ℕ} (ws : List ℕ) (a : ℕ) → Copied old end new count (rows_from ws a count) → (j : ℕ) → j < count → row_at new (end + j) ≡ row_at ws (a + j)
copied_row {end = end} {new} {count} ws a v j l = sym (rows_at new end count j l) ∙ ap (λ rs. get_or rs j []) v.there ∙ rows_at ws a count j l

map_rows : (f : List ℕ → Entry) (ws : List ℕ) (a n : ℕ) → map (λ k. f (row_at ws k)) (range a n) ≡ map f (rows_from ws a n)
unfolding rows_from
map_rows f ws a n = sym (map_twice f (row_at ws) (range a n))

-- the entries of n sets from set q on, which are those at n points from `from` on
module _ (rows at : List ℕ) (q n : ℕ) (up : (s : ℕ) → s < q + n → get_or at s 0 ≤ get_or at (s + 1) 0) (S : Point → List (List ℕ)) (from : Point) (is : (i : ℕ) → i < n → S (point (from.0 + i)) ≡ set_in rows at (q + i)) where
  since_first : (i : ℕ) → i ≤ n → get_or at q 0 ≤ get_or at (q + i) 0
  since_first i l = marks_up at q (q + i) (omega arith) (λ s m. up s (omega arith))

  to_last : (i : ℕ) → i < n → get_or at (q + i + 1) 0 ≤ get_or at (q + n) 0
  to_last i l = marks_up at (q + i + 1) (q + n) (omega arith) up

  one_more : (i : ℕ) → i < n → get_or at (q + suc i) 0 - get_or at q 0 ≡ get_or at (q + i) 0 - get_or at q 0 + (get_or at (q + i + 1) 0 - get_or at (q + i) 0)
  one_more i l =
      let e : q + suc i ≡ q + i + 1 = omega arith in
      rw e (omega (arith, since_first i (omega arith), up (q + i) (omega arith)))

  sets_next : (x i : ℕ) → set_entries x S from (suc i) ≡ set_entries x S from i ++ map (entry_of x 0 (from.0 + i)) (S (point (from.0 + i)))
  sets_next x i =
      let e : suc i ≡ i + 1 = omega arith in
      ap (set_entries x S from) e ∙ sets_more x S from i

  -- an entry for each row
  pub sets_long : (x i : ℕ) → i ≤ n → length (set_entries x S from i) ≡ get_or at (q + i) 0 - get_or at q 0
  sets_long x zero l =
      let e : q + 0 ≡ q = omega arith in
      rw e (omega arith)
  sets_long x (suc i) l =
      let set : List (List ℕ) = S (point (from.0 + i)) in
      let d : length (map (entry_of x 0 (from.0 + i)) set) ≡ get_or at (q + i + 1) 0 - get_or at (q + i) 0
      = length-map set (entry_of x 0 (from.0 + i)) ∙ ap length (is i (omega arith)) ∙ rows_length rows (get_or at (q + i) 0) (get_or at (q + i + 1) 0 - get_or at (q + i) 0) in
      ap length (sets_next x i) ∙ length-append (set_entries x S from i) (map (entry_of x 0 (from.0 + i)) set) ∙ ap₂ (λ a b. a + b) (sets_long x i (omega arith)) d ∙ sym (one_more i (omega arith))

  module _ {on ov on' ov' : List ℕ} {kept : ℕ} (p : PointsPut at q n from.0 on kept on')
      (v : Copied ov kept ov' (get_or at (q + n) 0 - get_or at q 0) (rows_from rows (get_or at q 0) (get_or at (q + n) 0 - get_or at q 0))) where
    row_there : (i j : ℕ) → i < n → j < get_or at (q + i + 1) 0 - get_or at (q + i) 0 → row_at ov' (kept + (get_or at (q + i) 0 - get_or at q 0) + j) ≡ row_at rows (get_or at (q + i) 0 + j)
    row_there i j l m =
        let a = since_first i (omega arith) in
        let b = to_last i l in
        let e : kept + (get_or at (q + i) 0 - get_or at q 0 + j) ≡ kept + (get_or at (q + i) 0 - get_or at q 0) + j = omega arith in
        let f : get_or at q 0 + (get_or at (q + i) 0 - get_or at q 0 + j) ≡ get_or at (q + i) 0 + j = omega arith in
        rw (e, f) at (copied_row rows (get_or at q 0) v (get_or at (q + i) 0 - get_or at q 0 + j) (omega arith))

    one_there : (x i : ℕ) → i < n
        → map (kept_at x 0 on' ov') (range (kept + (get_or at (q + i) 0 - get_or at q 0)) (get_or at (q + i + 1) 0 - get_or at (q + i) 0)) ≡ map (entry_of x 0 (from.0 + i)) (S (point (from.0 + i)))
    one_there x i l =
        let count : ℕ = get_or at (q + i + 1) 0 - get_or at (q + i) 0 in
        listed_moved (kept_at x 0 on' ov') (λ k. entry_of x 0 (from.0 + i) (row_at rows k)) (kept + (get_or at (q + i) 0 - get_or at q 0)) (get_or at (q + i) 0) count
        (λ j m. ap₂ (λ a r. entry_of x 0 a r) (p.there i j l m) (row_there i j l m))
        ∙ map_rows (entry_of x 0 (from.0 + i)) rows (get_or at (q + i) 0) count
        ∙ ap (map (entry_of x 0 (from.0 + i))) (sym (is i l))

    pub sets_there_lem : (x i : ℕ) → i ≤ n → map (kept_at x 0 on' ov') (range kept (get_or at (q + i) 0 - get_or at q 0)) ≡ set_entries x S from i
    sets_there_lem x zero l =
        let e : q + 0 ≡ q = omega arith in
        let d : get_or at q 0 - get_or at q 0 ≡ 0 = omega arith in
        rw (e, d) refl
    sets_there_lem x (suc i) l =
        ap (λ c. map (kept_at x 0 on' ov') (range kept c)) (one_more i (omega arith))
        ∙ listed_append (kept_at x 0 on' ov') kept (get_or at (q + i) 0 - get_or at q 0) (get_or at (q + i + 1) 0 - get_or at (q + i) 0)
        ∙ ap₂ (λ es fs. es ++ fs) (sets_there_lem x i (omega arith)) (one_there x i (omega arith))
        ∙ sym (sets_next x i)

-- a node's sets from point low on, from set `first` on: those at n points from `from` on
module _ {rows at : List ℕ} (first : ℕ) (low from : Point) (n : ℕ) (begun : low.0 ≤ from.0) (l : SetsInOrder rows at (first + (from.0 + n - low.0))) where
  set_of_lem : (i : ℕ) → i < n → set_at rows at first low (point (from.0 + i)) ≡ set_in rows at (first + (from.0 - low.0) + i)
  set_of_lem i m =
      let e : first + (from.0 + i - low.0) ≡ first + (from.0 - low.0) + i = omega arith in
      ap (set_in rows at) e

  pub sets_rise : (s : ℕ) → s < first + (from.0 - low.0) + n → get_or at s 0 ≤ get_or at (s + 1) 0
  sets_rise s m = l.steps s (omega arith)

  pub sets_run : Run rows (get_or at (first + (from.0 - low.0)) 0) (get_or at (first + (from.0 - low.0) + n) 0)
  sets_run =
      let e : first + (from.0 + n - low.0) ≡ first + (from.0 - low.0) + n = omega arith in
      record { ordered = marks_rise at (first + (from.0 - low.0)) n sets_rise; there = rw e at l.words }

  -- how many entries they give
  many : (x : ℕ) → length (set_entries x (set_at rows at first low) from n) ≡ get_or at (first + (from.0 - low.0) + n) 0 - get_or at (first + (from.0 - low.0)) 0
  many x = sets_long rows at (first + (from.0 - low.0)) n sets_rise (set_at rows at first low) from set_of_lem x n (omega arith)

  -- there are none
  pub sets_none : n ≡ 0 → (on ov : List ℕ) (kept : ℕ) → kept ≤ length on + 1 → (x : ℕ) → EntriesPut x 0 on ov on ov kept kept (set_entries x (set_at rows at first low) from n)
  sets_none e on ov kept m x =
      let z : kept - kept ≡ 0 = omega arith in
      rw e (record { on_long = refl; ov_long = refl; counted = omega arith; numbers_below = λ j o. refl; rows_below = λ j o. refl; there = λ o. rw z refl })

  pub sets_full : (on ov : List ℕ) (kept : ℕ) → length on < kept + (get_or at (first + (from.0 - low.0) + n) 0 - get_or at (first + (from.0 - low.0)) 0)
      → (x : ℕ) → EntriesPut x 0 on ov on ov kept (length on + 1) (set_entries x (set_at rows at first low) from n)
  sets_full on ov kept m x = entries_full x 0 on ov kept (set_entries x (set_at rows at first low) from n) (omega (arith, many x))

  pub sets-kept : {on ov on' ov' : List ℕ} (kept : ℕ) → kept + (get_or at (first + (from.0 - low.0) + n) 0 - get_or at (first + (from.0 - low.0)) 0) ≤ length on
      → Copied ov kept ov' (get_or at (first + (from.0 - low.0) + n) 0 - get_or at (first + (from.0 - low.0)) 0)
      (rows_from rows (get_or at (first + (from.0 - low.0)) 0) (get_or at (first + (from.0 - low.0) + n) 0 - get_or at (first + (from.0 - low.0)) 0))
      → PointsPut at (first + (from.0 - low.0)) n from.0 on kept on'
      → (x : ℕ) → EntriesPut x 0 on ov on' ov' kept (kept + (get_or at (first + (from.0 - low.0) + n) 0 - get_or at (first + (from.0 - low.0)) 0)) (set_entries x (set_at rows at first low) from n)
  sets-kept kept m v p x =
      entries_there x 0 kept (get_or at (first + (from.0 - low.0) + n) 0 - get_or at (first + (from.0 - low.0)) 0) p.long p.below v (set_entries x (set_at rows at first low) from n) m (many x)
      (sets_there_lem rows at (first + (from.0 - low.0)) n sets_rise (set_at rows at first low) from set_of_lem p v x n (omega arith))

-- pairs
pairs_long : (x : ℕ) (ages values : List ℕ) (n : ℕ) → length (aged_entries x (pairs_from ages values 0 n)) ≡ n
unfolding pairs_from
pairs_long x ages values n =
    length-map (map (λ k. get_or ages k 0 ∷ row_at values k) (range 0 n)) (λ p. entry_of x 1 (get_or p 0 0) (drop 1 p)) ∙ length-map (range 0 n) (λ k. get_or ages k 0 ∷ row_at values k) ∙ range_length 0 n

module _ {on ov on' ov' : List ℕ} (kept n : ℕ) (ages values : List ℕ) (a : WordsPut on kept on' n (λ k. get_or ages k 0)) (v : Copied ov kept ov' n (rows_from values 0 n)) where
  pairs_there : (x : ℕ) → map (kept_at x 1 on' ov') (range kept n) ≡ aged_entries x (pairs_from ages values 0 n)
  unfolding pairs_from
  pairs_there x =
      listed_moved (kept_at x 1 on' ov') (λ k. entry_of x 1 (get_or ages k 0) (row_at values k)) kept 0 n
      (λ j l.
      let e : j ≡ 0 + j = omega arith in
      ap₂ (λ w r. entry_of x 1 w r) (a.there j l ∙ ap (λ k. get_or ages k 0) e) (copied_row values 0 v j l))
      ∙ sym (map_twice (λ p. entry_of x 1 (get_or p 0 0) (drop 1 p)) (λ k. get_or ages k 0 ∷ row_at values k) (range 0 n))

  pub pairs-kept : kept + n ≤ length on → (x : ℕ) → EntriesPut x 1 on ov on' ov' kept (kept + n) (aged_entries x (pairs_from ages values 0 n))
  pairs-kept l x = entries_there x 1 kept n a.long a.below v (aged_entries x (pairs_from ages values 0 n)) l (pairs_long x ages values n) (pairs_there x)

pub pairs_full : (on ov : List ℕ) (kept n : ℕ) (ages values : List ℕ) → length on < kept + n → (x : ℕ) → EntriesPut x 1 on ov on ov kept (length on + 1) (aged_entries x (pairs_from ages values 0 n))
pairs_full on ov kept n ages values l x = entries_full x 1 on ov kept (aged_entries x (pairs_from ages values 0 n)) (omega (arith, pairs_long x ages values n))
