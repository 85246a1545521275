-- What is kept of a node: its pairs put into a part of the words, its rows and then its pairs as its block, and where the table says that this stands.
use Prim.Native.Nat.{ℕ, suc, ◌+◌, ◌-◌, ◌*◌, ◌≤◌, ◌<◌, min}
use native.Mathlib.Omega.{arith}
use mathlib.Core.Path.{◌≡◌, refl, sym, ap, ap₂, ◌∙◌}
use mathlib.Core.List.{List, [], ◌∷◌, ◌++◌, map}
use lib.ListN.{length, get_or, set, take, drop, length-set, length-map, length-append, length-take, length-drop, get_or-append}
use lib.Seq.{get_or-set_same, get_or-set_other, get_or-append-add, get_or-take, get_or-drop, length-take-le}
use Rattle.meaning.specs.Lists.{range}
use Rattle.meaning.specs.Log.{point}
use Rattle.meaning.specs.Kept.{Entry, entry_of}
use Rattle.meaning.specs.declared.Point.{Point}
use Rattle.meaning.specs.declared.Node.{Node}
use Rattle.method.specs.Stored.{Stored}
use Rattle.rowset.specs.Rows.{row_at}
use Rattle.rowset.specs.Sets.{SetRoom}
use Rattle.kinds.specs.Kinds.{pair_at, pairs_from, PairsThere}
use Rattle.room.specs.declared.Child.{Child}
use Rattle.entries.proofs.Listed.{listed_same, listed_moved, map_twice}
use Rattle.room.specs.Room.{SetsInOrder}
use Rattle.node_sets.specs.NodeEntries.{aged_entries}
use Rattle.node_sets.specs.Blocks.{RoomToKeep, EntriesPut}
use Rattle.node_sets.specs.Parts.{Numbered}
use Rattle.since.specs.Since.{held_in, PairsPut}
use Rattle.settling.specs.Inputs.{PairsSettled}
use Rattle.node_step.specs.declared.Own.{Own}
use Rattle.node_step.specs.Parts.{PairsReady, PairsKept, BlockPut, BlockReady}
use Rattle.node_step.specs.Walks.{set_words, block_word, block_in, OutThere}

-- ---- words

-- a row of the same words
pub row_same : (us vs : List ℕ) (j k : ℕ) → ((i : ℕ) → i < 4 → get_or us (j * 4 + i) 0 ≡ get_or vs (k * 4 + i) 0) → row_at us j ≡ row_at vs k
row_same us vs j k h =
    let z : j * 4 + 0 ≡ j * 4 = omega arith in
    let y : k * 4 + 0 ≡ k * 4 = omega arith in
    let e0 : get_or us (j * 4) 0 ≡ get_or vs (k * 4) 0 = rw (z, y) at (h 0 (omega arith)) in
    let e1 = h 1 (omega arith) in
    let e2 = h 2 (omega arith) in
    let e3 = h 3 (omega arith) in
    λ t. e0 t ∷ e1 t ∷ e2 t ∷ e3 t ∷ []

-- words put behind the first a, with any words behind them
module _ (xs : List ℕ) (a : ℕ) (l : a ≤ length xs) (ys zs : List ℕ) where
  pub put-before : (j : ℕ) → j < a → get_or (take a xs ++ (ys ++ zs)) j 0 ≡ get_or xs j 0
  put-before j h = get_or-append (take a xs) (ys ++ zs) 0 j (omega (arith, length-take-le a xs l)) ∙ get_or-take a xs j 0 h

  pub put_there : (j : ℕ) → j < length ys → get_or (take a xs ++ (ys ++ zs)) (a + j) 0 ≡ get_or ys j 0
  put_there j h =
      ap (λ k. get_or (take a xs ++ (ys ++ zs)) (k + j) 0) (sym (length-take-le a xs l))
      ∙ get_or-append-add (take a xs) (ys ++ zs) j 0
      ∙ get_or-append ys zs 0 j h

-- ---- pairs

-- pairs that stand in a part of the words for numbers and rows
module _ {on ov : List ℕ} {kept : ℕ} (r : RoomToKeep on ov kept) (l : kept ≤ length on) {ages' values' : List ℕ} (rest_on rest_ov : List ℕ) {n : ℕ} {pairs : List (List ℕ)}
    (p : PairsPut (take (length on - kept) (drop kept on)) (take (length ov - kept * 4) (drop (kept * 4) ov)) ages' values' n pairs)
    (on_long : length (take kept on ++ (ages' ++ rest_on)) ≡ length on) (ov_long : length (take (kept * 4) ov ++ (values' ++ rest_ov)) ≡ length ov) where
  ages_long_lem : length ages' ≡ length on - kept
  ages_long_lem = p.ages_long ∙ omega (arith, length-take (length on - kept) (drop kept on), length-drop kept on)

  values_are_long : length values' ≡ length ov - kept * 4
  values_are_long = p.values_long ∙ omega (arith, length-take (length ov - kept * 4) (drop (kept * 4) ov), length-drop (kept * 4) ov)

  count_is : n ≡ min (length on - kept + 1) (length pairs)
  count_is = rw (sym p.ages_long ∙ ages_long_lem) at p.counted

  part_small : kept + n < 4294967296
  part_small = omega (arith, count_is, r.few)

  aged_run : (x m : ℕ) → aged_entries x (pairs_from ages' values' 0 m) ≡ map (λ k. entry_of x 1 (get_or ages' k 0) (row_at values' k)) (range 0 m)
  unfolding pairs_from
  aged_run x m = map_twice (λ p. entry_of x 1 (get_or p 0 0) (drop 1 p)) (pair_at ages' values') (range 0 m)

  same_entry_lem : (x k : ℕ) → k < n → n ≤ length on - kept
      → entry_of x 1 (get_or (take kept on ++ (ages' ++ rest_on)) (kept + k) 0) (row_at (take (kept * 4) ov ++ (values' ++ rest_ov)) (kept + k)) ≡ entry_of x 1 (get_or ages' (0 + k) 0) (row_at values' (0 + k))
  same_entry_lem x k h u =
      let z : 0 + k ≡ k = omega arith in
      let number = put_there on kept l ages' rest_on k (omega (arith, ages_long_lem)) in
      let row = row_same (take (kept * 4) ov ++ (values' ++ rest_ov)) values' (kept + k) k
      (λ i m.
      let e : (kept + k) * 4 + i ≡ kept * 4 + (k * 4 + i) = omega arith in
      ap (λ j. get_or (take (kept * 4) ov ++ (values' ++ rest_ov)) j 0) e ∙ put_there ov (kept * 4) (omega (arith, r.rows)) values' rest_ov (k * 4 + i) (omega (arith, values_are_long, r.rows))) in
      rw z (ap₂ (λ a u. entry_of x 1 a u) number row)

  pub part_put : (x : ℕ) → EntriesPut x 1 on ov (take kept on ++ (ages' ++ rest_on)) (take (kept * 4) ov ++ (values' ++ rest_ov)) kept (kept + n) (aged_entries x pairs)
  part_put x =
      record {
        on_long = on_long;
        ov_long = ov_long;
        counted = omega (arith, count_is, length-map pairs (λ p. entry_of x 1 (get_or p 0 0) (drop 1 p)));
        numbers_below = put-before on kept l ages' rest_on;
        rows_below = put-before ov (kept * 4) (omega (arith, r.rows)) values' rest_ov;
        there = λ u.
            let m : n ≤ length (take (length on - kept) (drop kept on)) = omega (arith, ages_long_lem, p.ages_long) in
            let e : kept + n - kept ≡ n = omega arith in
            rw e
            (listed_moved (λ k. entry_of x 1 (get_or (take kept on ++ (ages' ++ rest_on)) k 0) (row_at (take (kept * 4) ov ++ (values' ++ rest_ov)) k)) (λ k. entry_of x 1 (get_or ages' k 0) (row_at values' k)) kept 0 n (λ k h. same_entry_lem x k h (omega arith))
            ∙ sym (aged_run x n) ∙ ap (aged_entries x) (p.set m));
      }

module _ {b w rows at times : List ℕ} {base : Point} {old_ages old_values : List ℕ} {left right : Child} {lowest : ℕ} {start end : Point} {node : Node} {on ov : List ℕ} {kept : ℕ}
    (r : PairsReady b w rows at times base old_ages old_values left right lowest start end node on ov kept) where
  -- where no point is new the old pairs are kept
  pub old_kept : end.0 ≤ start.0 → {on' ov' : List ℕ} {kept' : ℕ} → ((x : ℕ) → EntriesPut x 1 on ov on' ov' kept kept' (aged_entries x (held_in old_ages old_values)))
      → PairsKept b w rows at times base old_ages old_values left right lowest start end node on ov kept on' ov' kept'
  old_kept l h = let e : end.0 - start.0 ≡ 0 = omega arith in record { gives = λ v s x. rw e (h x) }

  -- where there is no room none are
  pub none_kept : length on < kept → PairsKept b w rows at times base old_ages old_values left right lowest start end node on ov kept on ov kept
  none_kept l =
      record {
        gives = λ v s x.
            record {
              on_long = refl;
              ov_long = refl;
              counted = omega (arith, r.room.counted);
              numbers_below = λ j h. refl;
              rows_below = λ j h. refl;
              there = λ u. absurd (omega arith);
            };
      }

  pub pairs_there : PairsThere (take (length on - kept) (drop kept on)) (take (length ov - kept * 4) (drop (kept * 4) ov)) (length (take (length on - kept) (drop kept on)))
  pairs_there =
      record {
        ages_there = omega arith;
        values_there =
            omega (
              arith,
              r.room.rows,
              length-take (length on - kept) (drop kept on),
              length-drop kept on,
              length-take (length ov - kept * 4) (drop (kept * 4) ov),
              length-drop (kept * 4) ov,
            );
      }

  module _ (o : start.0 < end.0) (l : kept ≤ length on) {ages' values' : List ℕ} (rest_on rest_ov : List ℕ) {n : ℕ}
      (p : PairsSettled rows at times base old_ages old_values left right lowest start (point (end.0 - 1)) node (take (length on - kept) (drop kept on)) (take (length ov - kept * 4) (drop (kept * 4) ov)) ages' values' n)
      (on_long : length (take kept on ++ (ages' ++ rest_on)) ≡ length on) (ov_long : length (take (kept * 4) ov ++ (values' ++ rest_ov)) ≡ length ov) where
    pub new_small : kept + n < 4294967296
    new_small = part_small r.room l rest_on rest_ov (p.gives r.sight b w r.sees) on_long ov_long

    -- else those at the last point
    pub new_kept : PairsKept b w rows at times base old_ages old_values left right lowest start end node on ov kept (take kept on ++ (ages' ++ rest_on)) (take (kept * 4) ov ++ (values' ++ rest_ov)) (kept + n)
    new_kept =
        record {
          gives = λ v s x.
              let e : end.0 - start.0 ≡ suc (end.0 - 1 - start.0) = omega arith in
              let f : start.0 + (end.0 - 1 - start.0) ≡ end.0 - 1 = omega arith in
              rw (e, f) (part_put r.room l rest_on rest_ov (p.gives v b w s) on_long ov_long x);
        }

-- ---- blocks

-- a set is made in the words before the table
pub set_room : (bl : List ℕ) → set_words ≤ length bl → SetRoom (take set_words bl) 0
set_room bl l = record { most = omega arith; there = omega (arith, length-take-le set_words bl l) }

-- and the table stays
pub record TableStays (bl bl' : List ℕ) : Type 0 where
  pub long : length bl' ≡ length bl
  pub words : (x k : ℕ) → block_word bl' x k ≡ block_word bl x k

pub table_stays : (bl : List ℕ) → set_words ≤ length bl → (ws : List ℕ) → length ws ≡ length (take set_words bl) → TableStays bl (ws ++ drop set_words bl)
table_stays bl l ws e =
    let n : length ws ≡ set_words = e ∙ length-take-le set_words bl l in
    record {
      long = omega (arith, n, length-append ws (drop set_words bl), length-drop set_words bl);
      words = λ x k.
          let i : set_words + x * 3 + k ≡ length ws + (x * 3 + k) = omega (arith, n) in
          let j : set_words + x * 3 + k ≡ set_words + (x * 3 + k) = omega arith in
          ap (λ q. get_or (ws ++ drop set_words bl) q 0) i ∙ get_or-append-add ws (drop set_words bl) (x * 3 + k) 0 ∙ get_or-drop set_words bl (x * 3 + k) 0
          ∙ ap (λ q. get_or bl q 0) (sym j);
    }

-- so that there is as much room, and what is put into it then is put into it as it was
module _ {bl bl₁ : List ℕ} (t : TableStays bl bl₁) where
  pub room_stays : {s : Stored} {w on ov : List ℕ} {kept : ℕ} → OutThere s w on ov bl kept → OutThere s w on ov bl₁ kept
  room_stays out = record { few = out.few; rows = out.rows; table = omega (arith, out.table, t.long); counted = out.counted }

  pub put_stays : {x : ℕ} {on ov on' ov' bl' : List ℕ} {kept kept' : ℕ} {es : List Entry} → BlockPut x on ov bl₁ on' ov' bl' kept kept' es → BlockPut x on ov bl on' ov' bl' kept kept' es
  put_stays p =
      record {
        on_long = p.on_long;
        ov_long = p.ov_long;
        bl_long = p.bl_long ∙ t.long;
        counted = p.counted;
        numbers_below = p.numbers_below;
        rows_below = p.rows_below;
        others = λ y d k h. p.others y d k h ∙ t.words y k;
        rows_first = p.rows_first;
        pairs_last = p.pairs_last;
        within = p.within;
        there = p.there;
      }

-- the three words of node x set in the table
module _ (bl : List ℕ) (x : ℕ) (l : set_words + x * 3 + 3 ≤ length bl) (i j k : ℕ) where
  abbrev pub noted : List ℕ
  noted = set (set (set bl (set_words + x * 3) i) (set_words + x * 3 + 1) j) (set_words + x * 3 + 2) k

  one_long : length (set bl (set_words + x * 3) i) ≡ length bl
  one_long = length-set bl (set_words + x * 3) i

  two_long : length (set (set bl (set_words + x * 3) i) (set_words + x * 3 + 1) j) ≡ length bl
  two_long = length-set (set bl (set_words + x * 3) i) (set_words + x * 3 + 1) j ∙ one_long

  pub noted_long : length noted ≡ length bl
  noted_long = length-set (set (set bl (set_words + x * 3) i) (set_words + x * 3 + 1) j) (set_words + x * 3 + 2) k ∙ two_long

  noted_first : block_word noted x 0 ≡ i
  noted_first =
      let e : set_words + x * 3 + 0 ≡ set_words + x * 3 = omega arith in
      ap (λ q. get_or noted q 0) e
      ∙ get_or-set_other (set (set bl (set_words + x * 3) i) (set_words + x * 3 + 1) j) (set_words + x * 3 + 2) (set_words + x * 3) k 0 (omega arith)
      ∙ get_or-set_other (set bl (set_words + x * 3) i) (set_words + x * 3 + 1) (set_words + x * 3) j 0 (omega arith)
      ∙ get_or-set_same bl (set_words + x * 3) i 0 (omega arith)

  noted_second : block_word noted x 1 ≡ j
  noted_second =
      get_or-set_other (set (set bl (set_words + x * 3) i) (set_words + x * 3 + 1) j) (set_words + x * 3 + 2) (set_words + x * 3 + 1) k 0 (omega arith)
      ∙ get_or-set_same (set bl (set_words + x * 3) i) (set_words + x * 3 + 1) j 0 (omega (arith, one_long))

  noted_third : block_word noted x 2 ≡ k
  noted_third = get_or-set_same (set (set bl (set_words + x * 3) i) (set_words + x * 3 + 1) j) (set_words + x * 3 + 2) k 0 (omega (arith, two_long))

  noted_other : (y : ℕ) → (y ≡ x → ⊥) → (q : ℕ) → q < 3 → block_word noted y q ≡ block_word bl y q
  noted_other y d q h =
      get_or-set_other (set (set bl (set_words + x * 3) i) (set_words + x * 3 + 1) j) (set_words + x * 3 + 2) (set_words + y * 3 + q) k 0 (λ e. d (omega arith))
      ∙ get_or-set_other (set bl (set_words + x * 3) i) (set_words + x * 3 + 1) (set_words + y * 3 + q) j 0 (λ e. d (omega arith))
      ∙ get_or-set_other bl (set_words + x * 3) (set_words + y * 3 + q) i 0 (λ e. d (omega arith))

-- a run of entries in words of which those before an end are the same
run_same : (x mark : ℕ) (on ov on' ov' : List ℕ) (end : ℕ) → ((j : ℕ) → j < end → get_or on' j 0 ≡ get_or on j 0) → ((j : ℕ) → j < end * 4 → get_or ov' j 0 ≡ get_or ov j 0) → (from to : ℕ) → to ≤ end
    → map (λ k. entry_of x mark (get_or on' k 0) (row_at ov' k)) (range from (to - from)) ≡ map (λ k. entry_of x mark (get_or on k 0) (row_at ov k)) (range from (to - from))
run_same x mark on ov on' ov' end h g from to l =
    listed_same _ _ from (to - from) (λ k a o. ap₂ (λ a u. entry_of x mark a u) (h k (omega arith)) (row_same ov' ov k k (λ i m. g (k * 4 + i) (omega arith))))

pub block_same : (x : ℕ) (on ov bl on' ov' bl' : List ℕ) (end : ℕ) → ((j : ℕ) → j < end → get_or on' j 0 ≡ get_or on j 0) → ((j : ℕ) → j < end * 4 → get_or ov' j 0 ≡ get_or ov j 0)
    → ((k : ℕ) → k < 3 → block_word bl' x k ≡ block_word bl x k) → block_word bl x 1 ≤ block_word bl x 2 → block_word bl x 2 ≤ end → block_in on' ov' bl' x ≡ block_in on ov bl x
block_same x on ov bl on' ov' bl' end h g t l o =
    rw (t 0 (omega arith), t 1 (omega arith), t 2 (omega arith))
    (ap₂ (λ s t. s ++ t) (run_same x 0 on ov on' ov' end h g (block_word bl x 0) (block_word bl x 1) (omega arith)) (run_same x 1 on ov on' ov' end h g (block_word bl x 1) (block_word bl x 2) o))

-- nothing is put
pub nothing_put : {x : ℕ} {on ov : List ℕ} {kept : ℕ} → RoomToKeep on ov kept → EntriesPut x 1 on ov on ov kept kept []
nothing_put {kept = kept} r =
    record {
      on_long = refl;
      ov_long = refl;
      counted = omega (arith, r.counted);
      numbers_below = λ j h. refl;
      rows_below = λ j h. refl;
      there = λ u. let z : kept - kept ≡ 0 = omega arith in rw z refl;
    }

-- what a node's sets ask to be kept
pub sets_ready : {b w rows at times : List ℕ} {base : Point} {ns old_values : List ℕ} {left right : Child} {first : ℕ} {o : Own} {node : Node} {on ov bl : List ℕ} {x kept : ℕ}
    → BlockReady b w rows at times base ns old_values left right first o node on ov bl x kept
    → (o.low.0 ≤ o.want.0) × SetsInOrder rows at (first + (o.want.0 + (o.after - o.want.0) - o.low.0)) × (o.want.0 + (o.after - o.want.0) < 4294967296) × RoomToKeep on ov kept
    × (o.before ≤ o.want.0 + (o.after - o.want.0)) × Numbered at first (o.before - o.low.0) o.low.0 ns o.begin
sets_ready {o = o} p =
    let e : o.want.0 + (o.after - o.want.0) ≡ o.after = omega (arith, p.want_after) in
    (p.low_want, rw e p.laid, omega (arith, p.small, p.want_after), p.pairs.room, rw e p.pairs.ordered, p.numbered)

module _ {x : ℕ} {on ov on₁ ov₁ : List ℕ} {kept k₁ : ℕ} {es : List Entry} (r : RoomToKeep on ov kept) (p : EntriesPut x 0 on ov on₁ ov₁ kept k₁ es) where
  -- there is still room
  pub room_then : RoomToKeep on₁ ov₁ k₁
  room_then = record { few = omega (arith, r.few, p.on_long); rows = omega (arith, r.rows, p.on_long, p.ov_long); counted = omega (arith, p.counted, p.on_long) }

  module _ {on₂ ov₂ : List ℕ} {k₂ : ℕ} {fs : List Entry} (q : EntriesPut x 1 on₁ ov₁ on₂ ov₂ k₁ k₂ fs) where
    pub rising : (kept ≤ k₁) × (k₁ ≤ k₂) × (k₂ ≤ length on + 1)
    rising = omega (arith, p.counted, q.counted, r.counted, p.on_long)

    pub block_put : (bl : List ℕ) (l : set_words + x * 3 + 3 ≤ length bl) → BlockPut x on ov bl on₂ ov₂ (noted bl x l kept k₁ k₂) kept k₂ (es ++ fs)
    block_put bl l =
        record {
          on_long = q.on_long ∙ p.on_long;
          ov_long = q.ov_long ∙ p.ov_long;
          bl_long = noted_long bl x l kept k₁ k₂;
          counted = omega (arith, p.counted, q.counted, r.counted, p.on_long, length-append es fs);
          numbers_below = λ j h. q.numbers_below j (omega (arith, rising)) ∙ p.numbers_below j h;
          rows_below = λ j h. q.rows_below j (omega (arith, rising)) ∙ p.rows_below j h;
          others = noted_other bl x l kept k₁ k₂;
          rows_first = omega (arith, rising, noted_first bl x l kept k₁ k₂, noted_second bl x l kept k₁ k₂);
          pairs_last = omega (arith, rising, noted_second bl x l kept k₁ k₂, noted_third bl x l kept k₁ k₂);
          within = omega (arith, noted_third bl x l kept k₁ k₂);
          there = λ o.
              rw (noted_first bl x l kept k₁ k₂, noted_second bl x l kept k₁ k₂, noted_third bl x l kept k₁ k₂)
              (ap₂ (λ s t. s ++ t)
              (run_same x 0 on₁ ov₁ on₂ ov₂ k₁ q.numbers_below q.rows_below kept k₁ (omega arith) ∙ p.there (omega (arith, rising)))
              (q.there (omega (arith, p.on_long))));
        }
