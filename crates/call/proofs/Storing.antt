-- Blocks of entries stored one behind the other: the words of one block, and the loop over the nodes.
use Prim.Native.Nat.{ℕ, zero, suc, ◌+◌, ◌-◌, ◌*◌, ◌≤◌, ◌<◌}
use native.Mathlib.Nat.{add-zero}
use native.Mathlib.Omega.{arith}
use mathlib.Core.Path.{◌≡◌, refl, sym, ap, ap₂, ◌∙◌}
use mathlib.Core.List.{List, [], ◌∷◌, ◌++◌, map}
use lib.ListN.{length, get_or, take, drop, length-append, length-map, length-drop}
use lib.Seq.{length-take-le, get_or-take, get_or-drop}
use Rattle.meaning.specs.Lists.{range, gather}
use Rattle.meaning.specs.Kept.{Entry, entry_of}
use Rattle.meaning.proofs.Lists.{range_length, gather_append}
use Rattle.method.proofs.Turns.{map_append}
use Rattle.method.proofs.Lists.{gather_map, gather_split, gather_more}
use Rattle.rowset.specs.Rows.{row_at}
use Rattle.entries.specs.Appended.{WordsPut, at_front}
use Rattle.entries.proofs.Listed.{listed_append, map_twice}
use Rattle.entries.proofs.Putting.{put_none}
use Rattle.node_step.specs.Walks.{set_words, block_word, block_in}
use Rattle.call.specs.Stores.{owner_of, EntriesStored, Storable}
use Rattle.call.specs.Blocks.{ListPut, EntriesPut, block_size, BlockStorable}
use Rattle.call.proofs.Fronts.{listed_at, list_put, put_two, front_more}

-- rows in a row as words
rows_words : (vs : List ℕ) (a n : ℕ) → gather (row_at vs) (range a n) ≡ map (λ j. get_or vs j 0) (range (a * 4) (n * 4))
rows_words vs a zero = refl
rows_words vs a (suc n) =
    let e : suc n * 4 ≡ suc (suc (suc (suc (n * 4)))) = omega arith in
    let f : suc a * 4 ≡ suc (suc (suc (suc (a * 4)))) = omega arith in
    let i : a * 4 + 1 ≡ suc (a * 4) = omega arith in
    let j : a * 4 + 2 ≡ suc (suc (a * 4)) = omega arith in
    let h : a * 4 + 3 ≡ suc (suc (suc (a * 4))) = omega arith in
    rw (e, i, j, h, ← f) (ap (λ ws. get_or vs (a * 4) 0 ∷ get_or vs (suc (a * 4)) 0 ∷ get_or vs (suc (suc (a * 4))) 0 ∷ get_or vs (suc (suc (suc (a * 4)))) 0 ∷ ws) (rows_words vs (suc a) n))

-- a part of some words, word by word
part_at : (ws : List ℕ) (from n i : ℕ) → i < n → get_or (take n (drop from ws)) i 0 ≡ get_or ws (from + i) 0
part_at ws from n i u = get_or-take n (drop from ws) i 0 u ∙ get_or-drop from ws i 0

pub part_long : (ws : List ℕ) (from to : ℕ) → to ≤ length ws → length (take (to - from) (drop from ws)) ≡ to - from
part_long ws from to l = length-take-le (to - from) (drop from ws) (omega (arith, length-drop from ws))

listed_long : {A : Type 0} (f : ℕ → A) (a n : ℕ) → length (map f (range a n)) ≡ n
listed_long f a n = length-map (range a n) f ∙ range_length a n

-- ---- the words of node x's block

module _ (on ov bl : List ℕ) (x : ℕ) where
  abbrev from : ℕ
  from = block_word bl x 0

  abbrev pairs : ℕ
  pairs = block_word bl x 1

  abbrev to : ℕ
  to = block_word bl x 2

  abbrev row_entry : ℕ → Entry
  row_entry k = entry_of x 0 (get_or on k 0) (row_at ov k)

  abbrev pair_entry : ℕ → Entry
  pair_entry k = entry_of x 1 (get_or on k 0) (row_at ov k)

  block_long : from ≤ pairs → pairs ≤ to → length (block_in on ov bl x) ≡ block_size bl x
  block_long p q =
      length-append (map row_entry (range from (pairs - from))) (map pair_entry (range pairs (to - pairs)))
      ∙ ap₂ (λ m n. m + n) (listed_long row_entry from (pairs - from)) (listed_long pair_entry pairs (to - pairs)) ∙ omega arith

  block_owners : map owner_of (block_in on ov bl x) ≡ map (λ k. x * 2 + 0) (range from (pairs - from)) ++ map (λ k. x * 2 + 1) (range pairs (to - pairs))
  block_owners =
      map_append owner_of (map row_entry (range from (pairs - from))) (map pair_entry (range pairs (to - pairs)))
      ∙ ap₂ (λ us vs. us ++ vs) (map_twice owner_of row_entry (range from (pairs - from))) (map_twice owner_of pair_entry (range pairs (to - pairs)))

  module _ (p : from ≤ pairs) (q : pairs ≤ to) where
    whole : (pairs - from) + (to - pairs) ≡ to - from
    whole = omega arith

    meet : from + (pairs - from) ≡ pairs
    meet = omega arith

    block_numbers : map (λ e. e.number) (block_in on ov bl x) ≡ map (λ k. get_or on k 0) (range from (to - from))
    block_numbers =
        map_append (λ e. e.number) (map row_entry (range from (pairs - from))) (map pair_entry (range pairs (to - pairs)))
        ∙ ap₂ (λ us vs. us ++ vs) (map_twice (λ e. e.number) row_entry (range from (pairs - from))) (map_twice (λ e. e.number) pair_entry (range pairs (to - pairs)))
        ∙ sym (rw (whole, meet) at (listed_append (λ k. get_or on k 0) from (pairs - from) (to - pairs)))

    block_values : gather (λ e. e.values) (block_in on ov bl x) ≡ map (λ j. get_or ov j 0) (range (from * 4) ((to - from) * 4))
    block_values =
        gather_append (λ e. e.values) (map row_entry (range from (pairs - from))) (map pair_entry (range pairs (to - pairs)))
        ∙ ap₂ (λ us vs. us ++ vs) (gather_map (λ e. e.values) row_entry (range from (pairs - from))) (gather_map (λ e. e.values) pair_entry (range pairs (to - pairs)))
        ∙ sym (rw (whole, meet) at (gather_split (row_at ov) from (pairs - from) (to - pairs)))
        ∙ rows_words ov from (to - from)

    block_wide : length (gather (λ e. e.values) (block_in on ov bl x)) ≡ length (block_in on ov bl x) * 4
    block_wide = ap length block_values ∙ listed_long (λ j. get_or ov j 0) (from * 4) ((to - from) * 4) ∙ ap (λ n. n * 4) (sym (block_long p q))

    -- its owners, numbers and rows put behind k entries
    block_put : {os mid os' ns ns' vs vs' : List ℕ} {k : ℕ}
        → WordsPut os k mid (pairs - from) (λ i. x * 2) → WordsPut mid (k + (pairs - from)) os' (to - pairs) (λ i. x * 2 + 1)
        → WordsPut ns k ns' (to - from) (λ i. get_or (take (to - from) (drop from on)) i 0)
        → WordsPut vs (k * 4) vs' ((to - from) * 4) (λ i. get_or (take (to * 4 - from * 4) (drop (from * 4) ov)) i 0)
        → EntriesPut os ns vs os' ns' vs' k (block_in on ov bl x) (k + (to - from))
    block_put {os} {mid} {os'} {k = k} r s n v =
        let rs : List ℕ = map (λ i. x * 2 + 0) (range from (pairs - from)) in
        let ps : List ℕ = map (λ i. x * 2 + 1) (range pairs (to - pairs)) in
        let long : length rs ≡ pairs - from = listed_long (λ i. x * 2 + 0) from (pairs - from) in
        let first : ListPut os k mid rs = list_put rs r long (λ i u. sym (add-zero (x * 2)) ∙ sym (listed_at (λ j. x * 2 + 0) from (pairs - from) i u)) in
        let second : ListPut mid (k + length rs) os' ps = list_put ps (rw (← long) at s) (listed_long (λ i. x * 2 + 1) pairs (to - pairs)) (λ i u. sym (listed_at (λ j. x * 2 + 1) pairs (to - pairs) i u)) in
        record {
          counted = ap (λ m. k + m) (sym (block_long p q));
          owners = rw block_owners (put_two rs ps first second);
          numbers = rw block_numbers
              (list_put (map (λ j. get_or on j 0) (range from (to - from))) n (listed_long (λ j. get_or on j 0) from (to - from))
              (λ i u. part_at on from (to - from) i u ∙ sym (listed_at (λ j. get_or on j 0) from (to - from) i u)));
          values = rw block_values
              (list_put (map (λ j. get_or ov j 0) (range (from * 4) ((to - from) * 4))) v (listed_long (λ j. get_or ov j 0) (from * 4) ((to - from) * 4))
              (λ i u. part_at ov (from * 4) (to * 4 - from * 4) i (omega arith) ∙ sym (listed_at (λ j. get_or ov j 0) (from * 4) ((to - from) * 4) i u)));
        }

-- the first word of node x's block in the table
pub first_word : (bl : List ℕ) (x : ℕ) → get_or bl (set_words + x * 3) 0 ≡ block_word bl x 0
first_word bl x = ap (λ i. get_or bl i 0) (sym (add-zero (set_words + x * 3)))

-- the same, with that word as it is read
pub block_put-from : (on ov bl : List ℕ) (x : ℕ) {from : ℕ} → from ≡ block_word bl x 0 → block_word bl x 0 ≤ block_word bl x 1 → block_word bl x 1 ≤ block_word bl x 2
    → {os mid os' ns ns' vs vs' : List ℕ} {k : ℕ}
    → WordsPut os k mid (block_word bl x 1 - from) (λ i. x * 2) → WordsPut mid (k + (block_word bl x 1 - from)) os' (block_word bl x 2 - block_word bl x 1) (λ i. x * 2 + 1)
    → WordsPut ns k ns' (block_word bl x 2 - from) (λ i. get_or (take (block_word bl x 2 - from) (drop from on)) i 0)
    → WordsPut vs (k * 4) vs' ((block_word bl x 2 - from) * 4) (λ i. get_or (take (block_word bl x 2 * 4 - from * 4) (drop (from * 4) ov)) i 0)
    → EntriesPut os ns vs os' ns' vs' k (block_in on ov bl x) (k + (block_word bl x 2 - from))
block_put-from on ov bl x e p q r s n v = rw e (block_put on ov bl x p q (rw e at r) (rw e at s) (rw e at n) (rw e at v))

-- a block of no entries, which leaves every word
pub none_put : (on ov bl : List ℕ) (x : ℕ) → block_word bl x 0 ≤ block_word bl x 1 → block_word bl x 1 ≤ block_word bl x 2 → block_word bl x 0 ≡ block_word bl x 2 → (os ns vs : List ℕ) (k : ℕ) → EntriesPut os ns vs os ns vs k (block_in on ov bl x) k
none_put on ov bl x p q e os ns vs k =
    let rows : block_word bl x 1 - block_word bl x 0 ≡ 0 = omega arith in
    let pairs : block_word bl x 2 - block_word bl x 1 ≡ 0 = omega arith in
    rw (rows, pairs) (record { counted = omega arith; owners = put_none os k (λ i. get_or [] i 0); numbers = put_none ns k (λ i. get_or [] i 0); values = put_none vs (k * 4) (λ i. get_or [] i 0) })

-- sums of lengths
sum_within : {a b p q n : ℕ} → a ≡ p → b ≡ q → p + q ≤ n → a + b ≤ n
sum_within d e u = omega arith

fours_within : {a b n : ℕ} (p q : ℕ) → a ≡ p * 4 → b ≡ q * 4 → (p + q) * 4 ≤ n → a + b ≤ n
fours_within p q d e u = omega arith

fours_sum : {a b n : ℕ} (p q : ℕ) → a ≡ p * 4 → b ≡ q * 4 → n ≡ p + q → a + b ≡ n * 4
fours_sum p q d e u = omega arith

-- ---- the loop: the blocks of the first x nodes are stored, k entries

pub record Storing (on ov bl : List ℕ) (n : ℕ) (os₀ ns₀ vs₀ os ns vs : List ℕ) (k x : ℕ) : Type 0 where
  pub reached : x ≤ n
  pub counted : k ≡ length (gather (block_in on ov bl) (range 0 x))
  pub wide : length (gather (λ e. e.values) (gather (block_in on ov bl) (range 0 x))) ≡ k * 4
  pub owners_long : length os ≡ length os₀
  pub numbers_long : length ns ≡ length ns₀
  pub values_are_long : length vs ≡ length vs₀
  pub stored : EntriesStored os₀ ns₀ vs₀ os ns vs (gather (block_in on ov bl) (range 0 x))

pub storing_none : (on ov bl : List ℕ) (n : ℕ) (os ns vs : List ℕ) → Storing on ov bl n os ns vs os ns vs 0 0
storing_none on ov bl n os ns vs =
    record { reached = omega arith; counted = refl; wide = refl; owners_long = refl; numbers_long = refl; values_are_long = refl; stored = record { owners = refl; numbers = refl; values = refl } }

module _ {on ov bl : List ℕ} {n : ℕ} {os₀ ns₀ vs₀ : List ℕ} (s : Storable on ov bl n os₀ ns₀ vs₀) where
  abbrev up_to : ℕ → List Entry
  up_to x = gather (block_in on ov bl) (range 0 x)

  -- the entries with the next block are no more than all
  next_long : (x : ℕ) → x < n → length (up_to x) + block_size bl x ≤ length (up_to n)
  next_long x u =
      let e : n ≡ (x + 1) + (n - (x + 1)) = omega arith in
      let all : length (up_to n) ≡ length (up_to (x + 1)) + length (gather (block_in on ov bl) (range (0 + (x + 1)) (n - (x + 1))))
      = ap (λ m. length (up_to m)) e ∙ ap length (gather_split (block_in on ov bl) 0 (x + 1) (n - (x + 1))) ∙ length-append (up_to (x + 1)) _ in
      let one : length (up_to (x + 1)) ≡ length (up_to x) + length (block_in on ov bl x)
      = ap length (gather_more (block_in on ov bl) x) ∙ length-append (up_to x) (block_in on ov bl x) in
      omega (arith, all, one, block_long on ov bl x (s.rows_first x u) (s.pairs_last x u))

  -- there is room for the next block
  rooms_left : (x : ℕ) → x < n → (length (up_to x) + length (block_in on ov bl x) ≤ length os₀) × (length (up_to x) + length (block_in on ov bl x) ≤ length ns₀) × ((length (up_to x) + length (block_in on ov bl x)) * 4 ≤ length vs₀)
  rooms_left x u =
      let l : length (up_to x) + length (block_in on ov bl x) ≤ length (up_to n) = omega (arith, next_long x u, block_long on ov bl x (s.rows_first x u) (s.pairs_last x u)) in
      (omega (arith, s.owners_room), omega (arith, s.numbers_room), omega (arith, s.values_room))

  module _ {os ns vs : List ℕ} {k x : ℕ} (t : Storing on ov bl n os₀ ns₀ vs₀ os ns vs k x) where
    pub block_storable : x < n → BlockStorable on ov bl x os ns vs k
    block_storable u =
        let l : length (up_to x) + block_size bl x ≤ length (up_to n) = next_long x u in
        record {
          node = omega (arith, s.nodes);
          table = omega (arith, s.table);
          rows_first = s.rows_first x u;
          pairs_last = s.pairs_last x u;
          numbers_are_there = s.numbers_are_there x u;
          rows_there = s.rows_there x u;
          owners_room = omega (arith, l, t.counted, t.owners_long, s.owners_room);
          numbers_room = omega (arith, l, t.counted, t.numbers_long, s.numbers_room);
          values_room = omega (arith, l, t.counted, t.values_are_long, s.values_room);
        }

    pub storing_more : x < n → {os' ns' vs' : List ℕ} {k' : ℕ} → EntriesPut os ns vs os' ns' vs' k (block_in on ov bl x) k' → Storing on ov bl n os₀ ns₀ vs₀ os' ns' vs' k' (x + 1)
    storing_more u {os'} {ns'} {vs'} {k'} h =
        let es : List Entry = up_to x in
        let b : List Entry = block_in on ov bl x in
        let left = rooms_left x u in
        let wb : length (gather (λ e. e.values) b) ≡ length b * 4 = block_wide on ov bl x (s.rows_first x u) (s.pairs_last x u) in
        let we : length (gather (λ e. e.values) es) ≡ length es * 4 = t.wide ∙ ap (λ i. i * 4) t.counted in
        let m : up_to (x + 1) ≡ es ++ b = gather_more (block_in on ov bl) x in
        let lo : length (map owner_of es) ≡ k = length-map es owner_of ∙ sym t.counted in
        let ln : length (map (λ e. e.number) es) ≡ k = length-map es (λ e. e.number) ∙ sym t.counted in
        let po : ListPut (at_front (map owner_of es) os₀) (length (map owner_of es)) os' (map owner_of b) = rw (← t.stored.owners, lo) h.owners in
        let pn : ListPut (at_front (map (λ e. e.number) es) ns₀) (length (map (λ e. e.number) es)) ns' (map (λ e. e.number) b) = rw (← t.stored.numbers, ln) h.numbers in
        let pv : ListPut (at_front (gather (λ e. e.values) es) vs₀) (length (gather (λ e. e.values) es)) vs' (gather (λ e. e.values) b) = rw (← t.stored.values, t.wide) h.values in
        record {
          reached = omega arith;
          counted = h.counted ∙ ap (λ i. i + length b) t.counted ∙ sym (length-append es b) ∙ ap length (sym m);
          wide =
              ap (λ us. length (gather (λ e. e.values) us)) m ∙ ap length (gather_append (λ e. e.values) es b) ∙ length-append (gather (λ e. e.values) es) (gather (λ e. e.values) b)
              ∙ fours_sum k (length b) t.wide wb h.counted;
          owners_long = h.owners.long ∙ t.owners_long;
          numbers_long = h.numbers.long ∙ t.numbers_long;
          values_are_long = h.values.long ∙ t.values_are_long;
          stored = rw m
              (record {
                owners = front_more (map owner_of es) (map owner_of b) os₀ po (sum_within (length-map es owner_of) (length-map b owner_of) left.0) ∙ ap (λ us. at_front us os₀) (sym (map_append owner_of es b));
                numbers = front_more (map (λ e. e.number) es) (map (λ e. e.number) b) ns₀ pn (sum_within (length-map es (λ e. e.number)) (length-map b (λ e. e.number)) left.1) ∙ ap (λ us. at_front us ns₀) (sym (map_append (λ e. e.number) es b));
                values = front_more (gather (λ e. e.values) es) (gather (λ e. e.values) b) vs₀ pv (fours_within (length es) (length b) we wb left.2) ∙ ap (λ us. at_front us vs₀) (sym (gather_append (λ e. e.values) es b));
              });
        }

    pub storing_all : n ≤ x → EntriesStored os₀ ns₀ vs₀ os ns vs (gather (block_in on ov bl) (range 0 n))
    storing_all u =
        let e : x ≡ n = omega (arith, t.reached) in
        rw e at t.stored
