-- Words that may be an image: the bytes of the rule file's words, the sizes, the owners one by one, and that what is read off the words is what the image stores.
use Prim.Native.Nat.{ℕ, ◌+◌, ◌-◌, ◌*◌, ◌≤◌, ◌<◌}
use native.Mathlib.Omega.{arith}
use mathlib.Core.Path.{◌≡◌, refl, sym, ap, ap₂, ◌∙◌}
use mathlib.Core.Bool.{Bool, true, false, false≢true}
use mathlib.Core.Logic.{◌⊎◌, inl, inr}
use mathlib.Core.List.{List, [], map, Memᴰ}
use lib.ListN.{length, get_or, set, take, drop, length-drop}
use lib.Seq.{take_all, take-take, take_at, length-take-le, get_or-take, get_or-set_same, get_or-set_other}
use borrow.Author.Count.{below_more}
use borrow.Author.Tests.{ltb-true, leb-true, eqb-true, lt-ltb, le-leb, eq-eqb}
use Rattle.meaning.specs.Lists.{range, gather}
use Rattle.meaning.specs.Log.{stamp, points_from}
use Rattle.meaning.specs.Outcome.{most_nodes, most_kept}
use Rattle.meaning.specs.RuleFile.{node_count}
use Rattle.meaning.specs.Kept.{Entry, entry_of}
use Rattle.meaning.specs.declared.Point.{Point}
use Rattle.meaning.proofs.Lists.{range_length}
use Rattle.meaning.proofs.Points.{both, first, second, Tested, passed, failed, tested}
use Rattle.meaning.proofs.Rows.{gather_at, range_at, range_of}
use Rattle.method.specs.Stored.{Stored, held, held_pairs}
use Rattle.method.specs.Step.{wanted_from, count_before}
use Rattle.method.specs.WellFormed.{most_times, own_entries, well_formed, Formed}
use Rattle.method.proofs.Formed.{formed}
use Rattle.method.proofs.Rowed.{rowed}
use Rattle.method.proofs.Turns.{from_get_d}
use Rattle.method.proofs.Lists.{gather_length, gather_map, gather_more}
use Rattle.rowset.specs.Rows.{row_at}
use Rattle.entries.specs.Entries.{entry_at, entries_from}
use Rattle.entries.specs.Appended.{WordsPut, at_front}
use Rattle.entries.proofs.Listed.{listed_same, map_twice}
use Rattle.entries.proofs.Entries.{owned_by_lem}
use Rattle.formed.specs.StateFigures.{stored_in}
use Rattle.figures.proofs.Front.{put_front}
use Rattle.figures.proofs.Slices.{node_sizes}
use Rattle.call.specs.Blocks.{ListPut}
use Rattle.call.specs.Stores.{owner_of}
use Rattle.call.proofs.Fronts.{put_two, front_more}
use Rattle.image.specs.Image.{bytes_of, rule_bytes, kept_in, retained_in, values_at, times_at, rule_at, entry_in, read_in, is_image}
use Rattle.image_words.specs.Parts.{SizesFit, owner_fits, OwnersRead, EntriesRead, PartsStored}
use Rattle.image.proofs.RuleWords.{bytes_long}
use Rattle.image.proofs.Images.{entries_many, times_many, values_same}

-- ---- lists end to end

-- the part from a word on is the rest
rest_is : (ws : List ℕ) (n : ℕ) → take (length ws - n) (drop n ws) ≡ drop n ws
rest_is ws n = take_all (length ws - n) (drop n ws) (omega (arith, length-drop n ws))

-- ---- the bytes of words

-- the bytes of the first k words
abbrev pub bytes_to : List ℕ → ℕ → List ℕ
bytes_to words k = gather (λ j. bytes_of (get_or words j 0)) (range 0 k)

bytes_to_lem : (words : List ℕ) (k : ℕ) → length (bytes_to words k) ≡ k * 4
bytes_to_lem words k = omega (arith, gather_length (λ j. bytes_of (get_or words j 0)) 4 (λ j. refl) (range 0 k), range_length 0 k)

pub bytes_more : (words : List ℕ) {old mid new : List ℕ} (k : ℕ) → ListPut old 0 mid (bytes_to words k) → ListPut mid (k * 4) new (bytes_of (get_or words k 0)) → ListPut old 0 new (bytes_to words (k + 1))
bytes_more words {old} {mid} {new} k g h =
    let e : k * 4 ≡ 0 + length (bytes_to words k) = omega (arith, bytes_to_lem words k) in
    rw (gather_more (λ j. bytes_of (get_or words j 0)) k) (put_two (bytes_to words k) (bytes_of (get_or words k 0)) g (rw e at h))

bytes_whole : (words : List ℕ) → bytes_to words (length words) ≡ rule_bytes words
unfolding rule_bytes
bytes_whole words = sym (gather_map bytes_of (λ k. get_or words k 0) (range 0 (length words))) ∙ ap (gather bytes_of) (sym (from_get_d words (length words) (λ k. get_or words k 0) refl (λ k o. refl)))

pub bytes_all : (words old : List ℕ) {new : List ℕ} (k : ℕ) → k ≡ length words → length words * 4 ≤ length old → ListPut old 0 new (bytes_to words k) → new ≡ at_front (rule_bytes words) old
bytes_all words old {new} k e l h =
    let g : ListPut old 0 new (rule_bytes words) = rw (e, bytes_whole words) at h in
    front_more [] (rule_bytes words) old g (omega (arith, bytes_long words))

-- ---- the owners, one by one

pub owner_small : (ws : List ℕ) (k : ℕ) → owner_fits ws k ≡ true → (get_or ws (5 + k * 3) 0 < most_nodes) × (get_or ws (5 + k * 3 + 1) 0 < 2)
owner_small ws k t = (ltb-true (get_or ws (5 + k * 3) 0) most_nodes (search first), ltb-true (get_or ws (5 + k * 3 + 1) 0) 2 (search second))

pub owners_none : (ws os ns : List ℕ) → OwnersRead ws 0 os ns
owners_none ws os ns = record { fit = λ k o. absurd (omega arith); owners = λ k o. absurd (omega arith); numbers = λ k o. absurd (omega arith) }

pub owners_more : {ws os ns : List ℕ} {k : ℕ} → OwnersRead ws k os ns → owner_fits ws k ≡ true → k < length os → k < length ns
    → OwnersRead ws (k + 1) (set os k (get_or ws (5 + k * 3) 0 * 2 + get_or ws (5 + k * 3 + 1) 0)) (set ns k (get_or ws (5 + k * 3 + 2) 0))
owners_more {ws} {os} {ns} {k} h f lo ln =
    let o : ℕ = get_or ws (5 + k * 3) 0 * 2 + get_or ws (5 + k * 3 + 1) 0 in
    let n : ℕ = get_or ws (5 + k * 3 + 2) 0 in
    record {
      fit = below_more (λ j. owner_fits ws j ≡ true) k h.fit f;
      owners = below_more (λ j. get_or (set os k o) j 0 ≡ get_or ws (5 + j * 3) 0 * 2 + get_or ws (5 + j * 3 + 1) 0) k (λ j u. get_or-set_other os k j o 0 (omega arith) ∙ h.owners j u) (get_or-set_same os k o 0 lo);
      numbers = below_more (λ j. get_or (set ns k n) j 0 ≡ get_or ws (5 + j * 3 + 2) 0) k (λ j u. get_or-set_other ns k j n 0 (omega arith) ∙ h.numbers j u) (get_or-set_same ns k n 0 ln);
    }

-- ---- an entry of what is well formed has a node's number

module _ (s : Stored) (x : ℕ) (e : Entry) where
  own_node : Memᴰ e (own_entries s x) → e.node ≡ x
  unfolding own_entries
  own_node m = go (mathlib.Core.List.Memᴰ.append_cases (gather rows_at consulted) m)
    where
      rows_at : Point → List Entry
      rows_at j = map (entry_of x 0 j.0) (held s.entries x j)

      consulted : List Point
      consulted = points_from (wanted_from s.rule (count_before s) x) (count_before s x - (wanted_from s.rule (count_before s) x).0)

      pairs : List Entry
      pairs = map (λ p. entry_of x 1 (get_or p 0 0) (drop 1 p)) (held_pairs s.entries x)

      go : Memᴰ e (gather rows_at consulted) ⊎ Memᴰ e pairs → e.node ≡ x
      go (inl k) =
          let (j, at, h) = gather_at rows_at consulted k in
          let (u, n, d) = mathlib.Core.List.Memᴰ.of_map (entry_of x 0 j.0) (held s.entries x j) h in
          ap (λ (f : Entry). f.node) (sym d)
      go (inr k) =
          let (p, n, d) = mathlib.Core.List.Memᴰ.of_map (λ p. entry_of x 1 (get_or p 0 0) (drop 1 p)) (held_pairs s.entries x) k in
          ap (λ (f : Entry). f.node) (sym d)

entry_node : {s : Stored} → Formed s → (e : Entry) → Memᴰ e s.entries → e.node < most_nodes
entry_node {s} f e m =
    let (x, at, k) = gather_at (own_entries s) (range 0 (node_count s.rule)) (rw f.entries_own at m) in
    omega (arith, own_node s x e k, range_at 0 (node_count s.rule) at, node_sizes f)

-- ---- the sizes of an image

module _ (ws : List ℕ) where
  -- as many bytes are read as the sizes tell
  pub rule_long : length (read_in ws).rule ≡ (length ws - rule_at ws) * 4
  unfolding read_in
  rule_long = bytes_long (drop (rule_at ws) ws) ∙ ap (λ n. n * 4) (length-drop (rule_at ws) ws)

  image_formed : is_image ws ≡ true → Formed (read_in ws)
  unfolding is_image
  image_formed t = formed (read_in ws) (search (first, second))

  image_sizes : is_image ws ≡ true → SizesFit ws (kept_in ws) (retained_in ws)
  unfolding is_image
  image_sizes t =
      let f : Formed (read_in ws) = image_formed t in
      let within : rule_at ws ≤ length ws = leb-true (rule_at ws) (length ws) (search (first, second)) in
      record {
        version = eqb-true (get_or ws 0 0) 1 (search first);
        kept_are = refl;
        retained_are = refl;
        few_kept = omega (arith, f.few_kept, entries_many ws);
        few_times = omega (arith, f.few_times, times_many ws within);
        within = within;
        rule_fits = omega (arith, node_sizes f, rule_long);
      }

  -- words of other sizes are none
  pub no_image : (SizesFit ws (kept_in ws) (retained_in ws) → ⊥) → is_image ws ≡ false
  no_image h = go (tested (is_image ws))
    where
      go : Tested (is_image ws) → is_image ws ≡ false
      go (passed t) = absurd (h (image_sizes t))
      go (failed t) = t

  -- the owners of an image's entries fit
  image_owners : is_image ws ≡ true → (k : ℕ) → k < kept_in ws → owner_fits ws k ≡ true
  unfolding read_in
  image_owners t k o =
      let f : Formed (read_in ws) = image_formed t in
      let m : Memᴰ (entry_in ws k) (read_in ws).entries = mathlib.Core.List.Memᴰ.map (entry_in ws) (range_of 0 (kept_in ws) (omega arith) (omega arith)) in
      both (lt-ltb (get_or ws (5 + k * 3) 0) most_nodes (entry_node f (entry_in ws k) m)) (lt-ltb (get_or ws (5 + k * 3 + 1) 0) 2 (rowed f (entry_in ws k) m).0)

  module _ {kept retained : ℕ} (z : SizesFit ws kept retained) where
    -- words whose sizes fit are one where what is read in is well formed
    image_is : is_image ws ≡ well_formed (read_in ws)
    unfolding is_image
    image_is = rw (eq-eqb (get_or ws 0 0) 1 z.version, le-leb (rule_at ws) (length ws) z.within)

    -- words with an owner that doesn't fit are none
    pub owner_out : (k : ℕ) → k < kept → owner_fits ws k ≡ false → is_image ws ≡ false
    owner_out k o e = go (tested (is_image ws))
      where
        go : Tested (is_image ws) → is_image ws ≡ false
        go (passed t) = absurd (false≢true (sym e ∙ image_owners t k (omega (arith, z.kept_are))))
        go (failed t) = t

    -- the parts of the words
    rule_part : take (length ws - (5 + kept * 7 + retained)) (drop (5 + kept * 7 + retained) ws) ≡ drop (rule_at ws) ws
    rule_part = rest_is ws (5 + kept * 7 + retained) ∙ ap₂ (λ n m. drop (5 + n * 7 + m) ws) z.kept_are z.retained_are

    times_part : take (5 + kept * 7 + retained - (5 + kept * 7)) (drop (5 + kept * 7) ws) ≡ take (retained_in ws) (drop (times_at ws) ws)
    times_part =
        let e : 5 + kept * 7 + retained - (5 + kept * 7) ≡ retained = omega arith in
        ap₂ (λ n m. take n (drop (5 + m * 7) ws)) (e ∙ z.retained_are) z.kept_are

    values_part_lem : take (length ws - (5 + kept * 3)) (drop (5 + kept * 3) ws) ≡ drop (values_at ws) ws
    values_part_lem = rest_is ws (5 + kept * 3) ∙ ap (λ n. drop (5 + n * 3) ws) z.kept_are

    -- the values of what is read in
    pub values_are : take (kept * 4) (drop (values_at ws) ws) ≡ gather (λ e. e.values) (read_in ws).entries
    values_are = ap (λ n. take (n * 4) (drop (values_at ws) ws)) z.kept_are ∙ sym (values_same ws z.within)

    -- the parts put to the front of a state's words
    pub parts_stored : {os ns rule times owners numbers values rule' times' owners' numbers' values' : List ℕ}
        → (most_kept ≤ length os) × (most_kept ≤ length ns)
        → (most_times ≤ length times) × (most_kept ≤ length owners) × (most_kept ≤ length numbers) × (most_kept * 4 ≤ length values)
        → rule' ≡ at_front (rule_bytes (take (length ws - (5 + kept * 7 + retained)) (drop (5 + kept * 7 + retained) ws))) rule
        → WordsPut times 0 times' retained (λ k. get_or (take (5 + kept * 7 + retained - (5 + kept * 7)) (drop (5 + kept * 7) ws)) k 0)
        → WordsPut owners 0 owners' kept (λ k. get_or os k 0)
        → WordsPut numbers 0 numbers' kept (λ k. get_or ns k 0)
        → WordsPut values 0 values' (kept * 4) (λ k. get_or (take (length ws - (5 + kept * 3)) (drop (5 + kept * 3) ws)) k 0)
        → PartsStored ws os ns kept retained rule times owners numbers values rule' times' owners' numbers' values'
    parts_stored {os} {ns} {rule} {times} {owners} {numbers} {values} (lo, ln) (rt, ro, rn, rv) er ht ho hn hv =
        let lt : length (take (5 + kept * 7 + retained - (5 + kept * 7)) (drop (5 + kept * 7) ws)) ≡ retained_in ws = ap length times_part ∙ length-take-le (retained_in ws) (drop (times_at ws) ws) (omega (arith, length-drop (times_at ws) ws, z.within)) in
        let lv : length (take (length ws - (5 + kept * 3)) (drop (5 + kept * 3) ws)) ≡ length ws - values_at ws = ap length values_part_lem ∙ length-drop (values_at ws) ws in
        record {
          rule_stored = er ∙ ap (λ p. at_front (rule_bytes p) rule) rule_part;
          times_stored = put_front (take (5 + kept * 7 + retained - (5 + kept * 7)) (drop (5 + kept * 7) ws)) ht (omega (arith, z.few_times)) (omega (arith, lt, z.retained_are)) ∙ ap (λ p. at_front p times) (ap (take retained) times_part ∙ take-take retained (retained_in ws) (drop (times_at ws) ws) (omega (arith, z.retained_are)));
          owners_stored = put_front os ho (omega (arith, z.few_kept)) (omega (arith, z.few_kept));
          numbers_stored = put_front ns hn (omega (arith, z.few_kept)) (omega (arith, z.few_kept));
          values_stored = put_front (take (length ws - (5 + kept * 3)) (drop (5 + kept * 3) ws)) hv (omega (arith, z.few_kept)) (omega (arith, lv, z.kept_are, z.within)) ∙ ap (λ p. at_front (take (kept * 4) p) values) values_part_lem;
        }

    module _ {os ns : List ℕ} (h : OwnersRead ws kept os ns) where
      entry_is : (k : ℕ) → k < kept → entry_at os ns (drop (values_at ws) ws) k ≡ entry_in ws k
      entry_is k o =
          rw (h.owners k o, h.numbers k o) (owned_by_lem (get_or ws (5 + k * 3) 0) (get_or ws (5 + k * 3 + 1) 0) (get_or ws (5 + k * 3 + 2) 0) (row_at (drop (values_at ws) ws) k) (owner_small ws k (h.fit k o)).1)

      -- what stands in the slices is what is read in
      stored_is : stored_in (rule_bytes (drop (rule_at ws) ws)) (record { points = get_or ws 1 0; latest = stamp (get_or ws 2 0) }) (take (retained_in ws) (drop (times_at ws) ws)) os ns (drop (values_at ws) ws) kept ≡ read_in ws
      unfolding read_in entries_from
      stored_is =
          let es : entries_from os ns (drop (values_at ws) ws) 0 kept ≡ map (entry_in ws) (range 0 (kept_in ws))
          = listed_same (entry_at os ns (drop (values_at ws) ws)) (entry_in ws) 0 kept (λ k l o. entry_is k (omega arith)) ∙ ap (λ n. map (entry_in ws) (range 0 n)) z.kept_are in
          rw es

      read_stored : (rule : List ℕ) {rule' : List ℕ} → rule' ≡ at_front (rule_bytes (take (length ws - (5 + kept * 7 + retained)) (drop (5 + kept * 7 + retained) ws))) rule
          → stored_in (take ((length ws - (5 + kept * 7 + retained)) * 4 - 0) rule') (record { points = get_or ws 1 0; latest = stamp (get_or ws 2 0) }) (take (5 + kept * 7 + retained - (5 + kept * 7)) (drop (5 + kept * 7) ws)) os ns (take (length ws - (5 + kept * 3)) (drop (5 + kept * 3) ws)) kept ≡ read_in ws
      read_stored rule {rule'} er =
          let b : List ℕ = rule_bytes (drop (rule_at ws) ws) in
          let l : length b ≡ (length ws - (5 + kept * 7 + retained)) * 4 - 0 = omega (arith, bytes_long (drop (rule_at ws) ws), length-drop (rule_at ws) ws, z.kept_are, z.retained_are) in
          let r : take ((length ws - (5 + kept * 7 + retained)) * 4 - 0) rule' ≡ b = ap (take ((length ws - (5 + kept * 7 + retained)) * 4 - 0)) (er ∙ ap (λ p. at_front (rule_bytes p) rule) rule_part) ∙ take_at b (drop (length b) rule) ((length ws - (5 + kept * 7 + retained)) * 4 - 0) l in
          (λ i. stored_in (r i) (record { points = get_or ws 1 0; latest = stamp (get_or ws 2 0) }) (times_part i) os ns (values_part_lem i) kept) ∙ stored_is

      -- so the test of it tells whether the words are an image
      pub image_told : (rule : List ℕ) {rule' : List ℕ} → rule' ≡ at_front (rule_bytes (take (length ws - (5 + kept * 7 + retained)) (drop (5 + kept * 7 + retained) ws))) rule
          → {r : Bool} → r ≡ well_formed (stored_in (take ((length ws - (5 + kept * 7 + retained)) * 4 - 0) rule') (record { points = get_or ws 1 0; latest = stamp (get_or ws 2 0) }) (take (5 + kept * 7 + retained - (5 + kept * 7)) (drop (5 + kept * 7) ws)) os ns (take (length ws - (5 + kept * 3)) (drop (5 + kept * 3) ws)) kept) → r ≡ is_image ws
      image_told rule er e = e ∙ ap well_formed (read_stored rule er) ∙ sym image_is

      -- the owners and the numbers as they were read are those of what is read in
      pub entries_read : kept ≤ length os → kept ≤ length ns → EntriesRead ws os ns kept
      unfolding read_in
      entries_read lo ln =
          record {
            owners = from_get_d (take kept os) kept (λ k. owner_of (entry_in ws k)) (length-take-le kept os lo) (λ k o. get_or-take kept os k 0 o ∙ h.owners k o) ∙ sym (map_twice owner_of (entry_in ws) (range 0 kept)) ∙ ap (λ n. map owner_of (map (entry_in ws) (range 0 n))) z.kept_are;
            numbers = from_get_d (take kept ns) kept (λ k. (entry_in ws k).number) (length-take-le kept ns ln) (λ k o. get_or-take kept ns k 0 o ∙ h.numbers k o) ∙ sym (map_twice (λ e. e.number) (entry_in ws) (range 0 kept)) ∙ ap (λ n. map (λ e. e.number) (map (entry_in ws) (range 0 n))) z.kept_are;
          }
