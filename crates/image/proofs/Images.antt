-- What an image of something stored reads in to, and what words that are read in save to.
use Prim.Native.Nat.{ℕ, suc, ◌+◌, ◌*◌, ◌≤◌}
use native.Mathlib.Omega.{arith}
use mathlib.Core.Path.{◌≡◌, refl, sym, ◌∙◌, ap, ap₂}
use mathlib.Core.List.{List, [], ◌∷◌, ◌++◌, map, append_assoc, Memᴰ}
use lib.ListN.{length, get_or, take, drop, length-append, length-drop, length-map, take-append-drop}
use lib.Seq.{drop_at, take-add, take-append_seam, get_or-drop, length-take-le}
use Rattle.meaning.specs.Lists.{range, gather}
use Rattle.meaning.specs.RuleFile.{node_count}
use Rattle.meaning.specs.Kept.{Entry, entry_of}
use Rattle.meaning.proofs.Lists.{range_length}
use Rattle.meaning.proofs.Accepted.{accepted, nodes_most}
use Rattle.method.specs.Stored.{Stored}
use Rattle.method.specs.WellFormed.{Formed}
use Rattle.method.proofs.Rowed.{Rowed, rowed, values_are_long}
use Rattle.method.proofs.Lists.{gather_length, gather_map}
use Rattle.rowset.specs.Rows.{row_at}
use Rattle.entries.proofs.Listed.{listed_same, listed_moved}
use Rattle.image.specs.Image.{sizes, owner_words, rule_words, image_of, most_image, rule_bytes, kept_in, retained_in, values_at, times_at, rule_at, entry_in, read_in}
use Rattle.image.specs.ImageLaws.{Bytes, Words}
use Rattle.image.proofs.Flat.{flat, words_at, three_at, rows_flat}
use Rattle.image.proofs.RuleWords.{words_many, bytes_back, words_back}

-- ---- entries read off their owners' words and their values

abbrev read_at : List ℕ → List ℕ → ℕ → Entry
read_at os vs k = entry_of (get_or os (k * 3) 0) (get_or os (k * 3 + 1) 0) (get_or os (k * 3 + 2) 0) (row_at vs k)

read_more : (x m n a b c d : ℕ) (os vs : List ℕ) (k : ℕ) → map (read_at (x ∷ m ∷ n ∷ os) (a ∷ b ∷ c ∷ d ∷ vs)) (range 0 (suc k)) ≡ entry_of x m n (a ∷ b ∷ c ∷ d ∷ []) ∷ map (read_at os vs) (range 0 k)
read_more x m n a b c d os vs k = ap (λ es. entry_of x m n (a ∷ b ∷ c ∷ d ∷ []) ∷ es) (listed_moved (read_at (x ∷ m ∷ n ∷ os) (a ∷ b ∷ c ∷ d ∷ vs)) (read_at os vs) 1 0 k (λ j l. on j))
  where
    on : (j : ℕ) → read_at (x ∷ m ∷ n ∷ os) (a ∷ b ∷ c ∷ d ∷ vs) (1 + j) ≡ read_at os vs (0 + j)
    on j =
        let z : 0 + j ≡ j = omega arith in
        let e : (1 + j) * 3 ≡ suc (suc (suc (j * 3))) = omega arith in
        let f : (1 + j) * 4 ≡ suc (suc (suc (suc (j * 4)))) = omega arith in
        let g : (i : ℕ) → suc (suc (suc (j * 3))) + i ≡ suc (suc (suc (j * 3 + i))) = λ i. omega arith in
        let h : (i : ℕ) → suc (suc (suc (suc (j * 4)))) + i ≡ suc (suc (suc (suc (j * 4 + i)))) = λ i. omega arith in
        rw (z, e, f, g 1, g 2, h 1, h 2, h 3)

read_one : (x m n : ℕ) (u : List ℕ) → length u ≡ 4 → (os vs : List ℕ) (k : ℕ) → map (read_at (x ∷ m ∷ n ∷ os) (u ++ vs)) (range 0 (suc k)) ≡ entry_of x m n u ∷ map (read_at os vs) (range 0 k)
read_one x m n [] e os vs k = absurd (omega arith)
read_one x m n (a ∷ []) e os vs k = absurd (omega arith)
read_one x m n (a ∷ b ∷ []) e os vs k = absurd (omega arith)
read_one x m n (a ∷ b ∷ c ∷ []) e os vs k = absurd (omega arith)
read_one x m n (a ∷ b ∷ c ∷ d ∷ []) e os vs k = read_more x m n a b c d os vs k
read_one x m n (a ∷ b ∷ c ∷ d ∷ f ∷ u) e os vs k = absurd (omega arith)

read_all : (es : List Entry) → ((e : Entry) → Memᴰ e es → Rowed e) → (os vs : List ℕ) → map (read_at (gather owner_words es ++ os) (gather (λ e. e.values) es ++ vs)) (range 0 (length es)) ≡ es
read_all [] h os vs = refl
read_all (e ∷ es) h os vs =
    ap (λ ws. map (read_at (gather owner_words (e ∷ es) ++ os) ws) (range 0 (suc (length es)))) (append_assoc e.values (gather (λ f. f.values) es) vs)
    ∙ read_one e.node e.mark e.number e.values (h e (Memᴰ.head refl)).1 (gather owner_words es ++ os) (gather (λ f. f.values) es ++ vs) (length es)
    ∙ ap (λ fs. e ∷ fs) (read_all es (λ f m. h f (Memᴰ.tail m)) os vs)

owners_long : (es : List Entry) → length (gather owner_words es) ≡ length es * 3
owners_long es = omega (arith, gather_length owner_words 3 (λ e. refl) es)

entry_read : (ws : List ℕ) (k : ℕ) → entry_in ws k ≡ read_at (drop 5 ws) (drop (values_at ws) ws) k
entry_read ws k =
    let a : 5 + k * 3 + 1 ≡ 5 + (k * 3 + 1) = omega arith in
    let b : 5 + k * 3 + 2 ≡ 5 + (k * 3 + 2) = omega arith in
    rw (a, b, get_or-drop 5 ws (k * 3) 0, get_or-drop 5 ws (k * 3 + 1) 0, get_or-drop 5 ws (k * 3 + 2) 0)

-- ---- what an image's sizes tell

pub kept_told : (s : Stored) → kept_in (image_of s) ≡ length s.entries
unfolding image_of
kept_told s = refl

pub retained_told : (s : Stored) → retained_in (image_of s) ≡ length s.times
unfolding image_of
retained_told s = refl

points_told : (s : Stored) → get_or (image_of s) 1 0 ≡ s.points
unfolding image_of
points_told s = refl

latest_told : (s : Stored) → get_or (image_of s) 2 0 ≡ s.latest.0
unfolding image_of
latest_told s = refl

-- ---- an image's parts, and what is read off them

-- of entries that have a mark and four values each, under a rule whose bytes fill so many words
module _ (s : Stored) (rows : (e : Entry) → Memᴰ e s.entries → Rowed e) (words : ℕ) (whole : length s.rule ≡ words * 4) where
  abbrev owned : List ℕ
  owned = gather owner_words s.entries

  abbrev valued : List ℕ
  valued = gather (λ e. e.values) s.entries

  abbrev ruled : List ℕ
  ruled = rule_words s.rule

  pub sized_long : length (sizes s ++ owned) ≡ 5 + length s.entries * 3
  sized_long = length-append (sizes s) owned ∙ ap (λ n. 5 + n) (owners_long s.entries)

  pub entered_long : length (sizes s ++ owned ++ valued) ≡ 5 + length s.entries * 7
  entered_long =
      let v : length valued ≡ length s.entries * 4 = values_are_long s.entries rows in
      let o : length (sizes s ++ owned) ≡ 5 + length s.entries * 3 = sized_long in
      length-append (sizes s ++ owned) valued ∙ omega arith

  pub timed_long : length (sizes s ++ owned ++ valued ++ s.times) ≡ 5 + length s.entries * 7 + length s.times
  timed_long = length-append (sizes s ++ owned ++ valued) s.times ∙ ap (λ n. n + length s.times) entered_long

  from_times : drop (5 + length s.entries * 7) (image_of s) ≡ s.times ++ ruled
  unfolding image_of
  from_times = ap (drop (5 + length s.entries * 7)) (append_assoc (sizes s ++ owned ++ valued) s.times ruled) ∙ drop_at (sizes s ++ owned ++ valued) (s.times ++ ruled) (5 + length s.entries * 7) entered_long

  in_two : image_of s ≡ sizes s ++ owned ++ (valued ++ (s.times ++ ruled))
  unfolding image_of
  in_two = append_assoc (sizes s ++ owned ++ valued) s.times ruled ∙ append_assoc (sizes s ++ owned) valued (s.times ++ ruled)

  from_values : drop (5 + length s.entries * 3) (image_of s) ≡ valued ++ (s.times ++ ruled)
  from_values = ap (drop (5 + length s.entries * 3)) in_two ∙ drop_at (sizes s ++ owned) (valued ++ (s.times ++ ruled)) (5 + length s.entries * 3) sized_long

  from_owners : drop 5 (image_of s) ≡ owned ++ (valued ++ (s.times ++ ruled))
  from_owners = ap (drop 5) in_two

  from_rule : drop (5 + length s.entries * 7 + length s.times) (image_of s) ≡ ruled
  unfolding image_of
  from_rule = drop_at (sizes s ++ owned ++ valued ++ s.times) ruled (5 + length s.entries * 7 + length s.times) timed_long

  entries_back : map (entry_in (image_of s)) (range 0 (kept_in (image_of s))) ≡ s.entries
  entries_back =
      listed_same (entry_in (image_of s)) (read_at (drop 5 (image_of s)) (drop (values_at (image_of s)) (image_of s))) 0 (kept_in (image_of s)) (λ k u v. entry_read (image_of s) k)
      ∙ ap (λ n. map (read_at (drop 5 (image_of s)) (drop (5 + n * 3) (image_of s))) (range 0 n)) (kept_told s)
      ∙ ap₂ (λ os vs. map (read_at os vs) (range 0 (length s.entries))) from_owners from_values
      ∙ read_all s.entries rows (valued ++ (s.times ++ ruled)) (s.times ++ ruled)

  times_back : take (retained_in (image_of s)) (drop (times_at (image_of s)) (image_of s)) ≡ s.times
  times_back = ap₂ (λ k n. take k (drop (5 + n * 7) (image_of s))) (retained_told s) (kept_told s) ∙ ap (take (length s.times)) from_times ∙ take-append_seam s.times ruled

  rule_back : Bytes s.rule → rule_bytes (drop (rule_at (image_of s)) (image_of s)) ≡ s.rule
  rule_back h = ap₂ (λ k n. rule_bytes (drop (5 + n * 7 + k) (image_of s))) (retained_told s) (kept_told s) ∙ ap rule_bytes from_rule ∙ bytes_back s.rule words whole h

  pub reads_back : Bytes s.rule → read_in (image_of s) ≡ s
  unfolding read_in
  reads_back h = rw (entries_back, times_back, rule_back h, points_told s, latest_told s)

  -- how long an image is
  pub image_long : length (image_of s) ≡ 5 + length s.entries * 7 + length s.times + words
  unfolding image_of
  image_long = length-append (sizes s ++ owned ++ valued ++ s.times) ruled ∙ ap₂ (λ k m. k + m) timed_long (words_many s.rule words whole)

-- what is well formed is such: its rule has 3 words, and 5 for each node
module _ (s : Stored) (f : Formed s) where
  pub rule_words_lem : length s.rule ≡ (3 + 5 * node_count s.rule) * 4
  rule_words_lem = omega (arith, (accepted s.rule f.accepted.0 f.accepted.1).long)

  pub image_most : length (image_of s) ≤ most_image
  image_most = omega (arith, image_long s (rowed f) (3 + 5 * node_count s.rule) rule_words_lem, f.few_kept, f.few_times, nodes_most s.rule f.accepted.0 f.accepted.1)

-- ---- words that are read in

pub entries_many : (ws : List ℕ) → length (read_in ws).entries ≡ kept_in ws
unfolding read_in
entries_many ws = length-map (range 0 (kept_in ws)) (entry_in ws) ∙ range_length 0 (kept_in ws)

module _ (ws : List ℕ) (within : rule_at ws ≤ length ws) where
  abbrev n : ℕ
  n = kept_in ws

  abbrev r : ℕ
  r = retained_in ws

  pub times_many : length (read_in ws).times ≡ r
  unfolding read_in
  times_many = length-take-le r (drop (times_at ws) ws) (simp length-drop (omega arith))

  sizes_same : get_or ws 0 0 ≡ 1 → sizes (read_in ws) ≡ take 5 ws
  unfolding read_in
  sizes_same v = rw (entries_many ws, times_many) (ap (λ a. a ∷ get_or ws 1 0 ∷ get_or ws 2 0 ∷ get_or ws 3 0 ∷ get_or ws 4 0 ∷ []) (sym v) ∙ sym (words_at 5 ws 0 (omega arith)))

  owners_same : gather owner_words (read_in ws).entries ≡ take (n * 3) (drop 5 ws)
  unfolding read_in
  owners_same = gather_map owner_words (entry_in ws) (range 0 n) ∙ flat 3 (drop 5 ws) (λ k. owner_words (entry_in ws k)) n (λ k l. ap owner_words (entry_read ws k) ∙ sym (three_at (drop 5 ws) k (simp length-drop (omega arith))))

  pub values_same : gather (λ e. e.values) (read_in ws).entries ≡ take (n * 4) (drop (values_at ws) ws)
  unfolding read_in
  values_same = gather_map (λ e. e.values) (entry_in ws) (range 0 n) ∙ rows_flat (drop (values_at ws) ws) n (simp length-drop (omega arith))

  times_same : (read_in ws).times ≡ take r (drop (times_at ws) ws)
  unfolding read_in
  times_same = refl

  rule_same : Words ws → rule_words (read_in ws).rule ≡ drop (rule_at ws) ws
  unfolding read_in
  rule_same h = words_back (drop (rule_at ws) ws) (λ k. rw (get_or-drop (rule_at ws) ws k 0) (h (rule_at ws + k)))

  pub saves_itself : get_or ws 0 0 ≡ 1 → Words ws → image_of (read_in ws) ≡ ws
  unfolding image_of
  saves_itself v h =
      let e : 5 + n * 3 + n * 4 ≡ 5 + n * 7 = omega arith in
      let q : Stored = read_in ws in
      ap (λ us. us ++ gather owner_words q.entries ++ gather (λ e. e.values) q.entries ++ q.times ++ rule_words q.rule) (sizes_same v)
      ∙ ap (λ us. take 5 ws ++ us ++ gather (λ e. e.values) q.entries ++ q.times ++ rule_words q.rule) owners_same
      ∙ ap (λ us. take 5 ws ++ take (n * 3) (drop 5 ws) ++ us ++ q.times ++ rule_words q.rule) values_same
      ∙ ap₂ (λ us vs. take 5 ws ++ take (n * 3) (drop 5 ws) ++ take (n * 4) (drop (values_at ws) ws) ++ us ++ vs) times_same (rule_same h)
      ∙ ap (λ us. us ++ take (n * 4) (drop (values_at ws) ws) ++ take r (drop (times_at ws) ws) ++ drop (rule_at ws) ws) (sym (take-add 5 (n * 3) ws))
      ∙ ap (λ us. us ++ take r (drop (times_at ws) ws) ++ drop (rule_at ws) ws) (sym (take-add (5 + n * 3) (n * 4) ws) ∙ ap (λ m. take m ws) e)
      ∙ ap (λ us. us ++ drop (rule_at ws) ws) (sym (take-add (times_at ws) r ws))
      ∙ take-append-drop (rule_at ws) ws
