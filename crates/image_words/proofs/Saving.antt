-- Saving: words put part by part, the parts of an image and its length, and what is answered.
use Prim.Native.Nat.{ℕ, ◌+◌, ◌*◌, ◌/◌, ◌%◌, ◌≤◌, ◌<◌}
use native.Mathlib.Omega.{arith}
use mathlib.Core.Path.{◌≡◌, refl, sym, ap, subst, ◌∙◌}
use mathlib.Core.Bool.{true, false}
use mathlib.Core.List.Memᴰ
use mathlib.Core.List.{List, [], ◌∷◌, ◌++◌, Memᴰ}
use lib.ListN.{length, get_or, take}
use lib.Seq.{length-take-le, get_or-take}
use lib.Dec.{ltb}
use borrow.Author.Tests.{lt-ltb, le-ltb}
use Rattle.meaning.specs.Lists.{range, gather}
use Rattle.meaning.specs.RuleFile.{word_at, node_count}
use Rattle.meaning.specs.Kept.{Entry}
use Rattle.meaning.specs.declared.LogEnd.{LogEnd}
use Rattle.meaning.proofs.Lists.{range_length}
use Rattle.meaning.proofs.Accepted.{accepted}
use Rattle.method.specs.Stored.{Stored}
use Rattle.method.specs.WellFormed.{well_formed}
use Rattle.method.proofs.Formed.{formed}
use Rattle.method.proofs.Rowed.{Rowed}
use Rattle.method.proofs.Lists.{gather_length, gather_map, gather_more}
use Rattle.entries.specs.Entries.{EntriesWithin, entry_at, entries_from}
use Rattle.entries.specs.Appended.{WordsPut, at_front}
use Rattle.entries.proofs.Putting.{put_none}
use Rattle.formed.specs.StateFigures.{stored_in}
use Rattle.figures.proofs.Slices.{run_many, figures_in}
use Rattle.call.specs.Blocks.{ListPut}
use Rattle.call.proofs.Fronts.{listed_at, list_put, put_two, front_more}
use Rattle.lent_state.specs.Lent.{Lent, fitting, stored}
use Rattle.lent_state.proofs.Ready.{standing}
use Rattle.lent_state.proofs.Memory.{fit_words, fit_bytes, fit_times}
use Rattle.figures.specs.Fronts.{figures_fit}
use Rattle.meaning.specs.Outcome.{most_bytes, most_kept}
use Rattle.method.specs.WellFormed.{most_times}
use Rattle.image.specs.Image.{image_version, sizes, owner_words, rule_words, image_of}
use Rattle.image_words.specs.Parts.{owners_from, image_needs}
use Rattle.image_words.specs.Promises.{saving, saving_in, SavesStored, SavesLent}
use Rattle.image_words.specs.declared.Unsaved.{Unsaved}
use Rattle.image_words.specs.declared.Unsaved.TheVariants.{NotWellFormed, Short}
use Rattle.std.specs.Prelude.{Result, Ok, Err}
use Rattle.image.proofs.Flat.{rows_flat}
use Rattle.image.proofs.RuleWords.{words_many}
use Rattle.image.proofs.Images.{sized_long, entered_long, timed_long, image_long as long-image}

-- ---- words put one behind the other

-- a part, and the next where it ends
put_next : {old mid new : List ℕ} {k n : ℕ} (ws us : List ℕ) → ListPut old k mid ws → k + length ws ≡ n → ListPut mid n new us → ListPut old k new (ws ++ us)
put_next ws us g e h = put_two ws us g (rw e h)

-- ---- the owners' words

module _ (os ns : List ℕ) where
  abbrev owner_at : ℕ → List ℕ
  owner_at k = get_or os k 0 / 2 ∷ get_or os k 0 % 2 ∷ get_or ns k 0 ∷ []

  owners_long : (k : ℕ) → length (owners_from os ns k) ≡ k * 3
  unfolding owners_from
  owners_long k = omega (arith, gather_length owner_at 3 (λ x. refl) (range 0 k), range_length 0 k)

  pub owners_none : (image : List ℕ) → ListPut image 5 image (owners_from os ns 0)
  unfolding owners_from
  owners_none image = put_none image 5 (λ i. get_or [] i 0)

  owners_then : (k : ℕ) → owners_from os ns (k + 1) ≡ owners_from os ns k ++ owner_at k
  unfolding owners_from
  owners_then k = gather_more owner_at k

  pub owners_more : {old mid new : List ℕ} (k : ℕ) → ListPut old 5 mid (owners_from os ns k) → ListPut mid (5 + k * 3) new (owner_at k) → ListPut old 5 new (owners_from os ns (k + 1))
  owners_more k g h = rw (owners_then k) (put_next (owners_from os ns k) (owner_at k) g (ap (λ n. 5 + n) (owners_long k)) h)

  owners_words : (vs : List ℕ) (count : ℕ) → gather owner_words (entries_from os ns vs 0 count) ≡ owners_from os ns count
  unfolding owners_from entries_from
  owners_words vs count = gather_map owner_words (entry_at os ns vs) (range 0 count)

-- ---- the values' words

values_words : (os ns vs : List ℕ) (count : ℕ) → count * 4 ≤ length vs → gather (λ e. e.values) (entries_from os ns vs 0 count) ≡ take (count * 4) vs
unfolding entries_from
values_words os ns vs count l = gather_map (λ e. e.values) (entry_at os ns vs) (range 0 count) ∙ rows_flat vs count l

-- ---- the rule's words

module _ (b : List ℕ) (long : length b ≡ 12 + 20 * node_count b) where
  rule_long : length (rule_words b) ≡ length b / 4
  rule_long = words_many b (length b / 4) (omega arith)

  rule_at_lem : (i : ℕ) → i < length b / 4 → word_at b (i * 4) ≡ get_or (rule_words b) i 0
  unfolding rule_words
  rule_at_lem i u =
      let z : 0 + i ≡ i = omega arith in
      sym (listed_at (λ k. word_at b (k * 4)) 0 ((length b + 3) / 4) i (omega arith) ∙ ap (λ k. word_at b (k * 4)) z)

-- ---- the whole image

module _ (rule : List ℕ) (log : LogEnd) (times os ns vs : List ℕ) (count : ℕ) (within : EntriesWithin os ns vs count) (long : length rule ≡ 12 + 20 * node_count rule) where
  abbrev saved : Stored
  saved = stored_in rule log times os ns vs count

  -- each entry has a mark and four values, and the rule's bytes fill their words
  rows : (e : Entry) → Memᴰ e saved.entries → Rowed e
  unfolding entries_from
  rows e m =
      let (k, n, is) = Memᴰ.of_map (entry_at os ns vs) (range 0 count) m in
      subst Rowed is (omega arith, refl)

  whole : length rule ≡ length rule / 4 * 4
  whole = omega arith

  many : length saved.entries ≡ count
  many = run_many os ns vs 0 count

  pub image_long : length (image_of saved) ≡ image_needs (length rule) (length times) count
  image_long = omega (arith, long-image saved rows (length rule / 4) whole, many)

  -- the parts put one behind the other from the front on
  pub image_put : {i₀ i₁ i₂ i₃ i₄ i₅ : List ℕ} → image_needs (length rule) (length times) count ≤ length i₀
      → ListPut i₀ 0 i₁ (image_version ∷ log.points ∷ log.latest.0 ∷ count ∷ length times ∷ []) → ListPut i₁ 5 i₂ (owners_from os ns count)
      → WordsPut i₂ (5 + count * 3) i₃ (count * 4) (λ k. get_or vs k 0)
      → WordsPut i₃ (5 + count * 7) i₄ (length times) (λ k. get_or times k 0)
      → WordsPut i₄ (5 + count * 7 + length times) i₅ (length rule / 4) (λ k. word_at rule (k * 4))
      → i₅ ≡ at_front (image_of saved) i₀
  unfolding image_of
  image_put {i₀} {i₁} {i₂} {i₃} {i₄} {i₅} room s o v t r =
      let owned : List ℕ = gather owner_words saved.entries in
      let valued : List ℕ = gather (λ e. e.values) saved.entries in
      let sizes-put : ListPut i₀ 0 i₁ (sizes saved) = subst (λ n. ListPut i₀ 0 i₁ (image_version ∷ log.points ∷ log.latest.0 ∷ n ∷ length times ∷ [])) (sym many) s in
      let owners-put : ListPut i₁ 5 i₂ owned = subst (ListPut i₁ 5 i₂) (sym (owners_words os ns vs count)) o in
      let is : valued ≡ take (count * 4) vs = values_words os ns vs count within.values_there in
      let values-put : ListPut i₂ (5 + count * 3) i₃ valued = list_put valued v (ap length is ∙ length-take-le (count * 4) vs within.values_there) (λ i u. sym (ap (λ us. get_or us i 0) is ∙ get_or-take (count * 4) vs i 0 u)) in
      let rule-put : ListPut i₄ (5 + count * 7 + length times) i₅ (rule_words rule) = list_put (rule_words rule) r (rule_long rule long) (rule_at_lem rule long) in
      let to_values : ListPut i₀ 0 i₂ (sizes saved ++ owned) = put_next (sizes saved) owned sizes-put refl owners-put in
      let to-times : ListPut i₀ 0 i₃ (sizes saved ++ owned ++ valued) = put_next (sizes saved ++ owned) valued to_values (omega (arith, sized_long saved rows (length rule / 4) whole, many)) values-put in
      let to-rule : ListPut i₀ 0 i₄ (sizes saved ++ owned ++ valued ++ times) = put_next (sizes saved ++ owned ++ valued) times to-times (omega (arith, entered_long saved rows (length rule / 4) whole, many)) t in
      let all : ListPut i₀ 0 i₅ (image_of saved) = put_next (sizes saved ++ owned ++ valued ++ times) (rule_words rule) to-rule (omega (arith, timed_long saved rows (length rule / 4) whole, many)) rule-put in
      front_more [] (image_of saved) i₀ all (omega (arith, image_long))

-- ---- what is answered

-- the rule of what is well formed has whole words
pub whole_rule : (s : Stored) → well_formed s ≡ true → length s.rule ≡ 12 + 20 * node_count s.rule
whole_rule s ok =
    let (a, good) = (formed s ok).accepted in
    (accepted s.rule a good).long

module _ (s : Stored) (buffer : List ℕ) where
  pub saved_bad : well_formed s ≡ false → SavesStored s buffer (Err NotWellFormed) buffer
  unfolding saving
  saved_bad bad = record { answered = rw bad; written = rw bad }

  module _ (ok : well_formed s ≡ true) {n : ℕ} (long : length (image_of s) ≡ n) where
    pub saved_short : length buffer < n → SavesStored s buffer (Err (Short n)) buffer
    unfolding saving
    saved_short l =
        let t : ltb (length buffer) (length (image_of s)) ≡ true = lt-ltb (length buffer) (length (image_of s)) (omega arith) in
        record { answered = rw (ok, t, long); written = rw (ok, t) }

    pub saved_whole : {buffer' : List ℕ} → n ≤ length buffer → buffer' ≡ at_front (image_of s) buffer → SavesStored s buffer (Ok n) buffer'
    unfolding saving
    saved_whole l e =
        let t : ltb (length buffer) (length (image_of s)) ≡ false = le-ltb (length buffer) (length (image_of s)) (omega arith) in
        record { answered = rw (ok, t, long); written = rw (ok, t) e }

module _ (m : Lent) (buffer : List ℕ) where
  -- a length isn't a state's
  pub lent_unfit : fitting m ≡ false → SavesLent m buffer (Err NotWellFormed) buffer
  unfolding saving_in
  lent_unfit unfit = record { answered = rw unfit; written = rw unfit }

  -- what is saved is what is stored there
  pub lent_saved : fitting m ≡ true → {s : Stored} {r : Result ℕ Unsaved} {buffer' : List ℕ} → s ≡ stored m → SavesStored s buffer r buffer' → SavesLent m buffer r buffer'
  unfolding saving_in
  lent_saved fit {s} {r} {buffer'} is h =
      let q : SavesStored (stored m) buffer r buffer' = subst (λ t. SavesStored t buffer r buffer') is h in
      record { answered = rw fit q.answered; written = rw fit q.written }

-- what saving from the slices' parts asks, of slices and figures that fit a state
pub to_save : (m : Lent) → fitting m ≡ true → figures_fit m.bytes m.retained m.count ≡ true
    → EntriesWithin m.owners m.numbers m.values m.count × (m.count ≤ most_kept) × (length (take m.retained m.times) ≤ most_times) × (length (take m.bytes m.rule) ≤ most_bytes)
to_save m fit few =
    let z = fit_words m fit few in
    let (bytes, retained, count) = figures_in m.bytes m.retained m.count few in
    (standing z, count, omega (arith, length-take-le m.retained m.times (fit_times m fit few)), omega (arith, length-take-le m.bytes m.rule (fit_bytes m fit few)))
