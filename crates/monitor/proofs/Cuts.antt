-- Along a list of takings, saves and restores: memory stores the keeper's log, and each image written is that of the keeper's log then.
use Prim.Native.Nat.{ℕ, zero, suc, ◌≤◌, ◌<◌}
use native.Mathlib.Omega.{arith}
use mathlib.Core.Path.{◌≡◌, refl, sym, ◌∙◌, ap, ap₂, subst}
use mathlib.Core.Bool.{true, false}
use mathlib.Core.List.Memᴰ
use mathlib.Core.List.{List, [], ◌∷◌, ◌++◌, map, Memᴰ}
use lib.ListN.{length, get_or, take, drop, length-map, get_or-map, get_or-eq_default}
use lib.Seq.{take-append_seam}
use lib.Dec.{ltb}
use borrow.Author.Tests.{ltb-true, ltb-false, lt-ltb, le-ltb}
use Rattle.meaning.specs.Outcome.{Outcome, refused, given, not_an_image}
use Rattle.meaning.specs.Log.{Taken, log_of}
use Rattle.meaning.specs.RuleFile.{Accepted, checking}
use Rattle.meaning.specs.Keeper.{Taking, Given, buffer_after, step}
use Rattle.meaning.proofs.Points.{Tested, passed, failed, tested}
use Rattle.method.specs.Stored.{Stored, stored_of}
use Rattle.method.specs.WellFormed.{well_formed}
use Rattle.method.proofs.Formed.{formed}
use Rattle.lent_state.specs.Lent.{Lent, fitting, stored, lent_with}
use Rattle.image.specs.Image.{image_of, read_in, is_image}
use Rattle.image_words.specs.Promises.{saved_in, saving as saving_of, saving_in, reading, reading_in, ruled_by, lent_read}
use Rattle.image.specs.ImageLaws.{Bytes, Sound}
use Rattle.image.proofs.ImageLaws.{reads, saves_in_form}
use Rattle.image_words.proofs.RestoredState.{put_in}
use Rattle.monitor.specs.Reports.{taken_over, log_over}
use Rattle.monitor.specs.Cuts.{Act, taking, saving, restoring, image_on, Held, nothing_held, given_for, images_after, held_after, cut_keeper, held_over}
use Rattle.monitor.specs.CutList.{written}
use Rattle.monitor.proofs.Logs.{log_then}
use Rattle.monitor.proofs.Along.{given_in, lent_by, Stores, well, one_given, one_stored}

-- memory after a restore: what was read, and what was there before where it was refused
abbrev pub lent_after_read : Outcome ℕ → Lent → Lent → Lent
lent_after_read (refused number place) m m' = m
lent_after_read (given words) m m' = m'

-- what saving and reading in give back of memory
abbrev pub saved_back : Lent → List ℕ → Given
saved_back m buffer = record { answer = saving_in m (length buffer); buffer = buffer_after (saving_in m (length buffer)) (image_of (stored m)) buffer }

abbrev pub read_back : Lent → List ℕ → Given
read_back m ws = record { answer = reading_in m ws; buffer = [] }

-- ---- calls in memory

-- what was done, what was given back, the memory that an image was read into, and the memory after it
pub record LentCall : Type 0 where
  pub act : Act
  pub back : Given
  pub into : Lent
  pub after : Lent

-- a call finds memory and images so, and does what saving, reading in and taking promise
abbrev pub Does : Lent → List (List ℕ) → Act → LentCall → Type 0
Does m images (taking t) c = (c.back ≡ given_in m t) × (c.after ≡ lent_by m t)
Does m images (saving buffer) c = (c.back ≡ saved_back m buffer) × (c.after ≡ m)
Does m images (restoring k) c = (fitting m ≡ true → fitting c.into ≡ true) × (c.back ≡ read_back c.into (get_or images k [])) × (c.after ≡ lent_after_read c.back.answer m (lent_read c.back.answer (get_or images k []) c.into))

-- the images after it
abbrev pub images_from : Act → Given → List (List ℕ) → List (List ℕ)
images_from (taking t) g images = images
images_from (saving buffer) g images = written g.answer g.buffer images
images_from (restoring k) g images = images

abbrev pub LentCalls : Lent → List (List ℕ) → List LentCall → Lent → Type 0
LentCalls m images [] m' = m' ≡ m
LentCalls m images (c ∷ cs) m' = Does m images c.act c × LentCalls c.after (images_from c.act c.back images) cs m'

-- ---- images by their number

module _ {A : Type 0} where
  member_at : (xs : List A) (k : ℕ) (x : A) → k < length xs → Memᴰ (get_or xs k x) xs
  member_at [] k x l = absurd (omega arith)
  member_at (a ∷ xs) zero x l = Memᴰ.head refl
  member_at (a ∷ xs) (suc k) x l = Memᴰ.tail (member_at xs k x (omega arith))

  pub same_default : (xs : List A) (k : ℕ) (x y : A) → k < length xs → get_or xs k x ≡ get_or xs k y
  same_default [] k x y l = absurd (omega arith)
  same_default (a ∷ xs) zero x y l = refl
  same_default (a ∷ xs) (suc k) x y l = same_default xs k x y (omega arith)

no_image : is_image [] ≡ false
unfolding is_image
no_image = refl

module _ (b : List ℕ) where
  -- a log that takings lead to
  abbrev pub Reached : List Taken → Type 0
  Reached es = (ts : List Taking) × (es ≡ taken_over b ts)

  -- the words that a save writes are the image, which stands before those of the saves before
  images_then : (es : List Taken) (logs : List (List Taken)) (images : List (List ℕ)) → images ≡ map (image_on b) logs → (image : List ℕ) → image ≡ image_on b es → (buffer : List ℕ) (o : Outcome ℕ) → o ≡ saved_in image (length buffer)
      → written o (buffer_after o image buffer) images ≡ map (image_on b) (images_after o es logs)
  images_then es logs images i image e buffer (refused number place) q = i
  images_then es logs images i image e buffer (given n) q = ap₂ (λ us is. us ∷ is) (go (tested (ltb (length buffer) (length image))) ∙ e) i
    where
      go : Tested (ltb (length buffer) (length image)) → take n (image ++ drop (length image) buffer) ≡ image
      go (passed t) =
          let z : given n ≡ refused 19 (length image) = rw t at q in
          let p : ◌≡◌ {A = ℕ} 0 1 = cc in
          absurd (omega arith)
      go (failed t) =
          let z : given n ≡ given (length image) = rw t at q in
          let p : n ≡ length image = cc in
          rw p (take-append_seam image (drop (length image) buffer))

  reached_then : (es : List Taken) → Reached es → (logs : List (List Taken)) → ((us : List Taken) → Memᴰ us logs → Reached us) → (o : Outcome ℕ) → (us : List Taken) → Memᴰ us (images_after o es logs) → Reached us
  reached_then es r logs h (refused number place) us m = h us m
  reached_then es r logs h (given n) us (Memᴰ.head e) = subst Reached (sym e) r
  reached_then es r logs h (given n) us (Memᴰ.tail m) = h us m

-- what is asked of the rule for an act: that it is of bytes, where an image is read in
module _ (b : List ℕ) where
  abbrev pub Asks : Act → Type 0
  Asks (taking t) = Unit {0}
  Asks (saving buffer) = Unit {0}
  Asks (restoring k) = Bytes b

module _ (b : List ℕ) (a : Accepted) (ok : checking b ≡ given a) where
  -- memory stores what the keeper holds, and the images are those of the logs that it holds
  pub record Follows (h : Held) (images : List (List ℕ)) (m : Lent) : Type 0 where
    pub reached : Reached b h.log
    pub stores : Stores b (log_of h.log) m
    pub images_are : images ≡ map (image_on b) h.images
    pub images_reached : (es : List Taken) → Memᴰ es h.images → Reached b es

  well_stored : (es : List Taken) → Reached b es → well_formed (stored_of b (log_of es)) ≡ true
  well_stored es (ts, e) = rw e (well b a ok ts)

  sound : Bytes b → (es : List Taken) → Reached b es → Sound (stored_of b (log_of es))
  unfolding stored_of
  sound bytes es r = record { formed = well_stored es r; bytes = bytes }

  module _ (h : Held) (images : List (List ℕ)) (m : Lent) (f : Follows h images m) where
    -- ---- a taking

    stored_then : Stores b (log_over b f.reached.0) m
    stored_then = subst (λ es. Stores b (log_of es) m) f.reached.1 f.stores

    grown_then : (t : Taking) → step b h.log t ≡ taken_over b (f.reached.0 ++ t ∷ [])
    grown_then t = ap (λ es. step b es t) f.reached.1 ∙ sym (log_then b [] f.reached.0 (t ∷ []))

    pub taken_given : (t : Taking) → given_in m t ≡ given_for b h (taking t)
    taken_given t = one_given b a ok f.reached.0 m stored_then t ∙ ap (λ es. given_for b (record { log = es; images = h.images }) (taking t)) (sym f.reached.1)

    pub taken_follows : (t : Taking) → Follows (held_after b h (taking t)) images (lent_by m t)
    taken_follows t =
        record {
          reached = (f.reached.0 ++ t ∷ [], grown_then t);
          stores = subst (λ es. Stores b (log_of es) (lent_by m t)) (sym (grown_then t)) (one_stored b a ok f.reached.0 m stored_then t);
          images_are = f.images_are;
          images_reached = f.images_reached;
        }

    -- ---- a save

    well_then : well_formed (stored m) ≡ true
    well_then = rw f.stores.stores (well_stored h.log f.reached)

    image_then : image_of (stored m) ≡ image_on b h.log
    image_then = ap image_of f.stores.stores

    pub saved_given_lem : (buffer : List ℕ) → saved_back m buffer ≡ given_for b h (saving buffer)
    unfolding saving_in saving_of
    saved_given_lem buffer = rw (f.stores.fits, well_then, image_then)

    pub saved_follows : (buffer : List ℕ) → Follows (held_after b h (saving buffer)) (written (saved_back m buffer).answer (saved_back m buffer).buffer images) m
    saved_follows buffer =
        let o : (saved_back m buffer).answer ≡ saved_in (image_on b h.log) (length buffer) = ap (λ (g : Given). g.answer) (saved_given_lem buffer) in
        let w : (saved_back m buffer).buffer ≡ buffer_after (saved_in (image_on b h.log) (length buffer)) (image_on b h.log) buffer = ap (λ (g : Given). g.buffer) (saved_given_lem buffer) in
        record {
          reached = f.reached;
          stores = f.stores;
          images_are = ap₂ (λ p left. written p left images) o w ∙ images_then b h.log h.images images f.images_are (image_on b h.log) refl buffer (saved_in (image_on b h.log) (length buffer)) refl;
          images_reached = reached_then b h.log f.reached h.images f.images_reached (saved_in (image_on b h.log) (length buffer));
        }

    -- ---- a restore, into memory of a state's lengths

    module _ (bytes : Bytes b) (k : ℕ) (z : Lent) (fit : fitting z ≡ true) where
      abbrev words : List ℕ
      words = get_or images k []

      module _ (l : k < length h.images) where
        abbrev then : List Taken
        then = get_or h.images k []

        there : Reached b then
        there = f.images_reached then (member_at h.images k [] l)

        words_are : words ≡ image_on b then
        words_are =
            let n : k < length (map (image_on b) h.images) = rw (length-map h.images (image_on b)) l in
            ap (λ is. get_or is k []) f.images_are ∙ same_default (map (image_on b) h.images) k [] (image_on b []) n ∙ get_or-map (image_on b) h.images k []

        read_there : reading_in z words ≡ given (length (image_on b then))
        unfolding reading_in reading
        read_there = rw (fit, words_are, saves_in_form (stored_of b (log_of then)) (sound bytes then there))

        given_there : read_back z words ≡ given_for b h (restoring k)
        given_there = rw (read_there, lt-ltb k (length h.images) l)

        stores_there : Stores b (log_of then) (lent_read (given (length (image_on b then))) words z)
        stores_there =
            let e : read_in words ≡ stored_of b (log_of then) = ap read_in words_are ∙ reads (stored_of b (log_of then)) (sound bytes then there) in
            subst (λ (s : Stored). Stores b (log_of then) (lent_with s (ruled_by s.rule z))) (sym e) (put_in (stored_of b (log_of then)) (formed _ (sound bytes then there).formed) z fit)

        follows_there : Follows (held_after b h (restoring k)) images (lent_after_read (reading_in z words) m (lent_read (reading_in z words) words z))
        follows_there =
            let e : get_or h.images k h.log ≡ then = same_default h.images k h.log [] l in
            subst (λ o. Follows (held_after b h (restoring k)) images (lent_after_read o m (lent_read o words z))) (sym read_there)
            (subst (λ es. Follows (record { log = es; images = h.images }) images (lent_read (given (length (image_on b then))) words z)) (sym e)
            (record { reached = there; stores = stores_there; images_are = f.images_are; images_reached = f.images_reached }))

      module _ (l : length h.images ≤ k) where
        none_there : reading_in z words ≡ refused not_an_image 0
        unfolding reading_in reading
        none_there =
            let n : length (map (image_on b) h.images) ≤ k = rw (length-map h.images (image_on b)) l in
            rw (fit, ap (λ is. get_or is k []) f.images_are ∙ get_or-eq_default (map (image_on b) h.images) [] n, no_image)

        given_none : read_back z words ≡ given_for b h (restoring k)
        given_none = rw (none_there, le-ltb k (length h.images) l)

        follows_none : Follows (held_after b h (restoring k)) images (lent_after_read (reading_in z words) m (lent_read (reading_in z words) words z))
        follows_none =
            subst (λ o. Follows (held_after b h (restoring k)) images (lent_after_read o m (lent_read o words z))) (sym none_there)
            (subst (λ es. Follows (record { log = es; images = h.images }) images m) (sym (get_or-eq_default h.images h.log l)) f)

      pub read_given : read_back z words ≡ given_for b h (restoring k)
      read_given = go (tested (ltb k (length h.images)))
        where
          go : Tested (ltb k (length h.images)) → read_back z words ≡ given_for b h (restoring k)
          go (passed t) = given_there (ltb-true k (length h.images) t)
          go (failed t) = given_none (ltb-false k (length h.images) t)

      pub read_follows : Follows (held_after b h (restoring k)) images (lent_after_read (reading_in z words) m (lent_read (reading_in z words) words z))
      read_follows = go (tested (ltb k (length h.images)))
        where
          go : Tested (ltb k (length h.images)) → Follows (held_after b h (restoring k)) images (lent_after_read (reading_in z words) m (lent_read (reading_in z words) words z))
          go (passed t) = follows_there (ltb-true k (length h.images) t)
          go (failed t) = follows_none (ltb-false k (length h.images) t)

  -- ---- over a list of calls

  pub record CutAlong (h : Held) (cs : List LentCall) (m' : Lent) : Type 0 where
    pub gives : map (λ c. c.back) cs ≡ cut_keeper b h (map (λ c. c.act) cs)
    pub images : List (List ℕ)
    pub follows : Follows (held_over b h (map (λ c. c.act) cs)) images m'

  -- what one call gives back, and what holds after it
  record CutOne (h : Held) (images : List (List ℕ)) (act : Act) (c : LentCall) : Type 0 where
    pub gives : c.back ≡ given_for b h act
    pub follows : Follows (held_after b h act) (images_from act c.back images) c.after

  one : (h : Held) (images : List (List ℕ)) (m : Lent) → Follows h images m → (act : Act) → Asks b act → (c : LentCall) → Does m images act c → CutOne h images act c
  one h images m f (taking t) asked c (g, n) = record { gives = g ∙ taken_given h images m f t; follows = subst (Follows (held_after b h (taking t)) images) (sym n) (taken_follows h images m f t) }
  one h images m f (saving buffer) asked c (g, n) =
      record {
        gives = g ∙ saved_given_lem h images m f buffer;
        follows = subst (λ (q : Given). Follows (held_after b h (saving buffer)) (written q.answer q.buffer images) c.after) (sym g) (subst (Follows (held_after b h (saving buffer)) (written (saved_back m buffer).answer (saved_back m buffer).buffer images)) (sym n) (saved_follows h images m f buffer));
      }
  one h images m f (restoring k) bytes c (fit, g, n) =
      record {
        gives = g ∙ read_given h images m f bytes k c.into (fit f.stores.fits);
        follows =
            subst (Follows (held_after b h (restoring k)) images) (sym (n ∙ ap (λ (q : Given). lent_after_read q.answer m (lent_read q.answer (get_or images k []) c.into)) g))
            (read_follows h images m f bytes k c.into (fit f.stores.fits));
      }

  pub cut_along : (h : Held) (images : List (List ℕ)) (m : Lent) → Follows h images m → (cs : List LentCall) (m' : Lent) → ((act : Act) → Memᴰ act (map (λ c. c.act) cs) → Asks b act) → LentCalls m images cs m' → CutAlong h cs m'
  cut_along h images m f [] m' asks e = record { gives = refl; images = images; follows = subst (Follows h images) (sym e) f }
  cut_along h images m f (c ∷ cs) m' asks (d, r) =
      let now : CutOne h images c.act c = one h images m f c.act (asks c.act (Memᴰ.head refl)) c d in
      let rest : CutAlong (held_after b h c.act) cs m' = cut_along (held_after b h c.act) (images_from c.act c.back images) c.after now.follows cs m' (λ act e. asks act (Memᴰ.tail e)) r in
      record { gives = ap₂ (λ g gs. g ∷ gs) now.gives rest.gives; images = rest.images; follows = rest.follows }

  -- from a start
  pub follows_start : (m : Lent) → Stores b (log_of []) m → Follows nothing_held [] m
  follows_start m h = record { reached = ([], refl); stores = h; images_are = refl; images_reached = λ es e. absurd (Memᴰ.not-nil e) }
