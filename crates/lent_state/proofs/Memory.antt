-- From what a taking over slices leaves to what is lent then.
use Prim.Native.Nat.{ℕ, ◌+◌, ◌*◌, ◌≤◌, ◌<◌}
use native.Mathlib.Omega.{arith}
use mathlib.Core.Path.{◌≡◌, refl, sym, ◌∙◌, ap, ap₂, subst}
use mathlib.Core.Bool.{true, false}
use mathlib.Core.List.{List}
use lib.ListN.{length, get_or, take}
use borrow.Author.Tests.{eqb-true, leb-true}
use Rattle.meaning.specs.Outcome.{refused, given, not_well_formed, most_points, most_bytes, most_kept}
use Rattle.meaning.specs.Log.{stamp}
use Rattle.meaning.specs.Event.{is_event}
use Rattle.meaning.specs.Keeper.{Fed, event, notice, buffer_after}
use Rattle.meaning.specs.declared.LogEnd.{LogEnd}
use Rattle.meaning.proofs.Points.{first, second, Tested, passed, failed, tested}
use Rattle.meaning.proofs.Takings.{admitted_given}
use Rattle.method.specs.Stored.{Stored, end_of}
use Rattle.method.specs.Step.{words_of, points_added, stored_now, report_now, answer_now}
use Rattle.method.specs.WellFormed.{well_formed, Formed, most_times, time_words}
use Rattle.method.proofs.Bounds.{one_added}
use Rattle.method.proofs.Formed.{formed}
use Rattle.formed.specs.StateFigures.{stored_in}
use Rattle.limits.specs.Weighs.{refusal_of}
use Rattle.limits.specs.declared.Refusal.{Refusal}
use Rattle.limits.specs.declared.Refusal.TheVariants.{NotWellFormed, NotAnEvent, RowOut, TimeFalls, LogFull, Crowded, Backlog, KeptOver, BufferShort}
use Rattle.figures.specs.Fronts.{figures_fit}
use Rattle.figures.proofs.Slices.{front-take, figures_in}
use Rattle.lent_state.specs.Answers.{taken_of, take_answer, TakesIn}
use Rattle.lent_state.specs.Lent.{Lent, lent, lengths_are, lengths_fit, fitting, SizedWords, stored, lent_with, answer_of, answer_in, lent_after, TakesLent}
use Rattle.lent_state.specs.declared.Taken.{Taken}
use Rattle.std.specs.Prelude.{Result, Ok, Err}

-- the lengths of a state's arrays
pub record Sized (rule times owners numbers values : List ℕ) : Type 0 where
  pub rule_long : length rule ≡ most_bytes
  pub times_long : length times ≡ time_words
  pub owners_long : length owners ≡ most_kept
  pub numbers_long : length numbers ≡ most_kept
  pub values_are_long : length values ≡ most_kept * 4

pub fits_sized : (rule times os ns vs : List ℕ) → lengths_fit rule times os ns vs ≡ true → Sized rule times os ns vs
unfolding lengths_are
fits_sized rule times os ns vs f =
    record {
      rule_long = eqb-true (length rule) most_bytes (search first);
      times_long = eqb-true (length times) time_words (search (first, second));
      owners_long = eqb-true (length os) most_kept (search (first, second));
      numbers_long = eqb-true (length ns) most_kept (search (first, second));
      values_are_long = eqb-true (length vs) (most_kept * 4) (search (first, second));
    }

pub sized_fits : {rule times os ns vs : List ℕ} → Sized rule times os ns vs → lengths_fit rule times os ns vs ≡ true
unfolding lengths_are
sized_fits h = rw (h.rule_long, h.times_long, h.owners_long, h.numbers_long, h.values_are_long)

-- slices of a state's lengths, of which so many words are its
pub sized_words : {rule times os ns vs : List ℕ} {retained count : ℕ} → Sized rule times os ns vs → retained ≤ most_times → count ≤ most_kept → SizedWords times os ns vs retained count
sized_words z r c = record { times_long = z.times_long; owners_long = z.owners_long; numbers_long = z.numbers_long; values_are_long = z.values_are_long; few_times = r; few_kept = c }

stays : (m : Lent) (w : Fed) (r : Refusal) → m ≡ lent_after (refusal_of r) m w
stays m w NotWellFormed = refl
stays m w NotAnEvent = refl
stays m w (RowOut k) = refl
stays m w TimeFalls = refl
stays m w LogFull = refl
stays m w (Crowded x) = refl
stays m w Backlog = refl
stays m w KeptOver = refl
stays m w (BufferShort n) = refl

-- what is answered with words is taken, so the method answers it so
given_now : (s : Stored) (f : Fed) (room words : ℕ) → take_answer s f room ≡ given words → Formed s × (answer_now s f room ≡ given words)
unfolding take_answer
given_now s f room words e = go (tested (well_formed s))
  where
    go : Tested (well_formed s) → Formed s × (answer_now s f room ≡ given words)
    go (passed t) = (formed s t, rw t at e)
    go (failed t) =
        let z : refused not_well_formed 0 ≡ given words = rw t at e in
        let q : ◌≡◌ {A = ℕ} 0 1 = cc in
        absurd (omega arith)

-- and there was room for its point
given_room : (s : Stored) (f : Fed) (room words : ℕ) → take_answer s f room ≡ given words → s.points + points_added (words_of f) ≤ most_points
unfolding answer_now
given_room s (event w) room words e = let (f, q) = given_now s (event w) room words e in omega (arith, (admitted_given s.rule w s.latest s.points _ words q).room, one_added w)
given_room s (notice t) room words e = let (f, q) = given_now s (notice t) room words e in omega (arith, f.few_points)

-- and it had a time
given_some : (s : Stored) (f : Fed) (room words : ℕ) → take_answer s f room ≡ given words → 0 < length (words_of f)
unfolding answer_now is_event
given_some s (event w) room words e =
    let (f, q) = given_now s (event w) room words e in
    let t = (admitted_given s.rule w s.latest s.points _ words q).form in
    omega (arith, leb-true 2 (length w) (search (first, second)))
given_some s (notice t) room words e = omega arith

module _ (m : Lent) (f : Fed) (buffer : List ℕ) where
  -- a length isn't a state's
  pub taken_unfit : fitting m ≡ false → TakesLent m f buffer (Err NotWellFormed) m buffer
  unfolding answer_in
  taken_unfit unfit = record { answered = rw unfit; moved = rw unfit; written = rw unfit }

  module _ (fit : fitting m ≡ true) where
    -- a figure isn't
    pub taken_bad : well_formed (stored m) ≡ false → TakesLent m f buffer (Err NotWellFormed) m buffer
    unfolding answer_in take_answer
    taken_bad bad = record { answered = rw (fit, bad); moved = rw (fit, bad); written = rw (fit, bad) }

    module _ {buffer' times' os' ns' vs' : List ℕ} {s : Stored} {r : Result Taken Refusal} (is : s ≡ stored m)
        (t : TakesIn s (words_of f) buffer buffer' m.times m.owners m.numbers m.values times' os' ns' vs' (take_answer s f (length buffer)) r) where
      takes : TakesIn (stored m) (words_of f) buffer buffer' m.times m.owners m.numbers m.values times' os' ns' vs' (take_answer (stored m) f (length buffer)) r
      takes = subst (λ q. TakesIn q (words_of f) buffer buffer' m.times m.owners m.numbers m.values times' os' ns' vs' (take_answer q f (length buffer)) r) is t

      answer_is : taken_of r ≡ answer_in m f (length buffer)
      unfolding answer_in
      answer_is = rw fit takes.outcome

      left_as : (m' : Lent) (a : Result ℕ Refusal) → taken_of r ≡ answer_of a → m' ≡ lent_after (taken_of r) m f → TakesLent m f buffer a m' buffer'
      left_as m' a e k = record { answered = sym e ∙ answer_is; moved = k ∙ ap (λ o. lent_after o m f) answer_is; written = takes.written ∙ ap (λ o. buffer_after o (report_now (stored m) (words_of f)) buffer) answer_is }

      -- a refusal
      pub taken_refused : (q : Refusal) → r ≡ Err q → TakesLent m f buffer (Err q) (lent m.rule m.bytes m.log times' m.retained os' ns' vs' m.count) buffer'
      taken_refused q e =
          let (et, eo, en, ev) = takes.stays q e in
          let same : lent m.rule m.bytes m.log times' m.retained os' ns' vs' m.count ≡ m = rw (et, eo, en, ev) in
          left_as _ (Err q) (ap taken_of e) (same ∙ rw e (stays m f q))

      end_now_lem : end_of (stored_now (stored m) (words_of f)) ≡ record { points = m.log.points + points_added (words_of f); latest = stamp (get_or (words_of f) 0 0) }
      unfolding stored_now
      end_now_lem = refl

      -- it is taken
      module _ (g : Taken) (e : r ≡ Ok g) where
        pub taken_done : {w : List ℕ} {added : ℕ} → w ≡ words_of f → added ≡ points_added w
            → TakesLent m f buffer (Ok g.written.words) (lent m.rule m.bytes (record { points = m.log.points + added; latest = stamp (get_or w 0 0) }) times' g.retained os' ns' vs' g.written.kept) buffer'
        taken_done {w} {added} ew ea =
            let k = takes.done g e in
            let end : ◌≡◌ {A = LogEnd} (record { points = m.log.points + added; latest = stamp (get_or w 0 0) }) (end_of (stored_now (stored m) (words_of f)))
            = ap (λ n. record { points = m.log.points + n; latest = stamp (get_or w 0 0) }) ea ∙ ap (λ v. record { points = m.log.points + points_added v; latest = stamp (get_or v 0 0) }) ew ∙ sym end_now_lem in
            let same : lent m.rule m.bytes (record { points = m.log.points + added; latest = stamp (get_or w 0 0) }) times' g.retained os' ns' vs' g.written.kept ≡ lent_with (stored_now (stored m) (words_of f)) m
            = rw (end, k.times_stored, k.retained_are, k.entries-stored.owners, k.entries-stored.numbers, k.entries-stored.values, k.kept_are) in
            left_as _ (Ok g.written.words) (ap taken_of e) (same ∙ rw e)

        -- and there was room for its point
        pub taken_room : m.log.points + points_added (words_of f) ≤ most_points
        taken_room = given_room (stored m) f (length buffer) g.written.words (sym takes.outcome ∙ ap taken_of e)

        -- and it had a time
        pub taken_some : 0 < length (words_of f)
        taken_some = given_some (stored m) f (length buffer) g.written.words (sym takes.outcome ∙ ap taken_of e)

-- what is stored in the parts is what is stored at their front
pub stored_parts : (m : Lent) → m.bytes ≤ length m.rule → m.retained ≤ length m.times → stored_in (take m.bytes m.rule) m.log (take m.retained m.times) m.owners m.numbers m.values m.count ≡ stored m
stored_parts m b t = (ap₂ (λ r ts. stored_in r m.log ts m.owners m.numbers m.values m.count) (sym (front-take m.bytes m.rule b)) (sym (front-take m.retained m.times t)))

-- where the lengths and the figures fit, the slices are a state's
pub fit_words : (m : Lent) → fitting m ≡ true → figures_fit m.bytes m.retained m.count ≡ true → SizedWords m.times m.owners m.numbers m.values m.retained m.count
fit_words m fit few =
    let (bytes, retained, count) = figures_in m.bytes m.retained m.count few in
    sized_words (fits_sized _ _ _ _ _ fit) retained count

pub fit_bytes : (m : Lent) → fitting m ≡ true → figures_fit m.bytes m.retained m.count ≡ true → m.bytes ≤ length m.rule
fit_bytes m fit few = omega (arith, figures_in m.bytes m.retained m.count few, fits_sized m.rule m.times m.owners m.numbers m.values fit)

pub fit_times : (m : Lent) → fitting m ≡ true → figures_fit m.bytes m.retained m.count ≡ true → m.retained ≤ length m.times
fit_times m fit few = omega (arith, figures_in m.bytes m.retained m.count few, fits_sized m.rule m.times m.owners m.numbers m.values fit)

-- what is stored then in the parts
pub fit_stored : (m : Lent) → fitting m ≡ true → figures_fit m.bytes m.retained m.count ≡ true → stored_in (take m.bytes m.rule) m.log (take m.retained m.times) m.owners m.numbers m.values m.count ≡ stored m
fit_stored m fit few = stored_parts m (fit_bytes m fit few) (fit_times m fit few)
