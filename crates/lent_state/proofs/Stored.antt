-- A taking before anything is settled: refusal 8, and what passes the first checks.
use Prim.Native.Nat.{ℕ, ◌+◌, ◌-◌, ◌*◌, ◌≤◌, ◌<◌}
use native.Mathlib.Omega.{arith}
use mathlib.Core.Path.{◌≡◌, refl, sym, ◌∙◌, ap}
use mathlib.Core.Bool.{Bool, true, false, cond}
use mathlib.Core.List.{List, [], ◌∷◌}
use lib.ListN.{length}
use lib.Dec.{leb}
use borrow.Author.Tests.{leb-true, eqb-true, le-ltb}
use Rattle.meaning.specs.Outcome.{Outcome, refused, given, not_well_formed, most_rows, most_open, most_points}
use Rattle.meaning.specs.RuleFile.{node_count, last_node, relation_count, sizes_fit}
use Rattle.meaning.specs.Event.{row_count, is_event}
use Rattle.meaning.specs.Keeper.{Fed, event, notice, admitted, admits, weighed, buffer_after}
use Rattle.meaning.specs.declared.LogEnd.{LogEnd}
use Rattle.meaning.proofs.Points.{first, second}
use Rattle.meaning.proofs.Accepted.{accepted, last_is_node}
use Rattle.meaning.proofs.Takings.{admitted_given}
use Rattle.method.specs.Stored.{Stored}
use Rattle.method.specs.Step.{words_of, points_added, open_stored, count_after, stored_now, crowded_now, report_now, answer_now}
use Rattle.method.specs.WellFormed.{well_formed, Formed}
use Rattle.method.proofs.Bounds.{one_added, before_after}
use Rattle.method.proofs.Formed.{formed}
use Rattle.kinds.specs.Kinds.{EventThere}
use Rattle.events.specs.Answers.{RuleSizes}
use Rattle.limits.specs.Weighs.{refusal_of}
use Rattle.limits.specs.declared.Refusal.{Refusal}
use Rattle.limits.specs.declared.Refusal.TheVariants.{NotWellFormed, NotAnEvent, RowOut, TimeFalls, LogFull, Crowded, Backlog, KeptOver, BufferShort}
use Rattle.call.specs.Settles.{weighed_now}
use Rattle.lent_state.specs.Answers.{take_answer, TakesIn}
use Rattle.lent_state.specs.declared.Taken.{Taken}
use Rattle.std.specs.Prelude.{Result, Err}

-- ---- an accepted rule's sizes

few_relations : (b : List ℕ) → sizes_fit b ≡ true → leb (relation_count b) 8 ≡ true
unfolding sizes_fit
few_relations b e = search (first, second)

pub rule_sizes : {s : Stored} → Formed s → RuleSizes s.rule
rule_sizes {s} f =
    let (a, ok) = f.accepted in
    let r = accepted s.rule a ok in
    record { whole = omega (arith, r.long); relations = leb-true (relation_count s.rule) 8 (few_relations s.rule r.sizes) }

-- ---- refusals before anything is settled

-- a refusal leaves the buffer and the words that are lent
untouched : (r : Refusal) (report buffer : List ℕ) → buffer ≡ buffer_after (refusal_of r) report buffer
untouched NotWellFormed report buffer = refl
untouched NotAnEvent report buffer = refl
untouched (RowOut k) report buffer = refl
untouched TimeFalls report buffer = refl
untouched LogFull report buffer = refl
untouched (Crowded x) report buffer = refl
untouched Backlog report buffer = refl
untouched KeptOver report buffer = refl
untouched (BufferShort words) report buffer = refl

module _ {s : Stored} {w buffer times os ns vs : List ℕ} where
  refuses : {answer : Outcome ℕ} (r : Refusal) → refusal_of r ≡ answer → TakesIn s w buffer buffer times os ns vs times os ns vs answer (Err r)
  refuses r e =
      record {
        outcome = e;
        written = untouched r (report_now s w) buffer;
        done = λ t q. cc;
        stays = λ e q. (refl, refl, refl, refl);
      }

  pub not_formed : (f : Fed) → well_formed s ≡ false → TakesIn s w buffer buffer times os ns vs times os ns vs (take_answer s f (length buffer)) (Err NotWellFormed)
  unfolding take_answer
  not_formed f e = refuses NotWellFormed (rw e)

-- ---- the first checks

one_word : (t : ℕ) → points_added (t ∷ []) ≡ 0
one_word t = refl

-- what passes them: an event in form with room for its point, or a notice
pub record Passes (w : List ℕ) (points : ℕ) : Type 0 where
  pub event : EventThere w
  pub some : 0 < length w
  pub room : points + points_added w ≤ most_points

module _ (b : List ℕ) (l : LogEnd) where
  event_passes : (w : List ℕ) → ((rest : Outcome ℕ) → admitted b w l.latest l.points rest ≡ rest) → Passes w l.points
  unfolding is_event
  event_passes w h =
      let p = admitted_given b w l.latest l.points (given 0) 0 (h (given 0)) in
      let t = p.form in
      record {
        event = record { most = leb-true (row_count w) most_rows (search (first, second)); there = λ u. omega (arith, eqb-true (length w) (2 + 5 * row_count w) (search second)) };
        some = omega (arith, eqb-true (length w) (2 + 5 * row_count w) (search second));
        room = omega (arith, p.room, one_added w);
      }

  pub fed_passes : (f : Fed) → l.points ≤ most_points → ((rest : Outcome ℕ) → admits b f l.latest l.points rest ≡ rest) → Passes (words_of f) l.points
  fed_passes (event w) few h = event_passes w h
  fed_passes (notice t) few h = record { event = record { most = omega arith; there = λ u. absurd (omega arith) }; some = omega arith; room = omega arith }

-- 14 doesn't meet a notice: no more points are open than were
none_over : (s : Stored) (w : List ℕ) → Formed s → points_added w ≡ 0 → s.points + points_added w - count_after s w (last_node s.rule) ≤ most_open
unfolding open_stored
none_over s w f z =
    let (a, ok) = f.accepted in
    omega (arith, f.few_open, before_after s a ok f.few_times f.times_many w (last_node s.rule) (last_is_node s.rule a ok))

under : (crowds : ℕ → Bool) (nodes u entries words room : ℕ) → u ≤ most_open → weighed crowds nodes 0 entries words room ≡ weighed crowds nodes u entries words room
unfolding weighed
under crowds nodes u entries words room h = rw (le-ltb most_open u h)

-- in a well-formed state the answer is what they find, and then what follows
module _ (s : Stored) (room : ℕ) where
  answer_is : (f : Fed) → Formed s → answer_now s f room ≡ admits s.rule f s.latest s.points (weighed_now s (words_of f) room)
  unfolding answer_now weighed_now
  answer_is (event w) k = refl
  answer_is (notice t) k =
      ap (λ (o : Outcome ℕ). admits s.rule (notice t) s.latest s.points o) (under (crowded_now s (t ∷ [])) (node_count s.rule) _ (length (stored_now s (t ∷ [])).entries) (length (report_now s (t ∷ []))) room (none_over s (t ∷ []) k (one_word t)))

  answers : (f : Fed) {o : Outcome ℕ} → well_formed s ≡ true → admits s.rule f s.latest s.points (weighed_now s (words_of f) room) ≡ o → take_answer s f room ≡ o
  unfolding take_answer
  answers f ok e = ap (λ t. cond t (answer_now s f room) (refused not_well_formed 0)) ok ∙ answer_is f (formed s ok) ∙ e

module _ {s : Stored} (f : Fed) {buffer times os ns vs : List ℕ} (ok : well_formed s ≡ true) where
  pub refused_first : {r : Refusal} → ((rest : Outcome ℕ) → admits s.rule f s.latest s.points rest ≡ refusal_of r) → TakesIn s (words_of f) buffer buffer times os ns vs times os ns vs (take_answer s f (length buffer)) (Err r)
  refused_first {r} e = refuses r (sym (answers s (length buffer) f ok (e (weighed_now s (words_of f) (length buffer)))))

  pub taken_on : {buffer' times' os' ns' vs' : List ℕ} {r : Result Taken Refusal} → ((rest : Outcome ℕ) → admits s.rule f s.latest s.points rest ≡ rest)
      → TakesIn s (words_of f) buffer buffer' times os ns vs times' os' ns' vs' (weighed_now s (words_of f) (length buffer)) r
      → TakesIn s (words_of f) buffer buffer' times os ns vs times' os' ns' vs' (take_answer s f (length buffer)) r
  taken_on e t = record { outcome = t.outcome ∙ sym (answers s (length buffer) f ok (e (weighed_now s (words_of f) (length buffer)))); written = t.written; done = t.done; stays = t.stays }
