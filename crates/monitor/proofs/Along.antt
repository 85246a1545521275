-- A taking in memory that stores a log: it gives what the keeper gives, and what memory then stores is what the keeper's log stores.
use Prim.Native.Nat.{ℕ}
use mathlib.Core.Path.{◌≡◌, sym, ◌∙◌, ap, subst}
use mathlib.Core.Bool.{true}
use mathlib.Core.List.{List, [], ◌∷◌, ◌++◌}
use lib.ListN.{length}
use Rattle.meaning.specs.Outcome.{Outcome, refused, given}
use Rattle.meaning.specs.Log.{Log, log_of}
use Rattle.meaning.specs.RuleFile.{Accepted, checking}
use Rattle.meaning.specs.Keeper.{Fed, Taking, Given, buffer_after, answered}
use Rattle.method.specs.Stored.{Stored, stored_of}
use Rattle.method.specs.Step.{words_of, answer_now, stored_after, report_now, given_by, stored_by}
use Rattle.method.specs.WellFormed.{well_formed, Formed}
use Rattle.method.proofs.Whole.{step-stored, step_given}
use Rattle.meaning.proofs.Takings.{keeper_ordered}
use Rattle.method.proofs.Formed.{formed}
use Rattle.method.proofs.Reached.{reached, stored_well_formed}
use Rattle.lent_state.specs.Answers.{take_answer}
use Rattle.lent_state.specs.Lent.{Lent, fitting, stored, lent_with, answer_in, lent_after}
use Rattle.lent_state.proofs.Stores.{stored_with, fitting_with}
use Rattle.image_words.proofs.RestoredState.{Holds}
use Rattle.monitor.specs.Reports.{taken_over, log_over}
use Rattle.monitor.proofs.Logs.{log_then}

-- what a taking gives back of memory m, and how it leaves m
abbrev pub given_in : Lent → Taking → Given
given_in m t = record { answer = answer_in m t.fed (length t.buffer); buffer = buffer_after (answer_in m t.fed (length t.buffer)) (report_now (stored m) (words_of t.fed)) t.buffer }

abbrev pub lent_by : Lent → Taking → Lent
lent_by m t = lent_after (answer_in m t.fed (length t.buffer)) m t.fed

-- memory of a state's lengths in which a log is stored
abbrev pub Stores : List ℕ → Log → Lent → Type 0
Stores b l m = Holds (stored_of b l) m

-- memory once a log is stored in it, or left as it was
after : (b : List ℕ) (l : Log) (m : Lent) (f : Fed) → fitting m ≡ true → Formed (stored_of b l) → (stored_of b l).rule ≡ (stored m).rule → (o : Outcome ℕ) → stored_after (stored m) (words_of f) o ≡ stored_of b l → Stores b l (lent_after o m f)
unfolding stored_after
after b l m w fit f r (refused number place) e = record { fits = fit; stores = e }
after b l m w fit f r (given words) e = subst (λ s. Stores b l (lent_with s m)) (sym e) (record { fits = fitting_with m (stored_of b l) f fit; stores = stored_with m (stored_of b l) f r })

module _ (b : List ℕ) (a : Accepted) (ok : checking b ≡ given a) where
  pub well : (ts : List Taking) → well_formed (stored_of b (log_over b ts)) ≡ true
  well ts = stored_well_formed b a ok (log_over b ts) (reached b a ok ts)

  module _ (ts : List Taking) (m : Lent) (h : Stores b (log_over b ts) m) where
    -- a taking gives what the keeper gives, and leaves what the keeper's log stores
    module _ (t : Taking) where
      answers : answer_in m t.fed (length t.buffer) ≡ answer_now (stored m) t.fed (length t.buffer)
      unfolding answer_in take_answer
      answers =
          let w : well_formed (stored m) ≡ true = rw h.stores (well ts) in
          rw (h.fits, w)

      given_by_lem : given_in m t ≡ given_by (stored m) t
      unfolding given_by
      given_by_lem = rw answers

      pub one_given : given_in m t ≡ answered b (taken_over b ts) t
      one_given = given_by_lem ∙ ap (λ q. given_by q t) h.stores ∙ step_given b a ok (taken_over b ts) (keeper_ordered b ts) t

      stored_by_lem : stored_after (stored m) (words_of t.fed) (answer_in m t.fed (length t.buffer)) ≡ stored_of b (log_over b (ts ++ t ∷ []))
      unfolding stored_by
      stored_by_lem =
          ap (stored_after (stored m) (words_of t.fed)) answers ∙ ap (λ q. stored_by q t) h.stores ∙ step-stored b a ok (taken_over b ts) (keeper_ordered b ts) t
          ∙ ap (λ es. stored_of b (log_of es)) (sym (log_then b [] ts (t ∷ [])))

      pub one_stored : Stores b (log_over b (ts ++ t ∷ [])) (lent_by m t)
      unfolding stored_of
      one_stored = after b (log_over b (ts ++ t ∷ [])) m t.fed h.fits (formed _ (well (ts ++ t ∷ []))) (ap (λ (q : Stored). q.rule) (sym h.stores)) (answer_in m t.fed (length t.buffer)) stored_by_lem
