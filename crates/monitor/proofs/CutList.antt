-- The claim about a whole list of takings, saves and restores holds.
use Prim.Native.Nat.{ℕ}
use mathlib.Core.Path.{◌≡◌, refl, sym, ◌∙◌, ap, ap₂, subst}
use mathlib.Core.Bool.{true}
use mathlib.Core.List.{List, [], ◌∷◌, map, Memᴰ}
use lib.ListN.{length, get_or}
use borrow.Author.Tests.{lt-ltb}
use Rattle.meaning.specs.Outcome.{Outcome, refused, given}
use Rattle.meaning.specs.Log.{Taken, log_of}
use Rattle.meaning.specs.RuleFile.{Accepted, checking}
use Rattle.meaning.specs.Kept.{kept, open_points}
use Rattle.meaning.specs.Keeper.{Given, answered, keeper, keeper_log}
use Rattle.method.specs.Step.{kept_stored, open_stored}
use Rattle.method.specs.WellFormed.{well_formed}
use Rattle.method.proofs.Whole.{keeper_log_ordered}
use Rattle.method.proofs.Stepped.{kept_stored_lem, open_stored_lem}
use Rattle.figures.specs.Fronts.{open_answer}
use Rattle.lent_state.specs.Lent.{Lent, stored}
use Rattle.image_words.specs.Promises.{saved_of, read_of, lent_read}
use Rattle.image.specs.ImageLaws.{Bytes}
use Rattle.monitor.specs.State.{lent_of, blank}
use Rattle.monitor.specs.Promises.{Starts}
use Rattle.monitor.specs.Calls.{taking_of, given_of}
use Rattle.monitor.specs.Reports.{log_over}
use Rattle.monitor.specs.Cuts.{Act, taking, saving, restoring, Held, nothing_held, saved_given, held_after, cut_keeper, held_over, NoneLost, uncut_keeper, takings_of, takings_given}
use Rattle.monitor.specs.CutList.{CutCall, took, saved, restored, state_after, written, CutCalls, act_of, given_back, CutList}
use Rattle.monitor.specs.declared.State.{State}
use Rattle.monitor.specs.declared.Started.{Started}
use Rattle.monitor.proofs.Along.{Stores, well}
use Rattle.monitor.proofs.Starting.{blank_fits, start_stores}
use Rattle.monitor.proofs.Cuts.{same_default, lent_after_read, LentCall, LentCalls, Reached, Asks, Follows, CutAlong, cut_along, follows_start}

-- ---- where no restore loses a taking

module _ (b : List ℕ) where
  pub record Uncut (h : Held) (acts : List Act) : Type 0 where
    pub gives : cut_keeper b h acts ≡ uncut_keeper b h.log acts
    pub takes : takings_given acts (cut_keeper b h acts) ≡ keeper b h.log (takings_of acts)
    pub holds : (held_over b h acts).log ≡ keeper_log b h.log (takings_of acts)

  pub none_lost : (h : Held) (acts : List Act) → NoneLost b h acts → Uncut h acts
  none_lost h [] n = record { gives = refl; takes = refl; holds = refl }
  none_lost h (taking t ∷ acts) n =
      let rest : Uncut (held_after b h (taking t)) acts = none_lost (held_after b h (taking t)) acts n in
      record { gives = ap (λ gs. answered b h.log t ∷ gs) rest.gives; takes = ap (λ gs. answered b h.log t ∷ gs) rest.takes; holds = rest.holds }
  none_lost h (saving buffer ∷ acts) n =
      let rest : Uncut (held_after b h (saving buffer)) acts = none_lost (held_after b h (saving buffer)) acts n in
      record { gives = ap (λ gs. saved_given b h.log buffer ∷ gs) rest.gives; takes = rest.takes; holds = rest.holds }
  none_lost h (restoring k ∷ acts) (l, same, n) =
      let rest : Uncut (held_after b h (restoring k)) acts = none_lost (held_after b h (restoring k)) acts n in
      let e : (held_after b h (restoring k)).log ≡ h.log = same_default h.images k h.log [] l ∙ same in
      record {
        gives = ap₂ (λ g gs. g ∷ gs) (rw (lt-ltb k (length h.images) l, same)) (rest.gives ∙ ap (λ es. uncut_keeper b es acts) e);
        takes = rest.takes ∙ ap (λ es. keeper b es (takings_of acts)) e;
        holds = rest.holds ∙ ap (λ es. keeper_log b es (takings_of acts)) e;
      }

-- ---- calls of the operations as calls in memory

-- the memory of the state after a restore
lent_after_lem : (o : Outcome ℕ) (s s' : State) → lent_of (state_after o s s') ≡ lent_after_read o (lent_of s) (lent_of s')
lent_after_lem (refused number place) s s' = refl
lent_after_lem (given words) s s' = refl

record AsLent (s : State) (images : List (List ℕ)) (cs : List CutCall) (s' : State) : Type 0 where
  pub calls : List LentCall
  pub acts : map (λ c. c.act) calls ≡ map act_of cs
  pub backs : map (λ c. c.back) calls ≡ map given_back cs
  pub lent : LentCalls (lent_of s) images calls (lent_of s')

as_lent : (s : State) (images : List (List ℕ)) (cs : List CutCall) (s' : State) → CutCalls s images cs s' → AsLent s images cs s'
as_lent s images [] s' e = record { calls = []; acts = refl; backs = refl; lent = ap lent_of e }
as_lent s images (took c ∷ cs) s' (t, r) =
    let rest : AsLent c.back.state images cs s' = as_lent c.back.state images cs s' r in
    record {
      calls = record { act = taking (taking_of c); back = given_of c; into = lent_of s; after = lent_of c.back.state } ∷ rest.calls;
      acts = ap (λ acts. taking (taking_of c) ∷ acts) rest.acts;
      backs = ap (λ gs. given_of c ∷ gs) rest.backs;
      lent = ((ap₂ (λ o words. record { answer = o; buffer = words }) t.answered t.written, t.moved), rest.lent);
    }
as_lent s images (saved buffer q left ∷ cs) s' (t, r) =
    let rest : AsLent s (written (saved_of q) left images) cs s' = as_lent s (written (saved_of q) left images) cs s' r in
    record {
      calls = record { act = saving buffer; back = given_back (saved buffer q left); into = lent_of s; after = lent_of s } ∷ rest.calls;
      acts = ap (λ acts. saving buffer ∷ acts) rest.acts;
      backs = ap (λ gs. given_back (saved buffer q left) ∷ gs) rest.backs;
      lent = ((ap₂ (λ o words. record { answer = o; buffer = words }) t.answered t.written, refl), rest.lent);
    }
as_lent s images (restored k q ∷ cs) s' (t, r) =
    let next : State = state_after (read_of q.read) s q.state in
    let rest : AsLent next images cs s' = as_lent next images cs s' r in
    let moved : lent_of q.state ≡ lent_read (read_of q.read) (get_or images k []) (lent_of blank) = t.moved ∙ ap (λ o. lent_read o (get_or images k []) (lent_of blank)) (sym t.answered) in
    record {
      calls = record { act = restoring k; back = given_back (restored k q); into = lent_of blank; after = lent_of next } ∷ rest.calls;
      acts = ap (λ acts. restoring k ∷ acts) rest.acts;
      backs = ap (λ gs. given_back (restored k q) ∷ gs) rest.backs;
      lent = ((λ f. blank_fits, ap (λ o. record { answer = o; buffer = [] }) t.answered, lent_after_lem (read_of q.read) s q.state ∙ ap (lent_after_read (read_of q.read) (lent_of s)) moved), rest.lent);
    }

-- ---- the figures of memory in which a log is stored that takings lead to

module _ (b : List ℕ) (a : Accepted) (ok : checking b ≡ given a) (es : List Taken) (r : Reached b es) (m : Lent) (h : Stores b (log_of es) m) where
  pub formed_then : well_formed (stored m) ≡ true
  formed_then = rw (h.stores, r.1) (well b a ok r.0)

  pub kept_then : kept_stored (stored m) ≡ kept b (log_of es)
  kept_then = ap kept_stored h.stores ∙ rw r.1 (kept_stored_lem b a ok (log_over b r.0) (keeper_log_ordered b r.0))

  pub open_then : open_answer (stored m) ≡ given (open_points b (log_of es))
  unfolding open_answer
  open_then = rw formed_then (ap given (ap open_stored h.stores ∙ rw r.1 (open_stored_lem b a ok (log_over b r.0) (keeper_log_ordered b r.0))))

-- ---- what a list of calls from a start gives back, and what memory stores after it

pub record FromStart (b : List ℕ) (a : Accepted) (ok : checking b ≡ given a) (acts : List Act) (backs : List Given) (m : Lent) : Type 0 where
  pub answers : backs ≡ cut_keeper b nothing_held acts
  pub images : List (List ℕ)
  pub follows : Follows b a ok (held_over b nothing_held acts) images m

pub from_start : (b : List ℕ) (a : Accepted) (ok : checking b ≡ given a) (cs : List LentCall) {acts : List Act} {backs : List Given} → map (λ c. c.act) cs ≡ acts → map (λ c. c.back) cs ≡ backs
    → ((act : Act) → Memᴰ act acts → Asks b act) → (m m' : Lent) → Stores b (log_of []) m → LentCalls m [] cs m' → FromStart b a ok acts backs m'
from_start b a ok cs {acts} {backs} ea eb asks m m' h l =
    let all : CutAlong b a ok nothing_held cs m' = cut_along b a ok nothing_held [] m (follows_start b a ok m h) cs m' (λ act e. asks act (subst (Memᴰ act) ea e)) l in
    record { answers = sym eb ∙ all.gives ∙ ap (cut_keeper b nothing_held) ea; images = all.images; follows = rw ea at all.follows }

-- calls of the operations
pub calls_from_start : (b : List ℕ) (r : Started) → Starts b r → (a : Accepted) (ok : checking b ≡ given a) (cs : List CutCall) (s : State) → CutCalls r.state [] cs s
    → ((act : Act) → Memᴰ act (map act_of cs) → Asks b act) → FromStart b a ok (map act_of cs) (map given_back cs) (lent_of s)
calls_from_start b r start a ok cs s calls asks =
    let k : AsLent r.state [] cs s = as_lent r.state [] cs s calls in
    from_start b a ok k.calls k.acts k.backs asks (lent_of r.state) (lent_of s) (rw (start.started, ok) (start_stores b a ok)) k.lent

-- a rule of bytes has what any act asks
pub asks_all : (b : List ℕ) → Bytes b → (act : Act) → Asks b act
asks_all b bytes (taking t) = tt
asks_all b bytes (saving buffer) = tt
asks_all b bytes (restoring k) = bytes

pub cut_list : (b : List ℕ) → Bytes b → (r : Started) → Starts b r → (a : Accepted) → checking b ≡ given a → (cs : List CutCall) (s : State) → CutCalls r.state [] cs s → CutList b cs s
cut_list b bytes r start a ok cs s calls =
    let k : FromStart b a ok (map act_of cs) (map given_back cs) (lent_of s) = calls_from_start b r start a ok cs s calls (λ act e. asks_all b bytes act) in
    let es : List Taken = (held_over b nothing_held (map act_of cs)).log in
    record {
      answers = k.answers;
      formed = formed_then b a ok es k.follows.reached (lent_of s) k.follows.stores;
      keeps = kept_then b a ok es k.follows.reached (lent_of s) k.follows.stores;
      opens = open_then b a ok es k.follows.reached (lent_of s) k.follows.stores;
      uncut =
          λ n.
          let u : Uncut b nothing_held (map act_of cs) = none_lost b nothing_held (map act_of cs) n in
          (k.answers ∙ u.gives, ap (takings_given (map act_of cs)) k.answers ∙ u.takes, u.holds);
    }
