-- The claim about a whole list of takings holds: it is a list of calls with no save and no restore in it.
use Prim.Native.Nat.{ℕ}
use mathlib.Core.Path.{◌≡◌, refl, sym, ◌∙◌, ap, subst}
use mathlib.Core.List.Memᴰ
use mathlib.Core.List.{List, [], ◌∷◌, map, Memᴰ}
use Rattle.meaning.specs.Outcome.{given}
use Rattle.meaning.specs.Log.{log_of}
use Rattle.meaning.specs.RuleFile.{Accepted, checking}
use Rattle.meaning.specs.Keeper.{Taking, Given, answered, keeper, keeper_log}
use Rattle.lent_state.specs.Lent.{Lent}
use Rattle.monitor.specs.State.{lent_of}
use Rattle.monitor.specs.Promises.{Starts}
use Rattle.monitor.specs.Calls.{Call, Calls, taking_of, given_of}
use Rattle.monitor.specs.Reports.{taken_over, log_over}
use Rattle.monitor.specs.Cuts.{Act, taking, Held, nothing_held, held_after, cut_keeper, held_over}
use Rattle.monitor.specs.CutList.{took, CutCalls, act_of, given_back}
use Rattle.monitor.specs.WholeList.{WholeList}
use Rattle.monitor.specs.declared.State.{State}
use Rattle.monitor.specs.declared.Started.{Started}
use Rattle.monitor.proofs.Along.{Stores}
use Rattle.monitor.proofs.Reports.{reports}
use Rattle.monitor.proofs.Cuts.{Asks}
use Rattle.monitor.proofs.CutList.{FromStart, calls_from_start, formed_then, kept_then, open_then}

-- ---- takings alone

module _ (b : List ℕ) where
  takings_given_lem : (h : Held) (ts : List Taking) → cut_keeper b h (map taking ts) ≡ keeper b h.log ts
  takings_given_lem h [] = refl
  takings_given_lem h (t ∷ ts) = ap (λ gs. answered b h.log t ∷ gs) (takings_given_lem (held_after b h (taking t)) ts)

  takings_held : (h : Held) (ts : List Taking) → (held_over b h (map taking ts)).log ≡ keeper_log b h.log ts
  takings_held h [] = refl
  takings_held h (t ∷ ts) = takings_held (held_after b h (taking t)) ts

  pub asks_nothing : (ts : List Taking) (act : Act) → Memᴰ act (map taking ts) → Asks b act
  asks_nothing ts act m =
      let (t, n, e) = Memᴰ.of_map taking ts m in
      subst (Asks b) e tt

-- what takings from a start give back, and what memory stores after them
pub record TakenFromStart (b : List ℕ) (ts : List Taking) (backs : List Given) (m : Lent) : Type 0 where
  pub answers : backs ≡ keeper b [] ts
  pub stores : Stores b (log_over b ts) m

pub takings_from_start : (b : List ℕ) (a : Accepted) (ok : checking b ≡ given a) (ts : List Taking) (backs : List Given) (m : Lent) → FromStart b a ok (map taking ts) backs m → TakenFromStart b ts backs m
takings_from_start b a ok ts backs m k =
    record { answers = k.answers ∙ takings_given_lem b nothing_held ts; stores = subst (λ es. Stores b (log_of es) m) (takings_held b nothing_held ts) k.follows.stores }

-- ---- calls of `take` and `notice`

cut_calls : (s : State) (cs : List Call) (s' : State) → Calls s cs s' → CutCalls s [] (map took cs) s'
cut_calls s [] s' e = e
cut_calls s (c ∷ cs) s' (t, r) = (t, cut_calls c.back.state cs s' r)

acts_are : (cs : List Call) → map act_of (map took cs) ≡ map taking (map taking_of cs)
acts_are [] = refl
acts_are (c ∷ cs) = ap (λ acts. taking (taking_of c) ∷ acts) (acts_are cs)

backs_are : (cs : List Call) → map given_back (map took cs) ≡ map given_of cs
backs_are [] = refl
backs_are (c ∷ cs) = ap (λ gs. given_of c ∷ gs) (backs_are cs)

pub whole_list : (b : List ℕ) (r : Started) → Starts b r → (a : Accepted) → checking b ≡ given a → (cs : List Call) (s : State) → Calls r.state cs s → WholeList b a cs s
whole_list b r start a ok cs s calls =
    let ts : List Taking = map taking_of cs in
    let asks : (act : Act) → Memᴰ act (map act_of (map took cs)) → Asks b act = λ act e. asks_nothing b ts act (subst (Memᴰ act) (acts_are cs) e) in
    let all : FromStart b a ok (map act_of (map took cs)) (map given_back (map took cs)) (lent_of s) = calls_from_start b r start a ok (map took cs) s (cut_calls r.state cs s calls) asks in
    let k : TakenFromStart b ts (map given_back (map took cs)) (lent_of s) = takings_from_start b a ok ts (map given_back (map took cs)) (lent_of s) (subst (λ acts. FromStart b a ok acts (map given_back (map took cs)) (lent_of s)) (acts_are cs) all) in
    record {
      answers = sym (backs_are cs) ∙ k.answers;
      reports = reports b a ok ts;
      formed = formed_then b a ok (taken_over b ts) (ts, refl) (lent_of s) k.stores;
      keeps = kept_then b a ok (taken_over b ts) (ts, refl) (lent_of s) k.stores;
      opens = open_then b a ok (taken_over b ts) (ts, refl) (lent_of s) k.stores;
    }
