-- What the keeper holds over a list of takings: it only grows.
use Prim.Native.Nat.{ℕ}
use mathlib.Core.Path.{◌≡◌, refl, sym, ◌∙◌, ap}
use mathlib.Core.Bool.{true}
use mathlib.Core.List.{List, [], ◌∷◌, ◌++◌, append-nil, append_assoc}
use Rattle.meaning.specs.Log.{Taken, in_order, GoesOn, stamp}
use Rattle.meaning.specs.Keeper.{Taking, taken_of, grown, step, keeper_log}
use Rattle.meaning.proofs.Takings.{Accepts, accepts_ordered, every_log, keeper_ordered}
use Rattle.monitor.specs.Reports.{taken_over}

-- what it holds after further takings
pub log_then : (b : List ℕ) (es : List Taken) (ts us : List Taking) → keeper_log b es (ts ++ us) ≡ keeper_log b (keeper_log b es ts) us
log_then b es [] us = refl
log_then b es (t ∷ ts) us = log_then b (step b es t) ts us

log_goes_on : (b : List ℕ) (es : List Taken) → in_order (stamp 0) es ≡ true → (ts : List Taking) → GoesOn es (keeper_log b es ts)
log_goes_on b es o ts = every_log b (GoesOn es) one ts es (record { more = []; begins = sym (append-nil es); ordered = o })
  where
    one : (k : List Taken) (t : Taking) (n : ℕ) → GoesOn es k → Accepts b k t n → GoesOn es (grown b k t.fed)
    one k t n g a =
        record {
          more = g.more ++ taken_of b t.fed ∷ [];
          begins = ap (λ m. m ++ taken_of b t.fed ∷ []) g.begins ∙ append_assoc es g.more (taken_of b t.fed ∷ []);
          ordered = accepts_ordered b k t g.ordered n a;
        }

pub goes_on : (b : List ℕ) (before after : List Taking) → GoesOn (taken_over b before) (taken_over b (before ++ after))
goes_on b before after = rw (log_then b [] before after) (log_goes_on b (taken_over b before) (keeper_ordered b before) after)
