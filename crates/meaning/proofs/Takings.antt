-- What an accepted taking has passed, and what therefore holds of every log that the keeper reaches.
use Prim.Native.Nat.{ℕ, zero, suc, ◌+◌, ◌≤◌, ◌<◌}
use mathlib.Core.Path.{◌≡◌, refl, ap, ◌∙◌}
use mathlib.Core.Bool.{Bool, true, false, not}
use mathlib.Core.Logic.{◌⊎◌, inl, inr}
use mathlib.Core.List.{List, [], ◌∷◌}
use lib.ListN.{length, get_or, length-append}
use lib.Dec.{ltb, leb}
use borrow.Author.Tests.{ltb-false, leb-false, not-false}
use native.Mathlib.Omega.{arith}
use Rattle.meaning.specs.Lists.{range}
use Rattle.meaning.specs.Outcome.{Outcome, refused, given, most_open, most_kept, most_points}
use Rattle.meaning.specs.Log.{Log, Taken, time_of, points_in, in_order, stamp, size, latest, log_of}
use Rattle.meaning.specs.RuleFile.{node_count}
use Rattle.meaning.specs.Kept.{kept, open_points}
use Rattle.meaning.specs.Event.{is_event, row_count, row_fits, point_of}
use Rattle.meaning.specs.Keeper.{Fed, event, notice, Taking, report, weigh_rows, weigh_crowds, admitted, admits, weighed, backlog_of, crowded_at, taken_of, grown, answer_on, answer, log_after, step, keeper_log}
use Rattle.meaning.specs.declared.Stamp.{Stamp}
use Rattle.meaning.proofs.Points.{from_first}
use Rattle.meaning.proofs.Accepted.{no_refusal}
use Rattle.meaning.proofs.Growth.{points_append, order_more}

-- ---- chains of refusals that end in an answer

rows_passed : (b w ks : List ℕ) (rest : Outcome ℕ) (n : ℕ) → weigh_rows b w ks rest ≡ given n → rest ≡ given n
rows_passed b w [] rest n e = e
rows_passed b w (k ∷ ks) rest n e = rows_passed b w ks rest n (no_refusal (not (row_fits b w k)) 10 k (weigh_rows b w ks rest) n e).1

crowds_passed : (crowds : ℕ → Bool) (a k : ℕ) (rest : Outcome ℕ) (n : ℕ) → weigh_crowds crowds (range a k) rest ≡ given n → ((x : ℕ) → a ≤ x → x < a + k → crowds x ≡ false) × (rest ≡ given n)
crowds_passed crowds a zero rest n e = (λ x u o. absurd (omega arith), e)
crowds_passed crowds a (suc k) rest n e =
    let here : _ × _ = no_refusal (crowds a) 13 a (weigh_crowds crowds (range (suc a) k) rest) n e in
    let more : ((x : ℕ) → suc a ≤ x → x < suc a + k → crowds x ≡ false) × (rest ≡ given n) = crowds_passed crowds (suc a) k rest n here.1 in
    (from_first (λ x. crowds x ≡ false) a k here.0 more.0, more.1)

-- it is an event, its time is no earlier than the last, and there was room for a point
pub record Admitted (w : List ℕ) (last : Stamp) (points : ℕ) (rest : Outcome ℕ) (n : ℕ) : Type 0 where
  pub form : is_event w ≡ true
  pub later : last.0 ≤ get_or w 0 0
  pub room : points < most_points
  pub goes_on : rest ≡ given n

pub admitted_given : (b w : List ℕ) (last : Stamp) (points : ℕ) (rest : Outcome ℕ) (n : ℕ) → admitted b w last points rest ≡ given n → Admitted w last points rest n
unfolding admitted
admitted_given b w last points rest n e =
    let form : _ × _ = no_refusal (not (is_event w)) 9 0 _ n e in
    let rows : _ ≡ given n = rows_passed b w (range 0 (row_count w)) _ n form.1 in
    let time : _ × _ = no_refusal (ltb (get_or w 0 0) last.0) 11 0 _ n rows in
    let full : _ × _ = no_refusal (leb most_points points) 12 0 rest n time.1 in
    record { form = not-false (is_event w) form.0; later = ltb-false (get_or w 0 0) last.0 time.0; room = leb-false most_points points full.0; goes_on = full.1 }

-- the figures are within the limits, and the answer is the report's words
pub record LimitsPassed (crowds : ℕ → Bool) (nodes unsettled entries words room n : ℕ) : Type 0 where
  pub none_crowded : (x : ℕ) → x < nodes → crowds x ≡ false
  pub few_open : unsettled ≤ most_open
  pub few_kept : entries ≤ most_kept
  pub fits : words ≤ room
  pub written : n ≡ words

pub weighed_given : (crowds : ℕ → Bool) (nodes unsettled entries words room n : ℕ) → weighed crowds nodes unsettled entries words room ≡ given n → LimitsPassed crowds nodes unsettled entries words room n
unfolding weighed
weighed_given crowds nodes unsettled entries words room n e =
    let calm : _ × _ = crowds_passed crowds 0 nodes _ n e in
    let unset : _ × _ = no_refusal (ltb most_open unsettled) 14 0 _ n calm.1 in
    let over : _ × _ = no_refusal (ltb most_kept entries) 15 0 _ n unset.1 in
    let short : _ × _ = no_refusal (ltb room words) 16 words (given words) n over.1 in
    let q : given words ≡ given n = short.1 in
    record { none_crowded = λ x o. calm.0 x (omega arith) (omega arith); few_open = ltb-false most_open unsettled unset.0; few_kept = ltb-false most_kept entries over.0; fits = ltb-false room words short.0; written = cc }

-- an event passes 9; a notice has no form to pass
abbrev pub HasForm : Fed → Type 0
HasForm (event w) = is_event w ≡ true
HasForm (notice t) = Unit

-- what the first refusals let through: its time isn't below the latest known, and an event finds room for a point
pub record Admits (b : List ℕ) (f : Fed) (last : Stamp) (points : ℕ) (rest : Outcome ℕ) (n : ℕ) : Type 0 where
  pub form : HasForm f
  pub later : last.0 ≤ (time_of (taken_of b f)).0
  pub room : points + length (points_in (taken_of b f ∷ [])) ≤ most_points ⊎ (length (points_in (taken_of b f ∷ [])) ≡ 0)
  pub goes_on : rest ≡ given n

pub admits_given : (b : List ℕ) (f : Fed) (last : Stamp) (points : ℕ) (rest : Outcome ℕ) (n : ℕ) → admits b f last points rest ≡ given n → Admits b f last points rest n
unfolding point_of
admits_given b (event w) last points rest n e =
    let p : Admitted w last points rest n = admitted_given b w last points rest n e in
    record { form = p.form; later = p.later; room = inl (omega (arith, p.room)); goes_on = p.goes_on }
admits_given b (notice t) last points rest n e =
    let time : _ × _ = no_refusal (ltb t last.0) 11 0 rest n e in
    record { form = tt; later = ltb-false t last.0 time.0; room = inr refl; goes_on = time.1 }

-- ---- a taking that the keeper accepts

module _ (b : List ℕ) (es : List Taken) (t : Taking) where
  -- the log, and what it would be
  abbrev l : Log
  l = log_of es

  abbrev l' : Log
  l' = log_of (grown b es t.fed)

  pub record Accepts (n : ℕ) : Type 0 where
    pub form : HasForm t.fed
    pub later : (latest l).0 ≤ (time_of (taken_of b t.fed)).0
    pub few_points : size l ≤ most_points → size l' ≤ most_points
    pub figures : LimitsPassed (crowded_at b l l') (node_count b) (backlog_of t.fed (open_points b l')) (kept b l') (length (report b l l')) (length t.buffer) n

  pub accepts : (n : ℕ) → answer b es t ≡ given n → Accepts n
  unfolding answer_on log_of size
  accepts n e =
      let p : Admits b t.fed (latest l) (size l) _ n = admits_given b t.fed (latest l) (size l) _ n e in
      record {
        form = p.form;
        later = p.later;
        few_points = λ h. few h p.room;
        figures = weighed_given (crowded_at b l l') (node_count b) (backlog_of t.fed (open_points b l')) (kept b l') (length (report b l l')) (length t.buffer) n p.goes_on;
      }
    where
      many : size l' ≡ size l + length (points_in (taken_of b t.fed ∷ []))
      many = ap length (points_append es (taken_of b t.fed ∷ [])) ∙ length-append (points_in es) (points_in (taken_of b t.fed ∷ []))

      few : size l ≤ most_points → size l + length (points_in (taken_of b t.fed ∷ [])) ≤ most_points ⊎ (length (points_in (taken_of b t.fed ∷ [])) ≡ 0) → size l' ≤ most_points
      few h (inl u) = omega (arith, many)
      few h (inr z) = omega (arith, many)

  -- what is held stays in order
  pub accepts_ordered : in_order (stamp 0) es ≡ true → (n : ℕ) → Accepts n → in_order (stamp 0) (grown b es t.fed) ≡ true
  unfolding log_of latest
  accepts_ordered o n a = order_more (stamp 0) es (taken_of b t.fed) o a.later

  -- the log after a taking: as it was, or with what was fed
  pub step_holds : (P : List Taken → Type 0) → P es → ((n : ℕ) → answer b es t ≡ given n → P (grown b es t.fed)) → P (step b es t)
  unfolding step
  step_holds P p h = go (answer b es t) refl
    where
      go : (o : Outcome ℕ) → answer b es t ≡ o → P (log_after o es (grown b es t.fed))
      go (refused number place) e = p
      go (given n) e = h n e

-- What holds of the empty log, and after each accepted taking, holds of every log that the keeper reaches.
pub every_log : (b : List ℕ) (P : List Taken → Type 0) → ((es : List Taken) (t : Taking) (n : ℕ) → P es → Accepts b es t n → P (grown b es t.fed))
    → (ts : List Taking) (es : List Taken) → P es → P (keeper_log b es ts)
every_log b P h [] es p = p
every_log b P h (t ∷ ts) es p = every_log b P h ts (step b es t) (step_holds b es t P p (λ n e. h es t n p (accepts b es t n e)))

-- so it is in order
pub keeper_ordered : (b : List ℕ) (ts : List Taking) → in_order (stamp 0) (keeper_log b [] ts) ≡ true
keeper_ordered b ts = every_log b (λ es. in_order (stamp 0) es ≡ true) (λ es t n o a. accepts_ordered b es t o n a) ts [] refl
