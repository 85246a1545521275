-- The whole list, at the level of what is stored: for every accepted rule and every list of takings from the empty log, each taking is given back what the keeper gives, and what is stored is what the keeper's log stores.
use Prim.Native.Nat.{ℕ, zero, suc, ◌+◌, ◌-◌, ◌≤◌, ◌<◌}
use native.Mathlib.Omega.{arith}
use mathlib.Core.Path.{◌≡◌, refl, sym, ◌∙◌, ap, ap₂}
use mathlib.Core.Bool.{Bool, true, not}
use mathlib.Core.List.{List, [], ◌∷◌}
use lib.ListN.{length, get_or, length-append}
use lib.Seq.{get_or-append_seam}
use lib.Dec.{ltb, leb}
use borrow.Author.Tests.{ltb-false, lt-ltb, leb-true}
use Rattle.meaning.specs.Lists.{range}
use Rattle.meaning.specs.Outcome.{Outcome, refused, given, when, most_points}
use Rattle.meaning.specs.Log.{Log, LogPoint, Ordered, Taken, added, noted, time_of, points_in, in_order, relation_in, beyond, stamp, size, time, rows_at, latest, log_of}
use Rattle.meaning.specs.RuleFile.{Accepted, checking, node_count, last_node, one_if}
use Rattle.meaning.specs.Kept.{kept, open_points}
use Rattle.meaning.specs.Event.{is_event, row_count, point_of}
use Rattle.meaning.specs.Keeper.{Fed, event, notice, Taking, Given, report, weigh_rows, weigh_crowds, admitted, admits, weighed, backlog_of, crowded_at, taken_of, grown, answer_on, answer, log_after, buffer_after, step, answered, keeper_log, keeper}
use Rattle.meaning.specs.declared.Stamp.{Stamp}
use Rattle.meaning.proofs.Growth.{points_append, last_append, order_more, log_ordered, extends}
use Rattle.meaning.proofs.Points.{first, second, Tested, passed, failed, tested}
use Rattle.meaning.proofs.Takings.{HasForm, Accepts, accepts, accepts_ordered, step_holds, keeper_ordered}
use Rattle.method.specs.Stored.{Stored, stored_of}
use Rattle.method.specs.Step.{words_of, points_added, kept_stored, open_stored, count_after, stored_now, crowded_now, report_now, answer_now, stored_after, given_by, stored_by, given_run, stored_run}
use Rattle.method.proofs.Stepped.{Joins, open_stored_lem, kept_stored_lem, stored_now_lem, crowded_now_lem, open_now, report_now_lem}

-- ---- the log with what is fed

-- an event that passes 9 has two words or more
event_long : (w : List ℕ) → is_event w ≡ true → ltb 1 (length w) ≡ true
unfolding is_event
event_long w e = lt-ltb 1 (length w) (omega (arith, leb-true 2 (length w) (search (first, second))))

module _ (b : List ℕ) (es : List Taken) where
  pub joins : (f : Fed) → HasForm f → in_order (stamp 0) es ≡ true → (latest (log_of es)).0 ≤ (time_of (taken_of b f)).0 → Joins b (log_of es) (words_of f) (log_of (grown b es f))
  unfolding log_of size time rows_at latest point_of
  joins (event w) e o h =
      let one : points_added w ≡ 1 = ap one_if (event_long w e) in
      record {
        grows = extends es (grown b es (event w)) (record { more = _; begins = refl; ordered = order_more (stamp 0) es (added (point_of b w)) o h });
        many = ap length (points_append es (added (point_of b w) ∷ [])) ∙ length-append (points_in es) (point_of b w ∷ []) ∙ ap (λ k. length (points_in es) + k) (sym one);
        clock = last_append (stamp 0) es (added (point_of b w) ∷ []);
        new_time = λ z. ap (λ (p : LogPoint). p.time) new;
        new_rows_lem = λ z r. ap (λ (p : LogPoint). relation_in r p.rows) (sym new);
      }
    where
      new : get_or (points_in (grown b es (event w))) (length (points_in es)) beyond ≡ point_of b w
      new = ap (λ ps. get_or ps (length (points_in es)) beyond) (points_append es (added (point_of b w) ∷ [])) ∙ get_or-append_seam (points_in es) (point_of b w) [] beyond
  joins (notice t) e o h =
      record {
        grows = extends es (grown b es (notice t)) (record { more = _; begins = refl; ordered = order_more (stamp 0) es (noted (stamp t)) o h });
        many = ap length (points_append es (noted (stamp t) ∷ [])) ∙ length-append (points_in es) [];
        clock = last_append (stamp 0) es (noted (stamp t) ∷ []);
        new_time = λ z. absurd (omega arith);
        new_rows_lem = λ z r. absurd (omega arith);
      }

-- ---- the refusals, fed the same figures

admitted_same : (b w : List ℕ) (last : Stamp) (points : ℕ) (r r' : Outcome ℕ) → (is_event w ≡ true → last.0 ≤ get_or w 0 0 → r ≡ r') → admitted b w last points r ≡ admitted b w last points r'
unfolding admitted
admitted_same b w last points r r' h = formed (tested (is_event w))
  where
    go : is_event w ≡ true → Tested (ltb (get_or w 0 0) last.0) → when (ltb (get_or w 0 0) last.0) 11 0 (when (leb most_points points) 12 0 r) ≡ when (ltb (get_or w 0 0) last.0) 11 0 (when (leb most_points points) 12 0 r')
    go f (passed e) = rw e
    go f (failed e) = rw (h f (ltb-false (get_or w 0 0) last.0 e))

    formed : Tested (is_event w) → admitted b w last points r ≡ admitted b w last points r'
    formed (passed f) = ap (λ o. when (not (is_event w)) 9 0 (weigh_rows b w (range 0 (row_count w)) o)) (go f (tested (ltb (get_or w 0 0) last.0)))
    formed (failed f) = rw f

admits_same : (b : List ℕ) (f : Fed) (last : Stamp) (points : ℕ) (r r' : Outcome ℕ) → (HasForm f → last.0 ≤ (time_of (taken_of b f)).0 → r ≡ r') → admits b f last points r ≡ admits b f last points r'
unfolding point_of
admits_same b (event w) last points r r' h = admitted_same b w last points r r' h
admits_same b (notice t) last points r r' h = go (tested (ltb t last.0))
  where
    go : Tested (ltb t last.0) → when (ltb t last.0) 11 0 r ≡ when (ltb t last.0) 11 0 r'
    go (passed e) = rw e
    go (failed e) = rw (h tt (ltb-false t last.0 e))

crowds_same : (f g : ℕ → Bool) (a n : ℕ) (rest : Outcome ℕ) → ((x : ℕ) → a ≤ x → x < a + n → f x ≡ g x) → weigh_crowds f (range a n) rest ≡ weigh_crowds g (range a n) rest
crowds_same f g a zero rest h = refl
crowds_same f g a (suc n) rest h = ap₂ (λ t o. when t 13 a o) (h a (omega arith) (omega arith)) (crowds_same f g (suc a) n rest (λ x u o. h x (omega arith) (omega arith)))

weighed_same : (f g : ℕ → Bool) (n : ℕ) (unsettled unsettled' es es' words words' room : ℕ) → ((x : ℕ) → x < n → f x ≡ g x) → unsettled ≡ unsettled' → es ≡ es' → words ≡ words'
    → weighed f n unsettled es words room ≡ weighed g n unsettled' es' words' room
unfolding weighed
weighed_same f g n unsettled unsettled' es es' words words' room h p q r = rw (p, q, r) (crowds_same f g 0 n _ (λ x u o. h x (omega arith)))

-- ---- one taking

module _ (b : List ℕ) (a : Accepted) (ok : checking b ≡ given a) (es : List Taken) (o : in_order (stamp 0) es ≡ true) (t : Taking) where
  -- the log, what it would be, and the words of what is fed
  abbrev l : Log
  l = log_of es

  abbrev l' : Log
  l' = log_of (grown b es t.fed)

  abbrev w : List ℕ
  w = words_of t.fed

  ordered : Ordered l
  ordered = log_ordered es o

  entries_count : Joins b l w l' → length (stored_now (stored_of b l) w).entries ≡ kept b l'
  unfolding kept stored_of
  entries_count j = ap (λ (s : Stored). length s.entries) (stored_now_lem b a ok l ordered w l' j)

  -- 13 to 16, reckoned from what is stored
  abbrev reckoned : Outcome ℕ
  reckoned =
      weighed (crowded_now (stored_of b l) w) (node_count b) (backlog_of t.fed (size l + points_added w - count_after (stored_of b l) w (last_node b)))
      (length (stored_now (stored_of b l) w).entries) (length (report_now (stored_of b l) w)) (length t.buffer)

  pub step-answer : answer_now (stored_of b l) t.fed (length t.buffer) ≡ answer b es t
  unfolding answer_now answer_on stored_of
  step-answer =
      admits_same b t.fed (latest l) (size l) reckoned _
      (λ f h. let j : Joins b l w l' = joins b es t.fed f o h in
      weighed_same (crowded_now (stored_of b l) w) (crowded_at b l l') (node_count b) _ _ _ _ _ _ (length t.buffer)
      (crowded_now_lem b a ok l ordered w l' j) (ap (backlog_of t.fed) (open_now b a ok l ordered w l' j)) (entries_count j) (ap length (report_now_lem b a ok l ordered w l' j)))

  -- where what is fed is accepted, it joins the log
  joined : (n : ℕ) → answer b es t ≡ given n → Joins b l w l'
  joined n e = let p : Accepts b es t n = accepts b es t n e in joins b es t.fed p.form o p.later

  pub step-stored : stored_by (stored_of b l) t ≡ stored_of b (log_of (step b es t))
  unfolding stored_by step stored_after stored_now
  step-stored = ap (stored_after (stored_of b l) w) step-answer ∙ go (answer b es t) refl
    where
      go : (q : Outcome ℕ) → answer b es t ≡ q → stored_after (stored_of b l) w q ≡ stored_of b (log_of (log_after q es (grown b es t.fed)))
      go (refused number place) e = refl
      go (given n) e = stored_now_lem b a ok l ordered w l' (joined n e)

  pub step_given : given_by (stored_of b l) t ≡ answered b es t
  unfolding given_by answered
  step_given = ap (λ q. both q (buffer_after q (report_now (stored_of b l) w) t.buffer)) step-answer ∙ ap (both (answer b es t)) (go (answer b es t) refl)
    where
      both : Outcome ℕ → List ℕ → Given
      both q words = record { answer = q; buffer = words }

      go : (q : Outcome ℕ) → answer b es t ≡ q → buffer_after q (report_now (stored_of b l) w) t.buffer ≡ buffer_after q (report b l l') t.buffer
      go (refused number place) e = refl
      go (given n) e = ap (λ words. buffer_after (given n) words t.buffer) (report_now_lem b a ok l ordered w l' (joined n e))

-- ---- the whole list

-- what the keeper holds stays in order
step_ordered : (b : List ℕ) (es : List Taken) (t : Taking) → in_order (stamp 0) es ≡ true → in_order (stamp 0) (step b es t) ≡ true
step_ordered b es t o = step_holds b es t (λ es'. in_order (stamp 0) es' ≡ true) o (λ n e. accepts_ordered b es t o n (accepts b es t n e))

pub keeper_log_ordered : (b : List ℕ) (ts : List Taking) → Ordered (log_of (keeper_log b [] ts))
keeper_log_ordered b ts = log_ordered (keeper_log b [] ts) (keeper_ordered b ts)

module _ (b : List ℕ) (a : Accepted) (ok : checking b ≡ given a) where
  run_given : (ts : List Taking) (es : List Taken) → in_order (stamp 0) es ≡ true → given_run (stored_of b (log_of es)) ts ≡ keeper b es ts
  run_given [] es o = refl
  run_given (t ∷ ts) es o = ap₂ (λ g gs. g ∷ gs) (step_given b a ok es o t) (ap (λ s. given_run s ts) (step-stored b a ok es o t) ∙ run_given ts (step b es t) (step_ordered b es t o))

  run_stored : (ts : List Taking) (es : List Taken) → in_order (stamp 0) es ≡ true → stored_run (stored_of b (log_of es)) ts ≡ stored_of b (log_of (keeper_log b es ts))
  run_stored [] es o = refl
  run_stored (t ∷ ts) es o = ap (λ s. stored_run s ts) (step-stored b a ok es o t) ∙ run_stored ts (step b es t) (step_ordered b es t o)

  -- what is given back, over every list from the empty log
  pub whole_given : (ts : List Taking) → given_run (stored_of b (log_of [])) ts ≡ keeper b [] ts
  whole_given ts = run_given ts [] refl

  -- what is stored after it
  pub whole_stored : (ts : List Taking) → stored_run (stored_of b (log_of [])) ts ≡ stored_of b (log_of (keeper_log b [] ts))
  whole_stored ts = run_stored ts [] refl

  -- the figures `kept` and `open` that are then read off
  pub whole_kept : (ts : List Taking) → kept_stored (stored_run (stored_of b (log_of [])) ts) ≡ kept b (log_of (keeper_log b [] ts))
  whole_kept ts = ap kept_stored (whole_stored ts) ∙ kept_stored_lem b a ok (log_of (keeper_log b [] ts)) (keeper_log_ordered b ts)

  pub whole_open : (ts : List Taking) → open_stored (stored_run (stored_of b (log_of [])) ts) ≡ open_points b (log_of (keeper_log b [] ts))
  whole_open ts = ap open_stored (whole_stored ts) ∙ open_stored_lem b a ok (log_of (keeper_log b [] ts)) (keeper_log_ordered b ts)
