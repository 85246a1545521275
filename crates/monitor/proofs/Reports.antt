-- The points that takings report, one taking after the other: each that is settled, just once, in order, and no later than the reach asks.
use Prim.Native.Nat.{ℕ, ◌+◌, ◌≤◌, ◌<◌}
use native.Mathlib.Omega.{arith}
use mathlib.Core.Path.{◌≡◌, refl, sym, ◌∙◌, ap}
use mathlib.Core.Bool.{true, not, ◌&&◌}
use mathlib.Core.List.{List, [], ◌∷◌, ◌++◌, append-nil, append_assoc, Memᴰ}
use Rattle.meaning.specs.Lists.{select}
use Rattle.meaning.specs.Outcome.{given}
use Rattle.meaning.specs.Log.{Log, size, time, latest, points_of, log_of}
use Rattle.meaning.specs.Formula.{Formula, reach, without_next}
use Rattle.meaning.specs.Settled.{settled}
use Rattle.meaning.specs.RuleFile.{Accepted, checking, last_node, pattern}
use Rattle.meaning.specs.Keeper.{Taking, newly_settled}
use Rattle.meaning.specs.declared.Point.{Point}
use Rattle.meaning.proofs.Accepted.{accepted, fine_pattern, last_is_node}
use Rattle.meaning.proofs.Growth.{extends}
use Rattle.meaning.proofs.Settles.{reached}
use Rattle.meaning.proofs.Points.{first}
use Rattle.meaning.proofs.Rows.{select_at, select_of, points_of_lem}
use Rattle.meaning.proofs.Ground.{steady_meaning}
use Rattle.method.proofs.Newly.{settled_then_newly}
use Rattle.method.proofs.Whole.{keeper_log_ordered}
use Rattle.monitor.specs.Reports.{log_over, taken_over, reported_in, reported_over, Reports}
use Rattle.monitor.proofs.Logs.{goes_on}

now_settled : (l l' : Log) (φ : Formula) (i : Point) → Memᴰ i (newly_settled l l' φ) → settled l' φ i ≡ true
unfolding newly_settled
now_settled l l' φ i m = first _ _ (select_at (λ j. settled l' φ j && not (settled l φ j)) (points_of l') m).1

module _ (b : List ℕ) (a : Accepted) (ok : checking b ≡ given a) where
  abbrev settled_of : List Taking → List Point
  settled_of ts = select (settled (log_over b ts) (pattern b)) (points_of (log_over b ts))

  over : (before ts : List Taking) → settled_of before ++ reported_over b before ts ≡ settled_of (before ++ ts)
  over before [] = append-nil (settled_of before) ∙ ap settled_of (sym (append-nil before))
  over before (t ∷ ts) =
      sym (append_assoc (settled_of before) (reported_in b before t) (reported_over b (before ++ t ∷ []) ts))
      ∙ ap (λ ps. ps ++ reported_over b (before ++ t ∷ []) ts)
      (settled_then_newly (log_over b before) (log_over b (before ++ t ∷ [])) (pattern b) (fine_pattern b a ok) (extends (taken_over b before) (taken_over b (before ++ t ∷ [])) (goes_on b before (t ∷ []))))
      ∙ over (before ++ t ∷ []) ts ∙ ap settled_of (append_assoc before (t ∷ []) ts)

  none : settled_of [] ≡ []
  unfolding log_of size
  none = refl

  once_over : (ts : List Taking) → reported_over b [] ts ≡ settled_of ts
  once_over ts = ap (λ ps. ps ++ reported_over b [] ts) (sym none) ∙ over [] ts

  -- what the reach promises of a log, found among what was reported
  prompt_over : without_next (pattern b) ≡ true → (ts : List Taking) (i : Point) → i.0 < size (log_over b ts) → (time (log_over b ts) i).0 + a.reach ≤ (latest (log_over b ts)).0 → Memᴰ i (reported_over b [] ts)
  prompt_over without ts i n h =
      let r : a.reach ≡ reach (pattern b) = ap (λ (c : Accepted). c.reach) (accepted b a ok).answer in
      let s : settled (log_over b ts) (pattern b) i ≡ true = reached (log_over b ts) (keeper_log_ordered b ts) (pattern b) without i n (omega arith) in
      rw (once_over ts) (select_of (settled (log_over b ts) (pattern b)) (points_of_lem 0 (size (log_over b ts)) (omega arith) (omega arith)) s)

  pub reports : (ts : List Taking) → Reports b a ts
  reports ts =
      record {
        once = once_over ts;
        prompt = λ without before after e. prompt_over without before;
        steady = λ before after t e i m es g. steady_meaning b a ok (last_node b) (last_is_node b a ok) (taken_over b (before ++ t ∷ [])) es g i (now_settled (log_over b before) (log_over b (before ++ t ∷ [])) (pattern b) i m);
        grows = λ before after e. rw e (goes_on b before after);
      }
