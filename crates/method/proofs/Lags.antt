-- How far a node lags behind the last, in every well-formed state: by one point for each "previous" above it. So a call newly settles few points of each node.
use Prim.Native.Nat.{ℕ, zero, suc, ◌+◌, ◌-◌, ◌≤◌, ◌<◌}
use native.Mathlib.Omega.{arith}
use mathlib.Core.Path.{◌≡◌}
use mathlib.Core.List.{List, Memᴰ}
use lib.Dec.{ltb}
use borrow.Author.Tests.{ltb-true, ltb-false}
use Rattle.meaning.specs.Lists.{range}
use Rattle.meaning.specs.Outcome.{given, most_open}
use Rattle.meaning.specs.Log.{point}
use Rattle.meaning.specs.View.{view_of}
use Rattle.meaning.specs.RuleFile.{Accepted, checking, node_count, node_at, children_of, last_node, one_if}
use Rattle.meaning.specs.declared.Times.{Times}
use Rattle.meaning.specs.declared.Times.TheVariants.{Here, Before, After, Past, Future}
use Rattle.meaning.specs.declared.View.{View}
use Rattle.meaning.proofs.Points.{Tested, passed, failed, tested}
use Rattle.method.specs.Stored.{Stored, end_of, base_of, stamp_in}
use Rattle.method.specs.Counts.{advance, ConsultsBy}
use Rattle.method.specs.Step.{count_before, open_stored}
use Rattle.method.specs.WellFormed.{Formed}
use Rattle.method.specs.Room.{is_previous, previous_at, previous_in, SettlesAtMost}
use Rattle.method.proofs.Bounds.{one_added, below, before-step, base_low, after_most, consults}
use Rattle.method.proofs.Parents.{has_parent}
use Rattle.method.proofs.Sums.{sum, sum_after}
use Rattle.method.proofs.Weights.{whole_weight}

-- ---- a child and its parent

-- where a node's count is above i, its child's count c is too, or is i under "previous"
consulted : (c i : ℕ) (t : Times) → ConsultsBy c (point i) t → i < c + one_if (is_previous t)
consulted c i Here h = omega arith
consulted c i Before h = before i h
  where
    before : (i : ℕ) → (0 < i → i - 1 < c) → i < c + 1
    before zero k = omega arith
    before (suc i) k = omega (arith, k (omega arith))
consulted c i After h = omega arith
consulted c i Past h = omega arith
consulted c i Future h = omega arith

-- ---- all nodes

-- induction over the nodes: the last, and each other from its parent
by_parent : (b : List ℕ) (a : Accepted) → checking b ≡ given a → (P : ℕ → Type 0) → P (last_node b)
    → ((x : ℕ) → x < node_count b → (y : ℕ) → Memᴰ y (children_of (node_at b x)) → P x → P y) → (x : ℕ) → x < node_count b → P x
by_parent b a ok P last step x o = up (node_count b) x o (omega arith)
  where
    up : (k x : ℕ) → x < node_count b → node_count b ≤ x + k → P x
    up zero x o u = absurd (omega arith)
    up (suc k) x o u = go (tested (ltb x (last_node b))) (up k)
      where
        go : Tested (ltb x (last_node b)) → ((x : ℕ) → x < node_count b → node_count b ≤ x + k → P x) → P x
        go (failed e) rest = let q : last_node b ≡ x = omega (arith, ltb-false x (last_node b) e) in rw q at last
        go (passed e) rest =
            let (p, n, m) = has_parent b a ok x (ltb-true x (last_node b) e) in
            let under : x < p = below b a ok p n x m in
            step p n x m (rest p n (omega arith))

module _ (s : Stored) (f : Formed s) where
  -- a child's count is at least its parent's, less one under "previous"
  child_lags : (x : ℕ) → x < node_count s.rule → (y : ℕ) → Memᴰ y (children_of (node_at s.rule x)) → count_before s x ≤ count_before s y + previous_at s.rule x
  child_lags x o y m =
      let (a, ok) = f.accepted in
      go (count_before s x) (base_low s a ok f.few_times f.times_many x o) (before-step s a ok f.few_times f.times_many x o)
    where
      view : View
      view = view_of (node_at s.rule x)

      go : (k : ℕ) → (base_of s).0 ≤ k - 1 → k ≡ advance (stamp_in (base_of s) s.times) (end_of s) (count_before s) (base_of s).0 view → k ≤ count_before s y + one_if (is_previous view.times)
      go zero u e = omega arith
      go (suc i) u e = consulted (count_before s y) i view.times (consults (stamp_in (base_of s) s.times) (end_of s) (count_before s) (base_of s).0 view (point i) (omega arith) (rw (← e) (omega arith)) y m)

  -- how many "previous" nodes stand after node x in the file, where its parents are
  abbrev after : ℕ → ℕ
  after x = sum (previous_at s.rule) (range (suc x) (node_count s.rule - suc x))

  lags : (x : ℕ) → x < node_count s.rule → s.points ≤ count_before s x + open_stored s + after x
  unfolding open_stored
  lags =
      let (a, ok) = f.accepted in
      by_parent s.rule a ok (λ x. s.points ≤ count_before s x + open_stored s + after x) (omega arith)
      (λ x o y m h.
      let under : y < x = below s.rule a ok x o y m in
      let all : suc y + (node_count s.rule - suc y) ≡ node_count s.rule = omega arith in
      omega (arith, child_lags x o y m, rw all at (sum_after (previous_at s.rule) x (suc y) (node_count s.rule - suc y) (omega arith) (omega arith))))

  pub new_points_lem : (w : List ℕ) → SettlesAtMost s w (most_open + 1 + previous_in s.rule (last_node s.rule))
  new_points_lem w x o =
      let (a, ok) = f.accepted in
      let all : 0 + node_count s.rule ≡ node_count s.rule = omega arith in
      omega (
        arith,
        f.few_open,
        lags x o,
        rw all at (sum_after (previous_at s.rule) x 0 (node_count s.rule) (omega arith) (omega arith)),
        whole_weight s.rule a ok (previous_at s.rule),
        after_most s a ok f.few_times f.times_many w x o,
        one_added w,
      )
