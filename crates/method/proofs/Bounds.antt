-- Bounds on the counts of what is stored, whether or not a log reaches it: no count exceeds the number of points or falls in a call, and the time of every point that is still wanted is retained.
use Prim.Native.Nat.{ℕ, zero, suc, ◌+◌, ◌-◌, ◌≤◌, ◌<◌, min}
use native.Mathlib.Omega.{arith}
use mathlib.Core.Path.{◌≡◌, refl, sym, ◌∙◌, ap}
use mathlib.Core.Bool.{Bool, true, false, cond}
use mathlib.Core.Logic.{◌⊎◌, inl, inr}
use mathlib.Core.List.{List, map, Memᴰ}
use lib.ListN.{length, get_or}
use lib.Dec.{ltb, leb, eqb}
use borrow.Author.Tests.{eqb-false, ne_eqb}
use Rattle.meaning.specs.Lists.{range}
use Rattle.meaning.specs.Outcome.{given}
use Rattle.meaning.specs.Log.{point, point_after}
use Rattle.meaning.specs.View.{view_of, children_in}
use Rattle.meaning.specs.RuleFile.{Accepted, checking, node_count, node_at, children_of, last_node, one_if}
use Rattle.meaning.specs.declared.Point.{Point}
use Rattle.meaning.specs.declared.Stamp.{Stamp}
use Rattle.meaning.specs.declared.LogEnd.{LogEnd}
use Rattle.meaning.specs.declared.Times.{Times}
use Rattle.meaning.specs.declared.Times.TheVariants.{Here, Before, After, Past, Future}
use Rattle.meaning.specs.declared.View.{View}
use Rattle.meaning.proofs.Points.{Tested, passed, failed, tested}
use Rattle.meaning.proofs.Rows.{range_of}
use Rattle.meaning.proofs.Accepted.{accepted, lower}
use Rattle.method.specs.Stored.{Stored, end_of, base_of, stamp_in, least_of, first_retained}
use Rattle.method.specs.Counts.{scan, until_count, advance_by, advance, counts_to, ConsultsBy, Consults}
use Rattle.method.specs.Step.{first_wanted, wanted_from, counts_stored, count_before, points_added, stamps_now, end_now, counts_after, count_after}
use Rattle.method.specs.WellFormed.{most_times}
use Rattle.method.proofs.Least.{least_most, least_below, least_grows, least_same}
use Rattle.method.proofs.Counted.{counts_length, counts_old, counts_new}
use Rattle.method.proofs.Keeps.{wanted_low}
use Rattle.method.proofs.Parents.{parent_is, has_parent}
use Rattle.method.proofs.Turns.{from_get_d, wanted_on}

-- ---- a node's count from its children's

module _ (τ : Point → Stamp) where
  -- a scan goes on from where it starts, by at most its steps
  scan-within : (d : ℕ) (bound : Stamp) (i : Point) (steps : ℕ) → (i.0 ≤ (scan τ d bound i steps).0) × ((scan τ d bound i steps).0 ≤ i.0 + steps)
  scan-within d bound i zero = omega arith
  scan-within d bound i (suc steps) = go (leb ((τ i).0 + d) bound.0) (scan-within d bound (point_after i) steps)
    where
      go : (t : Bool) → (suc i.0 ≤ (scan τ d bound (point_after i) steps).0) × ((scan τ d bound (point_after i) steps).0 ≤ suc i.0 + steps)
          → (i.0 ≤ (cond t (scan τ d bound (point_after i) steps) i).0) × ((cond t (scan τ d bound (point_after i) steps) i).0 ≤ i.0 + suc steps)
      go true h = omega arith
      go false h = omega arith

  until_within : (e : LogEnd) (d m from : ℕ) → (from ≤ until_count τ e d m from) × (until_count τ e d m from ≤ from + (m - from))
  unfolding until_count
  until_within e d m from = scan-within d (cond (ltb m e.points) (τ (point m)) e.latest) (point from) (m - from)

module _ (τ : Point → Stamp) (e : LogEnd) (from : ℕ) where
  -- it is at most the number of points, where the children's and the count to start from are
  most_by : (m : ℕ) → m ≤ e.points → from ≤ e.points → (d : ℕ) (t : Times) → advance_by τ e m from d t ≤ e.points
  most_by m h u d Here = h
  most_by m h u d Before = omega arith
  most_by m h u d After = omega arith
  most_by m h u d Past = h
  most_by m h u d Future = omega (arith, until_within τ e d m from)

  -- it doesn't fall as the number of points and the children's counts grow
  grows_by : (τ' : Point → Stamp) (e' : LogEnd) (m m' : ℕ) → e.points ≤ e'.points → m ≤ m' → (d : ℕ) (t : Times) → advance_by τ e m from d t ≤ advance_by τ' e' m' (advance_by τ e m from d t) d t
  grows_by τ' e' m m' u h d Here = h
  grows_by τ' e' m m' u h d Before = omega arith
  grows_by τ' e' m m' u h d After = omega arith
  grows_by τ' e' m m' u h d Past = h
  grows_by τ' e' m m' u h d Future = (until_within τ' e' d m' _).0

  module _ (c : ℕ → ℕ) (v : View) where
    -- it follows from the counts of the children alone
    advance_same : (c' : ℕ → ℕ) → ((y : ℕ) → Memᴰ y (children_in v.children) → c y ≡ c' y) → advance τ e c from v ≡ advance τ e c' from v
    advance_same c' h = ap (λ m. advance_by τ e m from v.window.end v.times) (least_same e.points c c' (children_in v.children) h)

    pub advance_most : from ≤ e.points → advance τ e c from v ≤ e.points
    advance_most u = most_by (least_of e.points (map c (children_in v.children))) (least_most e.points (map c (children_in v.children))) u v.window.end v.times

    advance_grows : (τ' : Point → Stamp) (e' : LogEnd) (c' : ℕ → ℕ) → e.points ≤ e'.points → ((y : ℕ) → Memᴰ y (children_in v.children) → c y ≤ c' y)
        → advance τ e c from v ≤ advance τ' e' c' (advance τ e c from v) v
    advance_grows τ' e' c' u h =
        grows_by τ' e' (least_of e.points (map c (children_in v.children))) (least_of e'.points (map c' (children_in v.children))) u (least_grows e.points e'.points c c' (children_in v.children) u h) v.window.end v.times

-- ---- the counts of a rule's nodes

module _ (b : List ℕ) (a : Accepted) (ok : checking b ≡ given a) where
  -- children are lower
  pub below : (x : ℕ) → x < node_count b → (y : ℕ) → Memᴰ y (children_of (node_at b x)) → y < x
  below x o = lower b (node_count b) (accepted b a ok).each x o x (omega arith)

  -- induction over the nodes: each from its children
  pub by_children : (P : ℕ → Type 0) → ((x : ℕ) → x < node_count b → ((y : ℕ) → Memᴰ y (children_of (node_at b x)) → P y) → P x) → (x : ℕ) → x < node_count b → P x
  by_children P step x o = up_to (node_count b) (omega arith) x o
    where
      up_to : (k : ℕ) → k ≤ node_count b → (x : ℕ) → x < k → P x
      up_to zero u x v = absurd (omega arith)
      up_to (suc k) u x v = step x (omega arith) (λ y m. up_to k (omega arith) y (omega (arith, below x (omega arith) y m)))

  module _ (τ : Point → Stamp) (e : LogEnd) (from : ℕ → ℕ) where
    abbrev count : ℕ → ℕ
    count x = get_or (counts_to b τ e from (node_count b)) x 0

    -- a count stays as those of later nodes are added
    counts_stay : (k m x : ℕ) → x < k → get_or (counts_to b τ e from (k + m)) x 0 ≡ get_or (counts_to b τ e from k) x 0
    counts_stay k zero x h = let z : k + 0 ≡ k = omega arith in rw z
    counts_stay k (suc m) x h = let z : k + suc m ≡ suc (k + m) = omega arith in rw z (counts_old b τ e from (k + m) x (omega arith) ∙ counts_stay k m x h)

    count_at : (k x : ℕ) → x < k → k ≤ node_count b → count x ≡ get_or (counts_to b τ e from k) x 0
    count_at k x h u = let q : node_count b ≡ k + (node_count b - k) = omega arith in ap (λ z. get_or (counts_to b τ e from z) x 0) q ∙ counts_stay k (node_count b - k) x h

    -- each count follows from those of the children
    count_step : (x : ℕ) → x < node_count b → count x ≡ advance τ e count (from x) (view_of (node_at b x))
    count_step x o =
        count_at (suc x) x (omega arith) o ∙ counts_new b τ e from x
        ∙ advance_same τ e (from x) (λ y. get_or (counts_to b τ e from x) y 0) (view_of (node_at b x)) count (λ y m. sym (count_at x y (below x o y m) (omega arith)))

    count_most : ((x : ℕ) → x < node_count b → from x ≤ e.points) → (x : ℕ) → x < node_count b → count x ≤ e.points
    count_most h x o = rw (count_step x o) (advance_most τ e (from x) count (view_of (node_at b x)) (h x o))

-- ---- the first wanted point

-- a child is wanted from at most one point before the parent's first unsettled point
wanted_near : (t : Times) (p : ℕ) → p ≤ (first_wanted t p).0 + 1
wanted_near Here p = omega arith
wanted_near Before p = omega arith
wanted_near After p = omega arith
wanted_near Past p = omega arith
wanted_near Future p = omega arith

-- the first wanted point of node x: x is the last node, or has a parent
pub data Placed (b : List ℕ) (x : ℕ) : Type 0 where
  at_last : ((c : ℕ → ℕ) → wanted_from b c x ≡ point (c x)) → Placed b x
  with_parent : (p : ℕ) → p < node_count b → ((c : ℕ → ℕ) → wanted_from b c x ≡ point (min (c x) (first_wanted (view_of (node_at b p)).times (c p)).0)) → Placed b x

module _ (b : List ℕ) (a : Accepted) (ok : checking b ≡ given a) where
  pub placed : (x : ℕ) → x < node_count b → Placed b x
  unfolding wanted_from
  placed x o = go (tested (eqb x (last_node b)))
    where
      go : Tested (eqb x (last_node b)) → Placed b x
      go (passed e) = at_last (λ c. rw e)
      go (failed e) =
          let q : x ≡ last_node b → ⊥ = eqb-false x (last_node b) e in
          let (p, n, m) = has_parent b a ok x (omega arith) in
          with_parent p n (λ c. rw (e, parent_is b a ok p n x m))

  module _ (c : ℕ → ℕ) where
    -- a child is wanted from no later than its parent's first unsettled point consults it
    pub wanted_under : (x : ℕ) → x < node_count b → (y : ℕ) → Memᴰ y (children_of (node_at b x)) → (wanted_from b c y).0 ≤ (first_wanted (view_of (node_at b x)).times (c x)).0
    unfolding wanted_from
    wanted_under x o y m =
        let under : y < x = below b a ok x o y m in
        let e : eqb y (last_node b) ≡ false = ne_eqb y (last_node b) (λ d. omega arith) in
        rw (e, parent_is b a ok x o y m) (omega arith)

    -- it moves on with the counts
    pub wanted_moves : (c' : ℕ → ℕ) → ((y : ℕ) → y < node_count b → c y ≤ c' y) → (x : ℕ) → x < node_count b → (wanted_from b c x).0 ≤ (wanted_from b c' x).0
    wanted_moves c' h x o = go (placed x o)
      where
        go : Placed b x → (wanted_from b c x).0 ≤ (wanted_from b c' x).0
        go (at_last e) = rw (e c, e c') (h x o)
        go (with_parent p n e) = rw (e c, e c') (omega (arith, h x o, wanted_on (view_of (node_at b p)).times (c p) (c' p) (h p n)))

    -- it is no earlier than the last point that all nodes have settled
    wanted_late : (v : ℕ) → ((y : ℕ) → y < node_count b → v ≤ c y - 1) → (x : ℕ) → x < node_count b → v ≤ (wanted_from b c x).0
    wanted_late v h x o = go (placed x o)
      where
        go : Placed b x → v ≤ (wanted_from b c x).0
        go (at_last e) = rw (e c) (omega (arith, h x o))
        go (with_parent p n e) = rw (e c) (omega (arith, h x o, h p n, wanted_near (view_of (node_at b p)).times (c p)))

-- one point is added or none
pub some_added : (w : List ℕ) → (points_added w ≡ 0) ⊎ (points_added w ≡ 1)
some_added w = go (ltb 1 (length w))
  where
    go : (t : Bool) → (one_if t ≡ 0) ⊎ (one_if t ≡ 1)
    go true = inr refl
    go false = inl refl

pub one_added : (w : List ℕ) → points_added w ≤ 1
one_added w = elim (some_added w) [ inl e ↦ omega (arith, e) | inr e ↦ omega (arith, e) ]

-- ---- what is stored

-- What is stored of an accepted rule, with the times that the counts ask for.
module _ (s : Stored) (a : Accepted) (ok : checking s.rule ≡ given a)
    (few : length s.times ≤ most_times)
    (times : length s.times ≡ s.points - (first_retained s.points (counts_stored s)).0) where
  pub before-step : (x : ℕ) → x < node_count s.rule → count_before s x ≡ advance (stamp_in (base_of s) s.times) (end_of s) (count_before s) (base_of s).0 (view_of (node_at s.rule x))
  unfolding count_before counts_stored
  before-step = count_step s.rule a ok (stamp_in (base_of s) s.times) (end_of s) (λ y. (base_of s).0)

  pub before_most : (x : ℕ) → x < node_count s.rule → count_before s x ≤ s.points
  unfolding count_before counts_stored
  before_most = count_most s.rule a ok (stamp_in (base_of s) s.times) (end_of s) (λ y. (base_of s).0) (λ y o. omega arith)

  counts_are : counts_stored s ≡ map (count_before s) (range 0 (node_count s.rule))
  unfolding count_before counts_stored
  counts_are =
      from_get_d (counts_stored s) (node_count s.rule) (count_before s)
      (counts_length s.rule (stamp_in (base_of s) s.times) (end_of s) (λ y. (base_of s).0) (node_count s.rule)) (λ k o. refl)

  -- the last point that a node has settled is no earlier than the first retained
  pub base_low : (x : ℕ) → x < node_count s.rule → (base_of s).0 ≤ count_before s x - 1
  base_low x o =
      let h : least_of s.points (counts_stored s) ≤ count_before s x = rw counts_are (least_below s.points (count_before s) (range 0 (node_count s.rule)) x (range_of 0 (node_count s.rule) (omega arith) (omega arith))) in
      omega (arith, least_most s.points (counts_stored s))

  -- neither is any wanted point
  pub wanted_retained : (x : ℕ) → x < node_count s.rule → (base_of s).0 ≤ (wanted_from s.rule (count_before s) x).0
  wanted_retained = wanted_late s.rule a ok (count_before s) (base_of s).0 base_low

  -- few points are retained
  pub retained : s.points - (base_of s).0 ≤ most_times
  retained = omega arith

  pub wanted_before : (x : ℕ) → (wanted_from s.rule (count_before s) x).0 ≤ count_before s x
  wanted_before = wanted_low s.rule (count_before s)

  -- a child's rows are there from where its parent's first unsettled point consults them
  pub wanted_child : (x : ℕ) → x < node_count s.rule → (y : ℕ) → Memᴰ y (children_of (node_at s.rule x)) → (wanted_from s.rule (count_before s) y).0 ≤ (first_wanted (view_of (node_at s.rule x)).times (count_before s x)).0
  wanted_child = wanted_under s.rule a ok (count_before s)

  -- one call, with the words of what is fed
  module _ (w : List ℕ) where
    pub after_step : (x : ℕ) → x < node_count s.rule → count_after s w x ≡ advance (stamps_now s w) (end_now s w) (count_after s w) (count_before s x) (view_of (node_at s.rule x))
    unfolding count_after counts_after
    after_step = count_step s.rule a ok (stamps_now s w) (end_now s w) (count_before s)

    pub after_most : (x : ℕ) → x < node_count s.rule → count_after s w x ≤ s.points + points_added w
    unfolding count_after counts_after
    after_most = count_most s.rule a ok (stamps_now s w) (end_now s w) (count_before s) (λ y o. omega (arith, before_most y o))

    pub before_after : (x : ℕ) → x < node_count s.rule → count_before s x ≤ count_after s w x
    before_after =
        by_children s.rule a ok (λ x. count_before s x ≤ count_after s w x)
        (λ x o grown.
        rw (after_step x o, before-step x o)
        (advance_grows (stamp_in (base_of s) s.times) (end_of s) (base_of s).0 (count_before s) (view_of (node_at s.rule x)) (stamps_now s w) (end_now s w) (count_after s w) (omega arith) grown))

    pub new_few : (x : ℕ) → x < node_count s.rule → count_after s w x - count_before s x ≤ 65
    new_few x o = omega (arith, retained, base_low x o, after_most x o, one_added w)

    pub wanted_after : (x : ℕ) → (wanted_from s.rule (count_after s w) x).0 ≤ count_after s w x
    wanted_after = wanted_low s.rule (count_after s w)

    pub wanted_grows : (x : ℕ) → x < node_count s.rule → (wanted_from s.rule (count_before s) x).0 ≤ (wanted_from s.rule (count_after s w) x).0
    wanted_grows = wanted_moves s.rule a ok (count_before s) (count_after s w) before_after

    -- a call looks at few points of a node: those it newly settles and those still wanted, none of them before the first retained
    pub span : (x : ℕ) → x < node_count s.rule → count_after s w x - (wanted_from s.rule (count_before s) x).0 ≤ length s.times + 1
    span x o = omega (arith, wanted_retained x o, after_most x o, one_added w)

-- ---- what a newly settled point consults is settled

consults_by_lem : (τ : Point → Stamp) (e : LogEnd) (m start d : ℕ) (t : Times) (i : Point) → start ≤ i.0 → i.0 < advance_by τ e m start d t → (c : ℕ) → m ≤ c → ConsultsBy c i t
consults_by_lem τ e m start d Here i h u c k = omega arith
consults_by_lem τ e m start d Before i h u c k = omega arith
consults_by_lem τ e m start d After i h u c k = omega arith
consults_by_lem τ e m start d Past i h u c k = omega arith
consults_by_lem τ e m start d Future i h u c k = omega (arith, until_within τ e d m start)

pub consults : (τ : Point → Stamp) (e : LogEnd) (c : ℕ → ℕ) (start : ℕ) (v : View) (i : Point) → start ≤ i.0 → i.0 < advance τ e c start v → Consults c i v
consults τ e c start v i h u y m = consults_by_lem τ e (least_of e.points (map c (children_in v.children))) start v.window.end v.times i h u (c y) (least_below e.points c (children_in v.children) y m)
