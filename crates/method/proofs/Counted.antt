-- The counts that the method computes from time stamps are right: a point of the log is settled for a node exactly if its number is below the node's count.
use Prim.Native.Nat.{ℕ, zero, suc, ◌+◌, ◌-◌, ◌≤◌, ◌<◌, min}
use mathlib.Core.Path.{◌≡◌, refl, sym, ◌∙◌}
use mathlib.Core.Bool.{Bool, true, false, cond, ◌&&◌, false≢true}
use mathlib.Core.Logic.{◌⊎◌, inl, inr}
use mathlib.Core.List.{List, [], ◌∷◌, map, Memᴰ}
use lib.ListN.{length, get_or, length-append, get_or-append}
use lib.Seq.{get_or_at}
use lib.Dec.{ltb, leb, eqb}
use borrow.Author.Tests.{ltb-true, ltb-false, leb-true, eqb-true, eqb-false, lt-ltb, le-leb}
use native.Mathlib.Nat.{eq-or-lt_of_le, lt_of_not-le}
use native.Mathlib.Omega.{arith}
use Rattle.meaning.specs.Lists.{select}
use Rattle.meaning.specs.Log.{Log, Ordered, point, size, time, latest, point_before, point_after, points_from}
use Rattle.meaning.specs.Outcome.{given}
use Rattle.meaning.specs.Formula.{Formula}
use Rattle.meaning.specs.Settled.{settled, settled_since, settled_until, settled_count}
use Rattle.meaning.specs.View.{view_of, children_in}
use Rattle.meaning.specs.RuleFile.{Accepted, checking, node_count, node_at, children_of, formula_of, formula_at}
use Rattle.meaning.specs.declared.Point.{Point}
use Rattle.meaning.specs.declared.Stamp.{Stamp}
use Rattle.meaning.specs.declared.LogEnd.{LogEnd}
use Rattle.meaning.specs.declared.Window.{Window}
use Rattle.meaning.specs.declared.Node.{Node}
use Rattle.meaning.specs.declared.Children.{Children}
use Rattle.meaning.specs.declared.Children.TheVariants.{None, One, Two}
use Rattle.meaning.specs.declared.Times.{Times}
use Rattle.meaning.specs.declared.Times.TheVariants.{Here, Before, After, Past, Future}
use Rattle.meaning.proofs.Points.{both, first, second, or_left, or_right, Tested, passed, failed, tested}
use Rattle.meaning.proofs.Rows.{either, both_ways}
use Rattle.meaning.proofs.Growth.{Extends}
use Rattle.meaning.proofs.Fine.{Fine}
use Rattle.meaning.proofs.Settles.{UntilSettled, until_parts, until_whole, since_each, since_all, present, prefix, stays}
use Rattle.meaning.proofs.Tree.{ChildrenLower, formula_step}
use Rattle.meaning.proofs.Accepted.{accepted, fine, lower}
use Rattle.method.specs.Stored.{least_of}
use Rattle.method.specs.Counts.{scan, until_count, advance_by, advance, counts_to}
use Rattle.method.proofs.Least.{least_most}
use Rattle.method.proofs.Views.{children_settled, earlier, settled_by, Ended, viewed}

-- the test passes at the points below c and at no other
abbrev pub Upto : (Point → Bool) → ℕ → Type 0
Upto p c = (i : Point) → p i ≡ ltb i.0 c

-- a test that passes at a point passes at every point before it
abbrev Down : (Point → Bool) → Type 0
Down p = (i j : Point) → j.0 ≤ i.0 → p i ≡ true → p j ≡ true

module _ (p : Point → Bool) (c : ℕ) where
  upto_of : ((i : Point) → p i ≡ true → i.0 < c) → ((i : Point) → i.0 < c → p i ≡ true) → Upto p c
  upto_of h k i = both_ways (p i) (ltb i.0 c) (λ e. lt-ltb i.0 c (h i e)) (λ e. k i (ltb-true i.0 c e))

  pub upto_below : Upto p c → (i : Point) → p i ≡ true → i.0 < c
  upto_below h i e = ltb-true i.0 c (sym (h i) ∙ e)

  pub upto_holds : Upto p c → (i : Point) → i.0 < c → p i ≡ true
  upto_holds h i u = h i ∙ lt-ltb i.0 c u

  -- a point where the test fails is above all where it passes
  stops : Down p → p (point c) ≡ false → (i : Point) → p i ≡ true → i.0 < c
  stops d e i s = lt_of_not-le (λ u. false≢true (sym e ∙ d i (point c) u s))

  -- how many points of a run pass
  selected : Upto p c → (a n : ℕ) → length (select p (points_from (point a) n)) ≡ min c (a + n) - a
  selected h a zero = omega arith
  selected h a (suc n) = rw (h (point a)) (go (ltb a c) refl (selected h (suc a) n))
    where
      rest : List Point
      rest = select p (points_from (point (suc a)) n)

      go : (t : Bool) → ltb a c ≡ t → length rest ≡ min c (suc a + n) - suc a → length (cond t (point a ∷ rest) rest) ≡ min c (a + suc n) - a
      go true e k = omega (arith, ltb-true a c e)
      go false e k = omega (arith, ltb-false a c e)

-- a test that passes at a prefix of points, all below n, has a count
boundary : (p : Point → Bool) → Down p → (n : ℕ) → ((i : Point) → p i ≡ true → i.0 < n) → (c : ℕ) × Upto p c
boundary p d zero h = (0, upto_of p 0 h (λ i u. absurd (omega arith)))
boundary p d (suc n) h = go (p (point n)) refl (boundary p d n)
  where
    go : (t : Bool) → p (point n) ≡ t → (((i : Point) → p i ≡ true → i.0 < n) → (c : ℕ) × Upto p c) → (c : ℕ) × Upto p c
    go true e less = (suc n, upto_of p (suc n) h (λ i u. d (point n) i (omega arith) e))
    go false e less = less (stops p n d e)

-- the points that are settled are the first c
abbrev pub Counted : Log → Formula → ℕ → Type 0
Counted l φ c = Upto (settled l φ) c

module _ (l : Log) (φ : Formula) where
  pub counted_most : (c : ℕ) → Counted l φ c → c ≤ size l
  counted_most zero h = omega arith
  counted_most (suc c) h = present l φ (point c) (upto_holds (settled l φ) (suc c) h (point c) (omega arith))

  pub counted_is : (c : ℕ) → Counted l φ c → settled_count l φ ≡ c
  counted_is c h = omega (arith, counted_most c h, selected (settled l φ) c h 0 (size l))

  pub count_counted : Ordered l → Fine φ → Counted l φ (settled_count l φ)
  count_counted o f =
      let (c, h) = boundary (settled l φ) (prefix l o φ f) (size l) (present l φ) in
      rw (counted_is c h) h

-- as the log grows no count falls
pub counts_grow : (l l' : Log) → Extends l l' → (φ : Formula) (c c' : ℕ) → Counted l φ c → Counted l' φ c' → c ≤ c'
counts_grow l l' x φ zero c' h k = omega arith
counts_grow l l' x φ (suc c) c' h k = upto_below (settled l' φ) c' k (point c) (stays l l' x φ (point c) (upto_holds (settled l φ) (suc c) h (point c) (omega arith)))

-- two tests together
upto_both : (p q : Point → Bool) (a b : ℕ) → Upto p a → Upto q b → Upto (λ i. p i && q i) (min a b)
upto_both p q a b h k =
    upto_of (λ i. p i && q i) (min a b)
    (λ i e. omega (arith, upto_below p a h i (first (p i) (q i) e), upto_below q b k i (second (p i) (q i) e)))
    (λ i u. both (upto_holds p a h i (omega arith)) (upto_holds q b k i (omega arith)))

module _ (p : Point → Bool) (m : ℕ) (h : Upto p m) where
  upto_since : Upto (settled_since p) m
  upto_since = upto_of (settled_since p) m (λ i e. upto_below p m h i (since_each p i e i (omega arith))) (λ i u. since_all p i (λ j v. upto_holds p m h j (omega arith)))

  upto_next : Upto (λ i. p (point_after i)) (m - 1)
  upto_next = upto_of (λ i. p (point_after i)) (m - 1) (λ i e. omega (arith, upto_below p m h (point_after i) e)) (λ i u. upto_holds p m h (point_after i) (omega arith))

  upto_earlier : Upto (earlier p) (m + 1)
  upto_earlier = upto_of (earlier p) (m + 1) (λ i e. near i (either (eqb i.0 0) (p (point_before i)) e)) (λ i u. back i u (tested (eqb i.0 0)))
    where
      near : (i : Point) → (eqb i.0 0 ≡ true) ⊎ (p (point_before i) ≡ true) → i.0 < m + 1
      near i (inl e) = omega (arith, eqb-true i.0 0 e)
      near i (inr e) = omega (arith, upto_below p m h (point_before i) e)

      back : (i : Point) → i.0 < m + 1 → Tested (eqb i.0 0) → earlier p i ≡ true
      back i u (passed e) = or_left (eqb i.0 0) (p (point_before i)) e
      back i u (failed e) = let z : i.0 ≡ 0 → ⊥ = eqb-false i.0 0 e in or_right (eqb i.0 0) (p (point_before i)) (upto_holds p m h (point_before i) (omega arith))

-- A scan stops at the count of a test that passes before it starts and, at the points scanned, says what the scan asks.
scanned : (p : Point → Bool) → Down p → (τ : Point → Stamp) (d : ℕ) (bound : Stamp) (from : Point) (steps : ℕ)
    → ((i : Point) → i.0 < from.0 → p i ≡ true)
    → ((i : Point) → from.0 ≤ i.0 → i.0 < from.0 + steps → p i ≡ leb ((τ i).0 + d) bound.0)
    → ((i : Point) → p i ≡ true → i.0 < from.0 + steps)
    → Upto p (scan τ d bound from steps).0
scanned p down τ d bound from zero before each most = upto_of p from.0 (λ i e. omega (arith, most i e)) before
scanned p down τ d bound from (suc steps) before each most =
    let here : p from ≡ leb ((τ from).0 + d) bound.0 = each from (omega arith) (omega arith) in
    go (leb ((τ from).0 + d) bound.0) here
    (λ e. scanned p down τ d bound (point_after from) steps (λ i u. down from i (omega arith) e) (λ i u v. each i (omega arith) (omega arith)) (λ i s. omega (arith, most i s)))
  where
    go : (t : Bool) → p from ≡ t → (p from ≡ true → Upto p (scan τ d bound (point_after from) steps).0) → Upto p (cond t (scan τ d bound (point_after from) steps) from).0
    go true e rest = rest e
    go false e rest = upto_of p from.0 (stops p from.0 down e) before

-- where a log ends
abbrev pub end_in : Log → LogEnd
end_in l = record { points = size l; latest = latest l }

-- the time by which a window has to end, where the children have settled m points and the test says whether there is a point m
abbrev ending : (Point → Stamp) → Log → ℕ → Bool → Stamp
ending τ l m t = cond t (τ (point m)) (latest l)

-- Until, over a test of the children that passes at the first m points.
module _ (l : Log) (o : Ordered l) (w : Window) (pos : 0 < w.end) (p : Point → Bool) (m : ℕ) (h : Upto p m) (most : m ≤ size l) where
  until_below : (i : Point) → settled_until l w p i ≡ true → i.0 < m
  until_below i e = let q : UntilSettled l w p i = until_parts l w p i e in upto_below p m h i (q.inner i (omega arith) q.here (omega arith))

  until_ends : (t : Bool) → ltb m (size l) ≡ t → (i : Point) → i.0 < m → UntilSettled l w p i → (time l i).0 + w.end ≤ (ending (time l) l m t).0
  until_ends true e i u q =
      let no : (time l (point m)).0 < (time l i).0 + w.end → ⊥ = λ v. omega (arith, upto_below p m h (point m) (q.inner (point m) (omega arith) (ltb-true m (size l) e) v)) in
      omega arith
  until_ends false e i u q = q.late

  until_from : (t : Bool) → ltb m (size l) ≡ t → (i : Point) → i.0 < m → (time l i).0 + w.end ≤ (ending (time l) l m t).0 → UntilSettled l w p i
  until_from true e i u v =
      let n : m < size l = ltb-true m (size l) e in
      record {
        here = omega arith;
        late = omega (arith, o.late (point m) n);
        inner = λ j a b c. upto_holds p m h j (lt_of_not-le (λ k. omega (arith, o.steps (point m) j k b)));
      }
  until_from false e i u v = record { here = omega arith; late = v; inner = λ j a b c. upto_holds p m h j (omega (arith, ltb-false m (size l) e)) }

  until_at : (i : Point) → i.0 < m → settled_until l w p i ≡ leb ((time l i).0 + w.end) (ending (time l) l m (ltb m (size l))).0
  until_at i u =
      both_ways _ _
      (λ s. le-leb _ _ (until_ends (ltb m (size l)) refl i u (until_parts l w p i s)))
      (λ s. until_whole l w p i (until_from (ltb m (size l)) refl i u (leb-true _ _ s)))

  upto_until : Down (settled_until l w p) → (from : ℕ) → ((i : Point) → i.0 < from → settled_until l w p i ≡ true)
      → (τ : Point → Stamp) → ((i : Point) → from ≤ i.0 → i.0 < size l → τ i ≡ time l i)
      → Upto (settled_until l w p) (until_count τ (end_in l) w.end m from)
  unfolding until_count
  upto_until down from known τ stamps =
      scanned (settled_until l w p) down τ w.end (ending τ l m (ltb m (size l))) (point from) (m - from) known
      (λ i a b. rw (stamps i a (omega arith), same (ltb m (size l)) refl (omega arith)) (until_at i (omega arith)))
      (λ i e. omega (arith, until_below i e))
    where
      same : (t : Bool) → ltb m (size l) ≡ t → from ≤ m → ending τ l m t ≡ ending (time l) l m t
      same true e u = stamps (point m) u (ltb-true m (size l) e)
      same false e u = refl

module _ (l : Log) (o : Ordered l) (F : ℕ → Formula) (c : ℕ → ℕ) where
  -- the children of a node together
  upto_children : (cs : Children) → ((y : ℕ) → Memᴰ y (children_in cs) → Counted l (F y) (c y)) → Upto (children_settled l F cs) (least_of (size l) (map c (children_in cs)))
  upto_children None h = λ i. refl
  upto_children (One a) h =
      let e : min (c a) (size l) ≡ c a = omega (arith, counted_most l (F a) (c a) (h a (Memᴰ.head refl))) in
      rw e (h a (Memᴰ.head refl))
  upto_children (Two a b) h =
      let e : min (c b) (size l) ≡ c b = omega (arith, counted_most l (F b) (c b) (h b (Memᴰ.tail (Memᴰ.head refl)))) in
      rw e (upto_both (settled l (F a)) (settled l (F b)) (c a) (c b) (h a (Memᴰ.head refl)) (h b (Memᴰ.tail (Memᴰ.head refl))))

  -- a node's count by its times, over a test of the children that passes at the first m points
  upto_times : (w : Window) (t : Times) → Ended w t → (p : Point → Bool) (m : ℕ) → Upto p m → m ≤ size l → Down (settled_by l p w t)
      → (from : ℕ) → ((i : Point) → i.0 < from → settled_by l p w t i ≡ true)
      → (τ : Point → Stamp) → ((i : Point) → from ≤ i.0 → i.0 < size l → τ i ≡ time l i)
      → Upto (settled_by l p w t) (advance_by τ (end_in l) m from w.end t)
  upto_times w Here f p m h most down from known τ stamps = h
  upto_times w Before f p m h most down from known τ stamps = upto_both (λ i. ltb i.0 (size l)) (earlier p) (size l) (m + 1) (λ i. refl) (upto_earlier p m h)
  upto_times w After f p m h most down from known τ stamps = upto_next p m h
  upto_times w Past f p m h most down from known τ stamps = upto_since p m h
  upto_times w Future f p m h most down from known τ stamps = upto_until l o w f p m h most down from known τ stamps

  -- A node's count is right where its children's are, the count to start from is not too high and the stamps from that point on are the log's.
  pub advance_counted : (n : Node) → Fine (formula_of F n) → ((y : ℕ) → Memᴰ y (children_of n) → Counted l (F y) (c y))
      → (from : ℕ) → ((i : Point) → i.0 < from → settled l (formula_of F n) i ≡ true)
      → (τ : Point → Stamp) → ((i : Point) → from ≤ i.0 → i.0 < size l → τ i ≡ time l i)
      → Counted l (formula_of F n) (advance τ (end_in l) c from (view_of n))
  advance_counted n f h from known τ stamps =
      λ i. is i
      ∙ upto_times (view_of n).window (view_of n).times ((viewed F n).ended f) (children_settled l F (view_of n).children) (least_of (size l) (map c (children_in (view_of n).children))) (upto_children (view_of n).children h)
      (least_most (size l) (map c (children_in (view_of n).children))) (λ j k u e. sym (is k) ∙ prefix l o (formula_of F n) f j k u (is j ∙ e)) from (λ j u. sym (is j) ∙ known j u) τ stamps i
    where
      is : (i : Point) → settled l (formula_of F n) i ≡ settled_by l (children_settled l F (view_of n).children) (view_of n).window (view_of n).times i
      is i = (viewed F n).settles l i

-- The counts of the first nodes: one more node leaves the others as they are and adds its own.
module _ (b : List ℕ) (τ : Point → Stamp) (e : LogEnd) (from : ℕ → ℕ) where
  pub counts_length : (k : ℕ) → length (counts_to b τ e from k) ≡ k
  counts_length zero = refl
  counts_length (suc k) = simp length-append (omega (arith, counts_length k))

  pub counts_old : (k x : ℕ) → x < k → get_or (counts_to b τ e from (suc k)) x 0 ≡ get_or (counts_to b τ e from k) x 0
  counts_old k x u = get_or-append (counts_to b τ e from k) _ 0 x (omega (arith, counts_length k))

  pub counts_new : (k : ℕ) → get_or (counts_to b τ e from (suc k)) k 0 ≡ advance τ e (λ y. get_or (counts_to b τ e from k) y 0) (from k) (view_of (node_at b k))
  counts_new k = get_or_at (counts_to b τ e from k) _ [] 0 k (counts_length k)

-- the counts of the first k nodes are right
abbrev pub RightTo : List ℕ → Log → (ℕ → ℕ) → (Point → Stamp) → ℕ → Type 0
RightTo b l from τ k = (x : ℕ) → x < k → Counted l (formula_at b x) (get_or (counts_to b τ (end_in l) from k) x 0)

-- The counts of an accepted rule's nodes are right where no count to start from is too high and the stamps from that point on are the log's.
module _ (b : List ℕ) (a : Accepted) (e : checking b ≡ given a) (l : Log) (o : Ordered l)
    (from : ℕ → ℕ) (known : (x : ℕ) → x < node_count b → (i : Point) → i.0 < from x → settled l (formula_at b x) i ≡ true)
    (τ : Point → Stamp) (stamps : (x : ℕ) → x < node_count b → (i : Point) → from x ≤ i.0 → i.0 < size l → τ i ≡ time l i) where
  count_right : (k : ℕ) → k < node_count b → RightTo b l from τ k → Counted l (formula_at b k) (get_or (counts_to b τ (end_in l) from (suc k)) k 0)
  count_right k u below =
      let low : ChildrenLower b k = lower b (node_count b) (accepted b a e).each k u in
      let step : formula_at b k ≡ formula_of (formula_at b) (node_at b k) = formula_step b k low in
      rw (counts_new b τ (end_in l) from k, step)
      (advance_counted l o (formula_at b) (λ y. get_or (counts_to b τ (end_in l) from k) y 0) (node_at b k) (rw step at (fine b a e k u)) (λ y m. below y (low k (omega arith) y m))
      (from k) (rw step at (known k u)) τ (stamps k u))

  counts_right_to : (k : ℕ) → k ≤ node_count b → RightTo b l from τ k
  counts_right_to zero u x v = absurd (omega arith)
  counts_right_to (suc k) u x v = go (counts_right_to k (omega arith)) (eq-or-lt_of_le v)
    where
      go : RightTo b l from τ k → (suc x ≡ suc k) ⊎ (suc x < suc k) → Counted l (formula_at b x) (get_or (counts_to b τ (end_in l) from (suc k)) x 0)
      go below (inl s) = let q : x ≡ k = omega arith in rw q (count_right k u below)
      go below (inr s) = rw (counts_old b τ (end_in l) from k x (omega arith)) (below x (omega arith))

  pub counts_right : RightTo b l from τ (node_count b)
  counts_right = counts_right_to (node_count b) (omega arith)
