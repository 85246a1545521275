-- Settled points form a prefix, stay settled as the log grows, and, for a rule without "next", are settled as soon as the reach has passed.
use Prim.Native.Nat.{ℕ, suc, ◌+◌, ◌-◌, ◌≤◌, ◌<◌, max}
use mathlib.Core.Path.{◌≡◌, ap}
use mathlib.Core.Bool.{Bool, true, not, ◌&&◌, ◌||◌, false≢true}
use mathlib.Core.Logic.{◌⊎◌, inl, inr}
use lib.Dec.{ltb, leb, eqb}
use borrow.Author.Tests.{ltb-true, ltb-false, leb-true, lt-ltb, le-leb, eqb-true, eq-eqb}
use native.Mathlib.Omega.{arith}
use Rattle.meaning.specs.Lists.{all}
use Rattle.meaning.specs.Log.{Log, Ordered, size, time, latest, point_before, point_after, points_from}
use Rattle.meaning.specs.Formula.{Formula, atom, and, and_not, keep, or, exists, previous, next, since, not_since, until, not_until, once, eventually, reach, without_next}
use Rattle.meaning.specs.Settled.{settled_since, settled_until, settled}
use Rattle.meaning.specs.declared.Point.{Point}
use Rattle.meaning.specs.declared.Window.{Window}
use Rattle.meaning.proofs.Points.{both, first, second, or_left, or_right, Tested, passed, failed, tested}
use Rattle.meaning.proofs.Rows.{either, all_points}
use Rattle.meaning.proofs.Growth.{Extends}
use Rattle.meaning.proofs.Fine.{Fine}

-- What "settled" says for since and until, over a test of the children.
pub since_each : (c : Point → Bool) (i : Point) → settled_since c i ≡ true → (j : Point) → j.0 ≤ i.0 → c j ≡ true
since_each c i e j u = (all_points c 0 (suc i.0)).0 e j (omega arith) (omega arith)

pub since_all : (c : Point → Bool) (i : Point) → ((j : Point) → j.0 ≤ i.0 → c j ≡ true) → settled_since c i ≡ true
since_all c i h = (all_points c 0 (suc i.0)).1 (λ j u o. h j (omega arith))

pub record UntilSettled (l : Log) (w : Window) (c : Point → Bool) (i : Point) : Type 0 where
  pub here : i.0 < size l
  pub late : (time l i).0 + w.end ≤ (latest l).0
  pub inner : (j : Point) → i.0 ≤ j.0 → j.0 < size l → (time l j).0 < (time l i).0 + w.end → c j ≡ true

-- the test that settled_until makes at each point from i on
abbrev inside : Log → Window → (Point → Bool) → Point → Point → Bool
inside l w c i j = not (ltb (time l j).0 ((time l i).0 + w.end)) || c j

module _ (l : Log) (w : Window) (c : Point → Bool) (i : Point) where
  pub until_parts : settled_until l w c i ≡ true → UntilSettled l w c i
  until_parts e =
      let ps : Bool = all (inside l w c i) (points_from i (size l - i.0)) in
      let n : Bool = ltb i.0 (size l) in
      let t : Bool = leb ((time l i).0 + w.end) (latest l).0 in
      let o : i.0 < size l = ltb-true i.0 (size l) (first n t (first (n && t) ps e)) in
      record {
        here = o;
        late = leb-true ((time l i).0 + w.end) (latest l).0 (second n t (first (n && t) ps e));
        inner = λ j u o h. go j h ((all_points (inside l w c i) i.0 (size l - i.0)).0 (second (n && t) ps e) j u (omega arith));
      }
    where
      go : (j : Point) → (time l j).0 < (time l i).0 + w.end → inside l w c i j ≡ true → c j ≡ true
      go j h e = rw (lt-ltb (time l j).0 ((time l i).0 + w.end) h) at e

  pub until_whole : UntilSettled l w c i → settled_until l w c i ≡ true
  until_whole p =
      both (both (lt-ltb i.0 (size l) p.here) (le-leb ((time l i).0 + w.end) (latest l).0 p.late))
      ((all_points (inside l w c i) i.0 (size l - i.0)).1 (λ j u o. go j u (omega (arith, p.here)) (tested (ltb (time l j).0 ((time l i).0 + w.end)))))
    where
      go : (j : Point) → i.0 ≤ j.0 → j.0 < size l → Tested (ltb (time l j).0 ((time l i).0 + w.end)) → inside l w c i j ≡ true
      go j u o (passed e) = or_right (not (ltb (time l j).0 ((time l i).0 + w.end))) (c j) (p.inner j u o (ltb-true (time l j).0 ((time l i).0 + w.end) e))
      go j u o (failed e) = rw e

-- the children of a node with two: both settled
abbrev pub twin : Log → Formula → Formula → Point → Bool
twin l a b j = settled l a j && settled l b j

-- Nothing is settled at i ≥ n.
pub present : (l : Log) (φ : Formula) (i : Point) → settled l φ i ≡ true → i.0 < size l
present l (atom r ts) i e = ltb-true i.0 (size l) e
present l (and a b) i e = present l a i (first (settled l a i) (settled l b i) e)
present l (and_not a b) i e = present l a i (first (settled l a i) (settled l b i) e)
present l (keep a c s t) i e = present l a i e
present l (or a b) i e = present l a i (first (settled l a i) (settled l b i) e)
present l (exists a x) i e = present l a i e
present l (previous a w) i e = ltb-true i.0 (size l) (first (ltb i.0 (size l)) (eqb i.0 0 || settled l a (point_before i)) e)
present l (next a w) i e = let h : suc i.0 < size l = present l a (point_after i) e in omega arith
present l (since a b w) i e = present l a i (first (settled l a i) (settled l b i) (since_each (twin l a b) i e i (omega arith)))
present l (not_since a b w) i e = present l a i (first (settled l a i) (settled l b i) (since_each (twin l a b) i e i (omega arith)))
present l (until a b w) i e = (until_parts l w (twin l a b) i e).here
present l (not_until a b w) i e = (until_parts l w (twin l a b) i e).here
present l (once a w) i e = present l a i (since_each (settled l a) i e i (omega arith))
present l (eventually a w) i e = (until_parts l w (settled l a) i e).here

-- A test that holds at a point holds at every point before it.
abbrev Down : (Point → Bool) → Type 0
Down c = (i j : Point) → j.0 ≤ i.0 → c i ≡ true → c j ≡ true

down_twin : (l : Log) (a b : Formula) → Down (settled l a) → Down (settled l b) → Down (twin l a b)
down_twin l a b p q i j u e = both (p i j u (first (settled l a i) (settled l b i) e)) (q i j u (second (settled l a i) (settled l b i) e))

down_since : (c : Point → Bool) → Down c → Down (settled_since c)
down_since c d i j u e = since_all c j (λ k o. since_each c i e k (omega arith))

down_until : (l : Log) → Ordered l → (w : Window) → 0 < w.end → (c : Point → Bool) → Down c → Down (settled_until l w c)
down_until l o w pos c d i j u e = go (until_parts l w c i e)
  where
    near : UntilSettled l w c i → (time l j).0 ≤ (time l i).0 → (k : Point) → k.0 < size l → (time l k).0 < (time l j).0 + w.end → Tested (ltb k.0 i.0) → c k ≡ true
    near p t k n h (passed e) = d i k (omega (arith, ltb-true k.0 i.0 e)) (p.inner i (omega arith) p.here (omega arith))
    near p t k n h (failed e) = p.inner k (ltb-false k.0 i.0 e) n (omega arith)

    go : UntilSettled l w c i → settled_until l w c j ≡ true
    go p =
        let t : (time l j).0 ≤ (time l i).0 = o.steps j i u p.here in
        until_whole l w c j
        (record {
          here = omega (arith, p.here);
          late = omega (arith, p.late);
          inner = λ k m n h. near p t k n h (tested (ltb k.0 i.0));
        })

down_previous : (l : Log) (c : Point → Bool) → Down c → Down (λ i. ltb i.0 (size l) && (eqb i.0 0 || c (point_before i)))
down_previous l c d i j u e =
    let n : i.0 < size l = ltb-true i.0 (size l) (first (ltb i.0 (size l)) (eqb i.0 0 || c (point_before i)) e) in
    both (lt-ltb j.0 (size l) (omega arith)) (go (tested (eqb j.0 0)) (either (eqb i.0 0) (c (point_before i)) (second (ltb i.0 (size l)) (eqb i.0 0 || c (point_before i)) e)))
  where
    go : Tested (eqb j.0 0) → (eqb i.0 0 ≡ true) ⊎ (c (point_before i) ≡ true) → (eqb j.0 0 || c (point_before j)) ≡ true
    go (passed z) s = or_left (eqb j.0 0) (c (point_before j)) z
    go (failed z) (inl y) = let x : i.0 ≡ 0 = eqb-true i.0 0 y in or_left (eqb j.0 0) (c (point_before j)) (eq-eqb j.0 0 (omega arith))
    go (failed z) (inr s) = or_right (eqb j.0 0) (c (point_before j)) (d (point_before i) (point_before j) (omega arith) s)

-- Settled points form a prefix.
pub prefix : (l : Log) → Ordered l → (φ : Formula) → Fine φ → (i j : Point) → j.0 ≤ i.0 → settled l φ i ≡ true → settled l φ j ≡ true
prefix l o (atom r ts) f = λ i j u e. let n : i.0 < size l = ltb-true i.0 (size l) e in lt-ltb j.0 (size l) (omega arith)
prefix l o (and a b) f = down_twin l a b (prefix l o a f.0) (prefix l o b f.1)
prefix l o (and_not a b) f = down_twin l a b (prefix l o a f.0) (prefix l o b f.1)
prefix l o (keep a c s t) f = prefix l o a f.0
prefix l o (or a b) f = down_twin l a b (prefix l o a f.0) (prefix l o b f.1)
prefix l o (exists a x) f = prefix l o a f.0
prefix l o (previous a w) f = down_previous l (settled l a) (prefix l o a f)
prefix l o (next a w) f = λ i j u e. prefix l o a f (point_after i) (point_after j) (omega arith) e
prefix l o (since a b w) f = down_since (twin l a b) (down_twin l a b (prefix l o a f.0) (prefix l o b f.1))
prefix l o (not_since a b w) f = down_since (twin l a b) (down_twin l a b (prefix l o a f.0) (prefix l o b f.1))
prefix l o (until a b w) f = down_until l o w f.3 (twin l a b) (down_twin l a b (prefix l o a f.0) (prefix l o b f.1))
prefix l o (not_until a b w) f = down_until l o w f.3 (twin l a b) (down_twin l a b (prefix l o a f.0) (prefix l o b f.1))
prefix l o (once a w) f = down_since (settled l a) (prefix l o a f)
prefix l o (eventually a w) f = down_until l o w f.1 (settled l a) (prefix l o a f.0)

-- As the log grows: a test that holds on the one holds on the other.
abbrev Up : (Point → Bool) → (Point → Bool) → Type 0
Up c c' = (i : Point) → c i ≡ true → c' i ≡ true

up_twin : (l l' : Log) (a b : Formula) → Up (settled l a) (settled l' a) → Up (settled l b) (settled l' b) → Up (twin l a b) (twin l' a b)
up_twin l l' a b p q i e = both (p i (first (settled l a i) (settled l b i) e)) (q i (second (settled l a i) (settled l b i) e))

up_since : (c c' : Point → Bool) → Up c c' → Up (settled_since c) (settled_since c')
up_since c c' p i e = since_all c' i (λ j u. p j (since_each c i e j u))

up_until : (l l' : Log) → Extends l l' → (w : Window) (c c' : Point → Bool) → Up c c' → Up (settled_until l w c) (settled_until l' w c')
up_until l l' x w c c' p i e = go (until_parts l w c i e)
  where
    near : UntilSettled l w c i → (time l i).0 ≡ (time l' i).0 → (j : Point) → i.0 ≤ j.0 → j.0 < size l' → (time l' j).0 < (time l' i).0 + w.end → Tested (ltb j.0 (size l)) → c' j ≡ true
    near q t j u o h (passed y) =
        let n : j.0 < size l = ltb-true j.0 (size l) y in
        let s : (time l j).0 ≡ (time l' j).0 = ap (λ m. m.0) (x.times j n) in
        p j (q.inner j u n (omega arith))
    near q t j u o h (failed y) =
        let n : size l ≤ j.0 = ltb-false j.0 (size l) y in
        absurd (omega (arith, q.late, x.later j n o))

    go : UntilSettled l w c i → settled_until l' w c' i ≡ true
    go q =
        let t : (time l i).0 ≡ (time l' i).0 = ap (λ m. m.0) (x.times i q.here) in
        until_whole l' w c' i
        (record {
          here = omega (arith, q.here, x.longer);
          late = omega (arith, q.late, x.clock);
          inner = λ j u o h. near q t j u o h (tested (ltb j.0 (size l)));
        })

up_previous : (l l' : Log) → Extends l l' → (c c' : Point → Bool) → Up c c' → Up (λ i. ltb i.0 (size l) && (eqb i.0 0 || c (point_before i))) (λ i. ltb i.0 (size l') && (eqb i.0 0 || c' (point_before i)))
up_previous l l' x c c' p i e =
    let n : i.0 < size l = ltb-true i.0 (size l) (first (ltb i.0 (size l)) (eqb i.0 0 || c (point_before i)) e) in
    both (lt-ltb i.0 (size l') (omega (arith, x.longer))) (go (either (eqb i.0 0) (c (point_before i)) (second (ltb i.0 (size l)) (eqb i.0 0 || c (point_before i)) e)))
  where
    go : (eqb i.0 0 ≡ true) ⊎ (c (point_before i) ≡ true) → (eqb i.0 0 || c' (point_before i)) ≡ true
    go (inl y) = or_left (eqb i.0 0) (c' (point_before i)) y
    go (inr y) = or_right (eqb i.0 0) (c' (point_before i)) (p (point_before i) y)

-- A point settled stays settled as the log grows.
pub stays : (l l' : Log) → Extends l l' → (φ : Formula) → (i : Point) → settled l φ i ≡ true → settled l' φ i ≡ true
stays l l' x (atom r ts) = λ i e. let n : i.0 < size l = ltb-true i.0 (size l) e in lt-ltb i.0 (size l') (omega (arith, x.longer))
stays l l' x (and a b) = up_twin l l' a b (stays l l' x a) (stays l l' x b)
stays l l' x (and_not a b) = up_twin l l' a b (stays l l' x a) (stays l l' x b)
stays l l' x (keep a c s t) = stays l l' x a
stays l l' x (or a b) = up_twin l l' a b (stays l l' x a) (stays l l' x b)
stays l l' x (exists a y) = stays l l' x a
stays l l' x (previous a w) = up_previous l l' x (settled l a) (settled l' a) (stays l l' x a)
stays l l' x (next a w) = λ i e. stays l l' x a (point_after i) e
stays l l' x (since a b w) = up_since (twin l a b) (twin l' a b) (up_twin l l' a b (stays l l' x a) (stays l l' x b))
stays l l' x (not_since a b w) = up_since (twin l a b) (twin l' a b) (up_twin l l' a b (stays l l' x a) (stays l l' x b))
stays l l' x (until a b w) = up_until l l' x w (twin l a b) (twin l' a b) (up_twin l l' a b (stays l l' x a) (stays l l' x b))
stays l l' x (not_until a b w) = up_until l l' x w (twin l a b) (twin l' a b) (up_twin l l' a b (stays l l' x a) (stays l l' x b))
stays l l' x (once a w) = up_since (settled l a) (settled l' a) (stays l l' x a)
stays l l' x (eventually a w) = up_until l l' x w (settled l a) (settled l' a) (stays l l' x a)

-- A test that holds at every point from which so much time has passed.
abbrev Past : Log → ℕ → (Point → Bool) → Type 0
Past l r c = (i : Point) → i.0 < size l → (time l i).0 + r ≤ (latest l).0 → c i ≡ true

past_twin : (l : Log) (a b : Formula) → (without_next a ≡ true → Past l (reach a) (settled l a)) → (without_next b ≡ true → Past l (reach b) (settled l b))
    → (without_next a && without_next b) ≡ true → Past l (max (reach a) (reach b)) (twin l a b)
past_twin l a b p q f i n h =
    both (p (first (without_next a) (without_next b) f) i n (omega arith)) (q (second (without_next a) (without_next b) f) i n (omega arith))

past_since : (l : Log) → Ordered l → (r : ℕ) (c : Point → Bool) → Past l r c → Past l r (settled_since c)
past_since l o r c p i n h = since_all c i (λ j u. p j (omega arith) (omega (arith, o.steps j i u n)))

past_until : (l : Log) (w : Window) (r : ℕ) (c : Point → Bool) → Past l r c → Past l (w.end + r) (settled_until l w c)
past_until l w r c p i n h = until_whole l w c i (record { here = n; late = omega arith; inner = λ j u m t. p j m (omega arith) })

past_previous : (l : Log) → Ordered l → (r : ℕ) (c : Point → Bool) → Past l r c → Past l r (λ i. ltb i.0 (size l) && (eqb i.0 0 || c (point_before i)))
past_previous l o r c p i n h =
    both (lt-ltb i.0 (size l) n) (or_right (eqb i.0 0) (c (point_before i)) (p (point_before i) (omega arith) (omega (arith, o.steps (point_before i) i (omega arith) n))))

-- "for a rule without "next", .. no later than the first accepted point", or notice, "itself or after it, whose time is at least the point's time plus the rule's reach"
pub reached : (l : Log) → Ordered l → (φ : Formula) → without_next φ ≡ true → (i : Point) → i.0 < size l → (time l i).0 + reach φ ≤ (latest l).0 → settled l φ i ≡ true
reached l o (atom r ts) f = λ i n h. lt-ltb i.0 (size l) n
reached l o (and a b) f = past_twin l a b (reached l o a) (reached l o b) f
reached l o (and_not a b) f = past_twin l a b (reached l o a) (reached l o b) f
reached l o (keep a c s t) f = reached l o a f
reached l o (or a b) f = past_twin l a b (reached l o a) (reached l o b) f
reached l o (exists a x) f = reached l o a f
reached l o (previous a w) f = past_previous l o (reach a) (settled l a) (reached l o a f)
reached l o (next a w) f = λ i n h. absurd (false≢true f)
reached l o (since a b w) f = past_since l o (max (reach a) (reach b)) (twin l a b) (past_twin l a b (reached l o a) (reached l o b) f)
reached l o (not_since a b w) f = past_since l o (max (reach a) (reach b)) (twin l a b) (past_twin l a b (reached l o a) (reached l o b) f)
reached l o (until a b w) f = past_until l w (max (reach a) (reach b)) (twin l a b) (past_twin l a b (reached l o a) (reached l o b) f)
reached l o (not_until a b w) f = past_until l w (max (reach a) (reach b)) (twin l a b) (past_twin l a b (reached l o a) (reached l o b) f)
reached l o (once a w) f = past_since l o (reach a) (settled l a) (reached l o a f)
reached l o (eventually a w) f = past_until l w (reach a) (settled l a) (reached l o a f)
