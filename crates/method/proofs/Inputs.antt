-- One node at a newly settled point: from children's rows that are the evaluator's where such points consult them, and the pairs of the point before the first such point, `settle` gives the evaluator's rows there and `pairs_after` its pairs.
use Prim.Native.Nat.{ℕ, suc, ◌+◌, ◌-◌, ◌≤◌, ◌<◌, min}
use native.Mathlib.Omega.{arith}
use mathlib.Core.Path.{◌≡◌, refl, sym, ◌∙◌, ap, ap₂}
use mathlib.Core.Bool.{Bool, true, false, not, cond, ◌&&◌, ◌||◌}
use mathlib.Core.List.{List, [], ◌∷◌, append-nil, Memᴰ}
use lib.Dec.{ltb, eqb}
use borrow.Author.Tests.{ltb-true, ltb-false, lt-ltb, le-ltb, ne_eqb}
use Rattle.meaning.specs.Lists.{all, select, gather}
use Rattle.meaning.specs.Log.{Log, Ordered, size, time, rows_at, elapsed, point_before, point_after, points_from}
use Rattle.meaning.specs.Formula.{Formula, free, lowest_of, terms_of, in_window}
use Rattle.meaning.specs.Evaluator.{cut_to, valuation_of, set_of, atom_rows, leading, until_rows, among, vals}
use Rattle.meaning.specs.Settled.{settled, settled_since, settled_until}
use Rattle.meaning.specs.View.{view_of}
use Rattle.meaning.specs.RuleFile.{children_of, formula_of}
use Rattle.meaning.specs.Kept.{pairs}
use Rattle.meaning.specs.declared.Point.{Point}
use Rattle.meaning.specs.declared.Stamp.{Stamp}
use Rattle.meaning.specs.declared.Window.{Window}
use Rattle.meaning.specs.declared.Node.{Node}
use Rattle.meaning.specs.declared.Node.TheVariants.{Atom, And, AndNot, Keep, Or, Exists, Previous, Next, Since, NotSince, Until, NotUntil, Once, Eventually}
use Rattle.meaning.proofs.Fine.{Fine}
use Rattle.meaning.proofs.Points.{first, second, all_same, select_same, select_append, select_none, gather_same, points_from_append, Tested, passed, failed, tested}
use Rattle.meaning.proofs.Agreement.{ascends, rows_length}
use Rattle.meaning.proofs.Settles.{UntilSettled, until_parts, since_each, twin, present}
use Rattle.meaning.proofs.Steady.{past_end}
use Rattle.meaning.proofs.LookUp.{look-member}
use Rattle.method.specs.Settle.{Inputs, found, settle, pairs_after}
use Rattle.method.specs.Step.{first_wanted}
use Rattle.method.proofs.Counted.{Counted, counted_most}
use Rattle.method.proofs.Sinces.{SameSince, rows_and_pairs}

-- What node n's turn from point start on has to see: the stamps from the point before on, and its children's variables, counts and rows where these points consult them.
pub record InputsAgree (v : Inputs) (l : Log) (F : ℕ → Formula) (n : Node) (start : Point) : Type 0 where
  pub stamps : (j : Point) → start.0 ≤ suc j.0 → j.0 < size l → v.stamps j ≡ time l j
  pub variables : v.free ≡ (λ y. free (F y))
  pub counts : (y : ℕ) → Memᴰ y (children_of n) → Counted l (F y) (v.count y)
  pub rows : (y : ℕ) → Memᴰ y (children_of n) → (j : Point) → (first_wanted (view_of n).times start.0).0 ≤ j.0 → j.0 < v.count y → v.rows y j ≡ vals l (F y) j

-- a child's rows, asked for a row
found_among : (v : Inputs) (l : Log) (F : ℕ → Formula) (a : ℕ) (k : Point) → Fine (F a) → v.free ≡ (λ y. free (F y)) → v.rows a k ≡ vals l (F a) k → (u : List ℕ) → found v a u k ≡ among (free (F a)) (vals l (F a)) u k
found_among v l F a k f e r u =
    rw (e, r) (look-member (lowest_of (free (F a))) (cut_to (free (F a)) (valuation_of u)) (vals l (F a) k) (rows_length l (F a) f k) (ascends l (F a) f k))

-- until over fewer points, where the others are past the window's end
pub until_cut : (τ τ' : Point → Stamp) (m n : ℕ) (w : Window) (left left' : List ℕ → Point → Bool) (right right' : Point → List (List ℕ)) (i : Point)
    → i.0 ≤ m → m ≤ n
    → ((j : Point) → i.0 ≤ j.0 → j.0 < n → τ j ≡ τ' j) → i.0 < n
    → ((j : Point) → m ≤ j.0 → j.0 < n → in_window w (elapsed (τ' i) (τ' j)) ≡ false)
    → ((j : Point) → i.0 ≤ j.0 → j.0 < m → (u : List ℕ) → left u j ≡ left' u j)
    → ((j : Point) → i.0 ≤ j.0 → j.0 < m → right j ≡ right' j)
    → until_rows τ m w left right i ≡ until_rows τ' n w left' right' i
until_cut τ τ' m n w left left' right right' i a b t here past p q =
    gather_same (λ j. in_window w (elapsed (τ i) (τ j))) chosen (leading left right i) (leading left' right' i) i.0 (m - i.0)
    (λ j u o. ap₂ (λ s s'. in_window w (elapsed s s')) (t i (omega arith) here) (t j u (omega arith)))
    (λ j u o h. select_same _ _ (right j) (λ x. all_same (left x) (left' x) i.0 (j.0 - i.0) (λ k m' y. p k m' (omega arith) x)) ∙ ap (select (λ x. all (left' x) (points_from i (j.0 - i.0)))) (q j u (omega arith)))
    ∙ ap (gather (leading left' right' i)) (sym more)
  where
    chosen : Point → Bool
    chosen j = in_window w (elapsed (τ' i) (τ' j))

    more : select chosen (points_from i (n - i.0)) ≡ select chosen (points_from i (m - i.0))
    more =
        let e : n - i.0 ≡ (m - i.0) + (n - m) = omega arith in
        rw (e, points_from_append i (m - i.0) (n - m), select_append chosen)
        (rw (select_none chosen (i.0 + (m - i.0)) (n - m) (λ j u o. past j (omega arith) (omega arith))) (append-nil _))

-- until at a settled point, over a test of the children that m points pass
settle_until : (l : Log) (τ : Point → Stamp) (w : Window) (c : Point → Bool) (m : ℕ) (left left' : List ℕ → Point → Bool) (right right' : Point → List (List ℕ)) (i : Point)
    → 0 < w.end → ((j : Point) → c j ≡ ltb j.0 m) → m ≤ size l → settled_until l w c i ≡ true
    → ((j : Point) → i.0 ≤ j.0 → j.0 < size l → τ j ≡ time l j)
    → ((j : Point) → i.0 ≤ j.0 → j.0 < m → (u : List ℕ) → left u j ≡ left' u j)
    → ((j : Point) → i.0 ≤ j.0 → j.0 < m → right j ≡ right' j)
    → until_rows τ m w left right i ≡ until_rows (time l) (size l) w left' right' i
settle_until l τ w c m left left' right right' i d counted most e t p q = go (until_parts l w c i e)
  where
    inner : UntilSettled l w c i → (j : Point) → i.0 ≤ j.0 → j.0 < size l → (time l j).0 < (time l i).0 + w.end → j.0 < m
    inner s j u o h = ltb-true j.0 m (sym (counted j) ∙ s.inner j u o h)

    past : UntilSettled l w c i → (j : Point) → m ≤ j.0 → i.0 ≤ j.0 → j.0 < size l → Tested (ltb (time l j).0 ((time l i).0 + w.end)) → in_window w (elapsed (time l i) (time l j)) ≡ false
    past s j u v o (passed h) = absurd (omega (arith, inner s j v o (ltb-true (time l j).0 ((time l i).0 + w.end) h)))
    past s j u v o (failed h) = let k : (time l i).0 + w.end ≤ (time l j).0 = ltb-false (time l j).0 ((time l i).0 + w.end) h in past_end w (elapsed (time l i) (time l j)) d (omega arith)

    go : UntilSettled l w c i → until_rows τ m w left right i ≡ until_rows (time l) (size l) w left' right' i
    go s =
        let z : i.0 < m = inner s i (omega arith) s.here (omega arith) in
        until_cut τ (time l) m (size l) w left left' right right' i (omega arith) most t s.here
        (λ j u o. past s j u (omega arith) o (tested (ltb (time l j).0 ((time l i).0 + w.end)))) p q

twin_counted : (l : Log) (a b : Formula) (m n : ℕ) → Counted l a m → Counted l b n → (j : Point) → twin l a b j ≡ ltb j.0 (min m n)
twin_counted l a b m n p q j = rw (p j, q j) (go (tested (ltb j.0 m)) (tested (ltb j.0 n)))
  where
    go : Tested (ltb j.0 m) → Tested (ltb j.0 n) → (ltb j.0 m && ltb j.0 n) ≡ ltb j.0 (min m n)
    go (passed x) (passed y) = rw (x, y) (sym (lt-ltb j.0 (min m n) (omega (arith, ltb-true j.0 m x, ltb-true j.0 n y))))
    go (passed x) (failed y) = rw (x, y) (sym (le-ltb j.0 (min m n) (omega (arith, ltb-false j.0 n y))))
    go (failed x) y = rw x (sym (le-ltb j.0 (min m n) (omega (arith, ltb-false j.0 m x))))

-- a settled point is below the count
below : (l : Log) (φ : Formula) (c : ℕ) → Counted l φ c → (j : Point) → settled l φ j ≡ true → j.0 < c
below l φ c h j e = ltb-true j.0 c (sym (h j) ∙ e)

-- the pairs of the point before, none at the first
abbrev pub pairs_before : Log → Formula → Point → List (List ℕ)
pairs_before l φ i = cond (eqb i.0 0) [] (pairs l φ (point_before i))

-- the first and the second of some children
pub one : {y : ℕ} {ys : List ℕ} → Memᴰ y (y ∷ ys)
one = Memᴰ.head refl

pub two : {x y : ℕ} {ys : List ℕ} → Memᴰ y (x ∷ y ∷ ys)
two = Memᴰ.tail (Memᴰ.head refl)

module _ (v : Inputs) (l : Log) (ordered : Ordered l) (F : ℕ → Formula) (start i : Point) (from : start.0 ≤ i.0) where
  -- the rows of a child at a point that is consulted and settled
  seen : (n : Node) → InputsAgree v l F n start → (y : ℕ) → Memᴰ y (children_of n) → (j : Point) → (first_wanted (view_of n).times start.0).0 ≤ j.0 → settled l (F y) j ≡ true → v.rows y j ≡ vals l (F y) j
  seen n s y m j u e = s.rows y m j u (below l (F y) (v.count y) (s.counts y m) j e)

  -- until over two children, with a test of left that is the same
  settle_two : (n : Node) → InputsAgree v l F n start → (a b : ℕ) → Memᴰ a (children_of n) → Memᴰ b (children_of n) → (first_wanted (view_of n).times start.0).0 ≡ start.0 → (w : Window) → 0 < w.end
      → settled_until l w (twin l (F a) (F b)) i ≡ true → (left left' : List ℕ → Point → Bool)
      → ((j : Point) → v.rows a j ≡ vals l (F a) j → (u : List ℕ) → left u j ≡ left' u j)
      → until_rows v.stamps (min (v.count a) (v.count b)) w left (v.rows b) i ≡ until_rows (time l) (size l) w left' (vals l (F b)) i
  settle_two n s a b ma mb first w d e left left' same =
      let p : v.count a ≤ size l = counted_most l (F a) (v.count a) (s.counts a ma) in
      settle_until l v.stamps w (twin l (F a) (F b)) (min (v.count a) (v.count b)) left left' (v.rows b) (vals l (F b)) i d
      (twin_counted l (F a) (F b) (v.count a) (v.count b) (s.counts a ma) (s.counts b mb)) (omega arith) e
      (λ j u o. s.stamps j (omega arith) o)
      (λ j u o. same j (s.rows a ma j (omega arith) (omega arith)))
      (λ j u o. s.rows b mb j (omega arith) (omega arith))

  -- since over two children, with a test of left that is the same
  sees_two : (n : Node) → InputsAgree v l F n start → (a b : ℕ) → Memᴰ a (children_of n) → Memᴰ b (children_of n) → (first_wanted (view_of n).times start.0).0 ≡ start.0 → i.0 < size l
      → settled_since (twin l (F a) (F b)) i ≡ true → (left left' : List ℕ → Point → Bool)
      → ((j : Point) → v.rows a j ≡ vals l (F a) j → (u : List ℕ) → left u j ≡ left' u j)
      → SameSince v.stamps (time l) left left' (v.rows b) (vals l (F b)) start i
  sees_two n s a b ma mb wanted here e left left' same =
      record {
        order = from;
        stamps = λ j u o. s.stamps j u (omega arith);
        lefts = λ j u o. same j (seen n s a ma j (omega arith) (first (settled l (F a) j) (settled l (F b) j) (since_each (twin l (F a) (F b)) i e j o)));
        rights = λ j u o. seen n s b mb j (omega arith) (second (settled l (F a) j) (settled l (F b) j) (since_each (twin l (F a) (F b)) i e j o));
      }

  sees_since : (a b : ℕ) (w : Window) → InputsAgree v l F (Since a b w) start → Fine (formula_of F (Since a b w)) → settled l (formula_of F (Since a b w)) i ≡ true
      → SameSince v.stamps (time l) (found v a) (among (free (F a)) (vals l (F a))) (v.rows b) (vals l (F b)) start i
  sees_since a b w s f e = sees_two (Since a b w) s a b one two refl (present l (formula_of F (Since a b w)) i e) e _ _ (λ j. found_among v l F a j f.0 s.variables)

  sees_not_since : (a b : ℕ) (w : Window) → InputsAgree v l F (NotSince a b w) start → Fine (formula_of F (NotSince a b w)) → settled l (formula_of F (NotSince a b w)) i ≡ true
      → SameSince v.stamps (time l) (λ u k. not (found v a u k)) (λ u k. not (among (free (F a)) (vals l (F a)) u k)) (v.rows b) (vals l (F b)) start i
  sees_not_since a b w s f e = sees_two (NotSince a b w) s a b one two refl (present l (formula_of F (NotSince a b w)) i e) e _ _ (λ j p u. ap not (found_among v l F a j f.0 s.variables p u))

  sees_once : (a : ℕ) (w : Window) → InputsAgree v l F (Once a w) start → settled l (formula_of F (Once a w)) i ≡ true
      → SameSince v.stamps (time l) (λ u k. true) (λ u k. true) (v.rows a) (vals l (F a)) start i
  sees_once a w s e =
      record {
        order = from;
        stamps = λ j u o. s.stamps j u (omega (arith, present l (formula_of F (Once a w)) i e));
        lefts = λ j u o x. refl;
        rights = λ j u o. seen (Once a w) s a one j u (since_each (settled l (F a)) i e j o);
      }

  -- the valuations and the pairs of each kind
  pub settle_right : (n : Node) → InputsAgree v l F n start → Fine (formula_of F n) → settled l (formula_of F n) i ≡ true → (children_of n ≡ [] → (r : ℕ) → v.event r ≡ rows_at l r i)
      → (settle v (lowest_of (free (formula_of F n))) (pairs_before l (formula_of F n) start) start i n ≡ vals l (formula_of F n) i)
      × (pairs_after v (lowest_of (free (formula_of F n))) (pairs_before l (formula_of F n) start) start i (view_of n) ≡ pairs l (formula_of F n) i)
  unfolding settle
  settle_right (Atom r t) s f e h = (ap (λ rows. set_of (lowest_of (free (formula_of F (Atom r t)))) (atom_rows (terms_of t) rows)) (h refl r), refl)
  settle_right (And a b) s f e h = (
    rw (s.variables, seen (And a b) s a one i (omega arith) (first (settled l (F a) i) (settled l (F b) i) e), seen (And a b) s b two i (omega arith) (second (settled l (F a) i) (settled l (F b) i) e)),
    refl,
  )
  settle_right (AndNot a b) s f e h =
      let p : v.rows b i ≡ vals l (F b) i = seen (AndNot a b) s b two i (omega arith) (second (settled l (F a) i) (settled l (F b) i) e) in (
        ap (set_of (lowest_of (free (F a))))
            (select_same _ _ (v.rows a i) (λ u. ap not (found_among v l F b i f.1 s.variables p u))
            ∙ ap (select (λ u. not (among (free (F b)) (vals l (F b)) u i))) (seen (AndNot a b) s a one i (omega arith) (first (settled l (F a) i) (settled l (F b) i) e))),
        refl,
      )
  settle_right (Keep a c t) s f e h = (rw (seen (Keep a c t) s a one i (omega arith) e), refl)
  settle_right (Or a b) s f e h = (
    rw (seen (Or a b) s a one i (omega arith) (first (settled l (F a) i) (settled l (F b) i) e), seen (Or a b) s b two i (omega arith) (second (settled l (F a) i) (settled l (F b) i) e)),
    refl,
  )
  settle_right (Exists a x) s f e h = (rw (seen (Exists a x) s a one i (omega arith) e), refl)
  settle_right (Previous a w) s f e h = (ap (set_of (lowest_of (free (F a)))) (go (tested (ltb 0 i.0))), refl)
    where
      n : i.0 < size l
      n = present l (formula_of F (Previous a w)) i e

      go : Tested (ltb 0 i.0) → cond (ltb 0 i.0 && in_window w (elapsed (v.stamps (point_before i)) (v.stamps i))) (v.rows a (point_before i)) [] ≡ cond (ltb 0 i.0 && in_window w (elapsed (time l (point_before i)) (time l i))) (vals l (F a) (point_before i)) []
      go (passed p) =
          let z : 0 < i.0 = ltb-true 0 i.0 p in
          let c : settled l (F a) (point_before i) ≡ true = rw (ne_eqb i.0 0 (λ y. omega arith)) at (second (ltb i.0 (size l)) (eqb i.0 0 || settled l (F a) (point_before i)) e) in
          rw (s.stamps (point_before i) (omega arith) (omega (arith, n)), s.stamps i (omega arith) n, seen (Previous a w) s a one (point_before i) (omega arith) c)
      go (failed p) = rw p
  settle_right (Next a w) s f e h =
      let n : suc i.0 < size l = present l (F a) (point_after i) e in
      (rw (lt-ltb (suc i.0) (size l) n, s.stamps i (omega arith) (omega arith), s.stamps (point_after i) (omega arith) n, seen (Next a w) s a one (point_after i) (omega arith) e), refl)
  settle_right (Since a b w) s f e h = rows_and_pairs (lowest_of (free (F b))) l ordered w (sees_since a b w s f e) (rows_length l (F b) f.1) (present l (formula_of F (Since a b w)) i e)
  settle_right (NotSince a b w) s f e h = rows_and_pairs (lowest_of (free (F b))) l ordered w (sees_not_since a b w s f e) (rows_length l (F b) f.1) (present l (formula_of F (NotSince a b w)) i e)
  settle_right (Until a b w) s f e h = (
    ap (set_of (lowest_of (free (F b)))) (settle_two (Until a b w) s a b one two refl w f.3 e (found v a) (among (free (F a)) (vals l (F a))) (λ j p. found_among v l F a j f.0 s.variables p)),
    refl,
  )
  settle_right (NotUntil a b w) s f e h = (
    ap (set_of (lowest_of (free (F b)))) (settle_two (NotUntil a b w) s a b one two refl w f.3 e (λ u k. not (found v a u k)) (λ u k. not (among (free (F a)) (vals l (F a)) u k)) (λ j p u. ap not (found_among v l F a j f.0 s.variables p u))),
    refl,
  )
  settle_right (Once a w) s f e h = rows_and_pairs (lowest_of (free (F a))) l ordered w (sees_once a w s e) (rows_length l (F a) f) (present l (formula_of F (Once a w)) i e)
  settle_right (Eventually a w) s f e h = (
    ap (set_of (lowest_of (free (F a))))
        (settle_until l v.stamps w (settled l (F a)) (v.count a) (λ u k. true) (λ u k. true) (v.rows a) (vals l (F a)) i f.1 (s.counts a one)
        (counted_most l (F a) (v.count a) (s.counts a one)) e (λ j u o. s.stamps j (omega arith) o) (λ j u o x. refl) (λ j u o. s.rows a one j (omega arith) o)),
    refl,
  )
