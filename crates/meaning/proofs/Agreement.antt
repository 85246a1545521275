-- The evaluator agrees with Definition 2 at every point of every log: its rows are the valuations that satisfy the formula, cut down to the free variables, each once, in order.
use Prim.Native.Nat.{ℕ, suc, ◌+◌, ◌-◌, ◌≤◌, ◌<◌}
use mathlib.Core.Path.{◌≡◌, refl, sym, ◌∙◌, ap}
use mathlib.Core.Bool.{Bool, true, false, not, cond, ◌&&◌, ◌||◌, and-eq-true_iff, or-true, true≢false, false≢true}
use mathlib.Core.Logic.Iff
use mathlib.Core.Logic.{◌↔◌, ◌⊎◌, inl, inr}
use mathlib.Core.List.Memᴰ
use mathlib.Core.List.{List, [], ◌∷◌, ◌++◌, map, Memᴰ}
use lib.ListN.{length, get_or}
use lib.Dec.{ltb, eqb}
use borrow.Author.Tests.{ltb-true, eqb-true, lt-ltb, eq-eqb}
use native.Mathlib.Omega.{arith}
use Rattle.meaning.specs.Lists.{all, any, select}
use Rattle.meaning.specs.Log.{Log, size, time, rows_at, elapsed, point, point_before, point_after, points_from}
use Rattle.meaning.specs.Formula.{Formula, atom, and, and_not, keep, or, exists, previous, next, since, not_since, until, not_until, once, eventually, in_window, compares, is_variable, free, lowest_of, variables, within, term_within}
use Rattle.meaning.specs.Definition2.{Valuation, value, replaced, Since, Until, Holds}
use Rattle.meaning.specs.Order.{ascending, OfLength}
use Rattle.meaning.specs.Evaluator.{cut_to, valuation_of, set_of, bound, matches, atom_rows, agrees, joined, and_rows, lasting, since_rows, leading, until_rows, among, vals}
use Rattle.meaning.specs.Exact.{Gives, Exact}
use Rattle.meaning.specs.declared.Point.{Point}
use Rattle.meaning.specs.declared.Term.{Term}
use Rattle.meaning.specs.declared.Term.TheVariants.{Variable, Constant}
use Rattle.meaning.specs.declared.Window.{Window}
use Rattle.meaning.proofs.Fine.{Fine, named}
use Rattle.meaning.proofs.Rows.{either, both_ways, neither, denied, any_at, all_at, all_of, cond_at, cond_of, select_at, select_of, gather_at, gather_of, points_at, points_of_lem, all_points, same_row_lem, member-row, variables_of, variables_at, words_same, words_at, word_at_lem, words_equal, cut_at, set_of-mem, set_of_ascends}

-- Valuations cut down to some variables.
within_at : (f g : ℕ → Bool) → within f g ≡ true → (x : ℕ) → x < 4 → f x ≡ true → g x ≡ true
within_at f g w x h e = rw e at (all_at (λ y. not (f y) || g y) (variables_of h) w)

cut_same : (f : ℕ → Bool) {v v' : Valuation} → ((x : ℕ) → x < 4 → f x ≡ true → v x ≡ v' x) → cut_to f v ≡ cut_to f v'
cut_same f {v} {v'} h = words_same (λ x k. go x (f x) (h x k))
  where
    go : (x : ℕ) (t : Bool) → (t ≡ true → v x ≡ v' x) → cond t (v x) 0 ≡ cond t (v' x) 0
    go x true e = e refl
    go x false e = refl

-- a row of four words that is 0 outside f is cut down to f
cut_of : (f : ℕ → Bool) (h : ℕ → ℕ) {u : List ℕ} → u ≡ map h variables → ((x : ℕ) → x < 4 → f x ≡ false → h x ≡ 0) → u ≡ cut_to f (valuation_of u)
cut_of f h {u} e blank = e ∙ words_same (λ x k. go x (f x) (blank x k) (word_at_lem h e x k))
  where
    go : (x : ℕ) (t : Bool) → (t ≡ false → h x ≡ 0) → get_or u x 0 ≡ h x → h x ≡ cond t (get_or u x 0) 0
    go x true b g = sym g
    go x false b g = b refl

cut-within : (f g : ℕ → Bool) (v : Valuation) → within f g ≡ true → cut_to f (valuation_of (cut_to g v)) ≡ cut_to f v
cut-within f g v w = cut_same f (λ x h e. cut_at g v x h (within_at f g w x h e))

cut_both : (f g : ℕ → Bool) (v : Valuation) → within f g ≡ true → within g f ≡ true → cut_to f v ≡ cut_to g v
cut_both f g v a b = words_same (λ x h. let e : f x ≡ g x = both_ways (f x) (g x) (within_at f g a x h) (within_at g f b x h) in ap (λ (t : Bool). cond t (v x) 0) e)

module _ {f : ℕ → Bool} {H : Valuation → Type 0} {rows : List (List ℕ)} (g : Gives f H rows) where
  pub gives_length : OfLength 4 rows
  gives_length u m = ap length (g.cut u m)

  -- H looks at a valuation only at the variables of f
  pub gives_looks : {v v' : Valuation} → ((x : ℕ) → x < 4 → f x ≡ true → v x ≡ v' x) → H v → H v'
  gives_looks {v} {v'} h k = (g.same v').0 (rw (cut_same f h) at ((g.same v).1 k))

  exact_set : Exact f H (set_of (lowest_of f) rows)
  exact_set = record { gives = record { cut = λ u m. g.cut u ((stays u).0 m); same = λ v. Iff.trans (stays (cut_to f v)) (g.same v) }; ascends = set_of_ascends (lowest_of f) rows }
    where
      stays : (u : List ℕ) → Memᴰ u (set_of (lowest_of f) rows) ↔ Memᴰ u rows
      stays = set_of-mem (lowest_of f) rows gives_length

-- What each kind makes of its children's rows; first, some of left's rows, or all of them on a condition.
module _ {f : ℕ → Bool} {H : Valuation → Type 0} {rows : List (List ℕ)} (e : Exact f H rows) where
  gives_select : (p : List ℕ → Bool) {K : Valuation → Type 0} → ((v : Valuation) → (p (cut_to f v) ≡ true) ↔ K v) → Gives f (λ v. H v × K v) (select p rows)
  gives_select p h =
      record {
        cut = λ u m. e.gives.cut u (select_at p rows m).0;
        same = λ v. (λ m. let (a, b) = select_at p rows m in ((e.gives.same v).0 a, (h v).0 b), λ k. select_of p ((e.gives.same v).1 k.0) ((h v).1 k.1));
      }

  gives_cond : (s t : Bool) {S : Type 0} → (s ≡ true) ↔ S → Gives f (λ v. S × (t ≡ true) × H v) (cond (s && t) rows [])
  gives_cond s t h =
      record {
        cut = λ u m. e.gives.cut u (cond_at (s && t) rows m).1;
        same = λ v. (
          λ m. let (a, b) = cond_at (s && t) rows m in let (c, d) = (and-eq-true_iff s t).0 a in (h.0 c, d, (e.gives.same v).0 b),
          λ k. cond_of (s && t) ((and-eq-true_iff s t).1 (h.1 k.0, k.1)) ((e.gives.same v).1 k.2),
        );
      }

  -- "or": both children's rows
  pub gives_or : {g : ℕ → Bool} {K : Valuation → Type 0} {others : List (List ℕ)} → Exact g K others → within f g ≡ true → within g f ≡ true → Gives f (λ v. H v ⊎ K v) (rows ++ others)
  gives_or {g} {K} {others} e' a b =
      record {
        cut = λ u m. elim (Memᴰ.append_cases rows m) [ inl k ↦ e.gives.cut u k | inr k ↦ e'.gives.cut u k ∙ sym (cut_both f g (valuation_of u) a b) ];
        same = λ v. (
          λ m. elim (Memᴰ.append_cases rows m) [ inl k ↦ inl ((e.gives.same v).0 k) | inr k ↦ inr ((e'.gives.same v).0 (Memᴰ.cast (sym (cut_both f g v a b)) k)) ],
          λ k. elim k [ inl h ↦ Memᴰ.append_left others ((e.gives.same v).1 h) | inr h ↦ Memᴰ.append_right rows (Memᴰ.cast (cut_both f g v a b) ((e'.gives.same v).1 h)) ],
        );
      }

-- "exists": a row without a variable's word
module _ {f : ℕ → Bool} {H : Valuation → Type 0} {rows : List (List ℕ)} (e : Exact f H rows) (x : ℕ) where
  pub gives_exists : Gives (λ y. f y && not (eqb y x)) (λ v. (d : ℕ) × H (replaced v x d)) (map (λ u. cut_to (λ y. not (eqb y x)) (valuation_of u)) rows)
  gives_exists =
      record {
        cut = λ r m. let (u, n, d) = Memᴰ.of_map without rows m in cut_of (λ y. f y && not (eqb y x)) (rest u) (sym d) (λ y k b. blank (f y) (not (eqb y x)) b (word_at_lem (λ z. cond (f z) (valuation_of u z) 0) (e.gives.cut u n) y k));
        same = λ v. (
          λ m. let (u, n, d) = Memᴰ.of_map without rows m in
              let words = words_equal (λ y. cond (f y && not (eqb y x)) (v y) 0) (rest u) (sym d) in
              (get_or u x 0, (e.gives.same (replaced v x (get_or u x 0))).0 (Memᴰ.cast (cut_same f (λ y k b. found u y b (v y) (eqb y x) refl (words y k)) ∙ sym (e.gives.cut u n)) n)),
          λ (d, h). Memᴰ.cast (words_same (λ y k. stays (f y) (eqb y x) d (v y) (words_at (λ z. cond (f z) (replaced v x d z) 0) y k))) (Memᴰ.map without ((e.gives.same (replaced v x d)).1 h)),
        );
      }
    where
      without : List ℕ → List ℕ
      without u = cut_to (λ y. not (eqb y x)) (valuation_of u)

      rest : List ℕ → ℕ → ℕ
      rest u y = cond (not (eqb y x)) (get_or u y 0) 0

      blank : (p q : Bool) {a : ℕ} → p && q ≡ false → a ≡ cond p a 0 → cond q a 0 ≡ 0
      blank p false h k = refl
      blank true true h k = absurd (true≢false h)
      blank false true h k = k

      found : (u : List ℕ) (y : ℕ) → f y ≡ true → (a : ℕ) (t : Bool) → eqb y x ≡ t → cond (f y && not t) a 0 ≡ cond (not t) (get_or u y 0) 0 → cond t (get_or u x 0) a ≡ get_or u y 0
      found u y b a true h k = ap (λ (z : ℕ). get_or u z 0) (sym (eqb-true y x h))
      found u y b a false h k = rw b at k

      stays : (p t : Bool) (d c : ℕ) {a : ℕ} → a ≡ cond p (cond t d c) 0 → cond (p && not t) c 0 ≡ cond (not t) a 0
      stays true true d c h = refl
      stays true false d c h = sym h
      stays false true d c h = refl
      stays false false d c h = sym h

-- "and": two rows that agree, joined
module _ {f g : ℕ → Bool} {H K : Valuation → Type 0} {lefts rights : List (List ℕ)} (e : Exact f H lefts) (e' : Exact g K rights) where
  and_at : {r : List ℕ} → Memᴰ r (and_rows f g lefts rights) → (u t : List ℕ) × Memᴰ u lefts × Memᴰ t rights × (agrees f g u t ≡ true) × (r ≡ joined f u t)
  and_at m =
      let (u, n, k) = gather_at (λ u. map (joined f u) (select (agrees f g u) rights)) lefts m in
      let (t, a, d) = Memᴰ.of_map (joined f u) (select (agrees f g u) rights) k in
      let (b, c) = select_at (agrees f g u) rights a in
      (u, t, n, b, c, sym d)

  and_of : {u t : List ℕ} → Memᴰ u lefts → Memᴰ t rights → agrees f g u t ≡ true → Memᴰ (joined f u t) (and_rows f g lefts rights)
  and_of {u} m n a = gather_of (λ z. map (joined f z) (select (agrees f g z) rights)) m (Memᴰ.map (joined f u) (select_of (agrees f g u) n a))

  pub gives_and : Gives (λ x. f x || g x) (λ v. H v × K v) (and_rows f g lefts rights)
  gives_and =
      record {
        cut = λ r m. let (u, t, a, b, c, d) = and_at m in cut_of (λ x. f x || g x) (word u t) d (λ x k h. let (p, q) = neither (f x) (g x) h in rw p (word_at_lem (λ y. cond (g y) (valuation_of t y) 0) (e'.gives.cut t b) x k ∙ rw q));
        same = λ v. (
          λ m. let (u, t, a, b, c, d) = and_at m in
              let words = words_equal (λ x. cond (f x || g x) (v x) 0) (word u t) d in (
                (e.gives.same v).0 (Memᴰ.cast (cut_same f (λ x k h. rw h at (words x k)) ∙ sym (e.gives.cut u a)) a),
                (e'.gives.same v).0 (Memᴰ.cast (cut_same g (λ x k h. right (f x) (g x) h (get_or u x 0) (get_or t x 0) (v x) (words x k) (all_at (meets u t) (variables_of k) c)) ∙ sym (e'.gives.cut t b)) b),
              ),
          λ h. let at : (p : ℕ → Bool) (x : ℕ) → x < 4 → get_or (cut_to p v) x 0 ≡ cond (p x) (v x) 0 = λ p. words_at (λ y. cond (p y) (v y) 0) in
              let meet = all_of (meets (cut_to f v) (cut_to g v)) variables (λ x m. equal (f x) (g x) (v x) (at f x (variables_at m)) (at g x (variables_at m))) in
              Memᴰ.cast (words_same (λ x k. whole (f x) (g x) (v x) (at f x k) (at g x k))) (and_of ((e.gives.same v).1 h.0) ((e'.gives.same v).1 h.1) meet),
        );
      }
    where
      word : List ℕ → List ℕ → ℕ → ℕ
      word u t x = cond (f x) (get_or u x 0) (get_or t x 0)

      meets : List ℕ → List ℕ → ℕ → Bool
      meets u t x = not (f x && g x) || eqb (get_or u x 0) (get_or t x 0)

      right : (p q : Bool) → q ≡ true → (a b c : ℕ) → cond (p || q) c 0 ≡ cond p a b → not (p && q) || eqb a b ≡ true → c ≡ b
      right p false h a b c k s = absurd (false≢true h)
      right true true h a b c k s = k ∙ eqb-true a b s
      right false true h a b c k s = k

      whole : (p q : Bool) {a b : ℕ} (c : ℕ) → a ≡ cond p c 0 → b ≡ cond q c 0 → cond (p || q) c 0 ≡ cond p a b
      whole true q c h k = sym h
      whole false q c h k = sym k

      equal : (p q : Bool) {a b : ℕ} (c : ℕ) → a ≡ cond p c 0 → b ≡ cond q c 0 → not (p && q) || eqb a b ≡ true
      equal true true {a} {b} c h k = eq-eqb a b (h ∙ sym k)
      equal true false c h k = refl
      equal false q c h k = refl

-- atoms: the value that a row's columns give to a variable
variable_value : (v : Valuation) (x : ℕ) (t : Term) → is_variable x t ≡ true → value v t ≡ v x
variable_value v x (Variable y) e = ap v (sym (eqb-true x y e))
variable_value v x (Constant c) e = absurd (false≢true e)

bound_at : (v : Valuation) (x : ℕ) (ts : List Term) → bound ts (map (value v) ts) x ≡ cond (any (is_variable x) ts) (v x) 0
bound_at v x [] = refl
bound_at v x (t ∷ ts) = go (bound_at v x ts) (is_variable x t) refl
  where
    go : bound ts (map (value v) ts) x ≡ cond (any (is_variable x) ts) (v x) 0 → (p : Bool) → is_variable x t ≡ p → cond p (value v t) (bound ts (map (value v) ts) x) ≡ cond (p || any (is_variable x) ts) (v x) 0
    go rest true e = variable_value v x t e
    go rest false e = rest

values_same : (ts : List Term) {v v' : Valuation} → ((x : ℕ) → any (is_variable x) ts ≡ true → v x ≡ v' x) → map (value v) ts ≡ map (value v') ts
values_same [] h = refl
values_same (Variable y ∷ ts) h = λ i. h y (rw (eq-eqb y y refl)) i ∷ values_same ts (λ x k. h x (rw k (or-true (eqb x y)))) i
values_same (Constant c ∷ ts) h = λ i. c ∷ values_same ts h i

named_below : (ts : List Term) → all named ts ≡ true → (x : ℕ) → any (is_variable x) ts ≡ true → x < 4
named_below ts h x e = let (t, m, k) = any_at (is_variable x) ts e in go t (all_at named m h) k
  where
    go : (t : Term) → named t ≡ true → is_variable x t ≡ true → x < 4
    go (Variable y) a b = omega (arith, ltb-true y 4 a, eqb-true x y b)
    go (Constant c) a b = absurd (false≢true b)

module _ (ts : List Term) (fine : all named ts ≡ true) (rows : List (List ℕ)) where
  matches-row : (row : List ℕ) → (matches ts row ≡ true) ↔ (map (value (bound ts row)) ts ≡ row)
  matches-row row = same_row_lem (map (value (bound ts row)) ts) row

  pub gives_atom : Gives (λ x. any (is_variable x) ts) (λ v. Memᴰ (map (value v) ts) rows) (atom_rows ts rows)
  gives_atom =
      record {
        cut = λ u m. let (row, n, d) = Memᴰ.of_map columns (select (matches ts) rows) m in
            let b : map (value (bound ts row)) ts ≡ row = (matches-row row).0 (select_at (matches ts) rows n).1 in
            cut_of (λ x. any (is_variable x) ts) (bound ts row) (sym d) (λ x k h. ap (λ (c : List ℕ). bound ts c x) (sym b) ∙ bound_at (bound ts row) x ts ∙ rw h);
        same = λ v. (
          λ m. let (row, n, d) = Memᴰ.of_map columns (select (matches ts) rows) m in
              let (c, t) = select_at (matches ts) rows n in
              Memᴰ.cast (values_same ts (λ x h. sym (words_equal (bound ts row) (λ y. cond (any (is_variable y) ts) (v y) 0) d x (named_below ts fine x h) ∙ rw h)) ∙ (matches-row row).0 t) c,
          λ m. let matched = (matches-row (map (value v) ts)).1 (values_same ts (λ x h. bound_at v x ts ∙ rw h)) in
              Memᴰ.cast (words_same (λ x k. sym (bound_at v x ts))) (Memᴰ.map columns (select_of (matches ts) m matched)),
        );
      }
    where
      columns : List ℕ → List ℕ
      columns row = map (bound ts row) variables

-- A child asked at a row says what the child means at the row's valuation.
module _ {f : ℕ → Bool} (g : ℕ → Bool) {H : Valuation → Point → Type 0} {rows : Point → List (List ℕ)} (e : (k : Point) → Exact f (λ v. H v k) (rows k)) (w : within f g ≡ true) where
  pub asked_holds : (v : Valuation) (k : Point) → (among f rows (cut_to g v) k ≡ true) ↔ H v k
  asked_holds v k = Iff.trans (member-row (cut_to f (valuation_of (cut_to g v))) (rows k)) (rw (cut-within f g v w) ((e k).gives.same v))

  pub asked_denied : (v : Valuation) (k : Point) → (not (among f rows (cut_to g v) k) ≡ true) ↔ (H v k → ⊥)
  asked_denied v k = denied (among f rows (cut_to g v) k) (asked_holds v k)

pub asked_always : (v : Valuation) (k : Point) → (true ≡ true) ↔ Unit {0}
asked_always v k = (λ e. tt, λ t. refl)

-- Since and until, over a test of left and the rows of right: what they say at a row.
module _ (left : List ℕ → Point → Bool) (right : Point → List (List ℕ)) (u : List ℕ) {L R : Point → Type 0}
    (asked : (k : Point) → (left u k ≡ true) ↔ L k) (found : (j : Point) → Memᴰ u (right j) ↔ R j) where
  -- left passes at each of the points
  left_mem : (from count : ℕ) (j : Point) → Memᴰ u (select (λ t. all (left t) (points_from (point from) count)) (right j)) ↔ (R j × ((k : Point) → from ≤ k.0 → k.0 < from + count → L k))
  left_mem from count j = (
    λ m. let (a, b) = select_at passes (right j) m in ((found j).0 a, λ k c d. (asked k).0 ((all_points (left u) from count).0 b k c d)),
    λ h. select_of passes ((found j).1 h.0) ((all_points (left u) from count).1 (λ k c d. (asked k).1 (h.1 k c d))),
  )
    where
      passes : List ℕ → Bool
      passes t = all (left t) (points_from (point from) count)

  pub lasting-mem : (i j : Point) → Memᴰ u (lasting left right i j) ↔ (R j × ((k : Point) → suc j.0 ≤ k.0 → k.0 < suc i.0 → L k))
  lasting-mem i j = let h = left_mem (suc j.0) (i.0 - j.0) j in (λ m. let r = h.0 m in (r.0, λ k a b. r.1 k a (omega arith)), λ r. h.1 (r.0, λ k a b. r.1 k a (omega arith)))

  leading-mem : (i j : Point) → Memᴰ u (leading left right i j) ↔ (R j × ((k : Point) → i.0 ≤ k.0 → k.0 < j.0 → L k))
  leading-mem i j = let h = left_mem i.0 (j.0 - i.0) j in (λ m. let r = h.0 m in (r.0, λ k a b. r.1 k a (omega arith)), λ r. h.1 (r.0, λ k a b. r.1 k a (omega arith)))

  module _ (l : Log) (w : Window) (i : Point) where
    since_mem : Memᴰ u (since_rows (time l) w left right i) ↔ Since l w L R i
    since_mem = (
      λ m. let (j, n, k) = gather_at (lasting left right i) (select inside points) m in
          let (a, b) = select_at inside points n in
          let r = points_at 0 (suc i.0) a in
          let (c, d) = (lasting-mem i j).0 k in
          record { at = j; up_to = omega arith; inside = b; there = c; between = d },
      λ s. gather_of (lasting left right i) (select_of inside (points_of_lem 0 (suc i.0) (omega arith) (omega (arith, s.up_to))) s.inside) ((lasting-mem i s.at).1 (s.there, s.between)),
    )
      where
        inside : Point → Bool
        inside j = in_window w (elapsed (time l j) (time l i))

        points : List Point
        points = points_from (point 0) (suc i.0)

    until_mem : Memᴰ u (until_rows (time l) (size l) w left right i) ↔ Until l w L R i
    until_mem = (
      λ m. let (j, n, k) = gather_at (leading left right i) (select inside points) m in
          let (a, b) = select_at inside points n in
          let r = points_at i.0 (size l - i.0) a in
          let (c, d) = (leading-mem i j).0 k in
          record { at = j; from = omega arith; present = omega arith; inside = b; there = c; between = d },
      λ s. gather_of (leading left right i) (select_of inside (points_of_lem i.0 (size l - i.0) (omega (arith, s.from)) (omega (arith, s.from, s.present))) s.inside) ((leading-mem i s.at).1 (s.there, s.between)),
    )
      where
        inside : Point → Bool
        inside j = in_window w (elapsed (time l i) (time l j))

        points : List Point
        points = points_from i (size l - i.0)

module _ (l : Log) (w : Window) (left : List ℕ → Point → Bool) {f : ℕ → Bool} {L R : Valuation → Point → Type 0} {right : Point → List (List ℕ)}
    (e : (j : Point) → Exact f (λ v. R v j) (right j)) (asked : (v : Valuation) (k : Point) → (left (cut_to f v) k ≡ true) ↔ L v k) (i : Point) where
  gives_since : Gives f (λ v. Since l w (L v) (R v) i) (since_rows (time l) w left right i)
  gives_since =
      record {
        cut = λ u m. let s = (since_mem left right u (λ k. Iff.rfl) (λ j. Iff.rfl) l w i).0 m in (e s.at).gives.cut u s.there;
        same = λ v. since_mem left right (cut_to f v) (asked v) (λ j. (e j).gives.same v) l w i;
      }

  gives_until : Gives f (λ v. Until l w (L v) (R v) i) (until_rows (time l) (size l) w left right i)
  gives_until =
      record {
        cut = λ u m. let s = (until_mem left right u (λ k. Iff.rfl) (λ j. Iff.rfl) l w i).0 m in (e s.at).gives.cut u s.there;
        same = λ v. until_mem left right (cut_to f v) (asked v) (λ j. (e j).gives.same v) l w i;
      }

-- Free variables are among the four.
pub free_below : (φ : Formula) → Fine φ → (x : ℕ) → free φ x ≡ true → x < 4
free_below (atom r ts) h x e = named_below ts h x e
free_below (and a b) h x e = elim (either (free a x) (free b x) e) [ inl k ↦ free_below a h.0 x k | inr k ↦ free_below b h.1 x k ]
free_below (and_not a b) h x e = free_below a h.0 x e
free_below (keep a c s t) h x e = free_below a h.0 x e
free_below (or a b) h x e = free_below a h.0 x e
free_below (exists a y) h x e = free_below a h.0 x ((and-eq-true_iff (free a x) (not (eqb x y))).0 e).0
free_below (previous a w) h x e = free_below a h x e
free_below (next a w) h x e = free_below a h x e
free_below (since a b w) h x e = free_below b h.1 x e
free_below (not_since a b w) h x e = free_below b h.1 x e
free_below (until a b w) h x e = free_below b h.1 x e
free_below (not_until a b w) h x e = free_below b h.1 x e
free_below (once a w) h x e = free_below a h x e
free_below (eventually a w) h x e = free_below a h.0 x e

-- a term's value depends on its variable alone
term_at_lem : (f : ℕ → Bool) → ((x : ℕ) → f x ≡ true → x < 4) → (v : Valuation) (t : Term) → term_within t f ≡ true → value (valuation_of (cut_to f v)) t ≡ value v t
term_at_lem f below v (Variable x) e = cut_at f v x (below x e) e
term_at_lem f below v (Constant c) e = refl

-- The evaluator keeps the promises, for every formula that checking lets pass, at every point of every log.
pub exact : (l : Log) (φ : Formula) → Fine φ → (i : Point) → Exact (free φ) (λ v. Holds l φ v i) (vals l φ i)
exact l (atom r ts) h i = exact_set (gives_atom ts h (rows_at l r i))
exact l (and a b) h i = exact_set (gives_and (exact l a h.0 i) (exact l b h.1 i))
exact l (and_not a b) h i = exact_set (gives_select (exact l a h.0 i) (λ u. not (among (free b) (vals l b) u i)) (λ v. asked_denied (free a) (exact l b h.1) h.2 v i))
exact l (keep a c s t) h i =
    let at = term_at_lem (free a) (free_below a h.0) in
    exact_set (gives_select (exact l a h.0 i) (λ u. compares c (value (valuation_of u) s) (value (valuation_of u) t)) (λ v. rw (at v s h.1, at v t h.2) Iff.rfl))
exact l (or a b) h i = exact_set (gives_or (exact l a h.0 i) (exact l b h.1 i) h.2 h.3)
exact l (exists a x) h i = exact_set (gives_exists (exact l a h.0 i) x)
exact l (previous a w) h i = exact_set (gives_cond (exact l a h (point_before i)) (ltb 0 i.0) (in_window w (elapsed (time l (point_before i)) (time l i))) (ltb-true 0 i.0, lt-ltb 0 i.0))
exact l (next a w) h i = exact_set (gives_cond (exact l a h (point_after i)) (ltb (suc i.0) (size l)) (in_window w (elapsed (time l i) (time l (point_after i)))) (ltb-true (suc i.0) (size l), lt-ltb (suc i.0) (size l)))
exact l (since a b w) h i = exact_set (gives_since l w (among (free a) (vals l a)) (exact l b h.1) (asked_holds (free b) (exact l a h.0) h.2) i)
exact l (not_since a b w) h i = exact_set (gives_since l w (λ u k. not (among (free a) (vals l a) u k)) (exact l b h.1) (asked_denied (free b) (exact l a h.0) h.2) i)
exact l (until a b w) h i = exact_set (gives_until l w (among (free a) (vals l a)) (exact l b h.1) (asked_holds (free b) (exact l a h.0) h.2) i)
exact l (not_until a b w) h i = exact_set (gives_until l w (λ u k. not (among (free a) (vals l a) u k)) (exact l b h.1) (asked_denied (free b) (exact l a h.0) h.2) i)
exact l (once a w) h i = exact_set (gives_since l w (λ u k. true) (exact l a h) asked_always i)
exact l (eventually a w) h i = exact_set (gives_until l w (λ u k. true) (exact l a h.0) asked_always i)

-- The promises one by one.
module _ (l : Log) (φ : Formula) (fine : Fine φ) (i : Point) where
  pub agreement : (v : Valuation) → Memᴰ (cut_to (free φ) v) (vals l φ i) ↔ Holds l φ v i
  agreement = (exact l φ fine i).gives.same

  pub ascends : ascending (lowest_of (free φ)) (vals l φ i) ≡ true
  ascends = (exact l φ fine i).ascends

  pub rows_length : OfLength 4 (vals l φ i)
  rows_length = gives_length (exact l φ fine i).gives

  pub rows_cut : (u : List ℕ) → Memᴰ u (vals l φ i) → u ≡ cut_to (free φ) (valuation_of u)
  rows_cut = (exact l φ fine i).gives.cut

  -- a formula looks at a valuation only at its free variables
  pub looks_at_free : {v v' : Valuation} → ((x : ℕ) → free φ x ≡ true → v x ≡ v' x) → Holds l φ v i → Holds l φ v' i
  looks_at_free h = gives_looks (exact l φ fine i).gives (λ x k e. h x e)
