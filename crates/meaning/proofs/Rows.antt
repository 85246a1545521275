-- Membership in the lists that the definitions make, the laws of the rows' order, and what these say of set_of: the same rows, each once, in order.
-- Nothing here reads a rule or a log.
use Prim.Native.Nat.{ℕ, zero, suc, ◌+◌, ◌≤◌, ◌<◌}
use mathlib.Core.Path.{◌≡◌, refl, sym, ◌∙◌, ap}
use mathlib.Core.Bool.{Bool, true, false, not, cond, ◌&&◌, ◌||◌, and-eq-true_iff, or-true, true≢false, false≢true}
use mathlib.Core.Logic.Iff
use mathlib.Core.Logic.{◌↔◌, ◌⊎◌, inl, inr}
use mathlib.Core.List.Memᴰ
use mathlib.Core.List.{List, [], ◌∷◌, map, Memᴰ, cons-eq-cons}
use lib.ListN.{length, get_or}
use lib.Dec.{ltb, eqb}
use borrow.Author.Tests.{ltb-true, ltb-false, eqb-true, eqb-false, lt-ltb, le-ltb, eq-eqb}
use native.Mathlib.Omega.{arith}
use Rattle.meaning.specs.Lists.{all, any, select, gather, range, same_row}
use Rattle.meaning.specs.Log.{point, points_from}
use Rattle.meaning.specs.Formula.{variables}
use Rattle.meaning.specs.Order.{higher, before, ascending, OfLength}
use Rattle.meaning.specs.Evaluator.{cut_to, insert, insert_all, set_of, member}
use Rattle.meaning.specs.declared.Point.{Point}

-- Tests: one of two passes, neither does, both pass together, one is denied.
pub either : (s t : Bool) → s || t ≡ true → (s ≡ true) ⊎ (t ≡ true)
either true t e = inl refl
either false t e = inr e

pub neither : (s t : Bool) → s || t ≡ false → (s ≡ false) × (t ≡ false)
neither true t e = absurd (true≢false e)
neither false t e = (refl, e)

pub both_ways : (s t : Bool) → (s ≡ true → t ≡ true) → (t ≡ true → s ≡ true) → s ≡ t
both_ways true t h k = sym (h refl)
both_ways false true h k = k refl
both_ways false false h k = refl

pub denied : (t : Bool) {P : Type 0} → (t ≡ true) ↔ P → (not t ≡ true) ↔ (P → ⊥)
denied true h = (λ e p. false≢true e, λ n. absurd (n (h.0 refl)))
denied false h = (λ e p. false≢true (h.1 p), λ n. refl)

-- Membership: what follows from it (..-at) and what it follows from (..-of).
module _ {A : Type 0} where
  pub all_at : (p : A → Bool) {x : A} {xs : List A} → Memᴰ x xs → all p xs ≡ true → p x ≡ true
  all_at p (Memᴰ.head {x = y} {xs = ys} e) t = rw e ((and-eq-true_iff (p y) (all p ys)).0 t).0
  all_at p (Memᴰ.tail {x = y} {xs = ys} m) t = all_at p m ((and-eq-true_iff (p y) (all p ys)).0 t).1

  pub all_of : (p : A → Bool) (xs : List A) → ((x : A) → Memᴰ x xs → p x ≡ true) → all p xs ≡ true
  all_of p [] h = refl
  all_of p (y ∷ ys) h = (and-eq-true_iff (p y) (all p ys)).1 (h y (Memᴰ.head refl), all_of p ys (λ x m. h x (Memᴰ.tail m)))

  pub any_at : (p : A → Bool) (xs : List A) → any p xs ≡ true → (x : A) × Memᴰ x xs × (p x ≡ true)
  any_at p [] e = absurd (false≢true e)
  any_at p (y ∷ ys) e = go (any_at p ys) (either (p y) (any p ys) e)
    where
      go : (any p ys ≡ true → (x : A) × Memᴰ x ys × (p x ≡ true)) → (p y ≡ true) ⊎ (any p ys ≡ true) → (x : A) × Memᴰ x (y ∷ ys) × (p x ≡ true)
      go below (inl t) = (y, Memᴰ.head refl, t)
      go below (inr t) = let r = below t in (r.0, Memᴰ.tail r.1, r.2)

  pub any_of : (p : A → Bool) {x : A} {xs : List A} → Memᴰ x xs → p x ≡ true → any p xs ≡ true
  any_of p (Memᴰ.head {x = y} {xs = ys} e) t = let s : p y ≡ true = rw e at t in rw s
  any_of p (Memᴰ.tail {x = y} {xs = ys} m) t = rw (any_of p m t) (or-true (p y))

  -- a list that is there on a condition
  pub cond_at : (t : Bool) {x : A} (xs : List A) → Memᴰ x (cond t xs []) → (t ≡ true) × Memᴰ x xs
  cond_at true xs m = (refl, m)
  cond_at false xs m = absurd (Memᴰ.not-nil m)

  pub cond_of : (t : Bool) {x : A} {xs : List A} → t ≡ true → Memᴰ x xs → Memᴰ x (cond t xs [])
  cond_of t e m = rw e m

  pub select_at : (p : A → Bool) {x : A} (xs : List A) → Memᴰ x (select p xs) → Memᴰ x xs × (p x ≡ true)
  select_at p [] m = absurd (Memᴰ.not-nil m)
  select_at p {x} (y ∷ ys) m = go (select_at p ys) (p y) refl m
    where
      go : (Memᴰ x (select p ys) → Memᴰ x ys × (p x ≡ true)) → (t : Bool) → p y ≡ t → Memᴰ x (cond t (y ∷ select p ys) (select p ys)) → Memᴰ x (y ∷ ys) × (p x ≡ true)
      go below true e (Memᴰ.head d) = (Memᴰ.head d, rw d e)
      go below true e (Memᴰ.tail n) = let r = below n in (Memᴰ.tail r.0, r.1)
      go below false e n = let r = below n in (Memᴰ.tail r.0, r.1)

  pub select_of : (p : A → Bool) {x : A} {xs : List A} → Memᴰ x xs → p x ≡ true → Memᴰ x (select p xs)
  select_of p (Memᴰ.head {x = y} {xs = ys} e) t = let s : p y ≡ true = rw e at t in rw s (Memᴰ.head e)
  select_of p {x} (Memᴰ.tail {x = y} {xs = ys} m) t = go (select_of p m t) (p y)
    where
      go : Memᴰ x (select p ys) → (s : Bool) → Memᴰ x (cond s (y ∷ select p ys) (select p ys))
      go n true = Memᴰ.tail n
      go n false = n

module _ {A B : Type 0} where
  pub gather_at : (f : A → List B) {y : B} (xs : List A) → Memᴰ y (gather f xs) → (x : A) × Memᴰ x xs × Memᴰ y (f x)
  gather_at f [] m = absurd (Memᴰ.not-nil m)
  gather_at f {y} (x ∷ xs) m = go (gather_at f xs) (Memᴰ.append_cases (f x) m)
    where
      go : (Memᴰ y (gather f xs) → (z : A) × Memᴰ z xs × Memᴰ y (f z)) → Memᴰ y (f x) ⊎ Memᴰ y (gather f xs) → (z : A) × Memᴰ z (x ∷ xs) × Memᴰ y (f z)
      go below (inl n) = (x, Memᴰ.head refl, n)
      go below (inr n) = let r = below n in (r.0, Memᴰ.tail r.1, r.2)

  pub gather_of : (f : A → List B) {x : A} {y : B} {xs : List A} → Memᴰ x xs → Memᴰ y (f x) → Memᴰ y (gather f xs)
  gather_of f {x} {y} (Memᴰ.head {x = z} {xs = zs} e) n = let k : Memᴰ y (f z) = rw e at n in Memᴰ.append_left (gather f zs) k
  gather_of f (Memᴰ.tail {x = z} m) n = Memᴰ.append_right (f z) (gather_of f m n)

pub range_at : {n : ℕ} (from count : ℕ) → Memᴰ n (range from count) → (from ≤ n) × (n < from + count)
range_at from zero m = absurd (Memᴰ.not-nil m)
range_at {n} from (suc count) m = go (range_at (suc from) count) m
  where
    go : (Memᴰ n (range (suc from) count) → (suc from ≤ n) × (n < suc from + count)) → Memᴰ n (from ∷ range (suc from) count) → (from ≤ n) × (n < from + suc count)
    go below (Memᴰ.head e) = omega arith
    go below (Memᴰ.tail k) = let r = below k in omega (arith, r.0, r.1)

pub range_of : {n : ℕ} (from count : ℕ) → from ≤ n → n < from + count → Memᴰ n (range from count)
range_of from zero h k = absurd (omega arith)
range_of {n} from (suc count) h k = go (eqb n from) refl (range_of (suc from) count)
  where
    go : (t : Bool) → eqb n from ≡ t → (suc from ≤ n → n < suc from + count → Memᴰ n (range (suc from) count)) → Memᴰ n (from ∷ range (suc from) count)
    go true e below = Memᴰ.head (eqb-true n from e)
    go false e below = let d : n ≡ from → ⊥ = eqb-false n from e in Memᴰ.tail (below (omega arith) (omega arith))

pub points_at : {j : Point} (from count : ℕ) → Memᴰ j (points_from (point from) count) → (from ≤ j.0) × (j.0 < from + count)
points_at {j} from count m =
    let (n, k, d) = Memᴰ.of_map point (range from count) m in
    let e : n ≡ j.0 = ap (λ (p : Point). p.0) d in
    let h = range_at from count k in
    omega arith

pub points_of_lem : {j : Point} (from count : ℕ) → from ≤ j.0 → j.0 < from + count → Memᴰ j (points_from (point from) count)
points_of_lem from count h k = Memᴰ.map point (range_of from count h k)

pub all_points : (p : Point → Bool) (from count : ℕ) → (all p (points_from (point from) count) ≡ true) ↔ ((k : Point) → from ≤ k.0 → k.0 < from + count → p k ≡ true)
all_points p from count = (λ e k a b. all_at p (points_of_lem from count a b) e, λ h. all_of p (points_from (point from) count) (λ k m. let (a, b) = points_at from count m in h k a b))

-- Rows as words.
pub same_row_lem : (xs ys : List ℕ) → (same_row xs ys ≡ true) ↔ (xs ≡ ys)
same_row_lem [] [] = (λ e. refl, λ e. refl)
same_row_lem [] (y ∷ ys) = (λ e. absurd (false≢true e), λ e. cc)
same_row_lem (x ∷ xs) [] = (λ e. absurd (false≢true e), λ e. cc)
same_row_lem (x ∷ xs) (y ∷ ys) = Iff.trans (and-eq-true_iff (eqb x y) (same_row xs ys)) (Iff.trans (Iff.and (eqb-true x y, eq-eqb x y) (same_row_lem xs ys)) (Iff.symm cons-eq-cons))

pub member-row : (r : List ℕ) (rows : List (List ℕ)) → (member r rows ≡ true) ↔ Memᴰ r rows
member-row r rows = (λ e. let k = any_at (same_row r) rows e in Memᴰ.cast ((same_row_lem r k.0).0 k.2) k.1, λ m. any_of (same_row r) m ((same_row_lem r r).1 refl))

-- Rows of four words, as functions of the variables.
pub variables_of : {x : ℕ} → x < 4 → Memᴰ x variables
variables_of h = range_of 0 4 (omega arith) h

pub variables_at : {x : ℕ} → Memᴰ x variables → x < 4
variables_at m = (range_at 0 4 m).1

pub words_same : {f g : ℕ → ℕ} → ((x : ℕ) → x < 4 → f x ≡ g x) → map f variables ≡ map g variables
words_same h = cc (h 0 (omega arith), h 1 (omega arith), h 2 (omega arith), h 3 (omega arith))

pub words_at : (f : ℕ → ℕ) (x : ℕ) → x < 4 → get_or (map f variables) x 0 ≡ f x
words_at f zero h = refl
words_at f (suc zero) h = refl
words_at f (suc (suc zero)) h = refl
words_at f (suc (suc (suc zero))) h = refl
words_at f (suc (suc (suc (suc x)))) h = absurd (omega arith)

pub word_at_lem : (f : ℕ → ℕ) {u : List ℕ} → u ≡ map f variables → (x : ℕ) → x < 4 → get_or u x 0 ≡ f x
word_at_lem f e x h = ap (λ (t : List ℕ). get_or t x 0) e ∙ words_at f x h

pub words_equal : (f g : ℕ → ℕ) → map f variables ≡ map g variables → (x : ℕ) → x < 4 → f x ≡ g x
words_equal f g e x h = sym (words_at f x h) ∙ word_at_lem g e x h

-- a word of a valuation cut down to the variables of f
pub cut_at : (f : ℕ → Bool) (v : ℕ → ℕ) (x : ℕ) → x < 4 → f x ≡ true → get_or (cut_to f v) x 0 ≡ v x
cut_at f v x h e = words_at (λ y. cond (f y) (v y) 0) x h ∙ (rw e)

-- The laws of the order: whatever else is shown of it follows from these three. A word and what comes behind it, first.
first_word : (x y : ℕ) (t : Bool) → ltb x y || (eqb x y && t) ≡ true → (x < y) ⊎ ((x ≡ y) × (t ≡ true))
first_word x y t e = elim (either (ltb x y) (eqb x y && t) e) [ inl l ↦ inl (ltb-true x y l) | inr r ↦ let (a, b) = (and-eq-true_iff (eqb x y) t).0 r in inr (eqb-true x y a, b) ]

word_irreflexive : (x : ℕ) (t : Bool) → t ≡ false → ltb x x || (eqb x x && t) ≡ false
word_irreflexive x t e = rw (le-ltb x x (omega arith), eq-eqb x x refl) e

word_transitive : (x y z : ℕ) (s t u : Bool) → (s ≡ true → t ≡ true → u ≡ true) → ltb x y || (eqb x y && s) ≡ true → ltb y z || (eqb y z && t) ≡ true → ltb x z || (eqb x z && u) ≡ true
word_transitive x y z s t u rest h k = go (first_word x y s h) (first_word y z t k)
  where
    below : x < z → ltb x z || (eqb x z && u) ≡ true
    below d = rw (lt-ltb x z d)

    go : (x < y) ⊎ ((x ≡ y) × (s ≡ true)) → (y < z) ⊎ ((y ≡ z) × (t ≡ true)) → ltb x z || (eqb x z && u) ≡ true
    go (inl a) (inl b) = below (omega arith)
    go (inl a) (inr b) = below (omega arith)
    go (inr a) (inl b) = below (omega arith)
    go (inr a) (inr b) = rw (eq-eqb x z (a.0 ∙ b.0), rest a.1 b.1) (or-true (ltb x z))

word_total : (x y : ℕ) (s t : Bool) → ltb x y || (eqb x y && s) ≡ false → ltb y x || (eqb y x && t) ≡ false → (x ≡ y) × (s ≡ false) × (t ≡ false)
word_total x y s t h k =
    let a = neither (ltb x y) (eqb x y && s) h in
    let b = neither (ltb y x) (eqb y x && t) k in
    let e : x ≡ y = omega (arith, ltb-false x y a.0, ltb-false y x b.0) in
    (e, rw (eq-eqb x y e) at a.1, rw (eq-eqb y x (sym e)) at b.1)

higher_irreflexive : (r : List ℕ) → higher r r ≡ false
higher_irreflexive [] = refl
higher_irreflexive (x ∷ xs) = word_irreflexive x (higher xs xs) (higher_irreflexive xs)

higher_transitive : (r s t : List ℕ) → higher r s ≡ true → higher s t ≡ true → higher r t ≡ true
higher_transitive [] s t h k = absurd (false≢true h)
higher_transitive (x ∷ xs) [] t h k = absurd (false≢true h)
higher_transitive (x ∷ xs) (y ∷ ys) [] h k = absurd (false≢true k)
higher_transitive (x ∷ xs) (y ∷ ys) (z ∷ zs) h k = word_transitive z y x (higher ys zs) (higher xs ys) (higher xs zs) (λ a b. higher_transitive xs ys zs b a) k h

higher-total : (r s : List ℕ) → length r ≡ length s → higher r s ≡ false → higher s r ≡ false → r ≡ s
higher-total [] [] l h k = refl
higher-total [] (y ∷ ys) l h k = absurd (omega arith)
higher-total (x ∷ xs) [] l h k = absurd (omega arith)
higher-total (x ∷ xs) (y ∷ ys) l h k =
    let (d, a, b) = word_total y x (higher xs ys) (higher ys xs) h k in
    let e : x ≡ y = sym d in
    λ i. e i ∷ higher-total xs ys (omega arith) a b i

pub before_irreflexive : (lowest : ℕ) (r : List ℕ) → before lowest r r ≡ false
before_irreflexive lowest [] = refl
before_irreflexive zero (x ∷ xs) = word_irreflexive x (higher xs xs) (higher_irreflexive xs)
before_irreflexive (suc lowest) (x ∷ xs) = word_irreflexive x (before lowest xs xs) (before_irreflexive lowest xs)

pub before_transitive : (lowest : ℕ) (r s t : List ℕ) → before lowest r s ≡ true → before lowest s t ≡ true → before lowest r t ≡ true
before_transitive lowest [] s t h k = absurd (false≢true h)
before_transitive lowest (x ∷ xs) [] t h k = absurd (false≢true h)
before_transitive lowest (x ∷ xs) (y ∷ ys) [] h k = absurd (false≢true k)
before_transitive zero (x ∷ xs) (y ∷ ys) (z ∷ zs) h k = word_transitive x y z (higher xs ys) (higher ys zs) (higher xs zs) (higher_transitive xs ys zs) h k
before_transitive (suc lowest) (x ∷ xs) (y ∷ ys) (z ∷ zs) h k = word_transitive x y z (before lowest xs ys) (before lowest ys zs) (before lowest xs zs) (before_transitive lowest xs ys zs) h k

pub before-total : (lowest : ℕ) (r s : List ℕ) → length r ≡ length s → before lowest r s ≡ false → before lowest s r ≡ false → r ≡ s
before-total lowest [] [] l h k = refl
before-total lowest [] (y ∷ ys) l h k = absurd (omega arith)
before-total lowest (x ∷ xs) [] l h k = absurd (omega arith)
before-total zero (x ∷ xs) (y ∷ ys) l h k =
    let (e, a, b) = word_total x y (higher xs ys) (higher ys xs) h k in
    λ i. e i ∷ higher-total xs ys (omega arith) a b i
before-total (suc lowest) (x ∷ xs) (y ∷ ys) l h k =
    let (e, a, b) = word_total x y (before lowest xs ys) (before lowest ys xs) h k in
    λ i. e i ∷ before-total lowest xs ys (omega arith) a b i

pub before_apart : (lowest : ℕ) (r s : List ℕ) → before lowest r s ≡ true → r ≡ s → ⊥
before_apart lowest r s h e = true≢false (sym h ∙ (rw e (before_irreflexive lowest s)))

-- What follows from the laws, whatever the lowest free variable.
module _ (lowest : ℕ) where
  -- Strictly ascending lists: the head stands before every other row, and the rows alone determine the list.
  pub ascending_tail : (r : List ℕ) (rows : List (List ℕ)) → ascending lowest (r ∷ rows) ≡ true → ascending lowest rows ≡ true
  ascending_tail r [] h = refl
  ascending_tail r (s ∷ rows) h = ((and-eq-true_iff (before lowest r s) (ascending lowest (s ∷ rows))).0 h).1

  pub head_before : {s : List ℕ} (r : List ℕ) {rows : List (List ℕ)} → ascending lowest (r ∷ rows) ≡ true → Memᴰ s rows → before lowest r s ≡ true
  head_before r h (Memᴰ.head {x = t} {xs = ts} e) = rw e ((and-eq-true_iff (before lowest r t) (ascending lowest (t ∷ ts))).0 h).0
  head_before {s} r h (Memᴰ.tail {x = t} {xs = ts} m) = let k = (and-eq-true_iff (before lowest r t) (ascending lowest (t ∷ ts))).0 h in before_transitive lowest r t s k.0 (head_before t k.1 m)

  pub ascending_same : (xs ys : List (List ℕ)) → ascending lowest xs ≡ true → ascending lowest ys ≡ true → ((r : List ℕ) → Memᴰ r xs ↔ Memᴰ r ys) → xs ≡ ys
  ascending_same [] [] h k same = refl
  ascending_same [] (y ∷ ys) h k same = absurd (Memᴰ.not-nil ((same y).1 (Memᴰ.head refl)))
  ascending_same (x ∷ xs) [] h k same = absurd (Memᴰ.not-nil ((same x).0 (Memᴰ.head refl)))
  ascending_same (x ∷ xs) (y ∷ ys) h k same =
      let e : x ≡ y = heads ((same x).0 (Memᴰ.head refl)) ((same y).1 (Memᴰ.head refl)) in
      let d = ascending_same xs ys (ascending_tail x xs h) (ascending_tail y ys k) (λ r. (λ m. rest h e m ((same r).0 (Memᴰ.tail m)), λ m. rest k (sym e) m ((same r).1 (Memᴰ.tail m)))) in
      λ i. e i ∷ d i
    where
      heads : Memᴰ x (y ∷ ys) → Memᴰ y (x ∷ xs) → x ≡ y
      heads (Memᴰ.head e) n = e
      heads (Memᴰ.tail m) (Memᴰ.head e) = sym e
      heads (Memᴰ.tail m) (Memᴰ.tail n) = absurd (before_apart lowest x x (before_transitive lowest x y x (head_before x h n) (head_before y k m)) refl)

      rest : {r s t : List ℕ} {us vs : List (List ℕ)} → ascending lowest (s ∷ us) ≡ true → s ≡ t → Memᴰ r us → Memᴰ r (t ∷ vs) → Memᴰ r vs
      rest {r} {s} up e m (Memᴰ.head d) = absurd (before_apart lowest s r (head_before s up m) (e ∙ sym d))
      rest up e m (Memᴰ.tail n) = n

  -- Sets: a row put in its place, by the three cases of its definition.
  insert_cases : (P : List (List ℕ) → Type 0) (s t : List ℕ) (rows : List (List ℕ))
      → (before lowest s t ≡ true → P (s ∷ t ∷ rows)) → (before lowest t s ≡ true → P (t ∷ insert lowest s rows)) → (before lowest s t ≡ false → before lowest t s ≡ false → P (t ∷ rows)) → P (insert lowest s (t ∷ rows))
  insert_cases P s t rows first later there = go (before lowest s t) (before lowest t s) refl refl
    where
      go : (p q : Bool) → before lowest s t ≡ p → before lowest t s ≡ q → P (cond p (s ∷ t ∷ rows) (cond q (t ∷ insert lowest s rows) (t ∷ rows)))
      go true q h k = first h
      go false true h k = later k
      go false false h k = there h k

  pub insert_at : {r : List ℕ} (s : List ℕ) (rows : List (List ℕ)) → Memᴰ r (insert lowest s rows) → Memᴰ r (s ∷ rows)
  insert_at s [] m = m
  insert_at {r} s (t ∷ rows) m =
      insert_cases (λ set. Memᴰ r set → Memᴰ r (s ∷ t ∷ rows)) s t rows
      (λ h n. n)
      (λ h n. elim (Memᴰ.cases_cons n) [ inl e ↦ Memᴰ.tail (Memᴰ.head e) | inr k ↦ past (insert_at s rows k) ])
      (λ h k n. Memᴰ.tail n) m
    where
      past : Memᴰ r (s ∷ rows) → Memᴰ r (s ∷ t ∷ rows)
      past (Memᴰ.head e) = Memᴰ.head e
      past (Memᴰ.tail k) = Memᴰ.tail (Memᴰ.tail k)

  pub insert_keeps : {r : List ℕ} (s : List ℕ) {rows : List (List ℕ)} → Memᴰ r rows → Memᴰ r (insert lowest s rows)
  insert_keeps {r} s (Memᴰ.head {x = t} {xs = rows} e) = insert_cases (Memᴰ r) s t rows (λ h. Memᴰ.tail (Memᴰ.head e)) (λ h. Memᴰ.head e) (λ h k. Memᴰ.head e)
  insert_keeps {r} s (Memᴰ.tail {x = t} {xs = rows} m) = insert_cases (Memᴰ r) s t rows (λ h. Memᴰ.tail (Memᴰ.tail m)) (λ h. Memᴰ.tail (insert_keeps s m)) (λ h k. Memᴰ.tail m)

  pub insert_puts : (s : List ℕ) (rows : List (List ℕ)) → OfLength (length s) rows → Memᴰ s (insert lowest s rows)
  insert_puts s [] long = Memᴰ.head refl
  insert_puts s (t ∷ rows) long =
      insert_cases (Memᴰ s) s t rows
      (λ h. Memᴰ.head refl)
      (λ h. Memᴰ.tail (insert_puts s rows (λ r m. long r (Memᴰ.tail m))))
      (λ h k. Memᴰ.head (before-total lowest s t (sym (long t (Memᴰ.head refl))) h k))

  insert_after : (t s : List ℕ) (rows : List (List ℕ)) → before lowest t s ≡ true → ascending lowest (t ∷ rows) ≡ true → ascending lowest (t ∷ insert lowest s rows) ≡ true
  insert_after t s [] h k = (and-eq-true_iff (before lowest t s) true).1 (h, refl)
  insert_after t s (u ∷ rows) h k =
      let r = (and-eq-true_iff (before lowest t u) (ascending lowest (u ∷ rows))).0 k in
      insert_cases (λ set. ascending lowest (t ∷ set) ≡ true) s u rows
      (λ a. (and-eq-true_iff (before lowest t s) (ascending lowest (s ∷ u ∷ rows))).1 (h, (and-eq-true_iff (before lowest s u) (ascending lowest (u ∷ rows))).1 (a, r.1)))
      (λ a. (and-eq-true_iff (before lowest t u) (ascending lowest (u ∷ insert lowest s rows))).1 (r.0, insert_after u s rows a r.1))
      (λ a b. k)

  pub insert_ascends : (s : List ℕ) (rows : List (List ℕ)) → ascending lowest rows ≡ true → ascending lowest (insert lowest s rows) ≡ true
  insert_ascends s [] h = refl
  insert_ascends s (t ∷ rows) h = insert_cases (λ set. ascending lowest set ≡ true) s t rows (λ a. (and-eq-true_iff (before lowest s t) (ascending lowest (t ∷ rows))).1 (a, h)) (λ a. insert_after t s rows a h) (λ a b. h)

  pub insert_all_at : {r : List ℕ} (set rows : List (List ℕ)) → Memᴰ r (insert_all lowest set rows) → Memᴰ r set ⊎ Memᴰ r rows
  insert_all_at set [] m = inl m
  insert_all_at {r} set (s ∷ rows) m = go (insert_all_at (insert lowest s set) rows m)
    where
      put : Memᴰ r (s ∷ set) → Memᴰ r set ⊎ Memᴰ r (s ∷ rows)
      put (Memᴰ.head e) = inr (Memᴰ.head e)
      put (Memᴰ.tail n) = inl n

      go : Memᴰ r (insert lowest s set) ⊎ Memᴰ r rows → Memᴰ r set ⊎ Memᴰ r (s ∷ rows)
      go (inl n) = put (insert_at s set n)
      go (inr n) = inr (Memᴰ.tail n)

  pub insert_all_keeps : {r : List ℕ} {set : List (List ℕ)} (rows : List (List ℕ)) → Memᴰ r set → Memᴰ r (insert_all lowest set rows)
  insert_all_keeps [] m = m
  insert_all_keeps {r = r} {set = set} (s ∷ rows) m = insert_all_keeps {set = insert lowest s set} rows (insert_keeps s m)

  pub insert_all_puts : {r : List ℕ} {n : ℕ} (set : List (List ℕ)) {rows : List (List ℕ)} → OfLength n set → OfLength n rows → Memᴰ r rows → Memᴰ r (insert_all lowest set rows)
  insert_all_puts set a b (Memᴰ.head {x = s} {xs = rows} e) = insert_all_keeps rows (Memᴰ.cast e (insert_puts s set (λ t m. a t m ∙ sym (b s (Memᴰ.head refl)))))
  insert_all_puts {n} set a b (Memᴰ.tail {x = s} {xs = rows} m) = insert_all_puts (insert lowest s set) (λ t k. go (insert_at s set k)) (λ t k. b t (Memᴰ.tail k)) m
    where
      go : {t : List ℕ} → Memᴰ t (s ∷ set) → length t ≡ n
      go (Memᴰ.head e) = ap length e ∙ b s (Memᴰ.head refl)
      go {t} (Memᴰ.tail k) = a t k

  pub insert_all_ascends : (set rows : List (List ℕ)) → ascending lowest set ≡ true → ascending lowest (insert_all lowest set rows) ≡ true
  insert_all_ascends set [] h = h
  insert_all_ascends set (s ∷ rows) h = insert_all_ascends (insert lowest s set) rows (insert_ascends s set h)

  -- set_of: the same rows, each once, in order; nothing else is such a list, so what is one already stays
  pub set_of-mem : {n : ℕ} (rows : List (List ℕ)) → OfLength n rows → (r : List ℕ) → Memᴰ r (set_of lowest rows) ↔ Memᴰ r rows
  set_of-mem rows long r = (λ m. elim (insert_all_at [] rows m) [ inl k ↦ absurd (Memᴰ.not-nil k) | inr k ↦ k ], insert_all_puts [] (λ s k. absurd (Memᴰ.not-nil k)) long)

  pub set_of_ascends : (rows : List (List ℕ)) → ascending lowest (set_of lowest rows) ≡ true
  set_of_ascends rows = insert_all_ascends [] rows refl

  -- the order in which rows are put in makes no difference
  pub insert_all_same : (n : ℕ) (set xs ys : List (List ℕ)) → ascending lowest set ≡ true → OfLength n set → OfLength n xs → ((u : List ℕ) → Memᴰ u xs ↔ Memᴰ u ys) → insert_all lowest set xs ≡ insert_all lowest set ys
  insert_all_same n set xs ys up long wide same =
      ascending_same (insert_all lowest set xs) (insert_all lowest set ys) (insert_all_ascends set xs up) (insert_all_ascends set ys up)
      (λ r. (λ m. one r (insert_all_at set xs m), λ m. other r (insert_all_at set ys m)))
    where
      one : (r : List ℕ) → Memᴰ r set ⊎ Memᴰ r xs → Memᴰ r (insert_all lowest set ys)
      one r (inl m) = insert_all_keeps ys m
      one r (inr m) = insert_all_puts set long (λ u o. wide u ((same u).1 o)) ((same r).0 m)

      other : (r : List ℕ) → Memᴰ r set ⊎ Memᴰ r ys → Memᴰ r (insert_all lowest set xs)
      other r (inl m) = insert_all_keeps xs m
      other r (inr m) = insert_all_puts set long wide ((same r).1 m)

  pub set_of_same : {n : ℕ} (xs ys : List (List ℕ)) → OfLength n xs → ((r : List ℕ) → Memᴰ r xs ↔ Memᴰ r ys) → set_of lowest xs ≡ set_of lowest ys
  set_of_same {n} xs ys long same = insert_all_same n [] xs ys refl (λ s k. absurd (Memᴰ.not-nil k)) long same
