-- The order of rows: the word in which two rows first differ, the lowest of a set of variables, and what a report's rows show of the order.
use Prim.Native.Nat.{ℕ, zero, suc, ◌≤◌, ◌<◌}
use native.Mathlib.Omega.{arith}
use mathlib.Core.Path.{◌≡◌, refl, sym, ap, ◌∙◌}
use mathlib.Core.Bool.{Bool, true, false, cond, ◌&&◌, ◌||◌, true≢false, or-true}
use mathlib.Core.List.{List, [], ◌∷◌, ◌++◌, map}
use lib.ListN.{length, get_or}
use lib.Dec.{ltb, eqb}
use borrow.Author.Tests.{lt-ltb, eq-eqb}
use Rattle.meaning.specs.Lists.{gather}
use Rattle.meaning.specs.Order.{higher, before}
use Rattle.meaning.specs.OrderLaws.{OrderLaws}
use Rattle.meaning.specs.Formula.{variables, lowest_of}
use Rattle.meaning.specs.Definition2.{Valuation}
use Rattle.meaning.specs.Evaluator.{cut_to, valuation_of}
use Rattle.meaning.proofs.Rows.{words_at, cut_at, before_irreflexive, before_transitive, before-total}

-- rows that agree before word k: where all words descend
higher_at : (r s : List ℕ) (k : ℕ) → k < length r → k < length s → ((j : ℕ) → j < k → get_or r j 0 ≡ get_or s j 0) → get_or s k 0 < get_or r k 0 → higher r s ≡ true
higher_at [] s k a b same d = absurd (omega arith)
higher_at (x ∷ xs) [] k a b same d = absurd (omega arith)
higher_at (x ∷ xs) (y ∷ ys) zero a b same d = rw (lt-ltb y x d)
higher_at (x ∷ xs) (y ∷ ys) (suc k) a b same d = rw (eq-eqb y x (sym (same 0 (omega arith))), higher_at xs ys k (omega arith) (omega arith) (λ j l. same (suc j) (omega arith)) d) (or-true (ltb y x))

-- where word k ascends
pub ascends_at : (lowest : ℕ) (r s : List ℕ) (k : ℕ) → k < length r → k < length s → k ≤ lowest → ((j : ℕ) → j < k → get_or r j 0 ≡ get_or s j 0) → get_or r k 0 < get_or s k 0 → before lowest r s ≡ true
ascends_at lowest [] s k a b h same d = absurd (omega arith)
ascends_at lowest (x ∷ xs) [] k a b h same d = absurd (omega arith)
ascends_at zero (x ∷ xs) (y ∷ ys) zero a b h same d = rw (lt-ltb x y d)
ascends_at (suc lowest) (x ∷ xs) (y ∷ ys) zero a b h same d = rw (lt-ltb x y d)
ascends_at zero (x ∷ xs) (y ∷ ys) (suc k) a b h same d = absurd (omega arith)
ascends_at (suc lowest) (x ∷ xs) (y ∷ ys) (suc k) a b h same d = rw (eq-eqb x y (same 0 (omega arith)), ascends_at lowest xs ys k (omega arith) (omega arith) (omega arith) (λ j l. same (suc j) (omega arith)) d) (or-true (ltb x y))

-- and where it descends
pub descends_at : (lowest : ℕ) (r s : List ℕ) (k : ℕ) → k < length r → k < length s → lowest < k → ((j : ℕ) → j < k → get_or r j 0 ≡ get_or s j 0) → get_or s k 0 < get_or r k 0 → before lowest r s ≡ true
descends_at lowest [] s k a b h same d = absurd (omega arith)
descends_at lowest (x ∷ xs) [] k a b h same d = absurd (omega arith)
descends_at lowest (x ∷ xs) (y ∷ ys) zero a b h same d = absurd (omega arith)
descends_at zero (x ∷ xs) (y ∷ ys) (suc k) a b h same d = rw (eq-eqb x y (same 0 (omega arith)), higher_at xs ys k (omega arith) (omega arith) (λ j l. same (suc j) (omega arith)) d) (or-true (ltb x y))
descends_at (suc lowest) (x ∷ xs) (y ∷ ys) (suc k) a b h same d = rw (eq-eqb x y (same 0 (omega arith)), descends_at lowest xs ys k (omega arith) (omega arith) (omega arith) (λ j l. same (suc j) (omega arith)) d) (or-true (ltb x y))

-- sets that have the same variables have the same lowest one
pub lowest_same : (f g : ℕ → Bool) → ((x : ℕ) → x < 4 → f x ≡ g x) → lowest_of f ≡ lowest_of g
lowest_same f g h = rw (h 0 (omega arith), h 1 (omega arith), h 2 (omega arith), h 3 (omega arith))

-- the lowest of a set is not above any in it, and is the one below which it has none
most : (t : Bool) {a b : ℕ} (n : ℕ) → a ≤ n → b ≤ n → cond t a b ≤ n
most true n h k = h
most false n h k = k

lowest_least : (f : ℕ → Bool) (x : ℕ) → x < 4 → f x ≡ true → lowest_of f ≤ x
lowest_least f zero h e = rw e (omega arith)
lowest_least f (suc zero) h e = rw e (most (f 0) 1 (omega arith) (omega arith))
lowest_least f (suc (suc zero)) h e = rw e (most (f 0) 2 (omega arith) (most (f 1) 2 (omega arith) (omega arith)))
lowest_least f (suc (suc (suc zero))) h e = rw e (most (f 0) 3 (omega arith) (most (f 1) 3 (omega arith) (most (f 2) 3 (omega arith) (omega arith))))
lowest_least f (suc (suc (suc (suc x)))) h e = absurd (omega arith)

lowest_is : (f : ℕ → Bool) (x : ℕ) → x < 4 → f x ≡ true → ((y : ℕ) → y < x → f y ≡ false) → lowest_of f ≡ x
lowest_is f zero h e none = rw e
lowest_is f (suc zero) h e none = rw (none 0 (omega arith), e)
lowest_is f (suc (suc zero)) h e none = rw (none 0 (omega arith), none 1 (omega arith), e)
lowest_is f (suc (suc (suc zero))) h e none = rw (none 0 (omega arith), none 1 (omega arith), none 2 (omega arith), e)
lowest_is f (suc (suc (suc (suc x)))) h e none = absurd (omega arith)

-- valuations cut down to some variables
module _ (f : ℕ → Bool) (v w : Valuation) where
  -- where the valuations agree on the variables below x that are in f, the words before it are the same
  cut_agree : (x : ℕ) → x < 4 → ((z : ℕ) → z < x → f z ≡ true → v z ≡ w z) → (j : ℕ) → j < x → get_or (cut_to f v) j 0 ≡ get_or (cut_to f w) j 0
  cut_agree x h same j l = words_at (λ y. cond (f y) (v y) 0) j (omega arith) ∙ go (f j) refl ∙ sym (words_at (λ y. cond (f y) (w y) 0) j (omega arith))
    where
      go : (t : Bool) → f j ≡ t → cond t (v j) 0 ≡ cond t (w j) 0
      go true e = same j l e
      go false e = refl

  ascends : (x : ℕ) → x < 4 → f x ≡ true → ((y : ℕ) → y < x → f y ≡ false) → v x < w x → before (lowest_of f) (cut_to f v) (cut_to f w) ≡ true
  ascends x h e none d =
      let l : lowest_of f ≡ x = lowest_is f x h e none in
      ascends_at (lowest_of f) (cut_to f v) (cut_to f w) x h h (omega arith) (cut_agree x h (λ z k t. absurd (true≢false (sym t ∙ none z k)))) (omega (arith, cut_at f v x h e, cut_at f w x h e))

  descends : (x y : ℕ) → y < x → x < 4 → f y ≡ true → f x ≡ true → ((z : ℕ) → z < x → f z ≡ true → v z ≡ w z) → w x < v x → before (lowest_of f) (cut_to f v) (cut_to f w) ≡ true
  descends x y k h a e same d =
      descends_at (lowest_of f) (cut_to f v) (cut_to f w) x h h (omega (arith, lowest_least f y (omega arith) a)) (cut_agree x h same) (omega (arith, cut_at f v x h e, cut_at f w x h e))

-- the words of the free variables alone, and all words, 0 where one isn't free
abbrev shown_in : (ℕ → Bool) → Valuation → List ℕ → List ℕ
shown_in f u xs = gather (λ x. cond (f x) (u x ∷ []) []) xs

abbrev words_in : (ℕ → Bool) → Valuation → List ℕ → List ℕ
words_in f u xs = map (λ x. cond (f x) (u x) 0) xs

-- where all descend, they come in the same order
shown_higher : (f : ℕ → Bool) (v w : Valuation) (xs : List ℕ) → higher (shown_in f v xs) (shown_in f w xs) ≡ higher (words_in f v xs) (words_in f w xs)
shown_higher f v w [] = refl
shown_higher f v w (x ∷ xs) = go (f x) (shown_higher f v w xs)
  where
    go : (t : Bool) → higher (shown_in f v xs) (shown_in f w xs) ≡ higher (words_in f v xs) (words_in f w xs)
        → higher (cond t (v x ∷ []) [] ++ shown_in f v xs) (cond t (w x ∷ []) [] ++ shown_in f w xs) ≡ higher (cond t (v x) 0 ∷ words_in f v xs) (cond t (w x) 0 ∷ words_in f w xs)
    go true e = ap (λ b. ltb (w x) (v x) || (eqb (w x) (v x) && b)) e
    go false e = e

-- and where the lowest ascends
shown_before : (f : ℕ → Bool) (v w : Valuation) → before 0 (shown_in f v variables) (shown_in f w variables) ≡ before (lowest_of f) (words_in f v variables) (words_in f w variables)
shown_before f v w = go (f 0) (f 1) (f 2) (f 3) refl refl refl refl
  where
    from : (x : ℕ) (xs : List ℕ) → ltb (v x) (w x) || (eqb (v x) (w x) && higher (shown_in f v xs) (shown_in f w xs)) ≡ ltb (v x) (w x) || (eqb (v x) (w x) && higher (words_in f v xs) (words_in f w xs))
    from x xs = ap (λ b. ltb (v x) (w x) || (eqb (v x) (w x) && b)) (shown_higher f v w xs)

    go : (p q r s : Bool) → f 0 ≡ p → f 1 ≡ q → f 2 ≡ r → f 3 ≡ s → before 0 (shown_in f v variables) (shown_in f w variables) ≡ before (lowest_of f) (words_in f v variables) (words_in f w variables)
    go true q r s a b c d = rw a (from 0 (1 ∷ 2 ∷ 3 ∷ []))
    go false true r s a b c d = rw (a, b) (from 1 (2 ∷ 3 ∷ []))
    go false false true s a b c d = rw (a, b, c) (from 2 (3 ∷ []))
    go false false false true a b c d = rw (a, b, c, d)
    go false false false false a b c d = rw (a, b, c, d)

pub order_laws : OrderLaws
order_laws =
    record {
      irreflexive = before_irreflexive;
      transitive = before_transitive;
      total = before-total;
      ascends = ascends;
      descends = descends;
      shown = λ f r s. shown_before f (valuation_of r) (valuation_of s);
    }
