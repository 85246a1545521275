-- The nodes in turn: from what is stored of a log, each node's turn gives the evaluator's rows on the grown log, from the first point that is still consulted on, and its pairs there.
use Prim.Native.Nat.{ℕ, zero, suc, ◌+◌, ◌-◌, ◌≤◌, ◌<◌}
use native.Mathlib.Omega.{arith}
use mathlib.Core.Path.{◌≡◌, refl, sym, ◌∙◌, ap, ap₂}
use mathlib.Core.Bool.{Bool, true, ◌||◌}
use mathlib.Core.List.{List, [], ◌∷◌, ◌++◌, map, cons≢nil}
use lib.ListN.{length, get_or, drop, length-append, length-map, get_or-append}
use lib.Seq.{get_or-append_seam, ext_get_or}
use lib.Dec.{ltb}
use borrow.Author.Tests.{ne_eqb}
use Rattle.meaning.specs.Lists.{any, range, gather}
use Rattle.meaning.specs.Log.{Log, Ordered, point, size, rows_at, points_from}
use Rattle.meaning.specs.Formula.{Formula, free, lowest_of}
use Rattle.meaning.specs.Evaluator.{vals}
use Rattle.meaning.specs.Settled.{settled}
use Rattle.meaning.specs.View.{view_of, children_in}
use Rattle.meaning.specs.RuleFile.{children_of, formula_of}
use Rattle.meaning.specs.Kept.{Entry}
use Rattle.meaning.specs.declared.Point.{Point}
use Rattle.meaning.specs.declared.Stamp.{Stamp}
use Rattle.meaning.specs.declared.Node.{Node}
use Rattle.meaning.specs.declared.Times.{Times}
use Rattle.meaning.specs.declared.Times.TheVariants.{Here, Before, After, Past, Future}
use Rattle.meaning.proofs.Fine.{Fine}
use Rattle.method.specs.Settle.{Inputs, settle, Turn, rows_of_turn}
use Rattle.method.specs.Step.{first_wanted, new_rows, new_pairs, turn_of, inputs_of, turns_to, no_turn}
use Rattle.method.proofs.Views.{Branches, none, single, double, viewed}
use Rattle.method.proofs.Counted.{Counted}
use Rattle.meaning.proofs.Lists.{range_length}
use Rattle.method.proofs.Inputs.{InputsAgree, pairs_before, settle_right}

-- ---- lists

-- a list by its elements
get_d_range : (f : ℕ → ℕ) (a n k : ℕ) → k < n → get_or (map f (range a n)) k 0 ≡ f (a + k)
get_d_range f a zero k h = absurd (omega arith)
get_d_range f a (suc n) zero h = let e : a + 0 ≡ a = omega arith in rw e
get_d_range f a (suc n) (suc k) h = let e : a + suc k ≡ suc a + k = omega arith in rw e (get_d_range f (suc a) n k (omega arith))

pub from_get_d : (xs : List ℕ) (n : ℕ) (f : ℕ → ℕ) → length xs ≡ n → ((k : ℕ) → k < n → get_or xs k 0 ≡ f k) → xs ≡ map f (range 0 n)
from_get_d xs n f e h =
    ext_get_or 0 xs (map f (range 0 n)) (e ∙ sym (length-map (range 0 n) f ∙ range_length 0 n))
    (λ k o. let z : 0 + k ≡ k = omega arith in h k (omega arith) ∙ sym (get_d_range f 0 n k (omega arith) ∙ ap f z))

pub gather_over : {B : Type 0} (f g : Point → List B) (a n : ℕ) → ((j : Point) → a ≤ j.0 → j.0 < a + n → f j ≡ g j) → gather f (points_from (point a) n) ≡ gather g (points_from (point a) n)
gather_over f g a zero h = refl
gather_over f g a (suc n) h = ap₂ (λ s t. s ++ t) (h (point a) (omega arith) (omega arith)) (gather_over f g (suc a) n (λ j u o. h j (omega arith) (omega arith)))

pub any_over : (p q : Point → Bool) (a n : ℕ) → ((j : Point) → a ≤ j.0 → j.0 < a + n → p j ≡ q j) → any p (points_from (point a) n) ≡ any q (points_from (point a) n)
any_over p q a zero h = refl
any_over p q a (suc n) h = ap₂ (λ s t. s || t) (h (point a) (omega arith) (omega arith)) (any_over p q (suc a) n (λ j u o. h j (omega arith) (omega arith)))

pub drop_points : {B : Type 0} (f : Point → B) (a n k : ℕ) → k ≤ n → drop k (map f (points_from (point a) n)) ≡ map f (points_from (point (a + k)) (n - k))
drop_points f a n zero h = let z : a + 0 ≡ a = omega arith in let y : n - 0 ≡ n = omega arith in rw (z, y)
drop_points f a zero (suc k) h = absurd (omega arith)
drop_points f a (suc n) (suc k) h = let z : a + suc k ≡ suc a + k = omega arith in let y : suc n - suc k ≡ n - k = omega arith in rw (z, y) (drop_points f (suc a) n k (omega arith))

pub points_length : (a : Point) (n : ℕ) → length (points_from a n) ≡ n
points_length a n = length-map (range a.0 n) point ∙ range_length a.0 n

module _ {A : Type 0} (f : Point → A) (d : A) where
  pub get_d_points : (a n k : ℕ) → k < n → get_or (map f (points_from (point a) n)) k d ≡ f (point (a + k))
  get_d_points a zero k h = absurd (omega arith)
  get_d_points a (suc n) zero h = let e : a + 0 ≡ a = omega arith in rw e
  get_d_points a (suc n) (suc k) h = let e : a + suc k ≡ suc a + k = omega arith in rw e (get_d_points (suc a) n k (omega arith))

pub map_points : {B : Type 0} (f g : Point → B) (a n : ℕ) → ((j : Point) → a ≤ j.0 → j.0 < a + n → f j ≡ g j) → map f (points_from (point a) n) ≡ map g (points_from (point a) n)
map_points f g a zero h = refl
map_points f g a (suc n) h = ap₂ (λ s t. s ∷ t) (h (point a) (omega arith) (omega arith)) (map_points f g (suc a) n (λ j u o. h j (omega arith) (omega arith)))

pub map_append : {A B : Type 0} (f : A → B) (xs ys : List A) → map f (xs ++ ys) ≡ map f xs ++ map f ys
map_append f [] ys = refl
map_append f (x ∷ xs) ys = ap (λ zs. f x ∷ zs) (map_append f xs ys)

-- ---- newly settled points

module _ (v : Inputs) (lowest : ℕ) (node : Node) (start : Point) (count : ℕ) (held : List (List ℕ)) where
  pub new_rows_at : (q : ℕ) → q < count → get_or (new_rows v lowest node start count held) q [] ≡ settle v lowest held start (point (start.0 + q)) node
  new_rows_at q h = get_d_points (λ i. settle v lowest held start i node) [] start.0 count q h

module _ (v : Inputs) (l : Log) (ordered : Ordered l) (F : ℕ → Formula) (n : Node) (f : Fine (formula_of F n)) where
  abbrev pub Ready : Point → Type 0
  Ready i = (settled l (formula_of F n) i ≡ true) × (children_of n ≡ [] → (r : ℕ) → v.event r ≡ rows_at l r i)

  pub new_rows_lem : (start : Point) (count : ℕ) → InputsAgree v l F n start → ((j : Point) → start.0 ≤ j.0 → j.0 < start.0 + count → Ready j)
      → new_rows v (lowest_of (free (formula_of F n))) n start count (pairs_before l (formula_of F n) start) ≡ map (vals l (formula_of F n)) (points_from start count)
  new_rows_lem start count s h = map_points _ (vals l (formula_of F n)) start.0 count (λ j u o. let r = h j u o in (settle_right v l ordered F start j u n s f r.0 r.1).0)

  pub new_pairs_lem : (start : Point) (count : ℕ) → InputsAgree v l F n start → ((j : Point) → start.0 ≤ j.0 → j.0 < start.0 + count → Ready j)
      → new_pairs v (lowest_of (free (formula_of F n))) n start count (pairs_before l (formula_of F n) start) ≡ pairs_before l (formula_of F n) (point (start.0 + count))
  new_pairs_lem start zero s h = let z : start.0 + 0 ≡ start.0 = omega arith in rw z
  new_pairs_lem start (suc count) s h =
      let z : start.0 + suc count - 1 ≡ start.0 + count = omega arith in
      rw (ne_eqb (start.0 + suc count) 0 (λ d. omega arith), z)
      (let r = h (point (start.0 + count)) (omega arith) (omega arith) in (settle_right v l ordered F start (point (start.0 + count)) (omega arith) n s f r.0 r.1).1)

-- an atom has settled every point
pub atom_counted : (l : Log) (F : ℕ → Formula) (n : Node) → children_of n ≡ [] → Counted l (formula_of F n) (size l)
atom_counted l F n e i = go (viewed F n).shape
  where
    go : Branches (view_of n) → settled l (formula_of F n) i ≡ ltb i.0 (size l)
    go (none c t) = (viewed F n).settles l i ∙ rw (c, t)
    go (single a c) = absurd (cons≢nil (sym (ap children_in c) ∙ e))
    go (double a b c p) = absurd (cons≢nil (sym (ap children_in c) ∙ e))

-- what is first wanted of a child moves on with its parent
pub wanted_on : (t : Times) (p q : ℕ) → p ≤ q → (first_wanted t p).0 ≤ (first_wanted t q).0
wanted_on Here p q h = h
wanted_on Before p q h = omega arith
wanted_on After p q h = omega arith
wanted_on Past p q h = h
wanted_on Future p q h = h

-- ---- the turns, one after the other

module _ (b : List ℕ) (es : List Entry) (τ : Point → Stamp) (before after : ℕ → ℕ) (event : ℕ → List (List ℕ)) where
  abbrev pub turns_up : ℕ → List Turn
  turns_up = turns_to b es τ before after event

  turns_length : (k : ℕ) → length (turns_up k) ≡ k
  turns_length zero = refl
  turns_length (suc k) = length-append (turns_up k) _ ∙ (let h : length (turns_up k) ≡ k = turns_length k in omega arith)

  turns_new : (k : ℕ) → get_or (turns_up (suc k)) k no_turn ≡ turn_of b es before after (inputs_of b τ after event (turns_up k)) k
  turns_new k = ap (λ z. get_or (turns_up (suc k)) z no_turn) (sym (turns_length k)) ∙ get_or-append_seam (turns_up k) _ [] no_turn

  turns_old : (k y : ℕ) → y < k → get_or (turns_up (suc k)) y no_turn ≡ get_or (turns_up k) y no_turn
  turns_old k y h = get_or-append (turns_up k) _ no_turn y (omega (arith, turns_length k))

  -- a turn stays as later nodes take theirs
  turns_stay : (k m y : ℕ) → y < k → get_or (turns_up (k + m)) y no_turn ≡ get_or (turns_up k) y no_turn
  turns_stay k zero y h = let e : k + 0 ≡ k = omega arith in rw e
  turns_stay k (suc m) y h = let e : k + suc m ≡ suc (k + m) = omega arith in rw e (turns_old (k + m) y (omega arith) ∙ turns_stay k m y h)

  -- what node x sees of a lower node's turn is that turn
  pub turns_seen : (k x y : ℕ) → y < x → x ≤ k → (inputs_of b τ after event (turns_up x)).rows y ≡ rows_of_turn (get_or (turns_up k) y no_turn)
  turns_seen k x y h l = let e : x + (k - x) ≡ k = omega arith in ap rows_of_turn (sym (turns_stay x (k - x) y h) ∙ ap (λ z. get_or (turns_up z) y no_turn) e)

  pub turns_at : (k x : ℕ) → x < k → get_or (turns_up k) x no_turn ≡ turn_of b es before after (inputs_of b τ after event (turns_up x)) x
  turns_at k x h = let e : k ≡ suc x + (k - suc x) = omega arith in ap (λ z. get_or (turns_up z) x no_turn) e ∙ turns_stay (suc x) (k - suc x) x (omega arith) ∙ turns_new x
