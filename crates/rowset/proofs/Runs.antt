-- Runs of what an accessor gives: taken from the front, in two parts, after an item was put in place of another, and after one was put in among others.
-- Then runs of rows in words.
use Prim.Native.Nat.{ℕ, zero, suc, ◌+◌, ◌-◌, ◌*◌, ◌≤◌, ◌<◌}
use mathlib.Core.Logic.{◌≢◌}
use mathlib.Core.Path.{◌≡◌, refl, ap, ap₂, ◌∙◌}
use mathlib.Core.List.Memᴰ
use mathlib.Core.List.{List, [], ◌∷◌, ◌++◌, map}
use native.Mathlib.Nat.{zero-add, add-zero}
use native.Mathlib.Numerals.{add-one}
use native.Mathlib.Omega.{arith}
use lib.ListN.{length, get_or, set, take, drop, length-set}
use lib.Seq.{get_or-set_same, get_or-set_other, take_at, drop_at}
use Rattle.std.specs.List.{CopiedTo, SameBelow}
use Rattle.meaning.specs.Lists.{range}
use Rattle.meaning.specs.Order.{OfLength}
use Rattle.rowset.specs.declared.Row.{Row}
use Rattle.rowset.specs.Rows.{words_of, row_at, set_row, rows_from}

-- a run of what an accessor gives
module _ {A : Type 0} (at : ℕ → A) where
  pub run_first : (to i : ℕ) → i < to → map at (range i (to - i)) ≡ at i ∷ map at (range (i + 1) (to - (i + 1)))
  run_first to i l =
      let e : to - i ≡ suc (to - (i + 1)) = omega arith in
      rw (e, add-one i)

  pub run_end : (to i : ℕ) → to ≤ i → map at (range i (to - i)) ≡ []
  run_end to i l =
      let e : to - i ≡ 0 = omega arith in
      rw e

  pub run_length : (a n : ℕ) → length (map at (range a n)) ≡ n
  run_length a zero = refl
  run_length a (suc n) = ap suc (run_length (suc a) n)

  pub run_append : (a m n : ℕ) → map at (range a (m + n)) ≡ map at (range a m) ++ map at (range (a + m) n)
  run_append a zero n = rw (zero-add, add-zero)
  run_append a (suc m) n =
      let e : suc m + n ≡ suc (m + n) = omega arith in
      let f : suc a + m ≡ a + suc m = omega arith in
      rw e (ap (λ us. at a ∷ us) (rw f at (run_append (suc a) m n)))

  pub run_at : (d : A) (a n k : ℕ) → k < n → get_or (map at (range a n)) k d ≡ at (a + k)
  run_at d a zero k l = absurd (omega arith)
  run_at d a (suc n) zero l = rw add-zero
  run_at d a (suc n) (suc k) l =
      let f : suc a + k ≡ a + suc k = omega arith in
      rw f at (run_at d (suc a) n k (omega arith))

  -- the first n items, at p
  pub run_split : (n p : ℕ) → p ≤ n → map at (range 0 n) ≡ map at (range 0 p) ++ map at (range p (n - p))
  run_split n p l =
      let e : n ≡ p + (n - p) = omega arith in
      let f : 0 + p ≡ p = omega arith in
      ap (λ m. map at (range 0 m)) e ∙ rw f at (run_append 0 p (n - p))

  pub run_take : (n p : ℕ) → p ≤ n → take p (map at (range 0 n)) ≡ map at (range 0 p)
  run_take n p l = ap (take p) (run_split n p l) ∙ take_at (map at (range 0 p)) (map at (range p (n - p))) p (run_length 0 p)

  pub run_drop : (n p : ℕ) → p ≤ n → drop p (map at (range 0 n)) ≡ map at (range p (n - p))
  run_drop n p l = ap (drop p) (run_split n p l) ∙ drop_at (map at (range 0 p)) (map at (range p (n - p))) p (run_length 0 p)

-- two runs with the same items
pub run_same : {A : Type 0} (at bt : ℕ → A) (a n : ℕ) → ((k : ℕ) → a ≤ k → k < a + n → at k ≡ bt k) → map at (range a n) ≡ map bt (range a n)
run_same at bt a zero h = refl
run_same at bt a (suc n) h =
    ap₂ (λ x y. x ∷ y) (h a (omega arith) (omega arith)) (run_same at bt (suc a) n (λ k l m. h k (omega arith) (omega arith)))

-- the same, of another accessor's items from another on
pub run_moved : {A : Type 0} (at bt : ℕ → A) (a b n : ℕ) → ((k : ℕ) → k < n → at (a + k) ≡ bt (b + k)) → map at (range a n) ≡ map bt (range b n)
run_moved at bt a b zero h = refl
run_moved at bt a b (suc n) h =
    let e : a + 0 ≡ a = omega arith in
    let d : b + 0 ≡ b = omega arith in
    ap₂ (λ x xs. x ∷ xs) (rw (e, d) at (h 0 (omega arith))) (run_moved at bt (suc a) (suc b) n next)
  where
    next : (k : ℕ) → k < n → at (suc a + k) ≡ bt (suc b + k)
    next k l =
        let e : suc a + k ≡ a + suc k = omega arith in
        let d : suc b + k ≡ b + suc k = omega arith in
        rw (e, d) (h (suc k) (omega arith))

-- an accessor with x in place of item k
pub record Replaced {A : Type 0} (at at' : ℕ → A) (k : ℕ) (x : A) : Type 0 where
  pub here : at' k ≡ x
  pub others : (j : ℕ) → j ≢ k → at' j ≡ at j

-- an item put in place p among the first n, where those from there on have moved up by one
pub record Shifted {A : Type 0} (at at' : ℕ → A) (n p : ℕ) (x : A) : Type 0 where
  pub below : (k : ℕ) → k < p → at' k ≡ at k
  pub here : at' p ≡ x
  pub above : (k : ℕ) → p ≤ k → k < n → at' (k + 1) ≡ at k

pub run_shifted : {A : Type 0} {at at' : ℕ → A} {n p : ℕ} {x : A} → p ≤ n → Shifted at at' n p x → map at' (range 0 (n + 1)) ≡ map at (range 0 p) ++ x ∷ map at (range p (n - p))
run_shifted {A} {at} {at'} {n} {p} {x} l s =
    let e : n + 1 ≡ p + suc (n - p) = omega arith in
    let z : 0 + p ≡ p = omega arith in
    rw e (rw z at (run_append at' 0 p (suc (n - p))))
    ∙ ap₂ (λ us vs. us ++ vs) (run_same at' at 0 p (λ k a b. s.below k (omega arith))) (ap₂ (λ u us. u ∷ us) s.here (run_moved at' at (suc p) p (n - p) up))
  where
    up : (k : ℕ) → k < n - p → at' (suc p + k) ≡ at (p + k)
    up k m =
        let e : suc p + k ≡ p + k + 1 = omega arith in
        rw e (s.above (p + k) (omega arith) (omega arith))

-- a run of lists of one length
pub run_of_length : (at : ℕ → List ℕ) (m : ℕ) → ((k : ℕ) → length (at k) ≡ m) → (a n : ℕ) → OfLength m (map at (range a n))
run_of_length at m long a zero r h = absurd (Memᴰ.not-nil h)
run_of_length at m long a (suc n) r (Memᴰ.head e) = ap length e ∙ long a
run_of_length at m long a (suc n) r (Memᴰ.tail h) = run_of_length at m long (suc a) n r h

-- rows in words
module _ (ws : List ℕ) where
  pub rows_of_length : (a n : ℕ) → OfLength 4 (rows_from ws a n)
  unfolding rows_from
  rows_of_length a n = run_of_length (row_at ws) 4 (λ k. refl) a n

  rows_first : (to i : ℕ) → i < to → rows_from ws i (to - i) ≡ row_at ws i ∷ rows_from ws (i + 1) (to - (i + 1))
  unfolding rows_from
  rows_first to i l = run_first (row_at ws) to i l

  rows_end : (to i : ℕ) → to ≤ i → rows_from ws i (to - i) ≡ []
  unfolding rows_from
  rows_end to i l = run_end (row_at ws) to i l

  pub rows_none : rows_from ws 0 0 ≡ []
  unfolding rows_from
  rows_none = refl

  pub rows_length : (a n : ℕ) → length (rows_from ws a n) ≡ n
  unfolding rows_from
  rows_length a n = run_length (row_at ws) a n

  pub rows_append : (a m n : ℕ) → rows_from ws a (m + n) ≡ rows_from ws a m ++ rows_from ws (a + m) n
  unfolding rows_from
  rows_append a m n = run_append (row_at ws) a m n

  pub rows_at : (a n k : ℕ) → k < n → get_or (rows_from ws a n) k [] ≡ row_at ws (a + k)
  unfolding rows_from
  rows_at a n k l = run_at (row_at ws) [] a n k l

pub rows_same : (ws us : List ℕ) (a n : ℕ) → ((k : ℕ) → a ≤ k → k < a + n → row_at ws k ≡ row_at us k) → rows_from ws a n ≡ rows_from us a n
unfolding rows_from
rows_same ws us a n h = run_same (row_at ws) (row_at us) a n h

-- after the words of rows p..n were copied up by a row
module _ (old new : List ℕ) (n p : ℕ) (copied : CopiedTo old new (p * 4) ((p + 1) * 4) (n * 4 - p * 4)) (same : SameBelow old new ((p + 1) * 4)) where
  pub rows_below : (k : ℕ) → k < p + 1 → row_at new k ≡ row_at old k
  rows_below k l =
      let w0 = same (k * 4) 0 (omega arith) in
      let w1 = same (k * 4 + 1) 0 (omega arith) in
      let w2 = same (k * 4 + 2) 0 (omega arith) in
      let w3 = same (k * 4 + 3) 0 (omega arith) in
      λ t. w0 t ∷ w1 t ∷ w2 t ∷ w3 t ∷ []

  pub rows_above : (k : ℕ) → p ≤ k → k < n → row_at new (k + 1) ≡ row_at old k
  rows_above k l m =
      let e0 : p * 4 + ((k + 1) * 4 - (p + 1) * 4) ≡ k * 4 = omega arith in
      let e1 : p * 4 + ((k + 1) * 4 + 1 - (p + 1) * 4) ≡ k * 4 + 1 = omega arith in
      let e2 : p * 4 + ((k + 1) * 4 + 2 - (p + 1) * 4) ≡ k * 4 + 2 = omega arith in
      let e3 : p * 4 + ((k + 1) * 4 + 3 - (p + 1) * 4) ≡ k * 4 + 3 = omega arith in
      let w0 = rw e0 at (copied ((k + 1) * 4) 0 (omega arith) (omega arith)) in
      let w1 = rw e1 at (copied ((k + 1) * 4 + 1) 0 (omega arith) (omega arith)) in
      let w2 = rw e2 at (copied ((k + 1) * 4 + 2) 0 (omega arith) (omega arith)) in
      let w3 = rw e3 at (copied ((k + 1) * 4 + 3) 0 (omega arith) (omega arith)) in
      λ t. w0 t ∷ w1 t ∷ w2 t ∷ w3 t ∷ []

-- after a row was put in place of row k
module _ (ws : List ℕ) (k : ℕ) (r : Row) where
  pub put_long : length (set_row ws k r) ≡ length ws
  unfolding set_row
  put_long = simp length-set

  pub put_same : k * 4 + 4 ≤ length ws → row_at (set_row ws k r) k ≡ words_of r
  unfolding set_row
  put_same l =
      let s0 : List ℕ = set ws (k * 4) r.v0 in
      let s1 : List ℕ = set s0 (k * 4 + 1) r.v1 in
      let s2 : List ℕ = set s1 (k * 4 + 2) r.v2 in
      let l0 : length s0 ≡ length ws = length-set ws (k * 4) r.v0 in
      let l1 : length s1 ≡ length s0 = length-set s0 (k * 4 + 1) r.v1 in
      let l2 : length s2 ≡ length s1 = length-set s1 (k * 4 + 2) r.v2 in
      let e0 : get_or (set_row ws k r) (k * 4) 0 ≡ r.v0
      = get_or-set_other s2 (k * 4 + 3) (k * 4) r.v3 0 (omega arith)
      ∙ get_or-set_other s1 (k * 4 + 2) (k * 4) r.v2 0 (omega arith)
      ∙ get_or-set_other s0 (k * 4 + 1) (k * 4) r.v1 0 (omega arith)
      ∙ get_or-set_same ws (k * 4) r.v0 0 (omega arith) in
      let e1 : get_or (set_row ws k r) (k * 4 + 1) 0 ≡ r.v1
      = get_or-set_other s2 (k * 4 + 3) (k * 4 + 1) r.v3 0 (omega arith)
      ∙ get_or-set_other s1 (k * 4 + 2) (k * 4 + 1) r.v2 0 (omega arith)
      ∙ get_or-set_same s0 (k * 4 + 1) r.v1 0 (omega arith) in
      let e2 : get_or (set_row ws k r) (k * 4 + 2) 0 ≡ r.v2
      = get_or-set_other s2 (k * 4 + 3) (k * 4 + 2) r.v3 0 (omega arith)
      ∙ get_or-set_same s1 (k * 4 + 2) r.v2 0 (omega arith) in
      let e3 : get_or (set_row ws k r) (k * 4 + 3) 0 ≡ r.v3 = get_or-set_same s2 (k * 4 + 3) r.v3 0 (omega arith) in
      λ t. e0 t ∷ e1 t ∷ e2 t ∷ e3 t ∷ []

  -- words outside of row k stay, and so do the other rows
  word_kept : (j : ℕ) → j ≢ k * 4 → j ≢ k * 4 + 1 → j ≢ k * 4 + 2 → j ≢ k * 4 + 3 → get_or (set_row ws k r) j 0 ≡ get_or ws j 0
  unfolding set_row
  word_kept j n0 n1 n2 n3 = simp get_or-set_other

  pub put_other : (j : ℕ) → j ≢ k → row_at (set_row ws k r) j ≡ row_at ws j
  put_other j n =
      let e0 = word_kept (j * 4) (omega arith) (omega arith) (omega arith) (omega arith) in
      let e1 = word_kept (j * 4 + 1) (omega arith) (omega arith) (omega arith) (omega arith) in
      let e2 = word_kept (j * 4 + 2) (omega arith) (omega arith) (omega arith) (omega arith) in
      let e3 = word_kept (j * 4 + 3) (omega arith) (omega arith) (omega arith) (omega arith) in
      λ t. e0 t ∷ e1 t ∷ e2 t ∷ e3 t ∷ []

  pub row-replaced : k * 4 + 4 ≤ length ws → {ws' : List ℕ} → ws' ≡ set_row ws k r → Replaced (row_at ws) (row_at ws') k (words_of r)
  row-replaced l e = rw e (record { here = put_same l; others = put_other })
