-- Looking up: what it promises of any lists, how a search goes on from row to row, and that in an ascending list of rows of one length it finds what is in it.
use Rattle.std.specs.Prelude.{Result, Ok, Err}
use Prim.Native.Nat.{ℕ, zero, suc, ◌+◌, ◌≤◌, ◌<◌}
use native.Mathlib.Omega.{arith}
use mathlib.Core.Path.{◌≡◌, refl, sym, ap, ◌∙◌}
use mathlib.Core.Bool.{true, false, cond, true≢false}
use mathlib.Core.List.Memᴰ
use mathlib.Core.List.{List, [], ◌∷◌, ◌++◌}
use lib.ListN.{length, get_or, take, drop}
use Rattle.meaning.specs.Lists.{same_row}
use Rattle.meaning.specs.Order.{before, ascending, OfLength}
use Rattle.meaning.specs.Evaluator.{insert, member}
use Rattle.meaning.specs.LookUp.{onward, look_up, is_there, Passes, LooksUp}
use Rattle.meaning.proofs.Points.{Tested, passed, failed, tested, first, second}
use Rattle.meaning.proofs.Rows.{before_transitive, ascending_tail, same_row_lem}
use Rattle.meaning.proofs.Order.{asymmetric, total, before_other, after_other, same_not_after}

pub onward_twice : (j k : ℕ) (a : Result ℕ ℕ) → onward j (onward k a) ≡ onward (j + k) a
onward_twice j k (Ok p) =
    let e : j + (k + p) ≡ j + k + p = omega arith in
    ap Ok e
onward_twice j k (Err p) =
    let e : j + (k + p) ≡ j + k + p = omega arith in
    ap Err e

pub onward_none : (a : Result ℕ ℕ) → onward 0 a ≡ a
onward_none (Ok p) =
    let e : 0 + p ≡ p = omega arith in
    ap Ok e
onward_none (Err p) =
    let e : 0 + p ≡ p = omega arith in
    ap Err e

pub is_onward : (k : ℕ) (a : Result ℕ ℕ) → is_there (onward k a) ≡ is_there a
is_onward k (Ok p) = refl
is_onward k (Err p) = refl

module _ (lowest : ℕ) where
  -- a search at one row: it goes on past one that is before, and stops at an equal or a larger one
  module _ (r s : List ℕ) (rows : List (List ℕ)) where
    look_passed : before lowest r s ≡ false → same_row r s ≡ false → look_up lowest r (s ∷ rows) ≡ onward 1 (look_up lowest r rows)
    look_passed e f = rw (e, f)

    pub look_on : before lowest s r ≡ true → look_up lowest r (s ∷ rows) ≡ onward 1 (look_up lowest r rows)
    look_on p = look_passed (asymmetric lowest s r p) (after_other lowest r s p)

    pub look_there : same_row s r ≡ true → look_up lowest r (s ∷ rows) ≡ Ok 0
    look_there e = rw (same_not_after lowest s r e, (same_row_lem r s).1 (sym ((same_row_lem s r).0 e)))

    pub look_absent : before lowest r s ≡ true → look_up lowest r (s ∷ rows) ≡ Err 0
    look_absent p = rw p

  alike : (r : List ℕ) (front : List (List ℕ)) (larger : List ℕ) (rest rest' : List (List ℕ)) → before lowest r larger ≡ true → look_up lowest r (front ++ larger ∷ rest) ≡ look_up lowest r (front ++ larger ∷ rest')
  alike r [] larger rest rest' p = rw p
  alike r (s ∷ front) larger rest rest' p = ap (λ a. cond (before lowest r s) (Err 0) (cond (same_row r s) (Ok 0) (onward 1 a))) (alike r front larger rest rest' p)

  -- one row more at the front is passed
  passes_more : (r s : List ℕ) (rows : List (List ℕ)) (p : ℕ) → before lowest r s ≡ false → same_row r s ≡ false → Passes lowest r rows p → Passes lowest r (s ∷ rows) (suc p)
  passes_more r s rows p e f h zero l = (e, f)
  passes_more r s rows p e f h (suc k) l = h k (omega arith)

  -- how a search ends: at an equal row, or at a larger one or the end
  data Ends (r : List ℕ) (rows : List (List ℕ)) : Result ℕ ℕ → Type 0 where
    at_equal : (p : ℕ) → p < length rows → get_or rows p [] ≡ r → Passes lowest r rows p → Ends r rows (Ok p)
    at_larger : (p : ℕ) → p ≤ length rows → (p < length rows → before lowest r (get_or rows p []) ≡ true) → Passes lowest r rows p → Ends r rows (Err p)

  ends : (r : List ℕ) (rows : List (List ℕ)) → Ends r rows (look_up lowest r rows)
  ends r [] = at_larger 0 (omega arith) (λ l. absurd (omega arith)) (λ k l. absurd (omega arith))
  ends r (s ∷ rows) = go (tested (before lowest r s)) (tested (same_row r s)) (ends r rows)
    where
      more : {a : Result ℕ ℕ} → before lowest r s ≡ false → same_row r s ≡ false → Ends r rows a → Ends r (s ∷ rows) (onward 1 a)
      more b e (at_equal p l f h) =
          let z : 1 + p ≡ suc p = omega arith in
          rw z (at_equal (suc p) (omega arith) f (passes_more r s rows p b e h))
      more b e (at_larger p l f h) =
          let z : 1 + p ≡ suc p = omega arith in
          rw z (at_larger (suc p) (omega arith) (λ m. f (omega arith)) (passes_more r s rows p b e h))

      go : Tested (before lowest r s) → Tested (same_row r s) → Ends r rows (look_up lowest r rows) → Ends r (s ∷ rows) (look_up lowest r (s ∷ rows))
      go (passed b) e h = rw b (at_larger 0 (omega arith) (λ l. b) (λ k l. absurd (omega arith)))
      go (failed b) (passed e) h = rw (b, e) (at_equal 0 (omega arith) (sym ((same_row_lem r s).0 e)) (λ k l. absurd (omega arith)))
      go (failed b) (failed e) h = rw (look_passed r s rows b e) (more b e h)

  there : (r : List ℕ) (rows : List (List ℕ)) (p : ℕ) → look_up lowest r rows ≡ Ok p → (p < length rows) × (get_or rows p [] ≡ r) × Passes lowest r rows p
  there r rows p e = go (ends r rows) e
    where
      go : {a : Result ℕ ℕ} → Ends r rows a → a ≡ Ok p → (p < length rows) × (get_or rows p [] ≡ r) × Passes lowest r rows p
      go (at_equal q l f h) d =
          let z : p ≡ q = cc in
          rw z (l, f, h)
      go (at_larger q l f h) d = cc

  absent : (r : List ℕ) (rows : List (List ℕ)) (p : ℕ) → look_up lowest r rows ≡ Err p → (p ≤ length rows) × (p < length rows → before lowest r (get_or rows p []) ≡ true) × Passes lowest r rows p
  absent r rows p e = go (ends r rows) e
    where
      go : {a : Result ℕ ℕ} → Ends r rows a → a ≡ Err p → (p ≤ length rows) × (p < length rows → before lowest r (get_or rows p []) ≡ true) × Passes lowest r rows p
      go (at_equal q l f h) d = cc
      go (at_larger q l f h) d =
          let z : p ≡ q = cc in
          rw z (l, f, h)

  behind : (r : List ℕ) (front rest : List (List ℕ)) → Passes lowest r front (length front) → look_up lowest r (front ++ rest) ≡ onward (length front) (look_up lowest r rest)
  behind r [] rest h = sym (onward_none (look_up lowest r rest))
  behind r (s ∷ front) rest h =
      let (b, e) = h 0 (omega arith) in
      let z : 1 + length front ≡ suc (length front) = omega arith in
      look_passed r s (front ++ rest) b e
      ∙ ap (onward 1) (behind r front rest (λ k l. h (suc k) (omega arith)))
      ∙ onward_twice 1 (length front) (look_up lowest r rest)
      ∙ ap (λ k. onward k (look_up lowest r rest)) z

  -- what stands before the first of an ascending list isn't in it
  not-member : (r s : List ℕ) (rows : List (List ℕ)) → ascending lowest (s ∷ rows) ≡ true → before lowest r s ≡ true → member r (s ∷ rows) ≡ false
  not-member r s [] a p = rw (before_other lowest r s p)
  not-member r s (t ∷ rows) a p =
      rw (before_other lowest r s p)
      (not-member r t rows (second (before lowest s t) (ascending lowest (t ∷ rows)) a) (before_transitive lowest r s t p (first (before lowest s t) (ascending lowest (t ∷ rows)) a)))

  -- in an ascending list of rows of the row's length, looking up finds what is in it
  pub look-member : (r : List ℕ) (rows : List (List ℕ)) → OfLength (length r) rows → ascending lowest rows ≡ true → is_there (look_up lowest r rows) ≡ member r rows
  look-member r [] n a = refl
  look-member r (s ∷ rows) n a = go (tested (before lowest r s)) (tested (same_row r s)) (look-member r rows (λ u m. n u (Memᴰ.tail m)) (ascending_tail lowest s rows a))
    where
      go : Tested (before lowest r s) → Tested (same_row r s) → is_there (look_up lowest r rows) ≡ member r rows → is_there (look_up lowest r (s ∷ rows)) ≡ member r (s ∷ rows)
      go (passed b) e rest = rw b (sym (not-member r s rows a b))
      go (failed b) (passed e) rest = rw (b, e)
      go (failed b) (failed e) rest = ap is_there (look_passed r s rows b e) ∙ is_onward 1 (look_up lowest r rows) ∙ rest ∙ rw e

  -- putting in: a row that is there isn't put in, and one that isn't goes to the place where the search has stopped
  pub insert_there : (r : List ℕ) (rows : List (List ℕ)) (p : ℕ) → look_up lowest r rows ≡ Ok p → insert lowest r rows ≡ rows
  insert_there r [] p d = cc
  insert_there r (s ∷ rows) p d = go (insert_there r rows) (tested (before lowest r s)) (tested (same_row r s)) (tested (before lowest s r)) d
    where
      further : ((q : ℕ) → look_up lowest r rows ≡ Ok q → insert lowest r rows ≡ rows) → (a : Result ℕ ℕ) → look_up lowest r rows ≡ a → onward 1 a ≡ Ok p → insert lowest r rows ≡ rows
      further rest (Ok q) f h = rest q f
      further rest (Err q) f h = cc

      go : ((q : ℕ) → look_up lowest r rows ≡ Ok q → insert lowest r rows ≡ rows) → Tested (before lowest r s) → Tested (same_row r s) → Tested (before lowest s r) → look_up lowest r (s ∷ rows) ≡ Ok p → insert lowest r (s ∷ rows) ≡ s ∷ rows
      go rest (passed b) e o h = cc (look_absent r s rows b)
      go rest (failed b) e (failed o) h = rw (b, o)
      go rest (failed b) (passed e) (passed o) h = absurd (true≢false (sym o ∙ same_not_after lowest r s e))
      go rest (failed b) (failed e) (passed o) h = rw (b, o) (ap (λ t. s ∷ t) (further rest (look_up lowest r rows) refl (sym (look_passed r s rows b e) ∙ h)))

  pub insert_absent : (r : List ℕ) (rows : List (List ℕ)) (p : ℕ) → OfLength (length r) rows → look_up lowest r rows ≡ Err p → insert lowest r rows ≡ take p rows ++ r ∷ drop p rows
  insert_absent r [] p n d =
      let z : p ≡ 0 = cc in
      rw z
  insert_absent r (s ∷ rows) p n d = go (λ q. insert_absent r rows q (λ u m. n u (Memᴰ.tail m))) (tested (before lowest r s)) (tested (same_row r s)) (tested (before lowest s r)) d
    where
      further : ((q : ℕ) → look_up lowest r rows ≡ Err q → insert lowest r rows ≡ take q rows ++ r ∷ drop q rows) → (a : Result ℕ ℕ) → look_up lowest r rows ≡ a → onward 1 a ≡ Err p → s ∷ insert lowest r rows ≡ take p (s ∷ rows) ++ r ∷ drop p (s ∷ rows)
      further rest (Ok q) f h = cc
      further rest (Err q) f h =
          let y : p ≡ 1 + q = cc in
          let z : p ≡ suc q = omega arith in
          rw z (ap (λ t. s ∷ t) (rest q f))

      go : ((q : ℕ) → look_up lowest r rows ≡ Err q → insert lowest r rows ≡ take q rows ++ r ∷ drop q rows) → Tested (before lowest r s) → Tested (same_row r s) → Tested (before lowest s r) → look_up lowest r (s ∷ rows) ≡ Err p → insert lowest r (s ∷ rows) ≡ take p (s ∷ rows) ++ r ∷ drop p (s ∷ rows)
      go rest (passed b) e o h =
          let z : p ≡ 0 = cc (look_absent r s rows b) in
          rw (b, z)
      go rest (failed b) (passed e) o h = cc (look_there r s rows ((same_row_lem s r).1 (sym ((same_row_lem r s).0 e))))
      go rest (failed b) (failed e) (failed o) h = absurd (true≢false (sym (total lowest r s (sym (n s (Memᴰ.head refl))) b o) ∙ e))
      go rest (failed b) (failed e) (passed o) h = rw (b, o) (further rest (look_up lowest r rows) refl (sym (look_passed r s rows b e) ∙ h))

pub looks_up : LooksUp
looks_up = record { alike = alike; there = there; absent = absent; behind = behind; finds = look-member }
