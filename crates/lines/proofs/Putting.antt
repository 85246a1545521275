-- Text that is put part by part, by the laws of `Put` (writer): one byte or word, what is left of a list, and a row's values.
use Prim.Native.Nat.{ℕ, ◌+◌, ◌<◌, ◌≤◌}
use native.Mathlib.Nat.{add_assoc}
use native.Mathlib.Numerals.{add-one}
use native.Mathlib.Omega.{arith}
use mathlib.Core.Path.{◌≡◌, refl, ap}
use mathlib.Core.List.{List, [], ◌∷◌, ◌++◌, map, append_assoc}
use lib.ListN.{length, get_or, set, drop}
use lib.Seq.{drop-cons, drop-length}
use Rattle.meaning.specs.Lists.{gather}
use Rattle.writer.specs.Puts.{Put}
use Rattle.lines.specs.Text.{decimal, figure, space, line_end, row_line}
use Rattle.writer.proofs.Putting.{Putting, putting_more, putting_all}

pub put_one : (l : List ℕ) (i x : ℕ) → Put l i (x ∷ []) (set l i x) (i + 1)
put_one l i x = record { place = refl; stored = refl }

module _ (xs : List ℕ) (k : ℕ) where
  pub drop_next : k < length xs → drop k xs ≡ get_or xs k 0 ∷ drop (k + 1) xs
  drop_next h = rw (add-one k) (drop-cons xs k 0 h)

  pub drop_end : (n : ℕ) → n ≡ length xs → n ≤ k → k ≤ n → drop k xs ≡ []
  drop_end n e h l =
      let s : k ≡ length xs = omega arith in
      rw s (drop-length xs)

pub gather_each : {A : Type 0} (f : A → ℕ) (xs : List A) → gather (λ x. f x ∷ []) xs ≡ map f xs
gather_each f [] = refl
gather_each f (x ∷ xs) = ap (λ ys. f x ∷ ys) (gather_each f xs)

-- a text that is put byte by byte, of which k are put
module _ {before : List ℕ} {at : ℕ} {text after : List ℕ} {k : ℕ} (p : Putting before at text after (at + k) (drop k text)) where
  pub byte_more : k < length text → Putting before at text (set after (at + k) (get_or text k 0)) (at + (k + 1)) (drop (k + 1) text)
  byte_more h = rw (← add_assoc) (putting_more {us = get_or text k 0 ∷ []} (rw (drop_next text k h) at p) (put_one after (at + k) (get_or text k 0)))

  pub byte_all : {n : ℕ} → n ≡ length text → k ≤ n → n ≤ k → Put before at text after (at + n)
  byte_all {n} e h l =
      let s : k ≡ n = omega arith in
      rw s at (putting_all (rw (drop_end text k n e l h) at p))

-- a row's line: empty, or its first value, then the others
pub row_none : (row : List ℕ) → length row ≡ 0 → row_line row ≡ line_end
unfolding row_line
row_none [] e = refl
row_none (v ∷ vs) e = absurd (omega arith)

pub row-some : (row : List ℕ) → 0 < length row → row_line row ≡ decimal (get_or row 0 0) ++ (gather (figure space) (drop 1 row) ++ line_end)
unfolding row_line
row-some [] h = absurd (omega arith)
row-some (v ∷ vs) h = append_assoc (decimal v) (gather (figure space) vs) line_end

pub values_next : (row : List ℕ) (k : ℕ) → k < length row → gather (figure space) (drop k row) ++ line_end ≡ figure space (get_or row k 0) ++ (gather (figure space) (drop (k + 1) row) ++ line_end)
values_next row k h = rw (drop_next row k h) (append_assoc (figure space (get_or row k 0)) (gather (figure space) (drop (k + 1) row)) line_end)

pub values_end : (row : List ℕ) (k n : ℕ) → n ≡ length row → n ≤ k → k ≤ n → gather (figure space) (drop k row) ++ line_end ≡ line_end
values_end row k n e h l = rw (drop_end row k n e h l)
