-- Rows of at most four words stand in the order of the rows that zeros make of them; the one file here that looks into `before`.
use Prim.Native.Nat.{ℕ, ◌+◌, ◌≤◌, ◌<◌}
use native.Mathlib.Omega.{arith}
use mathlib.Core.Bool.{Bool, false}
use mathlib.Core.List.{List, [], ◌∷◌}
use mathlib.Core.Path.{◌≡◌, refl, sym, ◌∙◌, ap₂}
use lib.ListN.{length, get_or, take, drop, length-drop, get_or-eq_default}
use lib.Seq.{get_or-take, get_or-drop, length-take-le}
use Rattle.meaning.specs.Order.{before}
use Rattle.report.specs.Form.{four}

-- a row of no words stands before none
pub none_before : (ys : List ℕ) → before 0 [] ys ≡ false
none_before ys = refl

pub four-before : (xs ys : List ℕ) → length xs ≡ length ys → length xs ≤ 4 → before 0 (four xs) (four ys) ≡ before 0 xs ys
four-before [] [] e h = refl
four-before [] (y ∷ ys) e h = absurd (omega arith)
four-before (x ∷ xs) [] e h = absurd (omega arith)
four-before (x ∷ []) (y ∷ []) e h = refl
four-before (x ∷ []) (y ∷ z ∷ ys) e h = absurd (omega arith)
four-before (x ∷ z ∷ xs) (y ∷ []) e h = absurd (omega arith)
four-before (x ∷ a ∷ []) (y ∷ b ∷ []) e h = refl
four-before (x ∷ a ∷ []) (y ∷ b ∷ c ∷ ys) e h = absurd (omega arith)
four-before (x ∷ a ∷ c ∷ xs) (y ∷ b ∷ []) e h = absurd (omega arith)
four-before (x ∷ a ∷ c ∷ []) (y ∷ b ∷ d ∷ []) e h = refl
four-before (x ∷ a ∷ c ∷ []) (y ∷ b ∷ d ∷ u ∷ ys) e h = absurd (omega arith)
four-before (x ∷ a ∷ c ∷ u ∷ xs) (y ∷ b ∷ d ∷ []) e h = absurd (omega arith)
four-before (x ∷ a ∷ c ∷ u ∷ []) (y ∷ b ∷ d ∷ v ∷ []) e h = refl
four-before (x ∷ a ∷ c ∷ u ∷ []) (y ∷ b ∷ d ∷ v ∷ w ∷ ys) e h = absurd (omega arith)
four-before (x ∷ a ∷ c ∷ u ∷ w ∷ xs) (y ∷ b ∷ d ∷ v ∷ ys) e h = absurd (omega arith)

-- the length of a row that lies within the words
pub row-length : (w : List ℕ) (i n : ℕ) → i + n ≤ length w → length (take n (drop i w)) ≡ n
row-length w i n h = length-take-le n (drop i w) (simp length-drop (omega arith))

-- two such rows
pub rows_before : (w : List ℕ) (i j n : ℕ) → i + n ≤ length w → j + n ≤ length w → n ≤ 4 → {x y : List ℕ} → x ≡ four (take n (drop i w)) → y ≡ four (take n (drop j w)) → {r : Bool} → r ≡ before 0 x y → r ≡ before 0 (take n (drop i w)) (take n (drop j w))
rows_before w i j n a b c p q e =
    let u : length (take n (drop i w)) ≡ n = row-length w i n a in
    let v : length (take n (drop j w)) ≡ n = row-length w j n b in
    e ∙ ap₂ (before 0) p q ∙ four-before (take n (drop i w)) (take n (drop j w)) (u ∙ sym v) (omega arith)

-- a word of a row, and past its end
pub word_in : (w : List ℕ) (i n c : ℕ) → c < n → get_or w (i + c) 0 ≡ get_or (take n (drop i w)) c 0
word_in w i n c h = sym (get_or-take n (drop i w) c 0 h ∙ get_or-drop i w c 0)

pub word_past : (w : List ℕ) (i n c : ℕ) → i + n ≤ length w → n ≤ c → 0 ≡ get_or (take n (drop i w)) c 0
word_past w i n c a h = let u : length (take n (drop i w)) ≡ n = row-length w i n a in sym (get_or-eq_default (take n (drop i w)) 0 (omega arith))
