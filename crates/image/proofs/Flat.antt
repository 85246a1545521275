-- Items of one width end to end: read off words, and put behind each other again.
use Prim.Native.Nat.{ℕ, zero, suc, ◌+◌, ◌*◌, ◌≤◌, ◌<◌}
use native.Mathlib.Omega.{arith}
use mathlib.Core.Path.{◌≡◌, sym, ◌∙◌, ap, ap₂}
use mathlib.Core.List.{List, [], ◌∷◌, ◌++◌, map}
use lib.ListN.{length, get_or, take, drop, length-drop}
use lib.Seq.{take-add, length-take-le, get_or-take, get_or-drop}
use Rattle.meaning.specs.Lists.{range, gather}
use Rattle.method.proofs.Lists.{gather_more}
use Rattle.method.proofs.Turns.{from_get_d}
use Rattle.rowset.specs.Rows.{row_at}

-- n items of width w, each of which is the words at its place, are the first n * w words
pub flat : (w : ℕ) (ws : List ℕ) (f : ℕ → List ℕ) (n : ℕ) → ((k : ℕ) → k < n → f k ≡ take w (drop (k * w) ws)) → gather f (range 0 n) ≡ take (n * w) ws
flat w ws f zero h =
    let z : 0 * w ≡ 0 = omega arith in
    rw z
flat w ws f (suc n) h =
    let e : suc n ≡ n + 1 = omega arith in
    let t : suc n * w ≡ n * w + w = omega arith in
    ap (λ m. gather f (range 0 m)) e ∙ gather_more f n ∙ ap₂ (λ us vs. us ++ vs) (flat w ws f n (λ k l. h k (omega arith))) (h n (omega arith)) ∙ sym (take-add (n * w) w ws) ∙ ap (λ m. take m ws) (sym t)

-- the words at an item's place, one by one
pub words_at : (w : ℕ) (ws : List ℕ) (k : ℕ) → k * w + w ≤ length ws → take w (drop (k * w) ws) ≡ map (λ i. get_or ws (k * w + i) 0) (range 0 w)
words_at w ws k l =
    from_get_d (take w (drop (k * w) ws)) w (λ i. get_or ws (k * w + i) 0) (length-take-le w (drop (k * w) ws) (simp length-drop (omega arith))) (λ i u. get_or-take w (drop (k * w) ws) i 0 u ∙ get_or-drop (k * w) ws i 0)

pub three_at : (ws : List ℕ) (k : ℕ) → k * 3 + 3 ≤ length ws → take 3 (drop (k * 3) ws) ≡ get_or ws (k * 3) 0 ∷ get_or ws (k * 3 + 1) 0 ∷ get_or ws (k * 3 + 2) 0 ∷ []
three_at ws k l =
    let z : k * 3 + 0 ≡ k * 3 = omega arith in
    words_at 3 ws k l ∙ ap (λ j. get_or ws j 0 ∷ get_or ws (k * 3 + 1) 0 ∷ get_or ws (k * 3 + 2) 0 ∷ []) z

pub row_at_lem : (ws : List ℕ) (k : ℕ) → k * 4 + 4 ≤ length ws → take 4 (drop (k * 4) ws) ≡ row_at ws k
row_at_lem ws k l =
    let z : k * 4 + 0 ≡ k * 4 = omega arith in
    words_at 4 ws k l ∙ ap (λ j. get_or ws j 0 ∷ get_or ws (k * 4 + 1) 0 ∷ get_or ws (k * 4 + 2) 0 ∷ get_or ws (k * 4 + 3) 0 ∷ []) z

-- rows read off words are these words
pub rows_flat : (ws : List ℕ) (n : ℕ) → n * 4 ≤ length ws → gather (row_at ws) (range 0 n) ≡ take (n * 4) ws
rows_flat ws n l = flat 4 ws (row_at ws) n (λ k u. sym (row_at_lem ws k (omega arith)))
