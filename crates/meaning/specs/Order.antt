-- The order of rows (#103): "Rows that tie on the lowest free variable now descend by each later variable in turn."
use Rattle.std.specs.Prelude.{ℕ, zero, suc, ◌≡◌, Bool, true, false, ◌&&◌, ◌||◌, length, ltb, eqb}
use mathlib.Core.List.{List, [], ◌∷◌, Memᴰ}

-- the first of two lists of words has the higher word where they first differ
abbrev pub higher : List ℕ → List ℕ → Bool
higher [] ys = false
higher (x ∷ xs) [] = false
higher (x ∷ xs) (y ∷ ys) = ltb y x || (eqb y x && higher xs ys)

-- the first row stands before the second: "The lowest free variable of that node ascends, each later one descends." The words before the lowest free variable ascend too: they are 0 in rows of that node, and an age stands there in a pair.
abbrev pub before : ℕ → List ℕ → List ℕ → Bool
before lowest [] ys = false
before lowest (x ∷ xs) [] = false
before zero (x ∷ xs) (y ∷ ys) = ltb x y || (eqb x y && higher xs ys)
before (suc lowest) (x ∷ xs) (y ∷ ys) = ltb x y || (eqb x y && before lowest xs ys)

-- each row stands before the next
abbrev pub ascending : ℕ → List (List ℕ) → Bool
ascending lowest [] = true
ascending lowest (r ∷ []) = true
ascending lowest (r ∷ s ∷ rows) = before lowest r s && ascending lowest (s ∷ rows)

-- rows of one length, which the order tells apart
abbrev pub OfLength : ℕ → List (List ℕ) → Type 0
OfLength n rows = (r : List ℕ) → Memᴰ r rows → length r ≡ n
