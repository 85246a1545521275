-- Looking for a valuation (#102): "Looking for a valuation in an ordered set, however it is done now, is to stop at the first larger one." No definition of the meaning rests on it.
use Rattle.std.specs.Prelude.{ℕ, ◌+◌, ◌≤◌, ◌<◌, ◌≡◌, Bool, true, false, cond, List, [], ◌∷◌, ◌++◌, length, get_or, Result, Ok, Err}
use Rattle.meaning.specs.Lists.{same_row}
use Rattle.meaning.specs.Order.{before, ascending, OfLength}
use Rattle.meaning.specs.Evaluator.{member}

-- What looking for a valuation among rows gives: `Ok` with the place where it stands; or `Err`, that it isn't there, with the place of the first larger one, or how many rows there are.
-- An answer over the rows from row k on, with its place counted from row 0
abbrev pub onward : ℕ → Result ℕ ℕ → Result ℕ ℕ
onward k (Ok p) = Ok (k + p)
onward k (Err p) = Err (k + p)

-- "from the front, one after another: the place of the first equal one unless a larger one comes before it, else 'isn't there'"; then with the place where the search has stopped, at the first larger one or behind all
abbrev pub look_up : ℕ → List ℕ → List (List ℕ) → Result ℕ ℕ
look_up lowest r [] = Err 0
look_up lowest r (s ∷ rows) = cond (before lowest r s) (Err 0) (cond (same_row r s) (Ok 0) (onward 1 (look_up lowest r rows)))

abbrev pub is_there : Result ℕ ℕ → Bool
is_there (Ok p) = true
is_there (Err p) = false

-- none of the first p rows is larger than r, or equal to it
abbrev pub Passes : ℕ → List ℕ → List (List ℕ) → ℕ → Type 0
Passes lowest r rows p = (k : ℕ) → k < p → (before lowest r (get_or rows k []) ≡ false) × (same_row r (get_or rows k []) ≡ false)

-- What looking up promises, of any row and any lists of rows, in order or not
pub record LooksUp : Type 0 where
  -- "answered alike whatever follows that larger one, in order or not": of two lists that agree up to and with it
  pub alike : (lowest : ℕ) (r : List ℕ) (front : List (List ℕ)) (larger : List ℕ) (rest rest' : List (List ℕ)) → before lowest r larger ≡ true → look_up lowest r (front ++ larger ∷ rest) ≡ look_up lowest r (front ++ larger ∷ rest')
  -- "where the valuation stands"
  pub there : (lowest : ℕ) (r : List ℕ) (rows : List (List ℕ)) (p : ℕ) → look_up lowest r rows ≡ Ok p → (p < length rows) × (get_or rows p [] ≡ r) × Passes lowest r rows p
  -- "or that it isn't there"
  pub absent : (lowest : ℕ) (r : List ℕ) (rows : List (List ℕ)) (p : ℕ) → look_up lowest r rows ≡ Err p → (p ≤ length rows) × (p < length rows → before lowest r (get_or rows p []) ≡ true) × Passes lowest r rows p
  -- a search that begins behind rows of which none is larger or equal answers as one from the front
  pub behind : (lowest : ℕ) (r : List ℕ) (front rest : List (List ℕ)) → Passes lowest r front (length front) → look_up lowest r (front ++ rest) ≡ onward (length front) (look_up lowest r rest)
  -- in an ordered set it finds what is in it
  pub finds : (lowest : ℕ) (r : List ℕ) (rows : List (List ℕ)) → OfLength (length r) rows → ascending lowest rows ≡ true → is_there (look_up lowest r rows) ≡ member r rows
