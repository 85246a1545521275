-- Sets of valuations as they stand in words: rows of four words, put in up to a limit.
use Rattle.std.specs.Prelude.{ℕ, ◌+◌, ◌*◌, Bool, cond, List, [], ◌∷◌, map, length, get_or, set, ltb}
use Rattle.std.specs.declared.cmp.Ordering.{Ordering}
use Rattle.std.specs.declared.cmp.Ordering.TheVariants.{Less, Equal, Greater}
use Rattle.meaning.specs.Outcome.{most_rows}
use Rattle.meaning.specs.Lists.{range, same_row}
use Rattle.meaning.specs.Order.{before}
use Rattle.meaning.specs.Evaluator.{insert}
use Rattle.rowset.specs.declared.Row.{Row}

abbrev pub words_of : Row → List ℕ
words_of r = r.v0 ∷ r.v1 ∷ r.v2 ∷ r.v3 ∷ []

-- row k of a run of words, four to a row
abbrev pub row_at : List ℕ → ℕ → List ℕ
row_at ws k = get_or ws (k * 4) 0 ∷ get_or ws (k * 4 + 1) 0 ∷ get_or ws (k * 4 + 2) 0 ∷ get_or ws (k * 4 + 3) 0 ∷ []

-- the words with the four of row k replaced
unfoldable pub set_row : List ℕ → ℕ → Row → List ℕ
set_row ws k r = set (set (set (set ws (k * 4) r.v0) (k * 4 + 1) r.v1) (k * 4 + 2) r.v2) (k * 4 + 3) r.v3

-- as many rows as count says, from row from on
unfoldable pub rows_from : List ℕ → ℕ → ℕ → List (List ℕ)
rows_from ws from count = map (row_at ws) (range from count)

-- how two rows stand to each other, where it is known whether the first is before the second and whether they are the same
abbrev pub compared_by : Bool → Bool → Ordering
compared_by less same = cond less Less (cond same Equal Greater)

abbrev pub compared : ℕ → List ℕ → List ℕ → Ordering
compared lowest x y = compared_by (before lowest x y) (same_row x y)

-- rows at most that a set takes: one more than a node may have, so that too many shows
abbrev pub most_held : ℕ
most_held = most_rows + 1

abbrev pub add_capped : ℕ → List (List ℕ) → List ℕ → List (List ℕ)
add_capped lowest set r = cond (ltb (length set) most_held) (insert lowest r set) set

abbrev pub add_all_capped : ℕ → List (List ℕ) → List (List ℕ) → List (List ℕ)
add_all_capped lowest set [] = set
add_all_capped lowest set (r ∷ rows) = add_all_capped lowest (add_capped lowest set r) rows
