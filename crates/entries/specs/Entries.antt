-- Kept entries as they stand in three lists: the owner of each, a node twice and its mark; its number; and its row of four words.
-- Entries of one owner and number stand together: a run.
use Rattle.std.specs.Prelude.{ℕ, zero, suc, ◌-◌, ◌*◌, ◌/◌, ◌%◌, ◌≤◌, Bool, false, cond, ◌&&◌, List, [], ◌∷◌, map, length, get_or, eqb}
use Rattle.meaning.specs.Lists.{range}
use Rattle.meaning.specs.Kept.{Entry, entry_of}
use Rattle.rowset.specs.Rows.{row_at}

-- an entry by its owner in one word
abbrev pub owned_by : ℕ → ℕ → List ℕ → Entry
owned_by owner number values = entry_of (owner / 2) (owner % 2) number values

abbrev pub entry_at : List ℕ → List ℕ → List ℕ → ℕ → Entry
entry_at owners numbers values k = owned_by (get_or owners k 0) (get_or numbers k 0) (row_at values k)

-- as many entries as count says, from entry from on
unfoldable pub entries_from : List ℕ → List ℕ → List ℕ → ℕ → ℕ → List Entry
entries_from owners numbers values from count = map (entry_at owners numbers values) (range from count)

-- how many numbers from i on pass a test, one after the other, of as many as left says
abbrev pub streak : (ℕ → Bool) → ℕ → ℕ → ℕ
streak p i zero = 0
streak p i (suc left) = cond (p i) (suc (streak p (suc i) left)) 0

-- word k is that word
abbrev pub is_word : List ℕ → ℕ → ℕ → Bool
is_word words word k = eqb (get_or words k 0) word

-- how many words from cursor on, before count, are that word, one after the other
unfoldable pub run_of : List ℕ → ℕ → ℕ → ℕ → ℕ
run_of words cursor count word = streak (is_word words word) cursor (count - cursor)

-- an entry has that owner, and number
abbrev pub has_owner : ℕ → ℕ → Entry → Bool
has_owner x mark e = eqb e.node x && eqb e.mark mark

abbrev pub is_entry : ℕ → ℕ → ℕ → Entry → Bool
is_entry x mark number e = has_owner x mark e && eqb e.number number

module _ {A : Type 0} where
  -- the first of them passes
  abbrev pub begins : (A → Bool) → List A → Bool
  begins q [] = false
  begins q (x ∷ xs) = q x

-- count entries stand in the lists, or have room there
pub record EntriesWithin (owners numbers values : List ℕ) (count : ℕ) : Type 0 where
  pub owners_there : count ≤ length owners
  pub numbers_there : count ≤ length numbers
  pub values_there : count * 4 ≤ length values
