-- Entries in words: by the parts of an owner, in two parts one behind the other, and where a run ends.
use Prim.Native.Nat.{ℕ, ◌+◌, ◌-◌, ◌*◌, ◌/◌, ◌%◌, ◌≤◌, ◌<◌}
use mathlib.Core.Path.{◌≡◌, ap₂}
use mathlib.Core.List.{List, ◌++◌}
use native.Mathlib.Omega.{arith}
use Rattle.meaning.specs.Kept.{entry_of}
use Rattle.entries.specs.Entries.{owned_by, entry_at, entries_from, is_word, run_of}
use Rattle.entries.proofs.Streaks.{streak-within}
use Rattle.entries.proofs.Listed.{listed_append}

-- an entry by the parts of its owner
pub owned_by_lem : (x mark number : ℕ) (r : List ℕ) → mark < 2 → owned_by (x * 2 + mark) number r ≡ entry_of x mark number r
owned_by_lem x mark number r l =
    let e : (x * 2 + mark) / 2 ≡ x = omega arith in
    let f : (x * 2 + mark) % 2 ≡ mark = omega arith in
    ap₂ (λ a b. entry_of a b number r) e f

-- entries in two parts
pub entries_append : (os ns vs : List ℕ) (a m n : ℕ) → entries_from os ns vs a (m + n) ≡ entries_from os ns vs a m ++ entries_from os ns vs (a + m) n
unfolding entries_from
entries_append os ns vs a m n = listed_append (entry_at os ns vs) a m n

-- a run ends before the words do
pub run_within : (words : List ℕ) (cursor count word : ℕ) → cursor ≤ count → cursor + run_of words cursor count word ≤ count
unfolding run_of
run_within words cursor count word l = omega (arith, streak-within (is_word words word) cursor (count - cursor))
