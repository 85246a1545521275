-- What functions over sets ask and ensure: a run of rows that is read, where a search in a set may begin, room for a set, and rows put into it.
use Rattle.std.specs.Prelude.{ℕ, ◌-◌, ◌*◌, ◌≤◌, ◌<◌, ◌≡◌, true, List, map, length, Result, Ok, Err}
use Rattle.std.specs.declared.cmp.Ordering.{Ordering}
use Rattle.meaning.specs.Outcome.{most_rows}
use Rattle.meaning.specs.Lists.{range}
use Rattle.meaning.specs.Order.{before}
use Rattle.meaning.specs.LookUp.{look_up}
use Rattle.rowset.specs.declared.Gathered.{Gathered}
use Rattle.rowset.specs.Rows.{row_at, rows_from, compared, most_held, add_all_capped}

-- rows from..to, without the last, stand in the words
pub record Run (ws : List ℕ) (from to : ℕ) : Type 0 where
  pub ordered : from ≤ to
  pub there : to * 4 ≤ length ws

-- "answered alike whatever follows that larger one, in order or not" (#102), of what stands in words: in any two runs, of rows or of pairs, that agree up to and with item q, which is larger than x
abbrev pub AnsweredAlike : Type 0
AnsweredAlike =
    (lowest : ℕ) (at at' : ℕ → List ℕ) (x : List ℕ) (from to to' q : ℕ) → from ≤ q → q < to → q < to' → ((k : ℕ) → from ≤ k → k ≤ q → at k ≡ at' k) → before lowest x (at q) ≡ true
    → look_up lowest x (map at (range from (to - from))) ≡ look_up lowest x (map at' (range from (to' - from)))

-- each of the first n items stands before x
abbrev pub AllBefore : ℕ → (ℕ → List ℕ) → ℕ → List ℕ → Type 0
AllBefore lowest at n x = (k : ℕ) → k < n → before lowest (at k) x ≡ true

-- each item before item p stands before it in order: nothing is said of those behind it
abbrev pub Led : ℕ → (ℕ → List ℕ) → ℕ → Type 0
Led lowest at p = AllBefore lowest at p (at p)

-- it is told how each of the first n items stands to x, which is as long as they are
abbrev pub Tells : (ℕ → Ordering → Type 0) → ℕ → (ℕ → List ℕ) → ℕ → List ℕ → Type 0
Tells told lowest at n x = ((k : ℕ) → length (at k) ≡ length x) × ((i : ℕ) (stands : Ordering) → i < n → told i stands → stands ≡ compared lowest (at i) x)

-- where a search for x among the first n items begins: x is found at item p, as from the front, or the first s items all stand before it
abbrev pub Begins : ℕ → (ℕ → List ℕ) → ℕ → List ℕ → Result ℕ ℕ → Type 0
Begins lowest at n x (Ok p) = look_up lowest x (map at (range 0 n)) ≡ Ok p
Begins lowest at n x (Err s) = (s ≤ n) × AllBefore lowest at s x

-- a set of n rows at the front of the words, which have room for the most that a set holds
pub record SetRoom (ws : List ℕ) (n : ℕ) : Type 0 where
  pub most : n ≤ most_held
  pub there : most_held * 4 ≤ length ws

-- the first n' rows of new are the first n of old with rows put in
pub record Added (lowest : ℕ) (old : List ℕ) (n : ℕ) (new : List ℕ) (n' : ℕ) (rows : List (List ℕ)) : Type 0 where
  pub most : n' ≤ most_held
  pub long : length new ≡ length old
  pub set : rows_from new 0 n' ≡ add_all_capped lowest (rows_from old 0 n) rows

-- k rows at the front of the words are the set; where it has more than 32, only that shows
pub record SetMade (out : List ℕ) (k : ℕ) (set : List (List ℕ)) : Type 0 where
  pub most : k ≤ most_held
  pub few : k ≤ most_rows → rows_from out 0 k ≡ set
  pub many : most_rows < k → most_rows < length set

-- a set of n rows in which the first row is looked for from the front
abbrev pub from_front : ℕ → Gathered
from_front n = record { count = n; near = 0 }

-- room and rows put in, for a set that rows are gathered in: the next is looked for near a row that those before it lead up to
pub record GatherRoom (lowest : ℕ) (ws : List ℕ) (set : Gathered) : Type 0 where
  pub room : SetRoom ws set.count
  pub led : Led lowest (row_at ws) set.near

pub record Gathers (lowest : ℕ) (old : List ℕ) (set : Gathered) (new : List ℕ) (set' : Gathered) (rows : List (List ℕ)) : Type 0 where
  pub added : Added lowest old set.count new set'.count rows
  pub led : Led lowest (row_at new) set'.near
