-- The rows and pairs of since at a point, over the children's sets as they stand in words, and pairs put into words up to a limit.
use Rattle.std.specs.Prelude.{ℕ, suc, ◌+◌, ◌-◌, ◌≤◌, ◌<◌, min, ◌≢◌, ◌≡◌, true, List, length, get_or}
use Rattle.meaning.specs.Order.{ascending}
use Rattle.meaning.specs.Evaluator.{insert_all}
use Rattle.rowset.specs.Sets.{SetMade}
use Rattle.meaning.specs.declared.Point.{Point}
use Rattle.meaning.specs.declared.Window.{Window}
use Rattle.method.specs.Stored.{stamp_in}
use Rattle.method.specs.Settle.{rows_since, pairs_since}
use Rattle.kinds.specs.Kinds.{pairs_from}
use Rattle.meaning.specs.declared.Left.{Left}
use Rattle.room.specs.Room.{set_at}
use Rattle.room.specs.declared.Child.{Child}
use Rattle.untils.specs.Until.{left_test}
use Rattle.since.specs.declared.held.Held.{Held}

-- the pairs that were held before, as many as there are ages
abbrev pub held_in : List ℕ → List ℕ → List (List ℕ)
held_in ages values = pairs_from ages values 0 (length ages)

abbrev pub pairs_held : Held → List (List ℕ)
pairs_held h = held_in h.ages.now h.values.now

-- they ascend strictly, by the lowest free variable of their node
abbrev pub Ascends : ℕ → Held → Type 0
Ascends lowest h = ascending (suc lowest) (pairs_held h) ≡ true

module _ (left : Left) (rows at times : List ℕ) (base : Point) (w : Window) (a b : Child) (held : List (List ℕ)) (start i : Point) where
  -- a is left and b is right
  abbrev pub rows_in : List (List ℕ)
  rows_in = rows_since (stamp_in base times) w (left_test left a (set_at rows at a.first a.low)) (set_at rows at b.first b.low) held start i

  abbrev pub pairs_in : List (List ℕ)
  pairs_in = pairs_since (stamp_in base times) w (left_test left a (set_at rows at a.first a.low)) (set_at rows at b.first b.low) held start i

-- of the ages from..to, those from number f on are one age, and the one before f, if it is among them, is another
pub record AgeRun (ages : List ℕ) (from to f : ℕ) : Type 0 where
  pub begun : from ≤ f
  pub within : f < to
  pub alike : (k : ℕ) → f ≤ k → k < to → get_or ages k 0 ≡ get_or ages (to - 1) 0
  pub other : from < f → get_or ages (f - 1) 0 ≢ get_or ages (to - 1) 0

-- rows put into a set, in whatever order: where it stood in the old words and ascends, it stands in the new ones with the rows put in
pub record RowsPut (lowest : ℕ) (old : List ℕ) (n : ℕ) (new : List ℕ) (n' : ℕ) (rows : List (List ℕ)) : Type 0 where
  pub long : length new ≡ length old
  pub put : (set : List (List ℕ)) → ascending lowest set ≡ true → SetMade old n set → SetMade new n' (insert_all lowest set rows)

-- so many pairs stand at the front of the new words, as many as the ages have room for; where they are more, their number is one more than that
pub record PairsPut (ages values ages' values' : List ℕ) (n : ℕ) (pairs : List (List ℕ)) : Type 0 where
  pub ages_long : length ages' ≡ length ages
  pub values_long : length values' ≡ length values
  pub counted : n ≡ min (length ages + 1) (length pairs)
  pub set : n ≤ length ages → pairs_from ages' values' 0 n ≡ pairs
