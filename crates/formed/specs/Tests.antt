-- The tests of rows and pairs as they stand in words, with a node's free variables as a mask.
use Rattle.std.specs.Prelude.{ℕ, suc, ◌+◌, ◌*◌, ◌/◌, ◌%◌, ◌≤◌, ◌<◌, ◌≡◌, Bool, true, false, ◌&&◌, List, length, get_or, drop, leb, eqb}
use Rattle.std.specs.Int.Bits.{bit_or}
use Rattle.meaning.specs.Lists.{all, same_row}
use Rattle.meaning.specs.Outcome.{most_rows}
use Rattle.meaning.specs.Order.{before, ascending}
use Rattle.meaning.specs.Formula.{free, lowest_of}
use Rattle.meaning.specs.Evaluator.{cut_to, valuation_of}
use Rattle.meaning.specs.RuleFile.{formula_at}
use Rattle.meaning.specs.Kept.{below_end, counted_age}
use Rattle.meaning.specs.declared.Point.{Point}
use Rattle.meaning.specs.declared.Window.{Window}
use Rattle.rowset.specs.declared.Row.{Row}
use Rattle.kinds.specs.Kinds.{in_mask, pair_at}

-- the mask has the variables that are free in node x
pub record MaskOf (b : List ℕ) (x mask : ℕ) : Type 0 where
  pub each : (v : ℕ) → v < 4 → in_mask mask v ≡ free (formula_at b x) v

-- the row is 0 at variables that the mask doesn't have
abbrev pub row_cut : ℕ → List ℕ → Bool
row_cut mask u = same_row u (cut_to (in_mask mask) (valuation_of u))

-- the rows of a point: at most 32, strictly ascending
abbrev pub rows_fit : ℕ → List (List ℕ) → Bool
rows_fit mask rows = leb (length rows) most_rows && ascending (lowest_of (in_mask mask)) rows && all (row_cut mask) rows

-- an age is below the window's end, and with no end at most its start
abbrev pub age_fits : Window → ℕ → Bool
age_fits w age = below_end w age && eqb (counted_age w age) age

abbrev pub pair_cut : ℕ → Window → List ℕ → Bool
pair_cut mask w p = age_fits w (get_or p 0 0) && row_cut mask (drop 1 p)

abbrev pub aged_fit : ℕ → Window → List (List ℕ) → Bool
aged_fit mask w pairs = ascending (suc (lowest_of (in_mask mask))) pairs && all (pair_cut mask w) pairs

-- the largest value of each variable that a mask leaves: 0 where it doesn't have it; and no word of a row is above these
abbrev pub most_of : ℕ → Row
most_of mask = record { v0 = mask / 1 % 2 * 4294967295; v1 = mask / 2 % 2 * 4294967295; v2 = mask / 4 % 2 * 4294967295; v3 = mask / 8 % 2 * 4294967295 }

abbrev pub row_under : Row → List ℕ → Bool
row_under most u = leb (get_or u 0 0) most.v0 && (leb (get_or u 1 0) most.v1 && (leb (get_or u 2 0) most.v2 && leb (get_or u 3 0) most.v3))

-- a test says yes where something holds, and no where it doesn't
abbrev pub Tells : Bool → Type 0 → Type 0
Tells true P = P
Tells false P = P → ⊥

-- the bits of two rows, word by word
abbrev pub joined_bits : Row → Row → Row
joined_bits x y = record { v0 = bit_or x.v0 y.v0; v1 = bit_or x.v1 y.v1; v2 = bit_or x.v2 y.v2; v3 = bit_or x.v3 y.v3 }

-- entry k's joined number: its number and its row's first word as one
abbrev pub joint_at : List ℕ → List ℕ → ℕ → ℕ
joint_at ns vs k = get_or ns k 0 * 4294967296 + get_or vs (k * 4) 0

-- what an accessor gives from one number up to another: each passes, and stands before the next
pub record Rising (lowest : ℕ) (at : ℕ → List ℕ) (p : List ℕ → Bool) (from to : ℕ) : Type 0 where
  pub each : (i : ℕ) → from ≤ i → i < to → p (at i) ≡ true
  pub up : (i : ℕ) → from ≤ i → i + 1 < to → before lowest (at i) (at (i + 1)) ≡ true

-- no entry has the number of the one that stands as many before it as a point may have rows
pub record FewAlike (ns : List ℕ) (from to : ℕ) : Type 0 where
  pub apart : (i : ℕ) → from ≤ i → i + most_rows < to → get_or ns i 0 ≡ get_or ns (i + most_rows) 0 → ⊥

-- entries from one number up to another are a node's rows at points from low on and before end: by point, and then by row
pub record SetsFit (ns vs : List ℕ) (from to : ℕ) (low end : Point) (mask : ℕ) : Type 0 where
  pub rise : Rising (suc (lowest_of (in_mask mask))) (pair_at ns vs) (λ p. row_cut mask (drop 1 p)) from to
  pub inside : (i : ℕ) → from ≤ i → i < to → (low.0 ≤ get_or ns i 0) × (get_or ns i 0 < end.0)
  pub few : FewAlike ns from to
