-- The words of a report on some points in a row, of which the rows stand in the sets of a call.
use Rattle.std.specs.Prelude.{ℕ, ◌+◌, ◌-◌, ◌^◌, ◌≤◌, ◌<◌, List, [], ◌∷◌, map, length, get_or}
use Rattle.meaning.specs.Lists.{select, gather}
use Rattle.meaning.specs.Log.{points_from}
use Rattle.meaning.specs.Formula.{variables}
use Rattle.meaning.specs.Report.{Reported, report_words}
use Rattle.meaning.specs.Keeper.{report_row}
use Rattle.meaning.specs.declared.Point.{Point}
use Rattle.method.specs.Stored.{stamp_in}
use Rattle.rowset.specs.Rows.{rows_from}
use Rattle.room.specs.Room.{set_at, SetsInOrder}
use Rattle.kinds.specs.Kinds.{in_mask}
use Rattle.writer.specs.declared.Points.{Points}
use Rattle.writer.specs.declared.Part.{Part}
use Rattle.writer.specs.declared.Part.TheVariants.{Sizes, Triples, Rows}

-- how many variables are free
abbrev pub free_count : ℕ → ℕ
free_count mask = length (select (in_mask mask) variables)

-- the points
abbrev pub points_of : Points → List Point
points_of p = points_from p.from p.count

-- the set of point i
abbrev pub set_of : Points → Point → ℕ
set_of p i = p.first + (i.0 - p.low.0)

-- what is reported: each point with its time and the rows of its set
module _ (rows at times : List ℕ) (p : Points) where
  unfoldable pub reported_from : List Reported
  reported_from = map (λ i. record { at = i; time = stamp_in p.base times i; rows = map (report_row (in_mask p.mask)) (set_at rows at p.first p.low i) }) (points_of p)

  unfoldable pub words : List ℕ
  unfolding reported_from
  words = report_words (free_count p.mask) reported_from

-- the set of the first point, and the set after that of the last; and the rows where these begin
abbrev pub first_set : Points → ℕ
first_set p = set_of p p.from

abbrev pub end_set : Points → ℕ
end_set p = first_set p + p.count

abbrev pub first_row : List ℕ → Points → ℕ
first_row at p = get_or at (first_set p) 0

abbrev pub end_row : List ℕ → Points → ℕ
end_row at p = get_or at (end_set p) 0

-- a point's triple: its number, its time and how many rows its set has by the marks
abbrev pub triple_at : List ℕ → List ℕ → Points → Point → List ℕ
triple_at at times p i = i.0 ∷ (stamp_in p.base times i).0 ∷ (get_or at (set_of p i + 1) 0 - get_or at (set_of p i) 0) ∷ []

abbrev pub triples : List ℕ → List ℕ → Points → List ℕ
triples at times p = gather (triple_at at times p) (points_of p)

-- "Sizes first .. then two parallel arrays": the words of each part, by the marks
abbrev pub part_words : Part → List ℕ → List ℕ → List ℕ → Points → List ℕ
part_words Sizes rows at times p = p.count ∷ free_count p.mask ∷ (end_row at p - first_row at p) ∷ []
part_words Triples rows at times p = triples at times p
part_words Rows rows at times p = gather (report_row (in_mask p.mask)) (rows_from rows (first_row at p) (end_row at p - first_row at p))

-- the sets of the points have their marks
pub record Marked (at : List ℕ) (p : Points) : Type 0 where
  pub from : p.low.0 ≤ p.from.0
  pub there : end_set p < length at
  pub steps : (q : ℕ) → q < end_set p → get_or at q 0 ≤ get_or at (q + 1) 0

-- the points can be reported: their sets stand in the words, and their numbers are words
pub record Reportable (rows at : List ℕ) (p : Points) : Type 0 where
  pub from : p.low.0 ≤ p.from.0
  pub laid : SetsInOrder rows at (end_set p)
  pub numbers : p.from.0 + p.count < 2 ^ 32
