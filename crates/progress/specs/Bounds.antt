-- Counts that are no more than the number of points.
use Rattle.std.specs.Prelude.{ℕ, ◌≤◌, List, get_or}

abbrev pub Within : ℕ → List ℕ → Type 0
Within n counts = (y : ℕ) → get_or counts y 0 ≤ n
