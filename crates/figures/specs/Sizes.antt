-- What is asked of a node's figures before its rows are reckoned.
use Rattle.std.specs.Prelude.{ℕ, ◌+◌, ◌*◌, ◌≤◌, List, length}
use Rattle.node_step.specs.Figures.{node_words}
use Rattle.figures.specs.Tables.{rows_in}

-- the table has node x's figures, and it has no more than so many rows
pub record Sized (f : List ℕ) (x : ℕ) : Type 0 where
  pub there : x * node_words + node_words ≤ length f
  pub few : rows_in f x ≤ 4096
