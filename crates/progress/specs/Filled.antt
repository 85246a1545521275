-- What `counts` leaves in its buffer: the count of every node at the front, the words past them as they were.
use Rattle.std.specs.Prelude.{ℕ, ◌≡◌, List, get_or, take, drop}
use Rattle.meaning.specs.RuleFile.{node_count}
use Rattle.meaning.specs.declared.Point.{Point}
use Rattle.meaning.specs.declared.Stamp.{Stamp}
use Rattle.meaning.specs.declared.LogEnd.{LogEnd}
use Rattle.method.specs.Counts.{counts_to}
use Rattle.progress.specs.Bounds.{Within}

pub record Filled (rule : List ℕ) (τ : Point → Stamp) (e : LogEnd) (from before after : List ℕ) : Type 0 where
  pub exact : take (node_count rule) after ≡ counts_to rule τ e (λ x. get_or from x 0) (node_count rule)
  pub past : drop (node_count rule) after ≡ drop (node_count rule) before
  pub bounded : Within e.points from → Within e.points (take (node_count rule) after)
