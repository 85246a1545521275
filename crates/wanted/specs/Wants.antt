-- What a node's children get, where each node has a word.
use Rattle.std.specs.Prelude.{ℕ, min, ◌≡◌, cond, List, get_or}
use Rattle.meaning.specs.RuleFile.{is_one_of}
use Rattle.meaning.specs.declared.Point.{Point}

-- the words of the nodes cs are now the lower of their counts and first; the others stay
pub record Wants (counts : List ℕ) (first : Point) (cs out out' : List ℕ) : Type 0 where
  pub words : (y : ℕ) → get_or out' y 0 ≡ cond (is_one_of cs y) (min (get_or counts y 0) first.0) (get_or out y 0)
