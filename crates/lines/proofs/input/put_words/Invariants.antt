use Prim.Native.Nat.{ℕ, ◌-◌, ◌*◌, ◌≤◌}
use mathlib.Core.Path.{◌≡◌}
use mathlib.Core.List.{List, [], ◌∷◌}
use lib.ListN.{length}
use Rattle.meaning.specs.Lists.{range, gather}
use Rattle.meaning.specs.RuleFile.{word_at}
use Rattle.writer.proofs.Putting.{Putting}
use Rattle.lines.specs.Input.{words_in}
use Rattle.lines.proofs.input.put_words.Given as goal

-- `put_words` meets its contract: after k turns the first k words are put.
-- what word k gives
abbrev pub give : List ℕ → ℕ → List ℕ
give bytes k = word_at bytes (4 * k) ∷ []

abbrev pub invariant-loop-k : goal.invariant-loop-k
invariant-loop-k l = (l.k ≤ l.n) × (length l.words ≡ length l.initial.words) × Putting l.initial.words 0 (words_in l.bytes l.n) l.words l.k (gather (give l.bytes) (range l.k (l.n - l.k)))

abbrev pub decreases-loop-k : goal.decreases-loop-k
decreases-loop-k l = l.n - l.k
