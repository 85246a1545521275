use mathlib.Core.Path.{◌≡◌}
use Rattle.meaning.specs.RuleFile.{node_count}
use Rattle.progress.specs.Stamps.{stamps_of}
use Rattle.progress.proofs.Fills.{Filling}
use Rattle.progress.proofs.counts.Given as goal

-- After each turn the counts of one node more are in place.
abbrev pub invariant-loop-x : goal.invariant-loop-x
invariant-loop-x l = (l.nodes ≡ node_count l.rule) × Filling l.rule (stamps_of l.retained) l.log l.from l.initial.out l.x l.out
