use mathlib.Core.Path.{◌≡◌}
use lib.ListN.{length}
use Rattle.rulefile.proofs.Nodes.{WeighedTo}
use Rattle.rulefile.proofs.Parents.{UsesCounted}
use Rattle.rulefile.proofs.weigh_nodes.Given as goal

-- `rulefile::weigh_nodes` meets its contract. The loop keeps `WeighedTo` and `UsesCounted`: the nodes passed so far fit, their masks are in the lent bytes, and their children are counted.
abbrev pub invariant-loop-x : goal.invariant-loop-x
invariant-loop-x l = (length l.masks ≡ length l.initial.masks) × (length l.uses ≡ length l.initial.uses) × WeighedTo l.rule l.masks l.x × UsesCounted l.rule l.uses l.x
