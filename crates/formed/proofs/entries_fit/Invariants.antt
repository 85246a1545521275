use lib.ListN.{get_or}
use Rattle.meaning.specs.Log.{point}
use Rattle.meaning.specs.RuleFile.{node_count}
use Rattle.formed.proofs.Nodes.{NodesGoing}
use Rattle.formed.proofs.Placing.{Noted}
use Rattle.formed.proofs.entries_fit.Given as goal

-- The loop keeps `NodesGoing`: the entries of the nodes below x fit them, and next is behind these; and `Noted`: where they stand.
abbrev pub invariant-loop-x : goal.invariant-loop-x
invariant-loop-x l = record {
  going : NodesGoing l.owners l.numbers l.values l.count l.rule (λ y. point (get_or l.lows y 0)) (λ y. get_or l.counts y 0) l.next l.x;
  noted : Noted l.owners l.numbers l.values l.count (λ y. point (get_or l.lows y 0)) (λ y. get_or l.counts y 0) (node_count l.rule) l.begins l.pairs l.next l.x;
}
