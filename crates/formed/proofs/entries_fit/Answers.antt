-- `entries_fit` meets its contract.
use Prim.Native.Nat.{◌-◌}
use native.Mathlib.Omega.{arith}
use mathlib.Core.Path.{◌≡◌, subst}
use lib.ListN.{get_or}
use Rattle.meaning.specs.Log.{point}
use Rattle.meaning.specs.RuleFile.{node_count}
use Rattle.formed.specs.Steps.{NodeEnded}
use Rattle.formed.proofs.Nodes.{nodes_stuck, nothing_left, nodes_all}
use Rattle.formed.proofs.Placing.{noted_all}
use Rattle.formed.proofs.entries_fit.Goals as goal

pub returns-in_default-clause-answer : goal.returns-in_default-clause-answer
returns-in_default-clause-answer c = let a = c.args in
    let x = c.loop-x.x in
    nodes_stuck a.owners.now a.numbers.now a.values.now a.count a.rule.now (λ y. point (get_or a.lows.now y 0)) (λ y. get_or a.counts.now y 0) c.loop-x.invariant.going (node_count a.rule.now) (omega arith)
    (subst (NodeEnded a.owners.now a.numbers.now a.values.now a.count c.loop-x.next a.rule.now x (point (get_or a.lows.now x 0)) (get_or a.counts.now x 0 - get_or a.lows.now x 0)) c.in_default.is c.node_end.ensures)

pub returns-clause-answer : goal.returns-clause-answer
returns-clause-answer c = let a = c.args in
    nodes_all a.owners.now a.numbers.now a.values.now a.count a.rule.now (λ y. point (get_or a.lows.now y 0)) (λ y. get_or a.counts.now y 0) c.loop-x.invariant.going (node_count a.rule.now) (omega arith)

pub returns-clause-placed : goal.returns-clause-placed
returns-clause-placed c = λ t.
    let a = c.args in
    let e : c.loop-x.x ≡ node_count a.rule.now = omega arith in
    noted_all a.owners.now a.numbers.now a.values.now a.count a.rule.now (λ y. point (get_or a.lows.now y 0)) (λ y. get_or a.counts.now y 0) (node_count a.rule.now) c.loop-x.invariant.noted e
    (nothing_left a.owners.now a.numbers.now a.values.now a.count a.rule.now (λ y. point (get_or a.lows.now y 0)) (λ y. get_or a.counts.now y 0) c.loop-x.invariant.going (node_count a.rule.now) e t)
