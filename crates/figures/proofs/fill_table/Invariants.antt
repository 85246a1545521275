use Rattle.figures.specs.Tables.{TableOf}
use Rattle.figures.proofs.fill_table.Given as goal

-- The loop keeps that the nodes passed so far have their words.
abbrev pub invariant-loop-x : goal.invariant-loop-x
invariant-loop-x l = TableOf l.x l.masks l.lows l.before l.after l.wants l.begins l.pairs l.weights l.table
