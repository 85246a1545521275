use Rattle.meaning.specs.Log.{relation_in}
use Rattle.meaning.specs.Formula.{terms_of}
use Rattle.meaning.specs.Evaluator.{atom_rows}
use Rattle.rowset.proofs.Growing.{Gathering}
use Rattle.kinds.specs.Kinds.{row_with, rows_with}
use Rattle.kinds.proofs.atom.Given as goal

-- `atom` meets its contract: each row of the event that matches is put in, as the values of its variables.
abbrev pub invariant-loop-i : goal.invariant-loop-i
invariant-loop-i l = Gathering l.lowest (row_with l.ts.count l.event) (λ rows. atom_rows (terms_of l.ts) (relation_in l.relation rows)) l.m l.initial.out l.initial.set (atom_rows (terms_of l.ts) (relation_in l.relation (rows_with l.ts.count l.event))) l.out l.set l.i
