use lib.ListN.{take}
use Rattle.meaning.specs.Formula.{terms_of}
use Rattle.meaning.specs.Definition2.{value}
use Rattle.meaning.specs.Evaluator.{bound}
use Rattle.rowset.specs.Rows.{words_of}
use Rattle.kinds.proofs.Atoms.{Matching}
use Rattle.kinds.proofs.columns_match.Given as goal

-- `columns_match` meets its contract. The loop keeps `Matching`: the columns before place k are their terms' values.
abbrev pub invariant-loop-k : goal.invariant-loop-k
invariant-loop-k l = Matching l.ts l.c (value (bound (terms_of l.ts) (take l.ts.count (words_of l.c)))) l.k
