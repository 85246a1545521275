-- `columns_match` meets its contract. The loop keeps `Matching`: the columns before place k are their terms' values.
use native.Mathlib.Omega.{arith}
use mathlib.Core.Path.{◌≡◌, sym, ap, ◌∙◌}
use lib.ListN.{take}
use Rattle.meaning.specs.Formula.{terms_of}
use Rattle.meaning.specs.Definition2.{value}
use Rattle.meaning.specs.Evaluator.{bound}
use Rattle.rowset.specs.Rows.{words_of}
use Rattle.kinds.proofs.Atoms.{term_at, matching_all, matching_ends}
use Rattle.kinds.proofs.columns_match.Goals as goal

pub returns-then-term_bound-at_place : goal.returns-then-term_bound-at_place
returns-then-term_bound-at_place c = sym (matching_ends c.loop-k.invariant c.loop-k-test.true (λ e. c.if-term_bound-at_place.true ((let it : let a = c.args in c.term_bound.result ≡ value (bound (terms_of a.ts) (take a.ts.count (words_of a.c))) (term_at a.ts c.loop-k.k) = let a = c.args in c.term_bound.ensures ∙ ap (value (bound (terms_of a.ts) (take a.ts.count (words_of a.c)))) c.term_at.ensures in it) ∙ e ∙ sym c.at_place.ensures)))

pub returns : goal.returns
returns c = sym (matching_all c.args.ts.count c.loop-k.invariant (omega (arith, c.loop-k-test.false)))
