-- `kept_fit` meets its contract.
use native.Mathlib.Omega.{arith}
use mathlib.Core.Path.{ap, ◌∙◌}
use mathlib.Core.Bool.{false≢true}
use Rattle.meaning.specs.Log.{point}
use Rattle.meaning.proofs.Accepted.{accepted, nodes_most}
use Rattle.entries.specs.Entries.{entries_from}
use Rattle.formed.proofs.Placing.{placed_as}
use Rattle.formed.proofs.Whole.{kept_many, kept_tested}
use Rattle.formed.proofs.kept_fit.Goals as goal

pub returns-then-count-gt-MOST_KEPT : goal.returns-then-count-gt-MOST_KEPT
returns-then-count-gt-MOST_KEPT c = let a = c.args in
    record { answer = kept_many a.rule.now a.counts.now (entries_from a.owners.now a.numbers.now a.values.now 0 a.count) a.count c.if-count-gt-MOST_KEPT.true; wanted = λ e. absurd (false≢true e); placed = λ e. absurd (false≢true e) }

pub wanted-requires : goal.wanted-requires
wanted-requires c = let few = nodes_most c.args.rule.now c.requires.rule_value.0 c.requires.rule_value.1 in
    record { rule_value = c.requires.rule_value; rule_in_bounds = (c.requires.rule_in_bounds.0, omega (arith, few, c.requires.rule_in_bounds.2), λ y. omega (arith, c.requires.rule_in_bounds.1 y)) }

pub entries_fit-requires : goal.entries_fit-requires
entries_fit-requires c = let few = nodes_most c.args.rule.now c.requires.rule_value.0 c.requires.rule_value.1 in
    record { rule_len = ((accepted c.args.rule.now c.requires.rule_value.0 c.requires.rule_value.1).long, c.requires.entries_within.0, c.if-count-gt-MOST_KEPT.false); rule_in_bounds = (omega (arith, few, c.requires.entries_within.1), c.requires.rule_in_bounds.0, omega (arith, few, c.requires.rule_in_bounds.2), c.requires.entries_within.2); rule_in_bounds_2 = (omega (arith, few, c.requires.in_bounds.0), omega (arith, few, c.requires.in_bounds.1)) }

pub returns : goal.returns
returns c = let a = c.args in
    record {
      answer = c.entries_fit.ensures.answer
          ∙ kept_tested a.rule.now a.counts.now (entries_from a.owners.now a.numbers.now a.values.now 0 a.count) a.count c.wanted.new.out c.if-count-gt-MOST_KEPT.false c.wanted.ensures;
      wanted = λ t. c.wanted.ensures;
      placed = λ t. placed_as (λ x o. ap point (c.wanted.ensures x o)) (c.entries_fit.ensures.placed t);
    }
