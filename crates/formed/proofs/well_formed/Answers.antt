-- `well_formed` meets its contract: the rule, the times and the entries, in this order.
use Prim.Native.Nat.{◌≤◌}
use native.Mathlib.Omega.{arith}
use mathlib.Core.Path.{◌≡◌, sym, ◌∙◌}
use mathlib.Core.Bool.{true, false≢true}
use Rattle.meaning.specs.Outcome.{given, most_points}
use Rattle.meaning.specs.RuleFile.{Accepted, checking, is_accepted}
use Rattle.meaning.proofs.Accepted.{accepted, nodes_most, last_is_node}
use Rattle.method.proofs.Formed.{is_accepted_lem}
use Rattle.formed.specs.Parts.{CountsStand}
use Rattle.formed.proofs.Whole.{part_within, part_long, well_refused, well_times, well_kept, known, places}
use Rattle.formed.proofs.well_formed.Goals as goal

pub returns-then-not-accepts : goal.returns-then-not-accepts
returns-then-not-accepts c = let a = c.args in
    record { answer = well_refused a.rule.now a.log a.times.now a.owners.now a.numbers.now a.values.now a.count (sym c.accepts.ensures.answer ∙ c.if-not-accepts.true); known = λ e. absurd (false≢true e); placed = λ e. absurd (false≢true e) }

pub times_fit-requires : goal.times_fit-requires
times_fit-requires c = let (a, e) = (let it : (a : Accepted) × (checking c.args.rule.now ≡ given a) = is_accepted_lem _ ((let it : is_accepted (checking c.args.rule.now) ≡ true = sym c.accepts.ensures.answer ∙ c.if-not-accepts.false in it)) in it) in
    ((accepted c.args.rule.now a e).long, omega (arith, last_is_node c.args.rule.now a e), nodes_most c.args.rule.now a e, c.requires.in_bounds.1)

pub returns-then-not-times_fit : goal.returns-then-not-times_fit
returns-then-not-times_fit c = let a = c.args in
    record { answer = well_times a.rule.now a.log a.times.now a.owners.now a.numbers.now a.values.now a.count ((let it : is_accepted (checking c.args.rule.now) ≡ true = sym c.accepts.ensures.answer ∙ c.if-not-accepts.false in it)) (sym c.times_fit.ensures.answer ∙ c.if-not-times_fit.true); known = λ e. absurd (false≢true e); placed = λ e. absurd (false≢true e) }

pub bounds-rule-2 : goal.bounds-rule-2
bounds-rule-2 c = let (a, e) = (let it : (a : Accepted) × (checking c.args.rule.now ≡ given a) = is_accepted_lem _ ((let it : is_accepted (checking c.args.rule.now) ≡ true = sym c.accepts.ensures.answer ∙ c.if-not-accepts.false in it)) in it) in omega (arith, (accepted _ a e).long)

pub overflow_cast-n : goal.overflow_cast-n
overflow_cast-n c = omega (arith, c.shared_slice_known-6-1.given 2)

pub slice_bounds-kept_fit-end : goal.slice_bounds-kept_fit-end
slice_bounds-kept_fit-end c = let (a, e) = (let it : (a : Accepted) × (checking c.args.rule.now ≡ given a) = is_accepted_lem _ ((let it : is_accepted (checking c.args.rule.now) ≡ true = sym c.accepts.ensures.answer ∙ c.if-not-accepts.false in it)) in it) in omega (arith, nodes_most _ a e)

pub kept_fit-requires : goal.kept_fit-requires
kept_fit-requires c = let k = (let it : let a = c.args in (a.log.points ≤ most_points) × CountsStand a.rule.now a.log a.times.now c.times_fit.new.counts = c.times_fit.ensures.counted c.if-not-times_fit.false in it) in
    let few = nodes_most c.args.rule.now ((let it : (a : Accepted) × (checking c.args.rule.now ≡ given a) = is_accepted_lem _ ((let it : is_accepted (checking c.args.rule.now) ≡ true = sym c.accepts.ensures.answer ∙ c.if-not-accepts.false in it)) in it)).0 ((let it : (a : Accepted) × (checking c.args.rule.now ≡ given a) = is_accepted_lem _ ((let it : is_accepted (checking c.args.rule.now) ≡ true = sym c.accepts.ensures.answer ∙ c.if-not-accepts.false in it)) in it)).1 in
    record { rule_value = (let it : (a : Accepted) × (checking c.args.rule.now ≡ given a) = is_accepted_lem _ ((let it : is_accepted (checking c.args.rule.now) ≡ true = sym c.accepts.ensures.answer ∙ c.if-not-accepts.false in it)) in it); entries_within = (c.requires.entries_within, omega (arith, c.requires.in_bounds.0), c.accepts.ensures.known c.if-not-accepts.false); rule_in_bounds = (part_long k.1 (omega (arith, few, c.requires.in_bounds.1)), part_within k.1 k.0, c.requires.in_bounds.2); in_bounds = c.requires.in_bounds_2 }

pub returns : goal.returns
returns c = let a = c.args in
    let k = ((let it : let a = c.args in (a.log.points ≤ most_points) × CountsStand a.rule.now a.log a.times.now c.times_fit.new.counts = c.times_fit.ensures.counted c.if-not-times_fit.false in it)).1 in
    record { answer = c.kept_fit.ensures.answer ∙ well_kept a.rule.now a.log a.times.now a.owners.now a.numbers.now a.values.now a.count ((let it : is_accepted (checking c.args.rule.now) ≡ true = sym c.accepts.ensures.answer ∙ c.if-not-accepts.false in it)) (sym c.times_fit.ensures.answer ∙ c.if-not-times_fit.false) k; known = λ t. known a.rule.now a.log a.times.now a.owners.now a.numbers.now a.values.now a.count _ _ _ (c.accepts.ensures.known c.if-not-accepts.false) k (c.kept_fit.ensures.wanted t); placed = λ t. places a.rule.now a.log a.times.now a.owners.now a.numbers.now a.values.now a.count _ _ _ k (c.kept_fit.ensures.placed t) }
