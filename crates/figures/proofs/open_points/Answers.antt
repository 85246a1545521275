-- Figures that are out of bounds aren't of a well-formed state; else what is stored at the front is what is stored in the parts.
use Prim.Native.Nat.{◌≤◌}
use native.Mathlib.Omega.{arith}
use mathlib.Core.Path.{sym, ◌∙◌}
use Rattle.meaning.specs.Outcome.{most_bytes, most_kept}
use Rattle.method.specs.WellFormed.{most_times}
use Rattle.figures.proofs.Slices.{front_parts, figures_out, figures_in, not_open}
use Rattle.figures.proofs.open_points.Goals as goal

pub returns-then-not-figures_fit : goal.returns-then-not-figures_fit
returns-then-not-figures_fit c = let a = c.args in
    not_open _ (figures_out a.rule.now a.bytes a.log a.times.now a.retained a.owners.now a.numbers.now a.values.now a.count (sym c.figures_fit.ensures ∙ c.if-not-figures_fit.true))

pub slice_bounds-open_stored-end : goal.slice_bounds-open_stored-end
slice_bounds-open_stored-end c = omega (arith, (let it : let a = c.args in (a.bytes ≤ most_bytes) × (a.retained ≤ most_times) × (a.count ≤ most_kept) = figures_in _ _ _ (sym c.figures_fit.ensures ∙ c.if-not-figures_fit.false) in it))

pub slice_bounds-open_stored-end-2 : goal.slice_bounds-open_stored-end-2
slice_bounds-open_stored-end-2 c = omega (arith, (let it : let a = c.args in (a.bytes ≤ most_bytes) × (a.retained ≤ most_times) × (a.count ≤ most_kept) = figures_in _ _ _ (sym c.figures_fit.ensures ∙ c.if-not-figures_fit.false) in it))

pub open_stored-requires : goal.open_stored-requires
open_stored-requires c = let w = c.requires.2 in
    record { owners_there = omega (arith, (let it : let a = c.args in (a.bytes ≤ most_bytes) × (a.retained ≤ most_times) × (a.count ≤ most_kept) = figures_in _ _ _ (sym c.figures_fit.ensures ∙ c.if-not-figures_fit.false) in it), w.owners_there); numbers_there = omega (arith, (let it : let a = c.args in (a.bytes ≤ most_bytes) × (a.retained ≤ most_times) × (a.count ≤ most_kept) = figures_in _ _ _ (sym c.figures_fit.ensures ∙ c.if-not-figures_fit.false) in it), w.numbers_there); values_there = omega (arith, (let it : let a = c.args in (a.bytes ≤ most_bytes) × (a.retained ≤ most_times) × (a.count ≤ most_kept) = figures_in _ _ _ (sym c.figures_fit.ensures ∙ c.if-not-figures_fit.false) in it), w.values_there) }

pub returns : goal.returns
returns c = let a = c.args in
    rw (front_parts a.rule.now a.bytes a.log a.times.now a.retained a.owners.now a.numbers.now a.values.now a.count (omega (arith, c.requires, (let it : let a = c.args in (a.bytes ≤ most_bytes) × (a.retained ≤ most_times) × (a.count ≤ most_kept) = figures_in _ _ _ (sym c.figures_fit.ensures ∙ c.if-not-figures_fit.false) in it))) (omega (arith, c.requires, (let it : let a = c.args in (a.bytes ≤ most_bytes) × (a.retained ≤ most_times) × (a.count ≤ most_kept) = figures_in _ _ _ (sym c.figures_fit.ensures ∙ c.if-not-figures_fit.false) in it))))
    at c.open_stored.ensures
