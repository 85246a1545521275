-- `lay_out` meets its contract: each way out is of sizes that no image has.
use native.Mathlib.Omega.{arith}
use mathlib.Core.Path.{refl}
use Rattle.image_words.proofs.Reading.{no_image}
use Rattle.image_words.proofs.lay_out.Goals as goal

pub returns-then-n-lt5 : goal.returns-then-n-lt5
returns-then-n-lt5 c = no_image _ (λ h. omega (arith, h.within, c.if-n-lt5.true))

pub returns-then-image-ne-VERSION : goal.returns-then-image-ne-VERSION
returns-then-image-ne-VERSION c = no_image _ (λ h. c.if-image-ne-VERSION.true h.version)

pub overflow_cast-kept : goal.overflow_cast-kept
overflow_cast-kept c = record { fits = omega (arith, c.shared_slice_known-2-1.given 3) }

pub overflow_cast-retained : goal.overflow_cast-retained
overflow_cast-retained c = record { fits = omega (arith, c.shared_slice_known-3-1.given 4) }

pub returns-then-kept-gt-MOST_KEPT : goal.returns-then-kept-gt-MOST_KEPT
returns-then-kept-gt-MOST_KEPT c = no_image _ (λ h. omega (arith, h.few_kept, c.if-kept-gt-MOST_KEPT.true))

pub returns-then-retained-gt-MOST_TIMES : goal.returns-then-retained-gt-MOST_TIMES
returns-then-retained-gt-MOST_TIMES c = no_image _ (λ h. omega (arith, h.few_times, c.if-retained-gt-MOST_TIMES.true))

pub returns-then-n-at : goal.returns-then-n-at
returns-then-n-at c = no_image _ (λ h. omega (arith, h.within, c.if-n-at.true))

pub returns-then-n-at-gt-RULE_WORDS : goal.returns-then-n-at-gt-RULE_WORDS
returns-then-n-at-gt-RULE_WORDS c = no_image _ (λ h. omega (arith, h.rule_fits, c.if-n-at-gt-RULE_WORDS.true))

pub returns : goal.returns
returns c = record {
  version = c.if-image-ne-VERSION.false;
  kept_are = refl;
  retained_are = refl;
  few_kept = omega arith;
  few_times = omega arith;
  within = omega arith;
  rule_fits = omega arith;
}
