-- `save_stored` meets its contract, by the test of what is stored and the words that its image has.
use native.Mathlib.Omega.{arith}
use mathlib.Core.Path.{◌≡◌, sym, ◌∙◌}
use mathlib.Core.Bool.{true}
use lib.ListN.{length}
use Rattle.method.specs.WellFormed.{well_formed}
use Rattle.formed.specs.StateFigures.{stored_in}
use Rattle.image.specs.Image.{image_of}
use Rattle.image_words.specs.Parts.{image_needs}
use Rattle.image_words.proofs.Saving.{whole_rule, image_long, saved_bad, saved_short, saved_whole}
use Rattle.image_words.proofs.save_stored.Goals as goal

pub returns-then-not-well_formed : goal.returns-then-not-well_formed
returns-then-not-well_formed c = saved_bad _ _ (sym c.well_formed-2.ensures ∙ c.if-not-well_formed.true)

pub returns-then-image-needed : goal.returns-then-image-needed
returns-then-image-needed c = saved_short _ _ ((let it : let a = c.args in well_formed (stored_in a.rule.now a.log a.times.now a.owners.now a.numbers.now a.values.now a.count) ≡ true = sym c.well_formed-2.ensures ∙ c.if-not-well_formed.false in it)) ((let it : let a = c.args in length (image_of (stored_in a.rule.now a.log a.times.now a.owners.now a.numbers.now a.values.now a.count)) ≡ image_needs (length a.rule.now) (length a.times.now) a.count = let a = c.args in image_long a.rule.now a.log a.times.now a.owners.now a.numbers.now a.values.now a.count c.requires.0 (whole_rule _ ((let it : let a = c.args in well_formed (stored_in a.rule.now a.log a.times.now a.owners.now a.numbers.now a.values.now a.count) ≡ true = sym c.well_formed-2.ensures ∙ c.if-not-well_formed.false in it))) in it)) (omega arith)

pub put_image-requires : goal.put_image-requires
put_image-requires c = let p = c.requires in record { entries_within = (p.0, p.1, p.2); rule_len = (whole_rule _ ((let it : let a = c.args in well_formed (stored_in a.rule.now a.log a.times.now a.owners.now a.numbers.now a.values.now a.count) ≡ true = sym c.well_formed-2.ensures ∙ c.if-not-well_formed.false in it)), omega arith) }

pub returns : goal.returns
returns c = saved_whole _ _ ((let it : let a = c.args in well_formed (stored_in a.rule.now a.log a.times.now a.owners.now a.numbers.now a.values.now a.count) ≡ true = sym c.well_formed-2.ensures ∙ c.if-not-well_formed.false in it)) ((let it : let a = c.args in length (image_of (stored_in a.rule.now a.log a.times.now a.owners.now a.numbers.now a.values.now a.count)) ≡ image_needs (length a.rule.now) (length a.times.now) a.count = let a = c.args in image_long a.rule.now a.log a.times.now a.owners.now a.numbers.now a.values.now a.count c.requires.0 (whole_rule _ ((let it : let a = c.args in well_formed (stored_in a.rule.now a.log a.times.now a.owners.now a.numbers.now a.values.now a.count) ≡ true = sym c.well_formed-2.ensures ∙ c.if-not-well_formed.false in it))) in it)) (omega arith) c.put_image.ensures
