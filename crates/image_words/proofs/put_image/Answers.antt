-- `put_image` meets its contract: the parts of the image, one behind the other.
use Rattle.image_words.proofs.Saving.{image_put}
use Rattle.image_words.proofs.put_image.Goals as goal

pub returns : goal.returns
returns c = let a = c.args in
    image_put a.rule.now a.log a.times.now a.owners.now a.numbers.now a.values.now a.count c.requires.entries_within.0 c.requires.rule_len.0 c.requires.rule_len.1
    c.put_sizes.ensures c.put_owners.ensures c.copy_words.ensures c.copy_words-2.ensures c.put_rule.ensures
