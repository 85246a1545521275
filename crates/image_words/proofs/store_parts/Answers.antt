-- `store_parts` meets its contract, by the words that each copy has put.
use native.Mathlib.Omega.{arith}
use Rattle.image_words.proofs.Reading.{parts_stored}
use Rattle.image_words.proofs.store_parts.Goals as goal

pub overflow_mul-kept-2 : goal.overflow_mul-kept-2
overflow_mul-kept-2 c = omega (arith, c.requires.sizes_fit.0)

pub copy_words-requires-4 : goal.copy_words-requires-4
copy_words-requires-4 c = omega (arith, c.requires.sizes_fit.0, c.requires.rule_len)

pub returns : goal.returns
returns c = let (z, lo, ln) = c.requires.sizes_fit in
    parts_stored c.args.image.now z (lo, ln) (omega (arith, c.requires.rule_len)) c.put_bytes.ensures c.copy_words.ensures c.copy_words-2.ensures c.copy_words-3.ensures c.copy_words-4.ensures
