-- The word is written where the variable is free, and else nothing is.
use mathlib.Core.List.{[], ◌∷◌}
use mathlib.Core.Path.{sym, ◌∙◌}
use Rattle.writer.proofs.Putting.{put_passed, put_failed}
use Rattle.writer.proofs.put_free.Goals as goal

pub put_at-requires : goal.put_at-requires
put_at-requires c = rw (sym c.has_bit.ensures ∙ c.if-has_bit.true) at c.requires.word_in_bounds

pub returns-then-has_bit : goal.returns-then-has_bit
returns-then-has_bit c = put_passed (sym c.has_bit.ensures ∙ c.if-has_bit.true) c.put_at.ensures

pub returns : goal.returns
returns c = put_failed (c.args.word ∷ []) (sym c.has_bit.ensures ∙ c.if-has_bit.false)
