-- `child_at` meets its contract: its words are those of the node's figures.
use native.Mathlib.Omega.{arith}
use Rattle.node_step.proofs.Reading.{mask_word, child_is}
use Rattle.node_step.proofs.child_at.Goals as goal

pub overflow_cast-mask : goal.overflow_cast-mask
overflow_cast-mask c = let a = c.args in omega (arith, mask_word a.figures.now a.y, c.requires.mask)

pub returns : goal.returns
returns c = let a = c.args in child_is a.figures.now a.y a.first c.lowest_of.ensures
