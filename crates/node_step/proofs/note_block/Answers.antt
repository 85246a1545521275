-- `note_block` meets its contract.
use Prim.Native.Nat.{◌+◌, ◌*◌}
use native.Mathlib.Omega.{arith}
use lib.ListN.{set, length-set}
use Rattle.node_step.specs.Walks.{set_words}
use Rattle.node_step.proofs.note_block.Goals as goal

pub bounds-blocks-k-2 : goal.bounds-blocks-k-2
bounds-blocks-k-2 c = let a = c.args in omega (arith, c.requires, length-set a.blocks.now (set_words + a.x * 3) a.rows)

pub bounds-blocks-k-3 : goal.bounds-blocks-k-3
bounds-blocks-k-3 c = let a = c.args in omega (arith, c.requires, length-set a.blocks.now (set_words + a.x * 3) a.rows, length-set (set a.blocks.now (set_words + a.x * 3) a.rows) (set_words + a.x * 3 + 1) a.pairs)
