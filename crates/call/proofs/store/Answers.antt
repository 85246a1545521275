-- `store` meets its contract. The loop's invariant: the blocks of the first x nodes are stored.
use native.Mathlib.Omega.{arith}
use Rattle.call.proofs.Storing.{storing_none, block_storable, storing_more, storing_all}
use Rattle.call.proofs.store.Goals as goal

pub loop-x-init : goal.loop-x-init
loop-x-init c = storing_none _ _ _ _ _ _ _

pub store_block-k-requires : goal.store_block-k-requires
store_block-k-requires c = block_storable c.requires c.loop-x.invariant c.loop-x-test.true

pub overflow_add-x : goal.overflow_add-x
overflow_add-x c = omega (arith, c.requires.nodes, c.loop-x-test.true)

pub loop-x-smaller : goal.loop-x-smaller
loop-x-smaller c = omega (arith, c.loop-x-test.true)

pub loop-x-preserved : goal.loop-x-preserved
loop-x-preserved c = storing_more c.requires c.loop-x.invariant c.loop-x-test.true c.store_block-k.ensures

pub shape_of-owners : goal.shape_of-owners
shape_of-owners c = c.loop-x.invariant.owners_long

pub shape_of-numbers : goal.shape_of-numbers
shape_of-numbers c = c.loop-x.invariant.numbers_long

pub shape_of-values : goal.shape_of-values
shape_of-values c = c.loop-x.invariant.values_are_long

pub returns : goal.returns
returns c = storing_all c.requires c.loop-x.invariant c.loop-x-test.false
