-- `store_block` meets its contract: the words of its copies are those of the block.
use Prim.Native.Nat.{◌+◌, ◌*◌}
use native.Mathlib.Omega.{arith}
use mathlib.Core.Path.{◌≡◌, sym, ◌∙◌}
use lib.ListN.{get_or}
use Rattle.node_step.specs.Walks.{set_words, block_word}
use Rattle.call.proofs.Storing.{part_long, first_word, block_put-from, none_put}
use Rattle.call.proofs.store_block.Goals as goal

pub overflow_cast-from : goal.overflow_cast-from
overflow_cast-from c = omega (arith, (let it : get_or c.args.blocks.now (set_words + c.args.x * 3) 0 ≡ block_word c.args.blocks.now c.args.x 0 = first_word c.args.blocks.now c.args.x in it))

pub returns-then-from-to : goal.returns-then-from-to
returns-then-from-to c = none_put c.args.out_numbers.now c.args.out_values.now c.args.blocks.now c.args.x c.requires.rows_first c.requires.pairs_last (sym ((let it : get_or c.args.blocks.now (set_words + c.args.x * 3) 0 ≡ block_word c.args.blocks.now c.args.x 0 = first_word c.args.blocks.now c.args.x in it)) ∙ c.if-from-to.true) c.args.owners.now c.args.numbers.now c.args.values.now c.args.k

pub overflow_sub-pairs : goal.overflow_sub-pairs
overflow_sub-pairs c = omega (arith, (let it : get_or c.args.blocks.now (set_words + c.args.x * 3) 0 ≡ block_word c.args.blocks.now c.args.x 0 = first_word c.args.blocks.now c.args.x in it))

pub fill-requires : goal.fill-requires
fill-requires c = omega (arith, (let it : get_or c.args.blocks.now (set_words + c.args.x * 3) 0 ≡ block_word c.args.blocks.now c.args.x 0 = first_word c.args.blocks.now c.args.x in it))

pub overflow_sub-pairs-2 : goal.overflow_sub-pairs-2
overflow_sub-pairs-2 c = omega (arith, (let it : get_or c.args.blocks.now (set_words + c.args.x * 3) 0 ≡ block_word c.args.blocks.now c.args.x 0 = first_word c.args.blocks.now c.args.x in it))

pub fill-requires-2 : goal.fill-requires-2
fill-requires-2 c = omega (arith, (let it : get_or c.args.blocks.now (set_words + c.args.x * 3) 0 ≡ block_word c.args.blocks.now c.args.x 0 = first_word c.args.blocks.now c.args.x in it))

pub offset_bounds-out_numbers-from : goal.offset_bounds-out_numbers-from
offset_bounds-out_numbers-from c = omega (arith, (let it : get_or c.args.blocks.now (set_words + c.args.x * 3) 0 ≡ block_word c.args.blocks.now c.args.x 0 = first_word c.args.blocks.now c.args.x in it))

pub slice_bounds-copy_words-count : goal.slice_bounds-copy_words-count
slice_bounds-copy_words-count c = omega (arith, (let it : get_or c.args.blocks.now (set_words + c.args.x * 3) 0 ≡ block_word c.args.blocks.now c.args.x 0 = first_word c.args.blocks.now c.args.x in it))

pub slice_bounds-copy_words-start : goal.slice_bounds-copy_words-start
slice_bounds-copy_words-start c = omega (arith, (let it : get_or c.args.blocks.now (set_words + c.args.x * 3) 0 ≡ block_word c.args.blocks.now c.args.x 0 = first_word c.args.blocks.now c.args.x in it))

pub overflow_sub-to-2 : goal.overflow_sub-to-2
overflow_sub-to-2 c = omega (arith, (let it : get_or c.args.blocks.now (set_words + c.args.x * 3) 0 ≡ block_word c.args.blocks.now c.args.x 0 = first_word c.args.blocks.now c.args.x in it))

pub copy_words-requires : goal.copy_words-requires
copy_words-requires c = omega (arith, (let it : get_or c.args.blocks.now (set_words + c.args.x * 3) 0 ≡ block_word c.args.blocks.now c.args.x 0 = first_word c.args.blocks.now c.args.x in it), c.requires, part_long c.args.out_numbers.now (get_or c.args.blocks.now (set_words + c.args.x * 3) 0) (block_word c.args.blocks.now c.args.x 2) c.requires.numbers_are_there)

pub overflow_mul-from : goal.overflow_mul-from
overflow_mul-from c = omega (arith, (let it : get_or c.args.blocks.now (set_words + c.args.x * 3) 0 ≡ block_word c.args.blocks.now c.args.x 0 = first_word c.args.blocks.now c.args.x in it))

pub offset_bounds-out_values-from : goal.offset_bounds-out_values-from
offset_bounds-out_values-from c = omega (arith, (let it : get_or c.args.blocks.now (set_words + c.args.x * 3) 0 ≡ block_word c.args.blocks.now c.args.x 0 = first_word c.args.blocks.now c.args.x in it))

pub slice_bounds-copy_words-count-2 : goal.slice_bounds-copy_words-count-2
slice_bounds-copy_words-count-2 c = omega (arith, (let it : get_or c.args.blocks.now (set_words + c.args.x * 3) 0 ≡ block_word c.args.blocks.now c.args.x 0 = first_word c.args.blocks.now c.args.x in it))

pub slice_bounds-copy_words-start-2 : goal.slice_bounds-copy_words-start-2
slice_bounds-copy_words-start-2 c = omega (arith, (let it : get_or c.args.blocks.now (set_words + c.args.x * 3) 0 ≡ block_word c.args.blocks.now c.args.x 0 = first_word c.args.blocks.now c.args.x in it))

pub overflow_sub-to-3 : goal.overflow_sub-to-3
overflow_sub-to-3 c = omega (arith, (let it : get_or c.args.blocks.now (set_words + c.args.x * 3) 0 ≡ block_word c.args.blocks.now c.args.x 0 = first_word c.args.blocks.now c.args.x in it))

pub copy_words-requires-2 : goal.copy_words-requires-2
copy_words-requires-2 c = omega (arith, (let it : get_or c.args.blocks.now (set_words + c.args.x * 3) 0 ≡ block_word c.args.blocks.now c.args.x 0 = first_word c.args.blocks.now c.args.x in it), c.requires, part_long c.args.out_values.now (get_or c.args.blocks.now (set_words + c.args.x * 3) 0 * 4) (block_word c.args.blocks.now c.args.x 2 * 4) c.requires.rows_there)

pub overflow_sub-result : goal.overflow_sub-result
overflow_sub-result c = omega (arith, (let it : get_or c.args.blocks.now (set_words + c.args.x * 3) 0 ≡ block_word c.args.blocks.now c.args.x 0 = first_word c.args.blocks.now c.args.x in it))

pub overflow_add-result : goal.overflow_add-result
overflow_add-result c = omega (arith, (let it : get_or c.args.blocks.now (set_words + c.args.x * 3) 0 ≡ block_word c.args.blocks.now c.args.x 0 = first_word c.args.blocks.now c.args.x in it), c.requires, c.well_formed)

pub returns : goal.returns
returns c = block_put-from c.args.out_numbers.now c.args.out_values.now c.args.blocks.now c.args.x ((let it : get_or c.args.blocks.now (set_words + c.args.x * 3) 0 ≡ block_word c.args.blocks.now c.args.x 0 = first_word c.args.blocks.now c.args.x in it)) c.requires.rows_first c.requires.pairs_last c.fill.ensures c.fill-2.ensures c.copy_words.ensures c.copy_words-2.ensures
