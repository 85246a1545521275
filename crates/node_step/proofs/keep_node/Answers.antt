-- `keep_node` meets its contract: its rows and then its pairs are put behind what is kept, and the table says where.
use native.Mathlib.Omega.{arith}
use Rattle.node_step.proofs.Keeping.{sets_ready, room_then, rising, block_put}
use Rattle.node_step.proofs.keep_node.Goals as goal

pub keep_sets-pairs-requires : goal.keep_sets-pairs-requires
keep_sets-pairs-requires c = sets_ready c.requires

pub offset_bounds-numbers-from : goal.offset_bounds-numbers-from
offset_bounds-numbers-from c = omega (arith, c.requires.end_there, c.well_formed.1.1.1.1.1.1.1.1.0)

pub keep_pairs_at-kept-requires : goal.keep_pairs_at-kept-requires
keep_pairs_at-kept-requires c = let p = c.requires in
    record {
      ordered = p.pairs.ordered;
      asks = p.pairs.asks;
      sight = p.pairs.sight;
      sees = p.pairs.sees;
      held = p.pairs.held;
      room = room_then p.pairs.room (c.keep_sets-pairs.ensures 0);
    }

pub note_block-requires : goal.note_block-requires
note_block-requires c = let p = c.requires in
    let r = p.pairs in
    let x = c.args.x in
    let u = rising r.room (c.keep_sets-pairs.ensures x) (c.keep_pairs_at-kept.ensures.gives r.sight r.sees x) in
    let f = r.room.few in
    (p.table, omega (arith, u), omega (arith, u), omega (arith, u))

pub returns : goal.returns
returns c = let p = c.requires in
    let a = c.args in
    record { gives = λ v i. rw c.note_block.ensures (block_put p.pairs.room (c.keep_sets-pairs.ensures a.x) (c.keep_pairs_at-kept.ensures.gives v i a.x) a.blocks.now p.table) }
