-- `add_all_older` meets its contract: each held pair is put in, grown older, where it stays.
use native.Mathlib.Omega.{arith}
use mathlib.Core.Path.{refl}
use Rattle.rowset.proofs.Growing.{starts_all, ended}
use Rattle.kinds.specs.Kinds.{pairs_from}
use Rattle.room.specs.Room.{sets_of}
use Rattle.untils.specs.Until.{leads}
use Rattle.pairs.proofs.Adding.{add_none}
use Rattle.since.proofs.HeldPairs.{pair_turned}
use Rattle.since.proofs.add_all_older.Goals as goal

pub loop-x-init : goal.loop-x-init
unfolding pairs_from
loop-x-init c = starts_all (add_none c.requires)

pub loop-x-preserved : goal.loop-x-preserved
loop-x-preserved c = let a = c.args in
    let l = a.lead.now in
    let b = c.bounds_of-bounds.ensures in
    pair_turned a.by (leads l.left l.a (sets_of l.sets l.a) l.from l.end) a.w a.held.ages.now a.held.values.now (omega arith) b.1 b.2 c.loop-x.invariant c.loop-x-test.true (rw (c.from.ensures, c.from-in-loop-x.ensures) at c.add_older-g.ensures) refl c.row_at-r.ensures

pub returns : goal.returns
returns c = ended c.loop-x.invariant refl c.loop-x-test.false
