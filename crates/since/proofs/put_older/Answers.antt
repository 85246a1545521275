-- `put_older` meets its contract: the row of each held pair that stays is put in.
use native.Mathlib.Omega.{arith}
use mathlib.Core.Path.{refl}
use Rattle.rowset.proofs.Growing.{gathers_all, gather_from, ended, made_more}
use Rattle.kinds.specs.Kinds.{pairs_from}
use Rattle.room.specs.Room.{sets_of}
use Rattle.untils.specs.Until.{leads}
use Rattle.since.proofs.HeldPairs.{row_turned}
use Rattle.since.proofs.put_older.Goals as goal

pub loop-x-init : goal.loop-x-init
unfolding pairs_from
loop-x-init c = gathers_all (gather_from c.requires)

pub loop-x-preserved : goal.loop-x-preserved
loop-x-preserved c = let a = c.args in
    let l = a.lead.now in
    let b = c.bounds_of-bounds.ensures in
    row_turned a.by (leads l.left l.a (sets_of l.sets l.a) l.from l.end) a.w a.held.ages.now a.held.values.now (omega arith) b.0 b.1 c.loop-x.invariant c.loop-x-test.true c.add_if-set.ensures (rw (c.from.ensures, c.from-in-loop-x.ensures) at c.stays-ok.ensures) c.row_at-r.ensures

pub returns : goal.returns
returns c = let h = (ended c.loop-x.invariant refl c.loop-x-test.false).added in
    record { long = h.long; put = λ s up m. made_more m h }
