use Rattle.rowset.proofs.Growing.{Gathering}
use Rattle.kinds.specs.Kinds.{pair_at, pairs_from}
use Rattle.room.specs.Room.{sets_of}
use Rattle.untils.specs.Until.{leads}
use Rattle.since.specs.Parts.{older_rows}
use Rattle.since.proofs.put_older.Given as goal

-- `put_older` meets its contract: the row of each held pair that stays is put in.
abbrev pub invariant-loop-x : goal.invariant-loop-x
invariant-loop-x l = Gathering l.lowest (pair_at l.held.ages.now l.held.values.now) (older_rows l.fn.w l.by (leads l.lead.left l.lead.a (sets_of l.lead.sets l.lead.a) l.lead.from l.lead.end)) l.x-end l.initial.out l.initial.set
    (older_rows l.fn.w l.by (leads l.lead.left l.lead.a (sets_of l.lead.sets l.lead.a) l.lead.from l.lead.end) (pairs_from l.held.ages.now l.held.values.now 0 l.x-end)) l.out l.set l.x
