use Rattle.rowset.proofs.Growing.{Turns}
use Rattle.kinds.specs.Kinds.{pair_at, pairs_from}
use Rattle.room.specs.Room.{sets_of}
use Rattle.untils.specs.Until.{leads}
use Rattle.pairs.specs.Pairs.{PairsAdded}
use Rattle.since.specs.Parts.{older_pairs}
use Rattle.since.proofs.add_all_older.Given as goal

-- `add_all_older` meets its contract: each held pair is put in, grown older, where it stays.
abbrev pub invariant-loop-x : goal.invariant-loop-x
invariant-loop-x l = Turns (pair_at l.held.ages.now l.held.values.now) (older_pairs l.fn.w l.by (leads l.lead.left l.lead.a (sets_of l.lead.sets l.lead.a) l.lead.from l.lead.end)) l.x-end
    (older_pairs l.fn.w l.by (leads l.lead.left l.lead.a (sets_of l.lead.sets l.lead.a) l.lead.from l.lead.end) (pairs_from l.held.ages.now l.held.values.now 0 l.x-end)) (PairsAdded l.lowest l.initial.ages l.initial.values l.initial.g l.ages l.values l.g) l.x
