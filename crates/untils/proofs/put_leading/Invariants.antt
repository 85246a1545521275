use Prim.Native.Nat.{◌-◌}
use Rattle.meaning.specs.Lists.{select}
use Rattle.rowset.specs.Rows.{row_at, rows_from}
use Rattle.rowset.proofs.Growing.{Gathering}
use Rattle.room.specs.Room.{sets_of}
use Rattle.untils.specs.Until.{leads}
use Rattle.untils.proofs.put_leading.Given as goal

-- `put_leading` meets its contract: each row of the run for which left passes is put in.
abbrev pub invariant-loop-x : goal.invariant-loop-x
invariant-loop-x l = Gathering l.lowest (row_at l.lead.sets.rows.now) (select (leads l.lead.left l.lead.a (sets_of l.lead.sets l.lead.a) l.lead.from l.lead.end)) l.x-end l.initial.out l.initial.set (select (leads l.lead.left l.lead.a (sets_of l.lead.sets l.lead.a) l.lead.from l.lead.end) (rows_from l.lead.sets.rows.now l.initial.x (l.x-end - l.initial.x))) l.out l.set l.x
