use Prim.Native.Nat.{◌-◌}
use mathlib.Core.List.{◌∷◌, map}
use Rattle.meaning.specs.Lists.{select}
use Rattle.rowset.specs.Rows.{row_at, rows_from}
use Rattle.rowset.proofs.Growing.{Turns}
use Rattle.room.specs.Room.{sets_of}
use Rattle.untils.specs.Until.{leads}
use Rattle.pairs.specs.Pairs.{PairsAdded}
use Rattle.since.proofs.add_lasting.Given as goal

-- `add_lasting` meets its contract: each row of the run for which left passes is put in at the age.
abbrev pub invariant-loop-x : goal.invariant-loop-x
invariant-loop-x l = Turns (row_at l.lead.sets.rows.now) (λ us. map (λ u. l.age ∷ u) (select (leads l.lead.left l.lead.a (sets_of l.lead.sets l.lead.a) l.lead.from l.lead.end) us)) l.x-end
    (map (λ u. l.age ∷ u) (select (leads l.lead.left l.lead.a (sets_of l.lead.sets l.lead.a) l.lead.from l.lead.end) (rows_from l.lead.sets.rows.now l.initial.x (l.x-end - l.initial.x)))) (PairsAdded l.lowest l.initial.ages l.initial.values l.initial.g l.ages l.values l.g) l.x
