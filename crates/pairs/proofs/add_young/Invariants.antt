use Prim.Native.Nat.{◌-◌}
use mathlib.Core.List.{◌∷◌, map}
use Rattle.rowset.specs.Rows.{row_at, rows_from}
use Rattle.rowset.proofs.Growing.{Turns}
use Rattle.pairs.specs.Pairs.{PairsAdded}
use Rattle.pairs.proofs.add_young.Given as goal

-- `add_young` meets its contract: each row of the run is put in at the age.
abbrev pub invariant-loop-x : goal.invariant-loop-x
invariant-loop-x l = Turns (row_at l.rows) (map (λ u. l.age ∷ u)) l.to (map (λ u. l.age ∷ u) (rows_from l.rows l.from (l.to - l.from))) (PairsAdded l.lowest l.initial.ages l.initial.values l.initial.g l.ages l.values l.g) l.x
