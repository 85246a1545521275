use Rattle.rowset.proofs.Growing.{Turns}
use Rattle.kinds.specs.Kinds.{pair_at, pairs_from}
use Rattle.pairs.specs.Pairs.{PairsAdded, grown_pairs}
use Rattle.pairs.proofs.add_each_grown.Given as goal

-- `add_each_grown` meets its contract: each pair is put in, grown older.
abbrev pub invariant-loop-x : goal.invariant-loop-x
invariant-loop-x l = Turns (pair_at l.old_ages l.old_values) (grown_pairs l.by l.most) l.m (grown_pairs l.by l.most (pairs_from l.old_ages l.old_values 0 l.m)) (PairsAdded l.lowest l.initial.ages l.initial.values l.initial.g l.ages l.values l.g) l.x
