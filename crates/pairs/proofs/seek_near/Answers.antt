-- `seek_near` meets its contract: it is told how each pair stands to the one looked for.
use Prim.Native.Nat.{suc}
use mathlib.Core.Path.{refl}
use mathlib.Core.List.{◌∷◌}
use Rattle.std.proofs.Common.{rules}
use Rattle.rowset.specs.Rows.{words_of}
use Rattle.kinds.specs.Kinds.{pair_at, pairs_from}
use Rattle.pairs.proofs.seek_near.Goals as goal

pub returns : goal.returns
unfolding pairs_from
returns c = let a = c.args in
    c.seek_near.ensures (suc a.lowest) (pair_at a.ages.now a.values.now) (a.age ∷ words_of a.r) (λ k. refl, λ i told l p. search rules) c.requires.1
