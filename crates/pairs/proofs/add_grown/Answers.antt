-- `add_grown` meets its contract: pairs that belong behind those that are there are put in at once, others one by one.
use Prim.Native.Nat.{◌<◌}
use native.Mathlib.Omega.{arith}
use Rattle.pairs.proofs.Behind.{ages_small, add_behind}
use Rattle.pairs.proofs.add_grown.Goals as goal

pub put_grown-requires : goal.put_grown-requires
put_grown-requires c = let a = c.args in
    let b = c.fits_behind.ensures c.if-fits_behind.true in
    let small : a.most < 4294967296 = omega arith in
    record { m_in_bounds = (c.requires.pairs_there.0.ages_there, b.room); by_index = λ k l. omega (arith, ages_small a.lowest a.old_ages.now a.old_values.now a.m a.by a.most c.requires.pairs_there.1 b.some b.uncut k l) }

pub returns-then-fits_behind : goal.returns-then-fits_behind
returns-then-fits_behind c = let a = c.args in
    add_behind a.lowest a.old_ages.now a.old_values.now a.m a.by a.most c.requires.pairs_there.1 (c.fits_behind.ensures c.if-fits_behind.true) c.requires.pair_room c.put_grown.ensures c.copy_words.ensures
