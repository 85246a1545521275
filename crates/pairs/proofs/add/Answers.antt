-- `add` meets its contract: the pairs are too many already, or the pair is there, is one too many, or is put in where the search has stopped.
use Prim.Native.Nat.{suc, ◌+◌, ◌≤◌}
use native.Mathlib.Omega.{arith}
use mathlib.Core.Path.{◌≡◌, sym, ◌∙◌}
use mathlib.Core.List.{◌∷◌}
use lib.ListN.{length}
use Rattle.meaning.specs.LookUp.{look_up}
use Rattle.std.specs.Prelude.{Ok, Err}
use Rattle.rowset.specs.Rows.{words_of}
use Rattle.kinds.specs.Kinds.{pairs_from}
use Rattle.pairs.proofs.Adding.{place-within, add_there, add_absent, add_over, add_beyond}
use Rattle.pairs.proofs.add.Goals as goal

pub returns-then-ages-n : goal.returns-then-ages-n
returns-then-ages-n c = add_beyond (c.args.age ∷ words_of c.args.r) c.requires c.if-ages-n.true

pub returns-then-n-ages : goal.returns-then-n-ages
returns-then-n-ages c = let a = c.args in
    add_over a.ages.now a.values.now a.set a.age a.r c.in-Err.p c.requires ((let it : let a = c.args in look_up (suc a.lowest) (a.age ∷ words_of a.r) (pairs_from a.ages.now a.values.now 0 a.set.count) ≡ Err c.in-Err.p = sym c.seek_near.ensures ∙ c.in-Err.is in it)) c.if-n-ages.true

pub put_in-requires : goal.put_in-requires
put_in-requires c = let a = c.args in
    let l : a.set.count + 1 ≤ length a.ages.now = omega (arith, c.if-ages-n.false, c.if-n-ages.false) in
    (place-within a.ages.now a.values.now a.set a.age a.r c.in-Err.p c.requires ((let it : let a = c.args in look_up (suc a.lowest) (a.age ∷ words_of a.r) (pairs_from a.ages.now a.values.now 0 a.set.count) ≡ Err c.in-Err.p = sym c.seek_near.ensures ∙ c.in-Err.is in it)), l, omega (arith, c.requires.values_there))

pub returns-in-Ok : goal.returns-in-Ok
returns-in-Ok c = let a = c.args in
    add_there a.ages.now a.values.now a.set a.age a.r c.in-Ok.p c.requires ((let it : let a = c.args in look_up (suc a.lowest) (a.age ∷ words_of a.r) (pairs_from a.ages.now a.values.now 0 a.set.count) ≡ Ok c.in-Ok.p = sym c.seek_near.ensures ∙ c.in-Ok.is in it)) (omega (arith, c.if-ages-n.false))

pub returns-else-n-ages : goal.returns-else-n-ages
returns-else-n-ages c = let a = c.args in
    add_absent a.ages.now a.values.now a.set a.age a.r c.in-Err.p c.requires ((let it : let a = c.args in look_up (suc a.lowest) (a.age ∷ words_of a.r) (pairs_from a.ages.now a.values.now 0 a.set.count) ≡ Err c.in-Err.p = sym c.seek_near.ensures ∙ c.in-Err.is in it)) c.put_in.new.ages c.put_in.new.values c.put_in.ensures
    (omega (arith, c.if-ages-n.false, c.if-n-ages.false)) c.put_in.auto.ages c.put_in.auto.values
