-- `sets_fit` meets its contract: the first and the last number say it of all, as they ascend.
use Prim.Native.Nat.{◌-◌, ◌<◌}
use native.Mathlib.Omega.{arith}
use Rattle.formed.proofs.Climbs.{tells_as, sets_empty, sets_are}
use Rattle.formed.proofs.sets_fit.Goals as goal

pub returns-then-from-to : goal.returns-then-from-to
returns-then-from-to c = let a = c.args in sets_empty a.numbers.now a.values.now a.mask a.from a.to a.low a.end c.if-from-to.true

pub returns-then-numbers-from : goal.returns-then-numbers-from
returns-then-numbers-from c = λ h. let a = c.args in omega (arith, h.inside a.from (omega arith) ((let it : let a = c.args in a.from < a.to = omega (arith, c.requires.0, c.if-from-to.false) in it)), c.if-numbers-from.true)

pub returns-then-end-numbers : goal.returns-then-end-numbers
returns-then-end-numbers c = λ h.
    let a = c.args in
    let l = (let it : let a = c.args in a.from < a.to = omega (arith, c.requires.0, c.if-from-to.false) in it) in
    omega (arith, h.inside (a.to - 1) (omega arith) (omega arith), c.if-end-numbers.true)

pub returns-then-rows_ascend : goal.returns-then-rows_ascend
returns-then-rows_ascend c = let a = c.args in
    let some : a.from < a.to = omega (arith, c.requires.0, c.if-from-to.false) in
    let rise = rw c.if-rows_ascend.true at c.rows_ascend.ensures in
    tells_as (λ few. sets_are a.numbers.now a.values.now a.mask a.from a.to a.low a.end some c.if-numbers-from.false c.if-end-numbers.false rise few) (λ h. h.few) c.few_alike.result c.few_alike.ensures
