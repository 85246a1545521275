-- `rows_ascend` meets its contract. The loop keeps of the entries before i that they ascend, which bits their rows have, and the joined number of the last.
use Prim.Native.Nat.{suc, ◌+◌}
use native.Mathlib.Omega.{arith}
use mathlib.Core.Path.{◌≡◌, sym, ap, subst, ◌∙◌}
use Rattle.meaning.specs.Formula.{lowest_of}
use Rattle.rowset.specs.Rows.{words_of}
use Rattle.rowset.specs.declared.Row.{Row}
use Rattle.kinds.specs.Kinds.{in_mask, pair_at}
use Rattle.formed.specs.Tests.{row_under}
use Rattle.formed.proofs.Climbs.{Ascends, BitsOf, ascends_one, ascends_more, ascends_fails, rows_one, rows_more, rising_tells, joint_at_lem, joint_last}
use Rattle.formed.proofs.rows_ascend.Goals as goal

pub loop-i-init : goal.loop-i-init
loop-i-init c = let a = c.args in record {
  ascend = ascends_one (suc c.lowest_of-lowest.result) (pair_at a.numbers.now a.values.now) a.from (a.from + 1) (omega arith);
  have = rows_one a.values.now (λ i. omega (arith, c.type_inv.values i)) a.from c.row_at-bits.result c.row_at-bits.ensures;
  joined = joint_last a.numbers.now a.values.now a.from (joint_at_lem a.numbers.now a.values.now a.from c.row_at-bits.result c.row_at-bits.ensures c.joint-last.ensures);
}

pub follows-requires-clause-last_value : goal.follows-requires-clause-last_value
follows-requires-clause-last_value c = let a = c.args in
    let l = c.loop-i in
    (l.invariant.joined, joint_at_lem a.numbers.now a.values.now l.i c.row_at-row.result c.row_at-row.ensures c.joint-here.ensures)

pub returns-then-not-follows : goal.returns-then-not-follows
returns-then-not-follows c = λ h.
    let a = c.args in
    let l = c.loop-i in
    ascends_fails (suc c.lowest_of-lowest.result) (pair_at a.numbers.now a.values.now) a.from l.i a.to (omega arith) c.loop-i-test.true (sym c.follows.ensures ∙ c.if-not-follows.true)
    (subst (λ lowest. Ascends (suc lowest) (pair_at a.numbers.now a.values.now) a.from a.to) (sym c.lowest_of-lowest.ensures) (record { up = h.up }))

pub loop-i-preserved : goal.loop-i-preserved
loop-i-preserved c = let a = c.args in
    let l = c.loop-i in
    let r = c.row_at-row in record {
      ascend = ascends_more (suc c.lowest_of-lowest.result) (pair_at a.numbers.now a.values.now) a.from l.i (omega arith) l.invariant.ascend (sym c.follows.ensures ∙ c.if-not-follows.false);
      have = subst (λ (r : Row). BitsOf a.values.now a.from (l.i + 1) r) (sym c.joined-bits.ensures)
          (rows_more a.values.now (λ i. omega (arith, c.type_inv.values i)) a.from r.result (omega arith) l.invariant.have r.ensures);
      joined = joint_last a.numbers.now a.values.now l.i (joint_at_lem a.numbers.now a.values.now l.i r.result r.ensures c.joint-here.ensures);
    }

pub returns : goal.returns
returns c = let a = c.args in
    let l = c.loop-i in
    let up : Ascends (suc (lowest_of (in_mask a.mask))) (pair_at a.numbers.now a.values.now) a.from l.i = subst (λ lowest. Ascends (suc lowest) (pair_at a.numbers.now a.values.now) a.from l.i) c.lowest_of-lowest.ensures l.invariant.ascend in
    let e : l.i ≡ a.to = omega (arith, l.auto.i-end (omega (arith, c.requires.0))) in
    rising_tells a.values.now (λ i. omega (arith, c.type_inv.values i)) a.from a.numbers.now a.mask a.to l.bits
    (subst (Ascends (suc (lowest_of (in_mask a.mask))) (pair_at a.numbers.now a.values.now) a.from) e up) (subst (λ k. BitsOf a.values.now a.from k l.bits) e l.invariant.have)
    c.is_under.result (c.is_under.ensures ∙ ap (λ (m : Row). row_under m (words_of l.bits)) c.most_of.ensures)
