-- `rows_needed` meets its contract.
use Prim.Native.Nat.{◌-◌}
use native.Mathlib.Omega.{arith}
use mathlib.Core.Path.{◌≡◌, ◌∙◌, ap}
use lib.ListN.{get_or}
use Rattle.meaning.specs.RuleFile.{last_node}
use Rattle.meaning.proofs.Accepted.{accepted, nodes_most, last_is_node}
use Rattle.method.specs.Room.{need}
use Rattle.figures.specs.Tables.{rows_in}
use Rattle.figures.proofs.Weighed.{one_more}
use Rattle.figures.proofs.rows_needed.Goals as goal

pub bounds-rule-2 : goal.bounds-rule-2
bounds-rule-2 c = let r = c.requires.0 in omega (arith, (accepted _ r.0 r.1).long)

pub need_at-requires : goal.need_at-requires
need_at-requires c = let r = c.requires.0 in (r, c.requires.1, omega arith, omega (arith, nodes_most _ r.0 r.1), c.loop-x.invariant)

pub bounds-needs-x : goal.bounds-needs-x
bounds-needs-x c = let r = c.requires.0 in omega (arith, nodes_most _ r.0 r.1)

pub loop-x-preserved : goal.loop-x-preserved
loop-x-preserved c = let r = c.requires.0 in
    let loop = c.loop-x in
    one_more (need c.args.rule.now (rows_in c.args.table.now)) loop.needs loop.x _ (omega (arith, nodes_most _ r.0 r.1)) loop.invariant c.need_at.ensures

pub overflow_sub-last : goal.overflow_sub-last
overflow_sub-last c = let r = c.requires.0 in omega (arith, last_is_node _ r.0 r.1)

pub bounds-needs-last : goal.bounds-needs-last
bounds-needs-last c = let r = c.requires.0 in omega (arith, nodes_most _ r.0 r.1, last_is_node _ r.0 r.1)

pub returns : goal.returns
returns c = let r = c.requires.0 in
    let e : get_or c.args.rule.now 2 0 - 1 ≡ last_node c.args.rule.now = omega arith in
    c.loop-x.invariant _ (omega (arith, last_is_node _ r.0 r.1)) ∙ ap (need c.args.rule.now (rows_in c.args.table.now)) e
