-- After each turn the triple of one point more is written.
use Prim.Native.Nat.{◌+◌, ◌-◌}
use native.Mathlib.Omega.{arith}
use mathlib.Core.Path.{◌≡◌, refl, sym, ◌∙◌, ap}
use Rattle.meaning.specs.Lists.{range, gather}
use Rattle.meaning.specs.Log.{point}
use Rattle.method.proofs.Lists.{gather_map}
use Rattle.writer.specs.Words.{triple_at}
use Rattle.writer.proofs.Putting.{put_long, putting_none, turn_room, turn_more, turn_all}
use Rattle.writer.proofs.Reports.{triple_same}
use Rattle.writer.proofs.put_triples.Goals as goal
use Rattle.writer.proofs.put_triples.Invariants.{give}

pub loop-j-init : goal.loop-j-init
loop-j-init c = let p = c.args.p in
    let e : p.from.0 + p.count - p.from.0 ≡ p.count = omega arith in
    ((refl, omega arith, omega arith), putting_none (ap (λ n. gather ((give c.args.marks.now c.args.times.now c.args.p)) (range p.from.0 n)) e ∙ sym (gather_map (triple_at c.args.marks.now c.args.times.now p) point (range p.from.0 p.count))) c.requires.p_in_bounds)

pub set_of-q-requires : goal.set_of-q-requires
set_of-q-requires c = (omega arith, omega arith)

pub overflow_sub-count : goal.overflow_sub-count
overflow_sub-count c = omega (arith, c.requires.marked.steps c.set_of-q.result (omega arith))

pub put_triple-k-requires : goal.put_triple-k-requires
put_triple-k-requires c = turn_room ((give c.args.marks.now c.args.times.now c.args.p)) c.loop-j.invariant.1 c.loop-j-test.true refl

pub loop-j-preserved : goal.loop-j-preserved
loop-j-preserved c = let e = triple_same c.args.marks.now c.args.times.now c.args.p c.set_of-q.ensures c.mark.ensures c.mark-in-loop-j.ensures c.time-t.ensures in
    (omega arith, turn_more ((give c.args.marks.now c.args.times.now c.args.p)) c.loop-j.invariant.1 c.loop-j-test.true e c.put_triple-k.ensures)

pub shape_of-buf : goal.shape_of-buf
shape_of-buf c = put_long c.loop-j.invariant.1.put

pub returns : goal.returns
returns c = turn_all ((give c.args.marks.now c.args.times.now c.args.p)) c.loop-j.invariant.1 c.loop-j-test.false
