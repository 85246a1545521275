-- `put_numbers` meets its contract: points copied from the numbers that stand, and those of the other sets put behind them.
use Prim.Native.Nat.{◌+◌, ◌-◌}
use native.Mathlib.Omega.{arith}
use mathlib.Core.Path.{◌≡◌}
use lib.ListN.{length, length-take, length-drop}
use Rattle.node_sets.proofs.Keeping.{Spans, spans, part_word, points_copied}
use Rattle.node_sets.proofs.put_numbers.Goals as goal

pub overflow_sub-count : goal.overflow_sub-count
overflow_sub-count c = ((let it : Spans c.args.at.now c.args.first (c.args.first + (c.args.from.0 - c.args.low.0)) (c.args.before.0 - c.args.from.0) c.args.n c.args.begin (length c.args.numbers.now) = let a = c.args in spans a.at.now a.first a.low.0 a.from.0 a.n a.before.0 a.begin a.end a.numbers.now c.requires.0 c.requires.2 c.requires.6 ((c.if-before-from.false)) c.requires.5 in it)).rise

pub overflow_sub-start : goal.overflow_sub-start
overflow_sub-start c = ((let it : Spans c.args.at.now c.args.first (c.args.first + (c.args.from.0 - c.args.low.0)) (c.args.before.0 - c.args.from.0) c.args.n c.args.begin (length c.args.numbers.now) = let a = c.args in spans a.at.now a.first a.low.0 a.from.0 a.n a.before.0 a.begin a.end a.numbers.now c.requires.0 c.requires.2 c.requires.6 ((c.if-before-from.false)) c.requires.5 in it)).up_to

pub slice_bounds-copy_words-end : goal.slice_bounds-copy_words-end
slice_bounds-copy_words-end c = omega (arith, (let it : Spans c.args.at.now c.args.first (c.args.first + (c.args.from.0 - c.args.low.0)) (c.args.before.0 - c.args.from.0) c.args.n c.args.begin (length c.args.numbers.now) = let a = c.args in spans a.at.now a.first a.low.0 a.from.0 a.n a.before.0 a.begin a.end a.numbers.now c.requires.0 c.requires.2 c.requires.6 ((c.if-before-from.false)) c.requires.5 in it))

pub copy_words-requires : goal.copy_words-requires
copy_words-requires c = let w = (let it : Spans c.args.at.now c.args.first (c.args.first + (c.args.from.0 - c.args.low.0)) (c.args.before.0 - c.args.from.0) c.args.n c.args.begin (length c.args.numbers.now) = let a = c.args in spans a.at.now a.first a.low.0 a.from.0 a.n a.before.0 a.begin a.end a.numbers.now c.requires.0 c.requires.2 c.requires.6 ((c.if-before-from.false)) c.requires.5 in it) in
    (simp (length-take, length-drop) (omega (arith, w)), omega (arith, w, c.requires.3))

pub put_points-requires-2 : goal.put_points-requires-2
put_points-requires-2 c = let a = c.args in
    let w = (let it : Spans c.args.at.now c.args.first (c.args.first + (c.args.from.0 - c.args.low.0)) (c.args.before.0 - c.args.from.0) c.args.n c.args.begin (length c.args.numbers.now) = let a = c.args in spans a.at.now a.first a.low.0 a.from.0 a.n a.before.0 a.begin a.end a.numbers.now c.requires.0 c.requires.2 c.requires.6 ((c.if-before-from.false)) c.requires.5 in it) in
    let l = (c.if-before-from.false) in
    let e : a.first + (a.from.0 - a.low.0) + (a.before.0 - a.from.0) + (a.n - (a.before.0 - a.from.0)) ≡ a.first + (a.from.0 - a.low.0) + a.n = omega (arith, c.requires.5) in
    (rw e c.requires.1, rw e c.requires.2, rw e (omega (arith, w, c.requires.3, c.copy_words.ensures.long)), omega (arith, c.requires.4, c.requires.5))

pub returns : goal.returns
returns c = let a = c.args in
    points_copied a.at.now a.first a.low.0 a.from.0 a.n a.before.0 a.begin a.end a.numbers.now c.requires.0 c.requires.2 c.requires.6 ((c.if-before-from.false)) c.requires.5
    (part_word a.numbers.now _ _) c.copy_words.ensures c.put_points-2.ensures
