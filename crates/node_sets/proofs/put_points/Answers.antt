-- `put_points` meets its contract. The loop's invariant: the points of k sets are put, and next is behind them.
use Rattle.node_sets.proofs.Keeping.{points_empty, points_fit, points_more}
use Rattle.node_sets.proofs.put_points.Goals as goal

pub returns-then-at-q : goal.returns-then-at-q
returns-then-at-q c = let a = c.args in
    points_empty a.at.now a.q a.n a.from.0 a.numbers.now a.end c.requires.1 c.if-at-q.true

pub fill-requires : goal.fill-requires
fill-requires c = points_fit c.loop-k.invariant c.requires.1 c.loop-k-test.true c.requires.2

pub loop-k-preserved : goal.loop-k-preserved
loop-k-preserved c = points_more c.loop-k.invariant c.requires.1 c.loop-k-test.true c.fill.ensures
