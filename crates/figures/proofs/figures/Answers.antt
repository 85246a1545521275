-- `figures` meets its contract: the counts after the call, and from them what is wanted.
use Prim.Native.Nat.{ℕ, ◌+◌, ◌-◌}
use native.Mathlib.Omega.{arith}
use mathlib.Core.Path.{◌≡◌, ap}
use lib.ListN.{length, get_or}
use Rattle.meaning.specs.Log.{stamp}
use Rattle.meaning.specs.RuleFile.{node_count}
use Rattle.meaning.specs.declared.LogEnd.{LogEnd}
use Rattle.meaning.proofs.Accepted.{accepted, nodes_most}
use Rattle.method.proofs.Bounds.{one_added}
use Rattle.figures.proofs.Begins.{many_first, few_after, figured}
use Rattle.figures.proofs.figures.Goals as goal

-- where a log then ends, by the points that are added
ended : {n k : ℕ} (l t : ℕ) → n ≡ k → ◌≡◌ {A = LogEnd} (record { points = l + n; latest = stamp t }) (record { points = l + k; latest = stamp t })
ended l t e = ap (λ m. record { points = l + m; latest = stamp t }) e

pub overflow_add-end : goal.overflow_add-end
overflow_add-end c = omega (arith, c.requires.counting.few_points, c.points_added.ensures, one_added c.args.event.now)

pub counts-requires : goal.counts-requires
counts-requires c = ((accepted _ c.requires.counting.accepted.0 c.requires.counting.accepted.1).long, omega (arith, nodes_most _ c.requires.counting.accepted.0 c.requires.counting.accepted.1, c.requires.event_nonzero.2))

pub node_total-n-requires : goal.node_total-n-requires
node_total-n-requires c = omega (arith, (accepted _ c.requires.counting.accepted.0 c.requires.counting.accepted.1).long)

pub slice_bounds-wanted-end : goal.slice_bounds-wanted-end
slice_bounds-wanted-end c = omega (arith, c.node_total-n.ensures, nodes_most _ c.requires.counting.accepted.0 c.requires.counting.accepted.1, c.requires.event_nonzero.2, c.after-1.given)

pub wanted-requires : goal.wanted-requires
wanted-requires c = let e : c.node_total-n.result - 0 ≡ node_count c.args.rule.now = omega (arith, c.node_total-n.ensures) in
    let w = c.args.event.now in record {
      rule_value = c.requires.counting.accepted;
      rule_in_bounds = (
        many_first _ _ e (omega (arith, nodes_most _ c.requires.counting.accepted.0 c.requires.counting.accepted.1, c.requires.event_nonzero.2, c.after-1.given)),
        omega (arith, nodes_most _ c.requires.counting.accepted.0 c.requires.counting.accepted.1, c.requires.event_nonzero.3),
        few_after c.requires.counting w _ (length c.args.times.now + 1 - 0) (omega arith) c.put_times.ensures c.saturating_sub.ensures (ended c.args.log.points (get_or w 0 0) c.points_added.ensures) c.counts.ensures _ e,
      );
    }

pub returns : goal.returns
returns c = let w = c.args.event.now in
    figured c.requires.counting w _ (length c.args.times.now + 1 - 0) (omega arith) c.put_times.ensures c.saturating_sub.ensures (ended c.args.log.points (get_or w 0 0) c.points_added.ensures) c.counts.ensures (c.node_total-n.result - 0) (omega (arith, c.node_total-n.ensures)) c.wanted.ensures
