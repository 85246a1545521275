-- `take_admitted` meets its contract: the table is that of the call, and what the call leaves is finished.
use Prim.Native.Nat.{ℕ, ◌+◌, ◌≤◌}
use native.Mathlib.Omega.{arith}
use mathlib.Core.Path.{◌≡◌, sym}
use mathlib.Core.List.{List}
use lib.ListN.{length, take}
use lib.Seq.{length-take-le}
use Rattle.meaning.specs.RuleFile.{node_count}
use Rattle.meaning.proofs.Accepted.{accepted, nodes_most}
use Rattle.method.specs.Stored.{Stored}
use Rattle.method.specs.WellFormed.{Formed}
use Rattle.lent_state.proofs.Ready.{counting, call_ready, rows_enough, taken_now}
use Rattle.lent_state.proofs.take_admitted.Goals as goal

-- a time more than are retained
one_more : (n : ℕ) (times : List ℕ) → n ≤ length times → n + 1 ≡ length (take n times) + 1
one_more n times h = omega (arith, length-take-le n times h)

-- a rule that is well formed has at most 32 nodes
few_nodes : {s : Stored} → Formed s → {n : ℕ} → n ≡ node_count s.rule → n ≤ 32
few_nodes {s} f e = let (a, ok) = f.accepted in omega (arith, nodes_most s.rule a ok)

pub node_total-n-requires : goal.node_total-n-requires
node_total-n-requires c = let (a, ok) = c.requires.formed.accepted in omega (arith, (accepted _ a ok).long)

pub slice_bounds-call_table-end-3 : goal.slice_bounds-call_table-end-3
slice_bounds-call_table-end-3 c = sym (length-take-le c.node_total-n.result c.args.counts.now (omega (arith, few_nodes c.requires.formed c.node_total-n.ensures, c.requires.most_nodes_in_bounds.1)))

pub call_table-needed-requires-clause-counting : goal.call_table-needed-requires-clause-counting
call_table-needed-requires-clause-counting c = counting _ _ _ _ _ _ _ c.requires.formed c.requires.state_figures.0 _ c.node_total-n.ensures

pub settle_in_room-weighed-requires-clause-ready_in : goal.settle_in_room-weighed-requires-clause-ready_in
settle_in_room-weighed-requires-clause-ready_in c =
    let a = c.args in
    let (known, places) = c.requires.state_figures in
    let (event, some, room) = c.requires.event_there in
    call_ready _ _ _ _ _ _ _ c.requires.formed _ c.requires.sized_words known places _ c.node_total-n.ensures c.call_table-needed.ensures _ (one_more a.retained a.times.now (omega (arith, c.requires.sized_words))) (λ x. omega (arith, c.type_inv.masks x)) event room (omega arith)

pub settle_in_room-weighed-requires-clause-event_bound : goal.settle_in_room-weighed-requires-clause-event_bound
settle_in_room-weighed-requires-clause-event_bound c =
    let a = c.args in
    let (known, places) = c.requires.state_figures in
    rows_enough _ _ _ _ _ _ _ c.requires.formed _ c.requires.sized_words known places _ c.node_total-n.ensures c.call_table-needed.ensures _ (one_more a.retained a.times.now (omega (arith, c.requires.sized_words)))

pub slice_bounds-after-end : goal.slice_bounds-after-end
slice_bounds-after-end c = omega (arith, few_nodes c.requires.formed c.node_total-n.ensures)

pub slice_bounds-finish-end : goal.slice_bounds-finish-end
slice_bounds-finish-end c = sym (length-take-le c.node_total-n.result c.call_table-needed.new.after (omega (arith, few_nodes c.requires.formed c.node_total-n.ensures)))

pub returns : goal.returns
returns c =
    let a = c.args in
    let (known, places) = c.requires.state_figures in
    let few : a.retained ≤ length a.times.now = omega (arith, c.requires.sized_words) in
    taken_now _ _ _ _ _ _ _ c.requires.formed _ c.requires.sized_words known places _ c.node_total-n.ensures c.call_table-needed.ensures _ (one_more a.retained a.times.now few) _ c.points_added-added.ensures (omega (arith, length-take-le a.retained a.times.now few, c.points_added-added.ensures)) c.settle_in_room-weighed.ensures c.finish.ensures
