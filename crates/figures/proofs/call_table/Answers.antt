-- `call_table` meets its contract: the figures of the call and the weights of the nodes stand in the table, by which the rows are counted.
use native.Mathlib.Omega.{arith}
use Rattle.meaning.proofs.Accepted.{accepted, nodes_most}
use Rattle.figures.proofs.Tabled.{counts_many, weighty, tabled}
use Rattle.figures.proofs.call_table.Goals as goal

pub weights-requires : goal.weights-requires
weights-requires c = (c.requires.counting.accepted, omega (arith, nodes_most _ c.requires.counting.accepted.0 c.requires.counting.accepted.1))

pub node_total-n-requires : goal.node_total-n-requires
node_total-n-requires c = omega (arith, (accepted _ c.requires.counting.accepted.0 c.requires.counting.accepted.1).long)

pub fill_table-requires : goal.fill_table-requires
fill_table-requires c = let few = nodes_most _ c.requires.counting.accepted.0 c.requires.counting.accepted.1 in (
  omega (arith, c.node_total-n.ensures, few, c.requires.event_nonzero.1),
  omega (arith, c.node_total-n.ensures, few, c.requires.event_nonzero.2),
  omega (arith, c.node_total-n.ensures, counts_many c.requires.counting),
  omega (arith, c.node_total-n.ensures, few, c.requires.event_nonzero.6, c.after-1.given),
  omega (arith, c.node_total-n.ensures, few, c.wants-2-1.given),
  omega (arith, c.node_total-n.ensures, few, c.requires.event_nonzero.3),
  omega (arith, c.node_total-n.ensures, few, c.requires.event_nonzero.4),
  omega (arith, c.node_total-n.ensures, few, c.heavy-2-1.given),
  omega (arith, c.node_total-n.ensures, few, c.requires.event_nonzero.7),
)

pub rows_needed-requires : goal.rows_needed-requires
rows_needed-requires c = (
  c.requires.counting.accepted,
  weighty c.requires.counting _ c.figures.ensures c.weights.ensures _ c.node_total-n.ensures c.fill_table.ensures c.requires.by_index (omega (arith, c.requires.event_nonzero.7, c.table-1.given)),
)

pub returns : goal.returns
returns c = tabled c.requires.counting _ c.figures.ensures c.weights.ensures _ c.node_total-n.ensures c.fill_table.ensures c.rows_needed.ensures
