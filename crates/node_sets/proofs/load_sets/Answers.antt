-- `load_sets` meets its contract: rows copied, marks filled, set by the entries and raised are the node's sets; or there is nothing to load.
use Rattle.node_sets.proofs.Loading.{loaded_all}
use Rattle.node_sets.proofs.load_sets.Goals as goal

pub returns : goal.returns
returns c = loaded_all c.args.values.now c.requires.1.ordered c.requires.2 c.copy_rows.ensures c.fill.ensures c.mark_ends.ensures c.raise_marks.ensures
