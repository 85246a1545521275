-- `copy_down` meets its contract: the words copied are the rows.
use Rattle.node_sets.proofs.Moving.{moved_words}
use Rattle.node_sets.proofs.copy_down.Goals as goal

pub returns : goal.returns
returns c = let a = c.args in
    let h = c.copy_within.ensures in
    moved_words a.rows.now c.copy_within.new.self a.from a.to a.end c.requires.0.ordered h.len h.by_index.0 h.by_index.1
