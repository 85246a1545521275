-- `settle_in` meets its contract: it never calls itself, and its room is enough.
use Rattle.workspace.proofs.+settle_in.Given as goal

abbrev pub decreases-settle_in : goal.decreases-settle_in
decreases-settle_in g l = l.again
