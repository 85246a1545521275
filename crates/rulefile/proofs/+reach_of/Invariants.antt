-- the number of the node falls at each call
use Rattle.rulefile.proofs.+reach_of.Given as goal

abbrev pub decreases-reach_of : goal.decreases-reach_of
decreases-reach_of l = l.x
