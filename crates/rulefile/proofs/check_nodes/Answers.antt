-- `rulefile::check_nodes` meets its contract: the first node that fails gives the refusal, and where none does, the first stray node, or none, gives the answer.
use borrow.Author.Rules.{rules}
use Rattle.rulefile.proofs.Parents.{zeros}
use Rattle.rulefile.proofs.Answer.{tells_free, tells_stray}
use Rattle.rulefile.proofs.check_nodes.Goals as goal

pub weigh_nodes-requires : goal.weigh_nodes-requires
weigh_nodes-requires c = (c.requires.0, c.requires.1, search rules, zeros 32)

pub returns-in-Some : goal.returns-in-Some
returns-in-Some c = tells_stray c.in_ok-mask.ensures c.in-Some.ensures

pub returns-in-None : goal.returns-in-None
returns-in-None c = tells_free c.in_ok-mask.ensures c.in-None.ensures
