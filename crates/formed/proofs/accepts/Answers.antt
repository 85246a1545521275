-- `accepts` meets its contract.
use Rattle.formed.proofs.Whole.{masks_of}
use Rattle.formed.proofs.accepts.Goals as goal

pub returns : goal.returns
returns c = record { answer = c.accepts.ensures.answer; known = λ t. masks_of c.args.rule.now c.accepts.new.masks (c.accepts.ensures.known t) }
