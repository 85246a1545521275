-- Three words, one after the other.
use Rattle.writer.proofs.Putting.{put_then}
use Rattle.writer.proofs.put_three.Goals as goal

pub returns : goal.returns
returns c = put_then (put_then c.put_at-second.ensures c.put_at-third.ensures) c.put_at.ensures
