-- `put_text` meets its contract: after k turns the first k bytes are put.
use native.Mathlib.Nat.{add-zero}
use native.Mathlib.Omega.{arith}
use mathlib.Core.Path.{refl}
use Rattle.writer.proofs.Putting.{put_long, putting_none}
use Rattle.lines.proofs.Putting.{byte_more, byte_all}
use Rattle.lines.proofs.text.put_text.Goals as goal

pub loop-k-init : goal.loop-k-init
loop-k-init c = (refl, omega arith, refl, rw add-zero (putting_none refl c.requires))

pub loop-k-preserved : goal.loop-k-preserved
loop-k-preserved c = let more = byte_more c.loop-k.invariant.3 (omega arith) in
    (c.loop-k.invariant.0, omega arith, put_long more.put, more)

pub returns : goal.returns
returns c = byte_all c.loop-k.invariant.3 c.loop-k.invariant.0 (omega arith) (omega arith)
