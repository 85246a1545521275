-- `put_bytes` meets its contract. The loop's invariant: the bytes of the first k words are put.
use native.Mathlib.Omega.{arith}
use lib.ListN.{get_or}
use Rattle.entries.proofs.Putting.{put_none}
use Rattle.image_words.proofs.Reading.{bytes_to, bytes_more, bytes_all}
use Rattle.image_words.proofs.put_bytes.Goals as goal

pub loop-k-init : goal.loop-k-init
loop-k-init c = put_none c.args.bytes.now 0 (λ j. get_or (bytes_to c.args.words.now 0) j 0)

pub loop-k-preserved : goal.loop-k-preserved
loop-k-preserved c = bytes_more c.args.words.now c.loop-k.k c.loop-k.invariant c.put_word.ensures

pub returns : goal.returns
returns c = bytes_all c.args.words.now c.args.bytes.now c.loop-k.k (omega arith) c.requires c.loop-k.invariant
