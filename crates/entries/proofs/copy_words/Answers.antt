-- `copy_words` meets its contract. The loop's invariant: the first k words are put.
use native.Mathlib.Omega.{arith}
use mathlib.Core.Path.{refl}
use lib.ListN.{get_or}
use Rattle.entries.proofs.Putting.{put_none, put_more}
use Rattle.entries.proofs.copy_words.Goals as goal

pub loop-k-init : goal.loop-k-init
loop-k-init c = (omega arith, put_none c.args.words.now c.args.end (λ j. get_or c.args.from.now j 0))

pub loop-k-preserved : goal.loop-k-preserved
loop-k-preserved c = let a = c.args in
    let l = c.loop-k in
    (omega arith, put_more (λ j. get_or a.from.now j 0) l.invariant.1 (get_or a.from.now l.k 0) refl (omega arith))
