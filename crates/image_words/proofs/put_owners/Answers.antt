-- `put_owners` meets its contract. The loop's invariant: the words of the first k owners are put.
use native.Mathlib.Omega.{arith}
use mathlib.Core.Path.{◌≡◌}
use Rattle.image_words.proofs.Saving.{owners_none, owners_more}
use Rattle.image_words.proofs.put_owners.Goals as goal

pub loop-k-init : goal.loop-k-init
loop-k-init c = owners_none c.args.owners.now c.args.numbers.now c.args.image.now

pub loop-k-preserved : goal.loop-k-preserved
loop-k-preserved c = owners_more c.args.owners.now c.args.numbers.now c.loop-k.k c.loop-k.invariant c.put_three.ensures

pub returns : goal.returns
returns c = let e : c.loop-k.k ≡ c.args.count = omega arith in
    rw e at c.loop-k.invariant
