-- `read_owners` meets its contract. The loop's invariant: the owners of the first k entries are read.
use native.Mathlib.Omega.{arith}
use mathlib.Core.Path.{◌≡◌, sym, ◌∙◌}
use Rattle.image_words.proofs.Reading.{owner_small, owners_none, owners_more}
use Rattle.image_words.proofs.read_owners.Goals as goal

pub loop-k-init : goal.loop-k-init
loop-k-init c = owners_none _ _ _

pub returns-then-not-owner_fits : goal.returns-then-not-owner_fits
returns-then-not-owner_fits c = (c.loop-k.k, c.loop-k-test.true, sym c.owner_fits.ensures ∙ c.if-not-owner_fits.true)

pub overflow_mul-owners : goal.overflow_mul-owners
overflow_mul-owners c = omega (arith, owner_small c.args.image.now c.loop-k.k (sym c.owner_fits.ensures ∙ c.if-not-owner_fits.false))

pub overflow_add-owners : goal.overflow_add-owners
overflow_add-owners c = omega (arith, owner_small c.args.image.now c.loop-k.k (sym c.owner_fits.ensures ∙ c.if-not-owner_fits.false))

pub loop-k-preserved : goal.loop-k-preserved
loop-k-preserved c = owners_more c.loop-k.invariant (sym c.owner_fits.ensures ∙ c.if-not-owner_fits.false) (omega arith) (omega arith)

pub returns : goal.returns
returns c = let e : c.loop-k.k ≡ c.args.count = omega arith in
    rw e at c.loop-k.invariant
