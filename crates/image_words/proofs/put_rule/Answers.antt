-- `put_rule` meets its contract. The loop's invariant: the first k words are put.
use Prim.Native.Nat.{◌*◌}
use native.Mathlib.Omega.{arith}
use mathlib.Core.Path.{◌≡◌}
use Rattle.meaning.specs.RuleFile.{word_at}
use Rattle.entries.proofs.Putting.{put_none, put_more}
use Rattle.image_words.proofs.put_rule.Goals as goal

pub loop-k-init : goal.loop-k-init
loop-k-init c = put_none c.args.image.now c.args.at (λ j. word_at c.args.rule.now (j * 4))

pub loop-k-preserved : goal.loop-k-preserved
loop-k-preserved c = put_more (λ j. word_at c.args.rule.now (j * 4)) c.loop-k.invariant _ c.word_at.ensures (omega arith)

pub returns : goal.returns
returns c = let e : c.loop-k.k ≡ c.args.n = omega arith in
    rw e at c.loop-k.invariant
