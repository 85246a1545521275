-- `put_words` meets its contract: after k turns the first k words are put.
use Prim.Native.Nat.{◌-◌, ◌*◌}
use native.Mathlib.Omega.{arith}
use mathlib.Core.Path.{◌≡◌, refl, ap, ◌∙◌}
use mathlib.Core.List.{[], ◌∷◌}
use lib.ListN.{length-map}
use Rattle.meaning.specs.Lists.{range, gather}
use Rattle.meaning.specs.RuleFile.{word_at}
use Rattle.meaning.proofs.Lists.{range_length}
use Rattle.writer.proofs.Putting.{put_long, putting_none, turn_more, turn_all}
use Rattle.lines.proofs.Putting.{put_one, gather_each}
use Rattle.lines.proofs.input.put_words.Goals as goal
use Rattle.lines.proofs.input.put_words.Invariants.{give}

pub loop-k-init : goal.loop-k-init
loop-k-init c = let a = c.args in
    let e : a.n - 0 ≡ a.n = omega arith in
    let whole = ap (λ n. gather (give a.bytes.now) (range 0 n)) e ∙ gather_each (λ k. word_at a.bytes.now (4 * k)) (range 0 a.n) in
    (omega arith, refl, putting_none whole (simp (length-map, range_length) (omega arith)))

pub loop-k-preserved : goal.loop-k-preserved
loop-k-preserved c = let more = turn_more (give c.args.bytes.now) c.loop-k.invariant.2 c.loop-k-test.true (ap (λ w. w ∷ []) c.word_at.ensures) (put_one _ _ _) in
    (omega arith, put_long more.put, more)

pub returns : goal.returns
returns c = let e : c.loop-k.k ≡ c.args.n = omega arith in
    rw e at (turn_all (give c.args.bytes.now) c.loop-k.invariant.2 c.loop-k-test.false)
