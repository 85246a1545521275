-- `seek` meets its contract. The loop's invariant: the answer is that of the items from i on.
use native.Mathlib.Omega.{arith}
use mathlib.Core.Path.{sym, ◌∙◌}
use Rattle.rowset.proofs.Searching.{seek_on, seek_there, seek_absent}
use Rattle.rowset.proofs.seek.Goals as goal

pub loop-i-preserved : goal.loop-i-preserved
loop-i-preserved g c = let to = c.args.to in
    let i = c.loop-i.i in
    let l = c.loop-i-test.true in
    (omega arith, λ lowest at x t. c.loop-i.invariant.1 lowest at x t ∙ seek_on lowest at x t.0 to i l (sym (t.1 i c.stands.result l c.stands.ensures) ∙ c.in-Less.is))

pub returns-in-Equal : goal.returns-in-Equal
returns-in-Equal g c = let to = c.args.to in
    let i = c.loop-i.i in
    let l = c.loop-i-test.true in
    λ lowest at x t. sym (c.loop-i.invariant.1 lowest at x t ∙ seek_there lowest at x t.0 to i l (sym (t.1 i c.stands.result l c.stands.ensures) ∙ c.in-Equal.is))

pub returns-in-Greater : goal.returns-in-Greater
returns-in-Greater g c = let to = c.args.to in
    let i = c.loop-i.i in
    let l = c.loop-i-test.true in
    λ lowest at x t. sym (c.loop-i.invariant.1 lowest at x t ∙ seek_absent lowest at x t.0 to i l (sym (t.1 i c.stands.result l c.stands.ensures) ∙ c.in-Greater.is))
