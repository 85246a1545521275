-- `write` meets its contract: what is left of the buffer is asked once, and the writer that is handed on writes one part after the other.
use Prim.Native.Nat.{ℕ}
use mathlib.Core.Path.{◌≡◌, ap, ◌∙◌}
use mathlib.Core.List.{List}
use denote.Ref.{MutBor}
use borrow.Author.Rules.{rules}
use Rattle.writer.specs.declared.Writer.{Writer}
use Rattle.writer.specs.Puts.{Put, handed}
use Rattle.writer.proofs.Reports.{marked}
use Rattle.writer.proofs.Writing.{first_fits, second_fits, third_fits, all_written}
use Rattle.writer.proofs.write.Goals as goal

-- the words that a writer is handed on with stand in its buffer
handed_puts : {buf : MutBor (List ℕ)} {at : ℕ} {us : List ℕ} {w : Writer} → w ≡ handed (record { buf = buf; at = at }) us → Put buf.now at us w.buf.now w.at
handed_puts e = record { place = ap (λ (w : Writer). w.at) e; stored = ap (λ (w : Writer). w.buf.now) e }

pub put_from-sized-requires : goal.put_from-sized-requires
put_from-sized-requires c =
    let a = c.args in
    (c.requires, first_fits a.rows.now a.marks.now a.times.now a.p (marked c.requires) c.new-w.result c.new-w.ensures (c.words_needed-needed.ensures a.rows.now a.times.now) c.if-left-needed.false)

pub put_from-told-requires : goal.put_from-told-requires
put_from-told-requires c =
    let a = c.args in
    (c.requires, second_fits a.rows.now a.marks.now a.times.now a.p (marked c.requires) c.new-w.result c.new-w.ensures (c.words_needed-needed.ensures a.rows.now a.times.now) c.if-left-needed.false (handed_puts c.put_from-sized.ensures))

pub put_from-done-requires : goal.put_from-done-requires
put_from-done-requires c =
    let a = c.args in
    (c.requires, third_fits a.rows.now a.marks.now a.times.now a.p (marked c.requires) c.new-w.result c.new-w.ensures (c.words_needed-needed.ensures a.rows.now a.times.now) c.if-left-needed.false (handed_puts c.put_from-sized.ensures) (handed_puts c.put_from-told.ensures))

-- what the last writer leaves in its buffer is what is left of the buffer lent
pub returns : goal.returns
returns c =
    let a = c.args in
    let all = all_written a.rows.now a.marks.now a.times.now a.p (marked c.requires) c.new-w.result c.new-w.ensures (c.words_needed-needed.ensures a.rows.now a.times.now) c.if-left-needed.false (handed_puts c.put_from-sized.ensures) (handed_puts c.put_from-told.ensures) (handed_puts c.put_from-done.ensures) in
    (all.0, search rules ∙ all.1)
