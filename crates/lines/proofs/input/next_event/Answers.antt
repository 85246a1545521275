-- `next_event` meets its contract, test by test.
use native.Mathlib.Omega.{arith}
use mathlib.Core.Path.{refl}
use lib.ListN.{length-map}
use borrow.Author.Tests.{eq-eqb, ne_eqb, lt-ltb, le-ltb}
use Rattle.meaning.proofs.Lists.{range_length}
use Rattle.writer.proofs.Putting.{put_front}
use Rattle.lines.specs.Input.{next_in}
use Rattle.lines.proofs.input.next_event.Goals as goal

pub returns-then-bytes-eq0 : goal.returns-then-bytes-eq0
unfolding next_in
returns-then-bytes-eq0 c = record { next = rw (eq-eqb _ _ c.if-bytes-eq0.true); left = refl }

pub returns-then-bytes-lt8 : goal.returns-then-bytes-lt8
unfolding next_in
returns-then-bytes-lt8 c = record { next = rw (ne_eqb _ _ c.if-bytes-eq0.false, lt-ltb _ _ c.if-bytes-lt8.true); left = refl }

pub returns-then-rows-gt-ROWS : goal.returns-then-rows-gt-ROWS
unfolding next_in
returns-then-rows-gt-ROWS c = record { next = rw (ne_eqb _ _ c.if-bytes-eq0.false, le-ltb _ _ c.if-bytes-lt8.false, lt-ltb _ _ (rw c.word_at-rows.ensures at c.if-rows-gt-ROWS.true)); left = refl }

pub returns-then-bytes-rows : goal.returns-then-bytes-rows
unfolding next_in
returns-then-bytes-rows c = record { next = rw (ne_eqb _ _ c.if-bytes-eq0.false, le-ltb _ _ c.if-bytes-lt8.false, le-ltb _ _ (rw c.word_at-rows.ensures at c.if-rows-gt-ROWS.false), lt-ltb _ _ (rw c.word_at-rows.ensures at c.if-bytes-rows.true)); left = refl }

pub returns : goal.returns
unfolding next_in
returns c = let put = put_front c.put_words.ensures (simp (length-map, range_length) (omega arith)) in
    record {
      next = rw (c.word_at-rows.ensures, ne_eqb _ _ c.if-bytes-eq0.false, le-ltb _ _ c.if-bytes-lt8.false, le-ltb _ _ (rw c.word_at-rows.ensures at c.if-rows-gt-ROWS.false), le-ltb _ _ (rw c.word_at-rows.ensures at c.if-bytes-rows.false));
      left = rw (← put.0) at put.1;
    }
