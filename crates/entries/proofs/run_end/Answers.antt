-- `run_end` meets its contract. The loop's invariant: the run's end is k and what the run from k on adds.
use native.Mathlib.Omega.{arith}
use borrow.Author.Tests.{eq-eqb}
use mathlib.Core.Path.{refl}
use lib.ListN.{get_or}
use Rattle.entries.specs.Entries.{is_word, run_of}
use Rattle.entries.proofs.Streaks.{streak_more}
use Rattle.entries.proofs.run_end.Goals as goal

pub loop-k-init : goal.loop-k-init
unfolding run_of
loop-k-init c = (omega arith, refl)

pub loop-k-preserved : goal.loop-k-preserved
loop-k-preserved c = let a = c.args in
    let k = c.loop-k.k in
    (omega arith, omega (arith, streak_more (is_word a.words.now a.word) a.count k c.loop-k-test.true (eq-eqb (get_or a.words.now k 0) a.word c.if-words-k.false)))
