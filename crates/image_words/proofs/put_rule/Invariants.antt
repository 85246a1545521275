use Prim.Native.Nat.{◌*◌}
use Rattle.meaning.specs.RuleFile.{word_at}
use Rattle.entries.specs.Appended.{WordsPut}
use Rattle.image_words.proofs.put_rule.Given as goal

-- `put_rule` meets its contract. The loop's invariant: the first k words are put.
abbrev pub invariant-loop-k : goal.invariant-loop-k
invariant-loop-k l = WordsPut l.initial.image l.at l.image l.k (λ j. word_at l.rule (j * 4))
