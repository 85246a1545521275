-- `own_figures` meets its contract: its words are those of the node's figures, and its lowest free variable is that of the mask.
use Prim.Native.Nat.{◌+◌, ◌*◌}
use native.Mathlib.Omega.{arith}
use mathlib.Core.Path.{sym, ap, ◌∙◌}
use borrow.Author.Rules.{rules}
use Rattle.meaning.specs.Formula.{lowest_of}
use Rattle.kinds.specs.Kinds.{in_mask}
use Rattle.node_step.proofs.Reading.{mask_word}
use Rattle.node_step.proofs.own_figures.Goals as goal

pub overflow_cast-figures : goal.overflow_cast-figures
overflow_cast-figures c = let a = c.args in omega (arith, mask_word a.figures.now a.x, c.requires.mask)

pub overflow_cast-result : goal.overflow_cast-result
overflow_cast-result c = omega (arith, c.shared_slice_known-7-1.given (c.args.x * 9 + 5))

pub overflow_cast-result-2 : goal.overflow_cast-result-2
overflow_cast-result-2 c = omega (arith, c.shared_slice_known-8-1.given (c.args.x * 9 + 6))

pub overflow_cast-result-3 : goal.overflow_cast-result-3
overflow_cast-result-3 c = omega (arith, c.shared_slice_known-9-1.given (c.args.x * 9 + 7))

pub returns : goal.returns
returns c = let a = c.args in
    record {
      lowest = c.lowest_of.ensures ∙ ap (λ k. lowest_of (in_mask k)) (sym (mask_word a.figures.now a.x));
      low = search rules;
      before = search rules;
      after = search rules;
      want = search rules;
      begin = search rules;
      pairs = search rules;
      end = search rules;
    }
