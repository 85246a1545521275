-- What is weighed tells the answer: sizes in range and the length that they ask are what weighing the nodes starts from, and the first stray node, or none, ends it.
use Prim.Native.Nat.{ℕ, ◌+◌, ◌-◌, ◌*◌}
use native.Mathlib.Omega.{arith}
use mathlib.Core.Path.{◌≡◌, sym, ap, ◌∙◌}
use mathlib.Core.Bool.{true}
use mathlib.Core.List.{List}
use Rattle.std.specs.Prelude.{Some, None, Ok}
use lib.ListN.{length}
use borrow.Author.Tests.{leb-true}
use Rattle.meaning.specs.Outcome.{Outcome, given}
use Rattle.meaning.specs.Formula.{free, reach}
use Rattle.meaning.specs.RuleFile.{Accepted, node_count, sizes_fit, mask_of, pattern}
use Rattle.meaning.proofs.Points.{first, second}
use Rattle.rulefile.specs.declared.RuleRefusal.TheVariants.{NotOneParent}
use Rattle.rulefile.specs.Checked.{refusal_of}
use Rattle.rulefile.specs.Weighing.{Sized, NodesPass, Tells, FirstStray, from_nodes}
use Rattle.rulefile.proofs.Parents.{parents_pass, parents_stop}

pub sized_from : (b : List ℕ) → sizes_fit b ≡ true → length b ≡ 12 + 20 * node_count b → Sized b
unfolding sizes_fit
sized_from b e long = record { long = long; some = leb-true 1 (node_count b) (search (first, second)); few = leb-true (node_count b) 32 (search (first, second)) }

-- where every node passes, the first stray node, or none, tells the answer
module _ {b masks uses : List ℕ} {m : ℕ} (p : NodesPass b masks uses m) where
  abbrev accepted : Outcome Accepted
  accepted = given (record { reach = reach (pattern b); free = mask_of (free (pattern b)) })

  pub tells_free : FirstStray uses (node_count b - 1) None → Tells b masks (from_nodes b) (Ok m)
  tells_free none = (
    p.passed
        ∙ parents_pass b accepted (node_count b - 1) 0 (λ z k l. sym (p.counted z) ∙ none z (omega arith))
        ∙ ap (λ v. given (record { reach = reach (pattern b); free = v })) (sym p.mask),
    p.known,
  )

  pub tells_stray : {y : ℕ} → FirstStray uses (node_count b - 1) (Some y) → from_nodes b ≡ refusal_of (NotOneParent y)
  tells_stray {y} found =
      p.passed ∙ parents_stop b accepted (node_count b - 1) 0 y (omega arith) (omega (arith, found.0)) (λ z k l. sym (p.counted z) ∙ found.1 z l) (λ q. found.2 (p.counted y ∙ q))
