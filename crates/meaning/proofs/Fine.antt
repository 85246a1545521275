-- What checking asks of a tree, node by node: the conditions under which evaluator and meaning agree and points settle for good.
use Prim.Native.Nat.{◌<◌}
use mathlib.Core.Path.{◌≡◌}
use mathlib.Core.Bool.{Bool, true}
use lib.Dec.{ltb}
use Rattle.meaning.specs.Lists.{all}
use Rattle.meaning.specs.Formula.{Formula, atom, and, and_not, keep, or, exists, previous, next, since, not_since, until, not_until, once, eventually, free, within, term_within}
use Rattle.meaning.specs.declared.Term.{Term}
use Rattle.meaning.specs.declared.Term.TheVariants.{Variable, Constant}

-- "Variables are 0 to 3"
abbrev pub named : Term → Bool
named (Variable x) = ltb x 4
named (Constant c) = true

-- the node's own conditions, and its children's
abbrev pub Fine : Formula → Type 0
Fine (atom r ts) = all named ts ≡ true
Fine (and a b) = Fine a × Fine b
Fine (and_not a b) = Fine a × Fine b × (within (free b) (free a) ≡ true)
Fine (keep a c s t) = Fine a × (term_within s (free a) ≡ true) × (term_within t (free a) ≡ true)
Fine (or a b) = Fine a × Fine b × (within (free a) (free b) ≡ true) × (within (free b) (free a) ≡ true)
Fine (exists a x) = Fine a × (free a x ≡ true)
Fine (previous a w) = Fine a
Fine (next a w) = Fine a
Fine (since a b w) = Fine a × Fine b × (within (free a) (free b) ≡ true)
Fine (not_since a b w) = Fine a × Fine b × (within (free a) (free b) ≡ true)
Fine (until a b w) = Fine a × Fine b × (within (free a) (free b) ≡ true) × (0 < w.end)
Fine (not_until a b w) = Fine a × Fine b × (within (free a) (free b) ≡ true) × (0 < w.end)
Fine (once a w) = Fine a
Fine (eventually a w) = Fine a × (0 < w.end)
