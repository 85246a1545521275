-- A node's free variables and the condition on them, worked out from a list that has each lower node's free variables as a mask.
use Rattle.std.specs.Prelude.{ℕ, Bool, true, cond, not, ◌&&◌, ◌||◌, List, get_or, eqb}
use Rattle.meaning.specs.Lists.{any}
use Rattle.meaning.specs.Formula.{terms_of, is_variable, within, term_within}
use Rattle.meaning.specs.RuleFile.{bit, mask_of}
use Rattle.meaning.specs.declared.Sides.{Sides}
use Rattle.meaning.specs.declared.Node.{Node}
use Rattle.meaning.specs.declared.Node.TheVariants.{Atom, And, AndNot, Keep, Or, Exists, Previous, Next, Since, NotSince, Until, NotUntil, Once, Eventually}

-- the set of variables that a mask stands for; of variables below 4
abbrev pub variable_in : ℕ → ℕ → Bool
variable_in m v = cond (eqb v 0) (bit m 1) (cond (eqb v 1) (bit m 2) (cond (eqb v 2) (bit m 4) (bit m 8)))

-- union, removal, inclusion
abbrev pub either_mask : ℕ → ℕ → ℕ
either_mask m n = mask_of (λ x. variable_in m x || variable_in n x)

abbrev pub mask_without : ℕ → ℕ → ℕ
mask_without m v = mask_of (λ x. variable_in m x && not (eqb x v))

abbrev pub mask_within : ℕ → ℕ → Bool
mask_within m n = within (variable_in m) (variable_in n)

-- both terms of "keep"
abbrev pub sides_within : Sides → ℕ → Bool
sides_within s m = term_within s.first (variable_in m) && term_within s.second (variable_in m)

-- the mask of a node's free variables
abbrev pub node_mask : List ℕ → Node → ℕ
node_mask m (Atom r t) = mask_of (λ x. any (is_variable x) (terms_of t))
node_mask m (And a b) = either_mask (get_or m a 0) (get_or m b 0)
node_mask m (AndNot a b) = get_or m a 0
node_mask m (Keep a c s) = get_or m a 0
node_mask m (Or a b) = get_or m a 0
node_mask m (Exists a v) = mask_without (get_or m a 0) v
node_mask m (Previous a w) = get_or m a 0
node_mask m (Next a w) = get_or m a 0
node_mask m (Since a b w) = get_or m b 0
node_mask m (NotSince a b w) = get_or m b 0
node_mask m (Until a b w) = get_or m b 0
node_mask m (NotUntil a b w) = get_or m b 0
node_mask m (Once a w) = get_or m a 0
node_mask m (Eventually a w) = get_or m a 0

-- the condition that a node's kind sets on its children's free variables
abbrev pub node_fits : List ℕ → Node → Bool
node_fits m (Atom r t) = true
node_fits m (And a b) = true
node_fits m (AndNot a b) = mask_within (get_or m b 0) (get_or m a 0)
node_fits m (Keep a c s) = sides_within s (get_or m a 0)
node_fits m (Or a b) = mask_within (get_or m a 0) (get_or m b 0) && mask_within (get_or m b 0) (get_or m a 0)
node_fits m (Exists a v) = variable_in (get_or m a 0) v
node_fits m (Previous a w) = true
node_fits m (Next a w) = true
node_fits m (Since a b w) = mask_within (get_or m a 0) (get_or m b 0)
node_fits m (NotSince a b w) = mask_within (get_or m a 0) (get_or m b 0)
node_fits m (Until a b w) = mask_within (get_or m a 0) (get_or m b 0)
node_fits m (NotUntil a b w) = mask_within (get_or m a 0) (get_or m b 0)
node_fits m (Once a w) = true
node_fits m (Eventually a w) = true
