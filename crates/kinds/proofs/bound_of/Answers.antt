-- `bound_of` meets its contract: the first term that is used and is the variable gives its column.
use Rattle.std.proofs.Common.{rules}
use Rattle.kinds.proofs.Atoms.{bound-four}
use Rattle.kinds.proofs.bound_of.Goals as goal

pub returns-then-is_variable-2 : goal.returns-then-is_variable-2
returns-then-is_variable-2 c = let a = c.args in rw (bound-four a.ts a.c a.ts.count a.x) (search rules)

pub returns-then-is_variable-3 : goal.returns-then-is_variable-3
returns-then-is_variable-3 c = let a = c.args in rw (bound-four a.ts a.c a.ts.count a.x) (search rules)
