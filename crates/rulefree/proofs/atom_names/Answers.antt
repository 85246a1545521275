-- `rulefree::atom_names` meets its contract: the terms within the arity are gone through one by one.
use Rattle.meaning.specs.Formula.{is_variable}
use Rattle.rulefree.proofs.Bools.{any_of_four}
use Rattle.rulefree.proofs.atom_names.Goals as goal

pub returns : goal.returns
returns c = let args = c.args in
    cc (any_of_four (is_variable args.x) args.t.count args.t.first args.t.second args.t.third args.t.fourth)
