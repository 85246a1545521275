-- `settle_point` meets its contract, kind by kind: what is asked for the node is asked for its kind, and what the kind gives the node gives.
use native.Mathlib.Omega.{arith}
use mathlib.Core.Path.{refl, ap}
use Rattle.meaning.specs.Formula.{terms_of}
use Rattle.meaning.specs.Evaluator.{atom_rows}
use Rattle.rowset.proofs.Growing.{added_as, set_made}
use Rattle.kinds.proofs.Atoms.{atom_reads}
use Rattle.settling.proofs.Gives.{settled, both_stand}
use Rattle.settling.proofs.settle_point.Goals as goal

pub until_at-requires-clause-stand : goal.until_at-requires-clause-stand
until_at-requires-clause-stand c = let d = rw c.in-Until.is at c.requires.asked in both_stand c.args.sets c.args.of.now (omega arith) d.children.0 d.children.1

pub until_at-requires-in-NotUntil-clause-stand : goal.until_at-requires-in-NotUntil-clause-stand
until_at-requires-in-NotUntil-clause-stand c = let d = rw c.in-NotUntil.is at c.requires.asked in both_stand c.args.sets c.args.of.now (omega arith) d.children.0 d.children.1

pub returns-in-Atom : goal.returns-in-Atom
returns-in-Atom c = let d = rw c.in-Atom.is at c.requires.asked in
    settled c.requires.asked c.in-Atom.is (set_made (added_as (rw c.from.ensures at c.atom.ensures) (ap (atom_rows (terms_of c.in-Atom.ts)) (atom_reads c.args.given.now.rule.now c.args.given.now.event.now c.in-Atom.r c.in-Atom.ts.count (d.terms _ _ refl)))))

pub returns-in-And : goal.returns-in-And
returns-in-And c = settled c.requires.asked c.in-And.is (set_made c.and_at.ensures)

pub returns-in-AndNot : goal.returns-in-AndNot
returns-in-AndNot c = settled c.requires.asked c.in-AndNot.is (set_made c.and_not_at.ensures)

pub returns-in-Keep : goal.returns-in-Keep
returns-in-Keep c = settled c.requires.asked c.in-Keep.is (set_made c.keep_at.ensures)

pub returns-in-Or : goal.returns-in-Or
returns-in-Or c = settled c.requires.asked c.in-Or.is (set_made c.or_at.ensures)

pub returns-in-Exists : goal.returns-in-Exists
returns-in-Exists c = settled c.requires.asked c.in-Exists.is (set_made c.exists_at.ensures)

pub returns-in-Previous : goal.returns-in-Previous
returns-in-Previous c = settled c.requires.asked c.in-Previous.is (set_made c.previous_at.ensures)

pub returns-in-Next : goal.returns-in-Next
returns-in-Next c = settled c.requires.asked c.in-Next.is (set_made c.next_at.ensures)

pub returns-in-Until : goal.returns-in-Until
returns-in-Until c = settled c.requires.asked c.in-Until.is (set_made c.until_at.ensures)

pub returns-in-NotUntil : goal.returns-in-NotUntil
returns-in-NotUntil c = settled c.requires.asked c.in-NotUntil.is (set_made c.until_at-in-NotUntil.ensures)

pub returns-in-Eventually : goal.returns-in-Eventually
returns-in-Eventually c = settled c.requires.asked c.in-Eventually.is (set_made c.eventually.ensures)

pub returns-in-Since : goal.returns-in-Since
returns-in-Since c = settled c.requires.asked c.in-Since.is c.rows_at.ensures

pub returns-in-NotSince : goal.returns-in-NotSince
returns-in-NotSince c = settled c.requires.asked c.in-NotSince.is c.rows_at-in-NotSince.ensures

pub returns-in-Once : goal.returns-in-Once
returns-in-Once c = settled c.requires.asked c.in-Once.is c.rows_at-in-Once.ensures
