-- `ordered` meets its contract.
use borrow.Author.Tests.{lt-ltb, le-ltb}
use mathlib.Core.Path.{sym}
use Rattle.tree_walk.proofs.ordered.Goals as goal

pub returns-then-figures-i : goal.returns-then-figures-i
returns-then-figures-i c = let t = lt-ltb _ _ c.if-figures-i.true in record { swapped = sym t; first = rw t; second = rw t }

pub returns : goal.returns
returns c = let t = le-ltb _ _ c.if-figures-i.false in record { swapped = sym t; first = rw t; second = rw t }
