use Rattle.entries.proofs.Copies.{Copying}
use Rattle.entries.proofs.copy_rows.Given as goal

-- `copy_rows` meets its contract. The loop's invariant: the rows before i are copied.
abbrev pub invariant-loop-i : goal.invariant-loop-i
invariant-loop-i l = Copying l.values l.from l.to l.initial.rows l.end l.rows l.i
