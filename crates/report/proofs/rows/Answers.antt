-- `report::rows` meets its contract: the run lies within the words, and its words are the rows.
use Prim.Native.Nat.{◌+◌, ◌≤◌}
use native.Mathlib.Omega.{arith}
use lib.ListN.{length}
use Rattle.report.proofs.Reading.{part_room, part_read}
use Rattle.report.proofs.rows.Goals as goal

pub overflow_add-end : goal.overflow_add-end
overflow_add-end c = omega (arith, (let it : c.part_of-part.result.start + c.part_of-part.result.len ≤ length c.args.report.now = rw c.part_of-part.ensures (part_room _ _) in it))

pub offset_bounds-report-start : goal.offset_bounds-report-start
offset_bounds-report-start c = omega (arith, (let it : c.part_of-part.result.start + c.part_of-part.result.len ≤ length c.args.report.now = rw c.part_of-part.ensures (part_room _ _) in it))

pub slice_bounds-result-end : goal.slice_bounds-result-end
slice_bounds-result-end c = omega (arith, (let it : c.part_of-part.result.start + c.part_of-part.result.len ≤ length c.args.report.now = rw c.part_of-part.ensures (part_room _ _) in it))

pub returns : goal.returns
returns c = rw c.part_of-part.ensures (part_read _ _)
