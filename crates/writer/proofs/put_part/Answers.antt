-- Each part is written by its own function.
use native.Mathlib.Omega.{arith}
use mathlib.Core.Path.{sym}
use Rattle.writer.proofs.Putting.{put_long}
use Rattle.writer.proofs.Reports.{rows_ordered, marked}
use Rattle.writer.proofs.put_part.Goals as goal

pub row_count-requires : goal.row_count-requires
row_count-requires c = marked c.requires.0

pub put_three-requires : goal.put_three-requires
put_three-requires c = rw c.in-Sizes.is at c.requires.1

pub put_triples-requires : goal.put_triples-requires
put_triples-requires c = record { marked = marked c.requires.0; count_bound = c.requires.0.numbers; p_in_bounds = rw c.in-Triples.is at c.requires.1 }

pub first_row-from-requires : goal.first_row-from-requires
first_row-from-requires c = marked c.requires.0

pub end_row-to-requires : goal.end_row-to-requires
end_row-to-requires c = marked c.requires.0

pub put_rows-requires : goal.put_rows-requires
put_rows-requires c = let first = c.first_row-from.ensures in
    let end = c.end_row-to.ensures in
    record { run = record { ordered = omega (arith, rows_ordered (marked c.requires.0), first, end); there = omega (arith, c.requires.0.laid.words, end) }; from_in_bounds = rw (first, end) (rw c.in-Rows.is at c.requires.1) }

pub shape_of-buf-in-Sizes : goal.shape_of-buf-in-Sizes
shape_of-buf-in-Sizes c = put_long c.put_three.ensures

pub returns-in-Sizes : goal.returns-in-Sizes
returns-in-Sizes c = rw (c.in-Sizes.is, sym c.free_count.ensures.0, sym c.row_count.ensures)
    c.put_three.ensures

pub shape_of-buf-in-Triples : goal.shape_of-buf-in-Triples
shape_of-buf-in-Triples c = put_long c.put_triples.ensures

pub returns-in-Triples : goal.returns-in-Triples
returns-in-Triples c = rw c.in-Triples.is c.put_triples.ensures

pub shape_of-buf-in-Rows : goal.shape_of-buf-in-Rows
shape_of-buf-in-Rows c = put_long c.put_rows.ensures

pub returns-in-Rows : goal.returns-in-Rows
returns-in-Rows c = rw (c.in-Rows.is, sym c.first_row-from.ensures, sym c.end_row-to.ensures)
    c.put_rows.ensures
