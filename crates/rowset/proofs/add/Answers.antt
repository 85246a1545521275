-- `add` meets its contract: the set is full, or the row is there, or it is put in where the search has stopped.
use native.Mathlib.Omega.{arith}
use mathlib.Core.Path.{sym, ◌∙◌}
use Rattle.rowset.specs.Rows.{words_of, rows_from}
use Rattle.rowset.proofs.Adding.{add_full, add_there, led_there, place-within, add_absent, led_put}
use Rattle.rowset.proofs.add.Goals as goal

pub returns-then-n-ge-MOST_HELD : goal.returns-then-n-ge-MOST_HELD
returns-then-n-ge-MOST_HELD c = record { added = add_full c.args.lowest c.args.out.now (words_of c.args.r) c.args.set.count c.requires.room.most (omega arith); led = c.requires.led }

pub put_in-requires : goal.put_in-requires
unfolding rows_from
put_in-requires c = let a = c.args in
    (place-within a.lowest a.out.now a.r a.set.count c.in-Err.p (sym c.seek_row_near.ensures ∙ c.in-Err.is), omega (arith, c.requires.room.there))

pub returns-in-Ok : goal.returns-in-Ok
unfolding rows_from
returns-in-Ok c = let a = c.args in
    let p = c.in-Ok.p in
    let e = sym c.seek_row_near.ensures ∙ c.in-Ok.is in
    record { added = add_there a.lowest a.out.now a.r a.set.count p e c.requires.room.most; led = led_there a.lowest a.out.now a.r a.set.count p e }

pub returns-in-Err : goal.returns-in-Err
unfolding rows_from
returns-in-Err c = let a = c.args in
    let p = c.in-Err.p in
    let e = sym c.seek_row_near.ensures ∙ c.in-Err.is in
    record {
      added = add_absent a.lowest a.out.now a.r a.set.count p e c.put_in.new.out c.put_in.ensures (omega arith) c.put_in.auto.out;
      led = led_put a.lowest a.out.now a.r a.set.count p e c.put_in.new.out c.put_in.ensures;
    }
