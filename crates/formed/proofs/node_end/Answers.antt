-- `node_end` meets its contract: the node's rows, and behind them its pairs.
use Prim.Native.Nat.{◌-◌, ◌*◌}
use native.Mathlib.Omega.{arith}
use mathlib.Core.Path.{refl, sym, ◌∙◌}
use Rattle.entries.specs.Entries.{is_word}
use Rattle.formed.proofs.Runs.{PairsFound, pairs_found_lem, SetsTo}
use Rattle.formed.proofs.Ordered.{Streaked, own_run, sets_fit}
use Rattle.formed.proofs.Climbs.{said_so, said_not}
use Rattle.formed.proofs.Nodes.{sets_stuck, node_to, pairs_stuck}
use Rattle.formed.proofs.node_end.Goals as goal
use mathlib.Core.Path.{ap}
use mathlib.Core.Bool.{not}

pub sets_fit-requires : goal.sets_fit-requires
sets_fit-requires c = let r = (let it : let a = c.args in Streaked (is_word a.owners.now (a.x * 2)) a.cursor a.count c.run_end-first.result = own_run c.args.owners.now c.args.cursor c.args.count (c.args.x * 2) c.requires.cursor_le_count.0 c.run_end-first.ensures in it) in
    (r.onward, omega (arith, r.within, c.requires.cursor_le_count.1.numbers_there), omega (arith, r.within, c.requires.cursor_le_count.1.values_there))

pub returns-then-not-sets_fit : goal.returns-then-not-sets_fit
returns-then-not-sets_fit c = let a = c.args in
    sets_stuck a.owners.now c.requires.rule_len.2 c.requires.cursor_le_count.0 ((let it : let a = c.args in Streaked (is_word a.owners.now (a.x * 2)) a.cursor a.count c.run_end-first.result = own_run c.args.owners.now c.args.cursor c.args.count (c.args.x * 2) c.requires.cursor_le_count.0 c.run_end-first.ensures in it)) refl
    (said_not c.sets_fit.result (ap not c.if-not-sets_fit.true) c.sets_fit.ensures)

pub pairs_fit-requires : goal.pairs_fit-requires
pairs_fit-requires c = let f = (let it : let a = c.args in PairsFound a.owners.now a.numbers.now a.values.now a.count c.run_end-first.result a.x c.run_end-to.result = let a = c.args in pairs_found_lem a.owners.now a.numbers.now a.values.now a.count c.run_end-first.result a.x ((let it : let a = c.args in Streaked (is_word a.owners.now (a.x * 2)) a.cursor a.count c.run_end-first.result = own_run c.args.owners.now c.args.cursor c.args.count (c.args.x * 2) c.requires.cursor_le_count.0 c.run_end-first.ensures in it)).within c.run_end-to.ensures in it) in
    record { rule_len = c.requires.rule_len; from_le_to = (f.onward, omega (arith, f.within, c.requires.cursor_le_count.1.numbers_there), omega (arith, f.within, c.requires.cursor_le_count.1.values_there)) }

pub returns-then-not-pairs_fit : goal.returns-then-not-pairs_fit
returns-then-not-pairs_fit c = pairs_stuck c.requires.rule_len.2 ((let it : let a = c.args in SetsTo a.owners.now a.numbers.now a.values.now a.count a.cursor a.x a.low (a.end.0 - a.low.0) a.mask c.run_end-first.result = let a = c.args in let first = c.run_end-first.result in sets_fit a.owners.now a.numbers.now a.values.now a.count a.cursor a.x first a.low a.mask c.requires.cursor_le_count.0 ((let it : let a = c.args in Streaked (is_word a.owners.now (a.x * 2)) a.cursor a.count c.run_end-first.result = own_run c.args.owners.now c.args.cursor c.args.count (c.args.x * 2) c.requires.cursor_le_count.0 c.run_end-first.ensures in it)) a.end (said_so c.sets_fit.result (ap not c.if-not-sets_fit.false) c.sets_fit.ensures) in it)) ((let it : let a = c.args in PairsFound a.owners.now a.numbers.now a.values.now a.count c.run_end-first.result a.x c.run_end-to.result = let a = c.args in pairs_found_lem a.owners.now a.numbers.now a.values.now a.count c.run_end-first.result a.x ((let it : let a = c.args in Streaked (is_word a.owners.now (a.x * 2)) a.cursor a.count c.run_end-first.result = own_run c.args.owners.now c.args.cursor c.args.count (c.args.x * 2) c.requires.cursor_le_count.0 c.run_end-first.ensures in it)).within c.run_end-to.ensures in it)) (sym c.pairs_fit.ensures ∙ c.if-not-pairs_fit.true)

pub returns : goal.returns
returns c = node_to c.requires.rule_len.2 ((let it : let a = c.args in SetsTo a.owners.now a.numbers.now a.values.now a.count a.cursor a.x a.low (a.end.0 - a.low.0) a.mask c.run_end-first.result = let a = c.args in let first = c.run_end-first.result in sets_fit a.owners.now a.numbers.now a.values.now a.count a.cursor a.x first a.low a.mask c.requires.cursor_le_count.0 ((let it : let a = c.args in Streaked (is_word a.owners.now (a.x * 2)) a.cursor a.count c.run_end-first.result = own_run c.args.owners.now c.args.cursor c.args.count (c.args.x * 2) c.requires.cursor_le_count.0 c.run_end-first.ensures in it)) a.end (said_so c.sets_fit.result (ap not c.if-not-sets_fit.false) c.sets_fit.ensures) in it)) ((let it : let a = c.args in PairsFound a.owners.now a.numbers.now a.values.now a.count c.run_end-first.result a.x c.run_end-to.result = let a = c.args in pairs_found_lem a.owners.now a.numbers.now a.values.now a.count c.run_end-first.result a.x ((let it : let a = c.args in Streaked (is_word a.owners.now (a.x * 2)) a.cursor a.count c.run_end-first.result = own_run c.args.owners.now c.args.cursor c.args.count (c.args.x * 2) c.requires.cursor_le_count.0 c.run_end-first.ensures in it)).within c.run_end-to.ensures in it)) (sym c.pairs_fit.ensures ∙ c.if-not-pairs_fit.false)
