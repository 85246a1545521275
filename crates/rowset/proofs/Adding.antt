-- A row that was looked for in a set: it is there already, is put in, or the set is full; then where the next may be looked for.
use Rattle.std.specs.Prelude.{Ok, Err}
use Prim.Native.Nat.{ℕ, ◌+◌, ◌-◌, ◌≤◌, ◌<◌}
use mathlib.Core.Path.{◌≡◌, refl, sym, ◌∙◌}
use mathlib.Core.Bool.{Bool, true, false, cond}
use mathlib.Core.List.{List, [], ◌∷◌, ◌++◌}
use native.Mathlib.Omega.{arith}
use lib.ListN.{length}
use lib.Dec.{ltb}
use Rattle.meaning.specs.Evaluator.{insert}
use Rattle.meaning.specs.LookUp.{look_up}
use Rattle.meaning.proofs.LookUp.{insert_there}
use Rattle.rowset.specs.declared.Row.{Row}
use Rattle.rowset.specs.Rows.{words_of, row_at, rows_from, most_held}
use Rattle.rowset.specs.Sets.{Led, Added}
use Rattle.rowset.proofs.Saturation.{with_room, when_full}
use Rattle.rowset.proofs.Searching.{there_led, absent_within, absent_goes, put_led}
use Rattle.rowset.proofs.Runs.{rows_length}

pub add_full : (lowest : ℕ) (ws r : List ℕ) (n : ℕ) → n ≤ most_held → most_held ≤ n → Added lowest ws n ws n (r ∷ [])
add_full lowest ws r n m l =
    let e = rows_length ws 0 n in
    record { most = m; long = refl; set = sym (when_full lowest (rows_from ws 0 n) r (omega arith)) }

module _ (lowest : ℕ) (ws : List ℕ) (r : Row) (n p : ℕ) where
  module _ (e : look_up lowest (words_of r) (rows_from ws 0 n) ≡ Ok p) where
    pub add_there : n ≤ most_held → Added lowest ws n ws n (words_of r ∷ [])
    add_there m = record { most = m; long = refl; set = stays (ltb (length (rows_from ws 0 n)) most_held) }
      where
        stays : (t : Bool) → rows_from ws 0 n ≡ cond t (insert lowest (words_of r) (rows_from ws 0 n)) (rows_from ws 0 n)
        stays true = sym (insert_there lowest (words_of r) (rows_from ws 0 n) p e)
        stays false = refl

    pub led_there : Led lowest (row_at ws) p
    unfolding rows_from
    led_there = there_led lowest (row_at ws) (words_of r) (λ k. refl) n p e

  module _ (e : look_up lowest (words_of r) (rows_from ws 0 n) ≡ Err p) where
    pub place-within : p ≤ n
    unfolding rows_from
    place-within = absent_within lowest (row_at ws) (words_of r) (λ k. refl) n p e

    module _ (ws' : List ℕ) (put : rows_from ws' 0 (n + 1) ≡ rows_from ws 0 p ++ words_of r ∷ rows_from ws p (n - p)) where
      pub add_absent : n < most_held → length ws' ≡ length ws → Added lowest ws n ws' (n + 1) (words_of r ∷ [])
      unfolding rows_from
      add_absent room same =
          record {
            most = omega arith;
            long = same;
            set = put ∙ sym (with_room lowest (rows_from ws 0 n) (words_of r) (omega (arith, rows_length ws 0 n)) ∙ absent_goes lowest (row_at ws) (words_of r) (λ k. refl) n p e);
          }

      pub led_put : Led lowest (row_at ws') p
      unfolding rows_from
      led_put = put_led lowest (row_at ws) (words_of r) (λ k. refl) n p e (row_at ws') put
