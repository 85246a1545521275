-- A pair that was looked for in a set: it is there already, is put in, or is one too many; then where the next may be looked for.
use Prim.Native.Nat.{ℕ, suc, ◌+◌, ◌-◌, ◌≤◌, ◌<◌}
use mathlib.Core.Path.{◌≡◌, refl, sym, ap, subst, ◌∙◌}
use mathlib.Core.List.{List, [], ◌∷◌, ◌++◌}
use native.Mathlib.Omega.{arith}
use lib.ListN.{length, length-append}
use Rattle.meaning.specs.Evaluator.{insert}
use Rattle.meaning.specs.LookUp.{look_up}
use Rattle.std.specs.Prelude.{Ok, Err}
use Rattle.meaning.proofs.LookUp.{insert_there}
use Rattle.rowset.specs.Rows.{words_of}
use Rattle.rowset.specs.Sets.{Led}
use Rattle.rowset.specs.declared.Row.{Row}
use Rattle.rowset.specs.declared.Gathered.{Gathered}
use Rattle.rowset.proofs.Saturation.{insert_longer}
use Rattle.rowset.proofs.Searching.{there_led, absent_within, absent_goes, put_led}
use Rattle.kinds.specs.Kinds.{pair_at, pairs_from}
use Rattle.pairs.specs.Pairs.{PairRoom, PairsStand, PairsAdded}
use Rattle.pairs.proofs.Runs.{pairs-length}

-- nothing is put in, and a set that is too large stays so
pub add_none : {lowest : ℕ} {ages values : List ℕ} {set : Gathered} → PairRoom lowest ages values set → PairsAdded lowest ages values set ages values set []
add_none room = record { ages_long = refl; values_long = refl; room = room; put = λ s h. h }

pub add_beyond : {lowest : ℕ} {ages values : List ℕ} {set : Gathered} (x : List ℕ) → PairRoom lowest ages values set → length ages < set.count → PairsAdded lowest ages values set ages values set (x ∷ [])
add_beyond {lowest} x room l =
    record {
      ages_long = refl;
      values_long = refl;
      room = room;
      put = λ s h. record { counted = omega (arith, h.counted, insert_longer (suc lowest) x s, room.most); set = λ k. absurd (omega arith) };
    }

module _ {lowest : ℕ} (ages values : List ℕ) (set : Gathered) (age : ℕ) (r : Row) (p : ℕ) (room : PairRoom lowest ages values set) where
  -- the pair is there, and the set stays
  module _ (e : look_up (suc lowest) (age ∷ words_of r) (pairs_from ages values 0 set.count) ≡ Ok p) where
    led_there : Led (suc lowest) (pair_at ages values) p
    unfolding pairs_from
    led_there = there_led (suc lowest) (pair_at ages values) (age ∷ words_of r) (λ k. refl) set.count p e

    pub add_there : set.count ≤ length ages → PairsAdded lowest ages values set ages values (record { count = set.count; near = p }) ((age ∷ words_of r) ∷ [])
    add_there f =
        record {
          ages_long = refl;
          values_long = refl;
          room = record { most = room.most; values_there = room.values_there; led = led_there };
          put = λ s h. subst (PairsStand ages values set.count) (sym (h.set f) ∙ sym (insert_there (suc lowest) (age ∷ words_of r) (pairs_from ages values 0 set.count) p e) ∙ ap (insert (suc lowest) (age ∷ words_of r)) (h.set f)) h;
        }

  module _ (e : look_up (suc lowest) (age ∷ words_of r) (pairs_from ages values 0 set.count) ≡ Err p) where
    pub place-within : p ≤ set.count
    unfolding pairs_from
    place-within = absent_within (suc lowest) (pair_at ages values) (age ∷ words_of r) (λ k. refl) set.count p e

    goes : insert (suc lowest) (age ∷ words_of r) (pairs_from ages values 0 set.count) ≡ pairs_from ages values 0 p ++ (age ∷ words_of r) ∷ pairs_from ages values p (set.count - p)
    unfolding pairs_from
    goes = absent_goes (suc lowest) (pair_at ages values) (age ∷ words_of r) (λ k. refl) set.count p e

    -- it is put in, and the set has one pair more
    module _ (ages' values' : List ℕ) (put : pairs_from ages' values' 0 (set.count + 1) ≡ pairs_from ages values 0 p ++ (age ∷ words_of r) ∷ pairs_from ages values p (set.count - p)) where
      led_put : Led (suc lowest) (pair_at ages' values') p
      unfolding pairs_from
      led_put = put_led (suc lowest) (pair_at ages values) (age ∷ words_of r) (λ k. refl) set.count p e (pair_at ages' values') put

      pub add_absent : set.count + 1 ≤ length ages → length ages' ≡ length ages → length values' ≡ length values → PairsAdded lowest ages values set ages' values' (record { count = set.count + 1; near = p }) ((age ∷ words_of r) ∷ [])
      add_absent l la lv =
          record {
            ages_long = la;
            values_long = lv;
            room = record { most = omega arith; values_there = omega (arith, room.values_there); led = led_put };
            put = λ s g.
                let f : pairs_from ages' values' 0 (set.count + 1) ≡ insert (suc lowest) (age ∷ words_of r) s = put ∙ sym goes ∙ ap (insert (suc lowest) (age ∷ words_of r)) (g.set (omega arith)) in
                let c : length (insert (suc lowest) (age ∷ words_of r) s) ≡ set.count + 1 = ap length (sym f) ∙ pairs-length ages' values' 0 (set.count + 1) in
                record { counted = omega arith; set = λ _. f };
          }

    parts_long : length (pairs_from ages values 0 p) + length ((age ∷ words_of r) ∷ pairs_from ages values p (set.count - p)) ≡ set.count + 1
    parts_long = omega (arith, pairs-length ages values 0 p, pairs-length ages values p (set.count - p), place-within)

    -- or it is too large where the words have no room for it
    pub add_over : set.count ≡ length ages → PairsAdded lowest ages values set ages values (record { count = set.count + 1; near = 0 }) ((age ∷ words_of r) ∷ [])
    add_over l =
        record {
          ages_long = refl;
          values_long = refl;
          room = record { most = omega arith; values_there = room.values_there; led = λ k m. absurd (omega arith) };
          put = λ s g.
              let f : insert (suc lowest) (age ∷ words_of r) s ≡ pairs_from ages values 0 p ++ (age ∷ words_of r) ∷ pairs_from ages values p (set.count - p) = ap (insert (suc lowest) (age ∷ words_of r)) (sym (g.set (omega arith))) ∙ goes in
              let c : length (insert (suc lowest) (age ∷ words_of r) s) ≡ set.count + 1 = ap length f ∙ length-append (pairs_from ages values 0 p) ((age ∷ words_of r) ∷ pairs_from ages values p (set.count - p)) ∙ parts_long in
              record { counted = omega arith; set = λ k. absurd (omega arith) };
        }
