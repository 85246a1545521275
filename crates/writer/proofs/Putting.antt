-- Words written one run after the other: nothing written, one run more, all.
use Prim.Native.Nat.{ℕ, suc, ◌+◌, ◌-◌, ◌≤◌, ◌<◌}
use native.Mathlib.Nat.{add-zero}
use native.Mathlib.Omega.{arith}
use mathlib.Core.Path.{◌≡◌, refl, sym, ap, ◌∙◌}
use mathlib.Core.Bool.{Bool, true, false, cond}
use mathlib.Core.List.{List, [], ◌∷◌, ◌++◌, append-nil, append_assoc}
use lib.ListN.{length, drop, length-append}
use lib.Seq.{sets, length-sets, sets-eq}
use Rattle.meaning.specs.Lists.{range, gather}
use Rattle.writer.specs.Puts.{Put}
use Rattle.writer.proofs.Gathers.{gather_first, gather_end}

-- a run of stores after another
sets_append : (l : List ℕ) (i : ℕ) (us vs : List ℕ) → sets (sets l i us) (i + length us) vs ≡ sets l i (us ++ vs)
sets_append l i [] vs = rw add-zero
sets_append l i (u ∷ us) vs =
    let e : i + suc (length us) ≡ suc i + length us = omega arith in
    rw e (sets_append _ (suc i) us vs)

module _ {before : List ℕ} {at : ℕ} where
  pub put_long : {us after : List ℕ} {end : ℕ} → Put before at us after end → length after ≡ length before
  put_long {us} p = ap length p.stored ∙ length-sets before at us

  pub put_none : Put before at [] before at
  put_none = record { place = sym (add-zero at); stored = refl }

  pub put_then : {us vs between after : List ℕ} {middle end : ℕ} → Put before at us between middle → Put between middle vs after end → Put before at (us ++ vs) after end
  put_then {us} {vs} {between} {after} {middle} {end} p q =
      let e : length (us ++ vs) ≡ length us + length vs = length-append us vs in
      record {
        place = omega (arith, p.place, q.place);
        stored = q.stored ∙ rw (p.stored, p.place) (sets_append before at us vs);
      }

-- words that are written where a test passed
module _ {before : List ℕ} {at : ℕ} {t : Bool} where
  pub put_passed : t ≡ true → {us after : List ℕ} {end : ℕ} → Put before at us after end → Put before at (cond t us []) after end
  put_passed e p = rw e p

  pub put_failed : (us : List ℕ) → t ≡ false → Put before at (cond t us []) before at
  put_failed us e = rw e put_none

-- from the front of a buffer that has room, the words stand at the front and the others stay
pub put_front : {before us after : List ℕ} {end : ℕ} → Put before 0 us after end → length us ≤ length before → (end ≡ length us) × (after ≡ us ++ drop (length us) before)
put_front {before} {us} {after} {end} p h =
    let z : 0 + length us ≡ length us = omega arith in
    (p.place ∙ z, p.stored ∙ sets-eq us before 0 (omega arith) ∙ rw z)

-- some words of a whole are written, and the rest has room
pub record Putting (before : List ℕ) (at : ℕ) (whole after : List ℕ) (end : ℕ) (rest : List ℕ) : Type 0 where
  pub done : List ℕ
  pub whole_of : done ++ rest ≡ whole
  pub put : Put before at done after end
  pub room : end + length rest ≤ length after

module _ {before : List ℕ} {at : ℕ} {whole : List ℕ} where
  pub putting_none : {rest : List ℕ} → rest ≡ whole → at + length whole ≤ length before → Putting before at whole before at rest
  putting_none e h = record { done = []; whole_of = e; put = put_none; room = rw e h }

  -- there is room for the next run
  pub putting_room : {between : List ℕ} {middle : ℕ} (us rest : List ℕ) → Putting before at whole between middle (us ++ rest) → middle + length us ≤ length between
  putting_room us rest p = omega (arith, length-append us rest, p.room)

  pub putting_more : {us rest between after : List ℕ} {middle end : ℕ} → Putting before at whole between middle (us ++ rest) → Put between middle us after end → Putting before at whole after end rest
  putting_more {us} {rest} p q =
      record {
        done = p.done ++ us;
        whole_of = append_assoc p.done us rest ∙ p.whole_of;
        put = put_then p.put q;
        room = omega (arith, length-append us rest, p.room, q.place, put_long q);
      }

  pub putting_last : {us between after : List ℕ} {middle end : ℕ} → Putting before at whole between middle us → Put between middle us after end → Put before at whole after end
  putting_last p q = rw p.whole_of at (put_then p.put q)

  pub putting_all : {after : List ℕ} {end : ℕ} → Putting before at whole after end [] → Put before at whole after end
  putting_all {after} {end} p =
      let e : p.done ≡ whole = sym (append-nil p.done) ∙ p.whole_of in
      rw e at p.put

-- a whole that numbers in a row give: the words of number i, and all
module _ {before : List ℕ} {at : ℕ} {whole : List ℕ} (give : ℕ → List ℕ) {to i : ℕ} {between : List ℕ} {middle : ℕ} (p : Putting before at whole between middle (gather give (range i (to - i)))) where
  pub turn_room : i < to → {us : List ℕ} → us ≡ give i → middle + length us ≤ length between
  turn_room h e = rw e (putting_room (give i) (gather give (range (i + 1) (to - (i + 1)))) (rw (gather_first give to i h) at p))

  pub turn_more : i < to → {us after : List ℕ} {end : ℕ} → us ≡ give i → Put between middle us after end → Putting before at whole after end (gather give (range (i + 1) (to - (i + 1))))
  turn_more h e q = putting_more (rw (gather_first give to i h) at p) (rw e at q)

  pub turn_all : to ≤ i → Put before at whole between middle
  turn_all h = putting_all (rw (gather_end give to i h) at p)
