-- What a node's own step leaves: its sets in the place of its children's and its block behind what is kept, or that it is crowded.
use Prim.Native.Nat.{ℕ, ◌+◌, ◌-◌, ◌*◌, ◌≤◌, ◌<◌}
use native.Mathlib.Omega.{arith}
use mathlib.Core.Path.{◌≡◌, refl, ◌∙◌}
use mathlib.Core.Bool.{Bool, true, false}
use mathlib.Core.List.{List, []}
use lib.ListN.{length, get_or}
use lib.Dec.{eqb}
use borrow.Author.Tests.{eqb-true, eqb-false, ne_eqb}
use Rattle.meaning.specs.Log.{point}
use Rattle.meaning.specs.declared.Node.{Node}
use Rattle.meaning.proofs.Points.{Tested, passed, failed, tested}
use Rattle.method.specs.Stored.{Stored}
use Rattle.method.specs.Step.{entries_now, crowded_now}
use Rattle.method.specs.Room.{rows_most, sets_most}
use Rattle.room.specs.Room.{set_in, Sets}
use Rattle.entries.specs.Appended.{Extended}
use Rattle.node_sets.specs.Blocks.{MovedDown}
use Rattle.room.specs.declared.Child.{Child}
use Rattle.node_step.specs.declared.Own.{Own}
use Rattle.node_step.specs.declared.Spot.{Spot}
use Rattle.node_step.specs.Walks.{turn_set, OutThere, BlockStands, Keeps, Walks}
use Rattle.node_step.specs.Parts.{PointsSettled, BlockPut, BlockKept}
use Rattle.node_step.proofs.Laying.{set_few, sets_fewer, sets_more, extended_front}
use Rattle.node_step.proofs.Keeping.{TableStays, put_stays, block_same}
use Rattle.node_step.proofs.Numbers.{numbers, sets_most_lem, rows_most_lem}
use Rattle.node_step.proofs.Stepping.{Loads, base, old_ages, old_values, crowds, front_stays, whole, whole_sets, whole_end, calm_here, block_now}

-- rows moved down end no higher above the sets below them than they did above the others
moved_end : (end b low high a k m : ℕ) → end ≡ b + (high - low) → low ≡ a → high ≤ a + (k + m) → end ≤ b + (k + m)
moved_end end b low high a k m e f h = omega arith

module _ {s : Stored} {w : List ℕ} {x : ℕ} where
  -- ---- a crowded node

  walks_crowded : {h sets : ℕ} {rows at rows' at' on ov bl bl' : List ℕ} {kept W : ℕ} → x < 32 → h ≤ sets → Sets rows at sets → Extended rows at rows' at' sets 0 (λ q. []) → length bl' ≡ length bl → kept ≤ length on + 1 → crowded_now s w x ≡ true
      → Walks s w (λ y. y ≡ x) W x h rows at rows' at' on ov bl on ov bl' kept (record { kept = kept; low = x })
  walks_crowded {h} {sets} {rows} {at} {rows'} {at'} u l t e b k c =
      let n : eqb x 32 ≡ false = ne_eqb x 32 (λ d. omega arith) in
      let z : h + 0 ≡ h = omega arith in
      let f : Extended rows at rows' at' h 0 (turn_set s w x) = extended_front e h l in
      record {
        more = rw n f;
        stand = rw n (sets_more (sets_fewer t h l) f (λ q d. absurd (omega arith)));
        row_end = rw (n, z) (omega (arith, e.marks h l));
        low = omega arith;
        inside = λ d. omega arith;
        told = λ d. c;
        calm = λ y d i. absurd (omega arith);
        few = k;
        on_long = refl;
        ov_long = refl;
        bl_long = b;
        keeps = λ d. absurd (omega arith);
      }

  -- ---- a node that keeps its block

  module _ {on ov bl on' ov' bl' : List ℕ} {kept kept' : ℕ} (k : kept ≤ length on + 1) (p : BlockPut x on ov bl on' ov' bl' kept kept' (entries_now s w x)) where
    own_block : kept' ≤ length on → BlockStands s w on' ov' bl' kept' x
    own_block o = record { rows_first = p.rows_first; pairs_last = p.pairs_last; within = p.within; there = p.there o }

    other_block : (y : ℕ) → (y ≡ x → ⊥) → BlockStands s w on ov bl kept y → BlockStands s w on' ov' bl' kept' y
    other_block y d b =
        let e₀ = p.others y d 0 (omega arith) in
        let e₁ = p.others y d 1 (omega arith) in
        let e₂ = p.others y d 2 (omega arith) in
        let grown : kept ≤ kept' = omega (arith, p.counted) in
        record {
          rows_first = omega (arith, b.rows_first);
          pairs_last = omega (arith, b.pairs_last);
          within = omega (arith, b.within);
          there = block_same y on ov bl on' ov' bl' kept p.numbers_below p.rows_below (p.others y d) b.pairs_last b.within ∙ b.there;
        }

    keeps_block : Keeps s w (λ y. y ≡ x) (length (entries_now s w x)) on ov bl on' ov' bl' kept kept'
    keeps_block =
        record {
          counted = p.counted;
          stay = λ o y b. go o y b (tested (eqb y x));
          new = λ o y e. rw e (own_block o);
        }
      where
        go : kept' ≤ length on → (y : ℕ) → BlockStands s w on ov bl kept y → Tested (eqb y x) → BlockStands s w on' ov' bl' kept' y
        go o y b (passed t) = rw (eqb-true y x t) (own_block o)
        go o y b (failed t) = other_block y (eqb-false y x t) b

    walks_kept : {h sets : ℕ} {rows at rows₂ at₂ rows₃ at₃ : List ℕ} (m k n : ℕ) → x < 32 → h ≤ sets → sets_most s w x ≡ m → rows_most s w x ≡ k + n → Extended rows at rows₂ at₂ sets m (turn_set s w x) → Sets rows₂ at₂ (sets + m)
        → get_or at₂ (sets + m) 0 ≤ get_or at sets 0 + (k + n) → MovedDown rows₂ at₂ rows₃ at₃ h (sets - h) m → crowded_now s w x ≡ false
        → Walks s w (λ y. y ≡ x) (length (entries_now s w x)) x h rows at rows₃ at₃ on ov bl on' ov' bl' kept (record { kept = kept'; low = 32 })
    walks_kept {h} {sets} {rows} {at} {rows₂} {at₂} {rows₃} {at₃} m j n u l em en e t f d c =
        let z : h + (sets - h) ≡ sets = omega arith in
        let moved : Extended rows₂ at₂ rows₃ at₃ h m (λ q. set_in rows₂ at₂ (sets + q)) = rw z at d.more in
        let end : get_or at₃ (h + m) 0 ≡ get_or at₂ h 0 + (get_or at₂ (sets + m) 0 - get_or at₂ sets 0) = rw z at d.end in
        record {
          more =
              rw em
              (record {
                rows_long = moved.rows_long ∙ e.rows_long;
                at_long = moved.at_long ∙ e.at_long;
                laid = moved.laid;
                marks = λ q i. moved.marks q i ∙ e.marks q (omega arith);
                earlier = λ q i. moved.earlier q i ∙ e.earlier q (omega arith);
                sets = λ q i. moved.sets q i ∙ e.sets q i;
              });
          stand = rw em (sets_more (sets_fewer t h (omega arith)) moved (λ q i. set_few t (sets + q) (omega arith)));
          row_end = rw (em, en) (moved_end (get_or at₃ (h + m) 0) (get_or at h 0) (get_or at₂ sets 0) (get_or at₂ (sets + m) 0) (get_or at sets 0) j n (rw (e.marks h l) at end) (e.marks sets (omega arith)) f);
          low = omega arith;
          inside = λ i. absurd (omega arith);
          told = λ i. absurd (omega arith);
          calm = λ y i o. rw i c;
          few = omega (arith, p.counted);
          on_long = p.on_long;
          ov_long = p.ov_long;
          bl_long = p.bl_long;
          keeps = λ i. keeps_block;
        }

-- ---- the whole step

module _ {s : Stored} {w os ns vs stamps f : List ℕ} {x : ℕ} {o : Own} {spot : Spot} {rows at : List ℕ} {left right : Child} {node : Node} {rows₁ at₁ : List ℕ}
    (k : Loads s w os ns vs stamps f x o spot rows at left right node rows₁ at₁) {rows₂ at₂ : List ℕ} {done : Bool}
    (p : PointsSettled s.rule w rows₁ at₁ stamps (base k) (old_ages k) (old_values k) left right (spot.sets + (o.before - o.low.0)) o.lowest (point o.before) (point o.after) node rows₂ at₂ done)
    {on ov bl bl₁ : List ℕ} (out : OutThere s w on ov bl spot.kept) (table : TableStays bl bl₁) where
  few_nodes : x < 32
  few_nodes = (numbers k.ready x k.here k.figures).node

  pub step-crowded : done ≡ false → Walks s w (λ y. y ≡ x) (length (entries_now s w x)) x spot.below rows at rows₂ at₂ on ov bl on ov bl₁ spot.kept (record { kept = spot.kept; low = x })
  step-crowded told = walks_crowded few_nodes k.below k.room.stand (front_stays k p) table.long out.counted (crowds k p told)

  pub step_kept : done ≡ true → {on' ov' bl' rows₃ at₃ : List ℕ} {kept' : ℕ} → BlockKept s.rule w rows₂ at₂ stamps (base k) (old_ages k) (old_values k) left right spot.sets o node on ov bl₁ x spot.kept on' ov' bl' kept'
      → MovedDown rows₂ at₂ rows₃ at₃ spot.below (spot.sets - spot.below) (o.after - o.low.0)
      → Walks s w (λ y. y ≡ x) (length (entries_now s w x)) x spot.below rows at rows₃ at₃ on ov bl on' ov' bl' spot.kept (record { kept = kept'; low = 32 })
  step_kept told b d =
      walks_kept out.counted (put_stays table (block_now k p told b)) (o.after - o.low.0) (o.pairs - o.begin) (32 * (o.after - o.before)) few_nodes k.below (sets_most_lem k.ready x k.here k.figures) (rows_most_lem k.ready x k.here k.figures)
      (whole k p told) (whole_sets k p told) (whole_end k p told) d (calm_here k p told)
