-- Rows copied to lower rows of one slice, marks lowered, and sets put in the place of others.
use Prim.Native.Nat.{ℕ, ◌+◌, ◌-◌, ◌*◌, ◌≤◌, ◌<◌}
use mathlib.Core.Path.{◌≡◌, refl, ap, ap₂, ◌∙◌}
use mathlib.Core.List.{List, [], ◌∷◌}
use native.Mathlib.Nat.{add-zero}
use native.Mathlib.Omega.{arith}
use Rattle.std.specs.List.{CopiedTo, SameBelow}
use lib.ListN.{length, get_or, set, length-set}
use lib.Seq.{get_or-set_same, get_or-set_other}
use lib.Dec.{ltb}
use borrow.Author.Tests.{ltb-true, ltb-false}
use Rattle.meaning.proofs.Points.{Tested, passed, failed, tested}
use Rattle.rowset.specs.Rows.{row_at, rows_from}
use Rattle.rowset.specs.Sets.{Run}
use Rattle.rowset.proofs.Runs.{rows_same}
use Rattle.room.specs.Room.{set_in, SetsInOrder}
use Rattle.room.proofs.SetsInOrder.{marks_rise}
use Rattle.entries.proofs.Copies.{rows_each, rows_moved}
use Rattle.entries.proofs.Growth.{row_below}
use Rattle.node_sets.specs.Blocks.{MovedDown}
use Rattle.node_sets.specs.Parts.{Moved, MarksLowered}

-- rows that stay where they are
pub moved_onto : (old : List ℕ) (from count end : ℕ) → end ≡ from → Moved old end old from count
moved_onto old from count end e = record { long = refl; below = λ j l. refl; there = ap (λ a. rows_from old a count) e }

-- words copied within one slice are rows copied, four to a row
pub moved_words : (old new : List ℕ) (from to end : ℕ) → from ≤ to → length new ≡ length old → CopiedTo old new (from * 4) (end * 4) (to * 4 - from * 4) → SameBelow old new (end * 4) → Moved old end new from (to - from)
moved_words old new from to end o long copied below = record { long = long; below = λ j l. below j 0 l; there = rows_moved new old end from (to - from) rows }
  where
    word : (k i : ℕ) → k < to - from → i < 4 → get_or new ((end + k) * 4 + i) 0 ≡ get_or old ((from + k) * 4 + i) 0
    word k i l v =
        let e : from * 4 + ((end + k) * 4 + i - end * 4) ≡ (from + k) * 4 + i = omega arith in
        rw e at (copied ((end + k) * 4 + i) 0 (omega arith) (omega arith))

    rows : (k : ℕ) → k < to - from → row_at new (end + k) ≡ row_at old (from + k)
    rows k l =
        let w0 : get_or new ((end + k) * 4) 0 ≡ get_or old ((from + k) * 4) 0 = rw (add-zero ((end + k) * 4), add-zero ((from + k) * 4)) at (word k 0 l (omega arith)) in
        let w1 = word k 1 l (omega arith) in
        let w2 = word k 2 l (omega arith) in
        let w3 = word k 3 l (omega arith) in
        λ t. w0 t ∷ w1 t ∷ w2 t ∷ w3 t ∷ []

-- the marks of the first k of m sets are lowered, and those behind them are as they were
pub record Lowering (old new : List ℕ) (n d m by k : ℕ) : Type 0 where
  pub reached : k ≤ m
  pub long : length new ≡ length old
  pub other : (q : ℕ) → q ≤ n → get_or new q 0 ≡ get_or old q 0
  pub above : (q : ℕ) → n + k < q → get_or new q 0 ≡ get_or old q 0
  pub there : (j : ℕ) → j ≤ k → get_or new (n + j) 0 ≡ get_or old (n + d + j) 0 - by

pub lowered_none : (old : List ℕ) (n d m by : ℕ) → by ≡ get_or old (n + d) 0 - get_or old n 0 → get_or old n 0 ≤ get_or old (n + d) 0 → Lowering old old n d m by 0
lowered_none old n d m by e l =
    record {
      reached = omega arith;
      long = refl;
      other = λ q h. refl;
      above = λ q h. refl;
      there = λ j h.
          let a : n + j ≡ n = omega arith in
          let b : n + d + j ≡ n + d = omega arith in
          rw (a, b) (omega arith);
    }

module _ {old new : List ℕ} {n d m by k : ℕ} (t : Lowering old new n d m by k) where
  pub lowered_more : k < m → n + m < length old → (v : ℕ) → v ≡ get_or new (n + d + (k + 1)) 0 - by → Lowering old (set new (n + (k + 1)) v) n d m by (k + 1)
  lowered_more l room v e =
      record {
        reached = omega arith;
        long = length-set new (n + (k + 1)) v ∙ t.long;
        other = λ q h. get_or-set_other new (n + (k + 1)) q v 0 (omega arith) ∙ t.other q h;
        above = λ q h. get_or-set_other new (n + (k + 1)) q v 0 (omega arith) ∙ t.above q (omega arith);
        there = λ j h. go j h (tested (ltb j (k + 1)));
      }
    where
      go : (j : ℕ) → j ≤ k + 1 → Tested (ltb j (k + 1)) → get_or (set new (n + (k + 1)) v) (n + j) 0 ≡ get_or old (n + d + j) 0 - by
      go j h (passed q) =
          let u : j < k + 1 = ltb-true j (k + 1) q in
          get_or-set_other new (n + (k + 1)) (n + j) v 0 (omega arith) ∙ t.there j (omega arith)
      go j h (failed q) =
          let u : j ≡ k + 1 = omega (arith, ltb-false j (k + 1) q) in
          rw u (get_or-set_same new (n + (k + 1)) v 0 (omega (arith, t.long)) ∙ e ∙ ap (λ w. w - by) (t.above (n + d + (k + 1)) (omega arith)))

  pub lowered_all : m ≤ k → by ≡ get_or old (n + d) 0 - get_or old n 0 → MarksLowered old new n d m
  lowered_all l e = record { long = t.long; below = t.other; there = λ j h. rw e at (t.there j (omega (arith, t.reached))) }

-- numbers lowered together
module _ (N D X Y M : ℕ) {P Q : ℕ} (a : P ≡ X - (D - N)) (c : Q ≡ Y - (D - N)) (h : N ≤ D) (i : D ≤ X) (k : X ≤ Y) (l : Y ≤ M) where
  width : Q - P ≡ Y - X
  width = omega arith

  place_new : (j : ℕ) → N + (X - D + j) ≡ P + j
  place_new j = omega arith

  place_old : (j : ℕ) → D + (X - D + j) ≡ X + j
  place_old j = omega arith

  inside : (j : ℕ) → j < Y - X → X - D + j < M - D
  inside j o = omega arith

module _ {rows at : List ℕ} (n d m : ℕ) (l : SetsInOrder rows at (n + d + m)) where
  rise : (a c : ℕ) → a + c ≤ n + d + m → get_or at a 0 ≤ get_or at (a + c) 0
  rise a c o = marks_rise at a c (λ s u. l.steps s (omega arith))

  -- what moving down asks of its parts
  pub down_rows : Run rows (get_or at (n + d) 0) (get_or at (n + d + m) 0) × (get_or at n 0 ≤ get_or at (n + d) 0)
  down_rows = (record { ordered = rise (n + d) m (omega arith); there = l.words }, rise n d (omega arith))

  pub down_marks : (n + d + m < length at) × (get_or at n 0 ≤ get_or at (n + d) 0) × ((k : ℕ) → k ≤ m → get_or at (n + d) 0 ≤ get_or at (n + d + k) 0)
  down_marks = (l.marks, rise n d (omega arith), λ k o. rise (n + d) k (omega arith))

  -- rows moved and marks lowered together
  module _ {rows' at' : List ℕ} (h : Moved rows (get_or at n 0) rows' (get_or at (n + d) 0) (get_or at (n + d + m) 0 - get_or at (n + d) 0)) (k : MarksLowered at at' n d m) where
    down_end : get_or at' (n + m) 0 ≡ get_or at n 0 + (get_or at (n + d + m) 0 - get_or at (n + d) 0)
    down_end = omega (arith, k.there m (omega arith), rise (n + d) m (omega arith), rise n d (omega arith))

    down_step : (q : ℕ) → q < n + m → Tested (ltb q n) → get_or at' q 0 ≤ get_or at' (q + 1) 0
    down_step q o (passed t) =
        let u : q < n = ltb-true q n t in
        omega (arith, k.below q (omega arith), k.below (q + 1) (omega arith), l.steps q (omega arith))
    down_step q o (failed t) =
        let u : n ≤ q = ltb-false q n t in
        let e : n + (q - n) ≡ q = omega arith in
        let f : n + (q - n + 1) ≡ q + 1 = omega arith in
        let g : n + d + (q - n + 1) ≡ n + d + (q - n) + 1 = omega arith in
        let a : get_or at' q 0 ≡ get_or at (n + d + (q - n)) 0 - (get_or at (n + d) 0 - get_or at n 0) = rw e at (k.there (q - n) (omega arith)) in
        let c : get_or at' (q + 1) 0 ≡ get_or at (n + d + (q - n) + 1) 0 - (get_or at (n + d) 0 - get_or at n 0) = rw (f, g) at (k.there (q - n + 1) (omega arith)) in
        omega (arith, a, c, l.steps (n + d + (q - n)) (omega arith))

    down_earlier : (q : ℕ) → q < n → set_in rows' at' q ≡ set_in rows at q
    down_earlier q o =
        let e : q + 1 + (n - (q + 1)) ≡ n = omega arith in
        let u : get_or at (q + 1) 0 ≤ get_or at n 0 = rw e at (rise (q + 1) (n - (q + 1)) (omega arith)) in
        let s = l.steps q (omega arith) in
        ap₂ (λ a c. rows_from rows' a (c - a)) (k.below q (omega arith)) (k.below (q + 1) (omega arith))
        ∙ rows_same rows' rows (get_or at q 0) (get_or at (q + 1) 0 - get_or at q 0) (λ j a b. row_below rows rows' h.below j (omega arith))

    down_set : (q : ℕ) → q < m → set_in rows' at' (n + q) ≡ set_in rows at (n + d + q)
    down_set q o =
        let f : n + (q + 1) ≡ n + q + 1 = omega arith in
        let g : n + d + (q + 1) ≡ n + d + q + 1 = omega arith in
        let w : n + d + q + 1 + (m - (q + 1)) ≡ n + d + m = omega arith in
        let a : get_or at' (n + q) 0 ≡ get_or at (n + d + q) 0 - (get_or at (n + d) 0 - get_or at n 0) = k.there q (omega arith) in
        let c : get_or at' (n + q + 1) 0 ≡ get_or at (n + d + q + 1) 0 - (get_or at (n + d) 0 - get_or at n 0) = rw (f, g) at (k.there (q + 1) (omega arith)) in
        let u1 = rise n d (omega arith) in
        let u2 = rise (n + d) q (omega arith) in
        let u3 = l.steps (n + d + q) (omega arith) in
        let u4 : get_or at (n + d + q + 1) 0 ≤ get_or at (n + d + m) 0 = rw w at (rise (n + d + q + 1) (m - (q + 1)) (omega arith)) in
        let z : get_or at' (n + q + 1) 0 - get_or at' (n + q) 0 ≡ get_or at (n + d + q + 1) 0 - get_or at (n + d + q) 0 = width _ _ _ _ _ a c u1 u2 u3 u4 in
        ap (rows_from rows' (get_or at' (n + q) 0)) z
        ∙ rows_moved rows' rows (get_or at' (n + q) 0) (get_or at (n + d + q) 0) (get_or at (n + d + q + 1) 0 - get_or at (n + d + q) 0)
        (λ j i.
        rw (place_new _ _ _ _ _ a c u1 u2 u3 u4 j, place_old _ _ _ _ _ a c u1 u2 u3 u4 j) at
        (rows_each rows' rows (get_or at n 0) (get_or at (n + d) 0) (get_or at (n + d + m) 0 - get_or at (n + d) 0) h.there (get_or at (n + d + q) 0 - get_or at (n + d) 0 + j) (inside _ _ _ _ _ a c u1 u2 u3 u4 j i)))

    pub down : MovedDown rows at rows' at' n d m
    down =
        record {
          more = record {
            rows_long = h.long;
            at_long = k.long;
            laid = record {
              marks = omega (arith, k.long, l.marks);
              steps = λ q o. down_step q o (tested (ltb q n));
              words = omega (arith, down_end, h.long, l.words, rise (n + d) m (omega arith), rise n d (omega arith));
            };
            marks = k.below;
            earlier = down_earlier;
            sets = down_set;
          };
          end = down_end;
        }
