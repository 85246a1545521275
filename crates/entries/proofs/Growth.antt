-- Sets appended to those of a call: one pushed behind the others, none, and more after more.
use Prim.Native.Nat.{ℕ, ◌+◌, ◌-◌, ◌*◌, ◌≤◌, ◌<◌}
use mathlib.Core.Path.{◌≡◌, refl, sym, ap, ap₂, ◌∙◌}
use mathlib.Core.List.{List, ◌∷◌, []}
use native.Mathlib.Omega.{arith}
use lib.ListN.{length, get_or, set, length-set}
use lib.Seq.{get_or-set_same, get_or-set_other}
use lib.Dec.{ltb}
use borrow.Author.Tests.{ltb-true, ltb-false}
use Rattle.meaning.proofs.Points.{Tested, passed, failed, tested}
use Rattle.rowset.specs.Rows.{row_at, rows_from}
use Rattle.rowset.proofs.Runs.{rows_same}
use Rattle.room.proofs.SetsInOrder.{mark_before}
use Rattle.room.specs.Room.{set_in, SetsInOrder}
use Rattle.entries.specs.Appended.{Copied, Space, Extended, Pushed}

-- a row of words that haven't changed
pub row_below : (old new : List ℕ) {end : ℕ} → ((j : ℕ) → j < end * 4 → get_or new j 0 ≡ get_or old j 0) → (k : ℕ) → k < end → row_at new k ≡ row_at old k
row_below old new h k l =
    let e0 = h (k * 4) (omega arith) in
    let e1 = h (k * 4 + 1) (omega arith) in
    let e2 = h (k * 4 + 2) (omega arith) in
    let e3 = h (k * 4 + 3) (omega arith) in
    λ t. e0 t ∷ e1 t ∷ e2 t ∷ e3 t ∷ []

-- a row before the copied ones
row_kept : {old : List ℕ} {end : ℕ} {new : List ℕ} {count : ℕ} {rows : List (List ℕ)} → Copied old end new count rows → (k : ℕ) → k < end → row_at new k ≡ row_at old k
row_kept {old} {new = new} h = row_below old new h.below

-- rows copied behind n sets leave these, by the same marks
earlier_stay : {rows at : List ℕ} {n count : ℕ} {rows' : List ℕ} {new : List (List ℕ)} → SetsInOrder rows at n → Copied rows (get_or at n 0) rows' count new
    → (at' : List ℕ) → ((q : ℕ) → q ≤ n → get_or at' q 0 ≡ get_or at q 0) → (q : ℕ) → q < n → set_in rows' at' q ≡ set_in rows at q
earlier_stay {rows} {at} {n} {rows' = rows'} s h at' same q l =
    let m = mark_before s (q + 1) (omega arith) in
    let u = s.steps q l in
    ap₂ (λ a b. rows_from rows' a (b - a)) (same q (omega arith)) (same (q + 1) (omega arith))
    ∙ rows_same rows' rows (get_or at q 0) (get_or at (q + 1) 0 - get_or at q 0) (λ k a b. row_kept h k (omega arith))

-- rows copied behind n sets, and the mark set behind them
module _ {rows at : List ℕ} {n count : ℕ} (s : Space rows at n count) {rows' : List ℕ} {new : List (List ℕ)} (h : Copied rows (get_or at n 0) rows' count new)
    {at' : List ℕ} (e : at' ≡ set at (n + 1) (get_or at n 0 + count)) where
  pushed_long : length at' ≡ length at
  pushed_long = ap length e ∙ length-set at (n + 1) (get_or at n 0 + count)

  pushed_marks : (q : ℕ) → q ≤ n → get_or at' q 0 ≡ get_or at q 0
  pushed_marks q l = ap (λ ms. get_or ms q 0) e ∙ get_or-set_other at (n + 1) q (get_or at n 0 + count) 0 (omega arith)

  pushed_end : get_or at' (n + 1) 0 ≡ get_or at n 0 + count
  pushed_end = ap (λ ms. get_or ms (n + 1) 0) e ∙ get_or-set_same at (n + 1) (get_or at n 0 + count) 0 s.mark

  pushed_steps : (q : ℕ) → q < n + 1 → get_or at' q 0 ≤ get_or at' (q + 1) 0
  pushed_steps q l = go (tested (ltb q n))
    where
      go : Tested (ltb q n) → get_or at' q 0 ≤ get_or at' (q + 1) 0
      go (passed t) =
          let m : q < n = ltb-true q n t in
          omega (arith, pushed_marks q (omega arith), pushed_marks (q + 1) (omega arith), s.laid.steps q m)
      go (failed t) =
          let m : q ≡ n = omega (arith, ltb-false q n t) in
          rw m (omega (arith, pushed_marks n (omega arith), pushed_end))

  pushed_laid : SetsInOrder rows' at' (n + 1)
  pushed_laid =
      record {
        marks = omega (arith, s.mark, pushed_long);
        steps = pushed_steps;
        words = omega (arith, pushed_end, h.long, s.words);
      }

  pushed_earlier : (q : ℕ) → q < n → set_in rows' at' q ≡ set_in rows at q
  pushed_earlier = earlier_stay s.laid h at' pushed_marks

  pushed_last : set_in rows' at' n ≡ new
  pushed_last =
      let f : get_or at n 0 + count - get_or at n 0 ≡ count = omega arith in
      ap₂ (λ a b. rows_from rows' a (b - a)) (pushed_marks n (omega arith)) pushed_end ∙ ap (rows_from rows' (get_or at n 0)) f ∙ h.there

  pushed_sets : (k : ℕ) → k < 1 → set_in rows' at' (n + k) ≡ new
  pushed_sets k l =
      let f : n + k ≡ n = omega arith in
      ap (set_in rows' at') f ∙ pushed_last

  pub pushed : Pushed rows at rows' at' n count new
  pushed =
      record {
        more = record { rows_long = h.long; at_long = pushed_long; laid = pushed_laid; marks = pushed_marks; earlier = pushed_earlier; sets = pushed_sets };
        end = pushed_end;
      }

pub pushed_set : {rows at rows' at' : List ℕ} {n count : ℕ} {new : List (List ℕ)} → Pushed rows at rows' at' n count new → set_in rows' at' n ≡ new
pushed_set {rows' = rows'} {at' = at'} {n = n} h =
    let e : n + 0 ≡ n = omega arith in
    ap (set_in rows' at') (sym e) ∙ h.more.sets 0 (omega arith)

pub extended_none : {rows at : List ℕ} {n : ℕ} {F : ℕ → List (List ℕ)} → SetsInOrder rows at n → Extended rows at rows at n 0 F
extended_none {n = n} h =
    let e : n + 0 ≡ n = omega arith in
    record { rows_long = refl; at_long = refl; laid = rw e h; marks = λ q l. refl; earlier = λ q l. refl; sets = λ k l. absurd (omega arith) }

-- rows copied behind n sets, and then more sets made of them
pub extended_over : {rows at rows' rows'' at' : List ℕ} {n m count : ℕ} {new : List (List ℕ)} {F : ℕ → List (List ℕ)} → SetsInOrder rows at n → Copied rows (get_or at n 0) rows' count new
    → Extended rows' at rows'' at' n m F → Extended rows at rows'' at' n m F
extended_over {at = at} s c h =
    record {
      rows_long = h.rows_long ∙ c.long;
      at_long = h.at_long;
      laid = h.laid;
      marks = h.marks;
      earlier = λ q l. h.earlier q l ∙ earlier_stay s c at (λ q l. refl) q l;
      sets = h.sets;
    }

-- the new sets, written in another way
pub extended_as : {rows at rows' at' : List ℕ} {n m : ℕ} {F G : ℕ → List (List ℕ)} → Extended rows at rows' at' n m F → ((k : ℕ) → k < m → F k ≡ G k) → Extended rows at rows' at' n m G
extended_as h e =
    record { rows_long = h.rows_long; at_long = h.at_long; laid = h.laid; marks = h.marks; earlier = h.earlier; sets = λ k l. h.sets k l ∙ e k l }

-- m sets and then k more
module _ {rows at rows' at' rows'' at'' : List ℕ} {n m : ℕ} {F : ℕ → List (List ℕ)} (g : Extended rows at rows' at' n m F) where
  pub extended_then : {k : ℕ} → Extended rows' at' rows'' at'' (n + m) k (λ q. F (m + q)) → Extended rows at rows'' at'' n (m + k) F
  extended_then {k} h =
      let e : n + m + k ≡ n + (m + k) = omega arith in
      record {
        rows_long = h.rows_long ∙ g.rows_long;
        at_long = h.at_long ∙ g.at_long;
        laid = rw e at h.laid;
        marks = λ q l. h.marks q (omega arith) ∙ g.marks q l;
        earlier = λ q l. h.earlier q (omega arith) ∙ g.earlier q l;
        sets = λ q l. go q l (tested (ltb q m));
      }
    where
      go : (q : ℕ) → q < m + k → Tested (ltb q m) → set_in rows'' at'' (n + q) ≡ F q
      go q l (passed t) =
          let u : q < m = ltb-true q m t in
          h.earlier (n + q) (omega arith) ∙ g.sets q u
      go q l (failed t) =
          let u : m ≤ q = ltb-false q m t in
          let e : n + q ≡ n + m + (q - m) = omega arith in
          let f : m + (q - m) ≡ q = omega arith in
          ap (set_in rows'' at'') e ∙ h.sets (q - m) (omega arith) ∙ ap F f

  -- m sets and then the next one
  pub extended_next : {s : List (List ℕ)} → Extended rows' at' rows'' at'' (n + m) 1 (λ _. s) → s ≡ F m → Extended rows at rows'' at'' n (m + 1) F
  extended_next {s} h e = extended_then (extended_as h (λ k l. let f : m ≡ m + k = omega arith in e ∙ ap F f))
