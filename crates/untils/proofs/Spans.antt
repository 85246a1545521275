-- Sets laid one after the other: fewer of them, the rows of one of them, and a node's sets at fewer points.
use Prim.Native.Nat.{ℕ, ◌+◌, ◌-◌, ◌≤◌}
use mathlib.Core.Path.{◌≡◌, refl}
use mathlib.Core.List.{List, []}
use native.Mathlib.Omega.{arith}
use lib.ListN.{get_or}
use Rattle.meaning.specs.declared.Point.{Point}
use Rattle.rowset.specs.Rows.{rows_from}
use Rattle.rowset.specs.Sets.{Run}
use Rattle.room.proofs.SetsInOrder.{laid_fewer}
use Rattle.room.specs.Room.{SetsInOrder, set_at, set_in}
use Rattle.untils.specs.Until.{Stand}

module _ {rows at : List ℕ} where
  -- a node's sets are among those laid
  pub stand_in : {n : ℕ} → SetsInOrder rows at n → (first : ℕ) (low i : Point) (m : ℕ) → low.0 ≤ i.0 → i.0 ≤ m → first + (m - low.0) ≤ n → Stand rows at first low i m
  stand_in h first low i m l o k = record { low_most = l; ordered = o; laid = laid_fewer h (first + (m - low.0)) k }

  -- fewer points
  pub stand_part : {first : ℕ} {low i : Point} {m : ℕ} → Stand rows at first low i m → (a : Point) (b : ℕ) → i.0 ≤ a.0 → a.0 ≤ b → b ≤ m → Stand rows at first low a b
  stand_part {first} {low} s a b l o k = stand_in s.laid first low a b (omega (arith, s.low_most)) o (omega arith)

  -- the set at point k, read by where it begins and ends
  module _ {first from to : ℕ} {low k : Point} (s : Stand rows at first low k (k.0 + 1)) (e : from ≡ get_or at (first + (k.0 - low.0)) 0) (f : to ≡ get_or at (first + (k.0 - low.0) + 1) 0) where
    pub set_run : Run rows from to
    set_run =
        let g : first + (k.0 + 1 - low.0) ≡ first + (k.0 - low.0) + 1 = omega (arith, s.low_most) in
        let h : SetsInOrder rows at (first + (k.0 - low.0) + 1) = rw g at s.laid in
        record { ordered = omega (arith, h.steps (first + (k.0 - low.0)) (omega arith)); there = omega (arith, h.words) }

    pub set_read : rows_from rows from (to - from) ≡ set_at rows at first low k
    set_read = rw (e, f)

-- a set that begins where the next one does has no row
pub set_none : (rows at : List ℕ) (q : ℕ) → get_or at q 0 ≡ get_or at (q + 1) 0 → set_in rows at q ≡ []
unfolding rows_from
set_none rows at q e =
    let z : get_or at (q + 1) 0 - get_or at q 0 ≡ 0 = omega (arith, e) in
    rw z refl
