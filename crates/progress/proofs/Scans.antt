-- The scan for until, one point at a time: it goes on where the window has ended by the bound, and stops where it hasn't or at the last point.
use Prim.Native.Nat.{ℕ, suc, ◌+◌, ◌-◌, ◌≤◌, ◌<◌}
use native.Mathlib.Numerals.{add-one}
use native.Mathlib.Omega.{arith}
use mathlib.Core.Path.{◌≡◌}
use mathlib.Core.Bool.{Bool, true, false, cond}
use lib.Dec.{ltb, leb}
use Rattle.meaning.specs.Log.{point}
use Rattle.meaning.specs.declared.Point.{Point}
use Rattle.meaning.specs.declared.Stamp.{Stamp}
use Rattle.meaning.specs.declared.LogEnd.{LogEnd}
use Rattle.method.specs.Counts.{scan, until_count}

module _ (τ : Point → Stamp) (d : ℕ) (bound : Stamp) (i m : ℕ) where
  pub scan_more : i < m → {t : Stamp} {f : Bool} → t ≡ τ (point i) → f ≡ leb (t.0 + d) bound.0 → f ≡ true → scan τ d bound (point i) (m - i) ≡ scan τ d bound (point (i + 1)) (m - (i + 1))
  scan_more h {t} {f} p q e =
      let s : m - i ≡ suc (m - (i + 1)) = omega arith in
      let ends : leb ((τ (point i)).0 + d) bound.0 ≡ true = cc in
      rw (s, ends, add-one i)

  pub scan_stops : i < m → {t : Stamp} {f : Bool} → t ≡ τ (point i) → f ≡ leb (t.0 + d) bound.0 → f ≡ false → scan τ d bound (point i) (m - i) ≡ point i
  scan_stops h {t} {f} p q e =
      let s : m - i ≡ suc (m - (i + 1)) = omega arith in
      let ends : leb ((τ (point i)).0 + d) bound.0 ≡ false = cc in
      rw (s, ends)

  pub scan_ends : m ≤ i → scan τ d bound (point i) (m - i) ≡ point i
  scan_ends h =
      let s : m - i ≡ 0 = omega arith in
      rw s

-- the count from the time by which windows have to end, and the first point that is open
pub until_same : (τ : Point → Stamp) (l : LogEnd) (d m from : ℕ) {first : Point} {t : Stamp} → t ≡ cond (ltb m l.points) (τ (point m)) l.latest → first ≡ scan τ d t (point from) (m - from) → first.0 ≡ until_count τ l d m from
unfolding until_count
until_same τ l d m from e g = cc
