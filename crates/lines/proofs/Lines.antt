-- How long the lines are at most.
use Prim.Native.Nat.{ℕ, ◌+◌, ◌*◌, ◌≤◌}
use native.Mathlib.Omega.{arith}
use mathlib.Core.List.{List, [], ◌∷◌}
use lib.ListN.{length, length-append}
use Rattle.meaning.specs.Lists.{gather}
use Rattle.meaning.specs.declared.Point.{Point}
use Rattle.meaning.specs.declared.Stamp.{Stamp}
use Rattle.lines.specs.Text.{figure, space, accepted_line, refused_line, point_line, last_line, row_line}
use Rattle.lines.proofs.Digits.{decimal_short}

pub accepted_short : (reach : ℕ) → length (accepted_line reach) ≤ 25
unfolding accepted_line
accepted_short reach = simp length-append (omega (arith, decimal_short reach))

pub refused_short : (number place : ℕ) → length (refused_line number place) ≤ 36
unfolding refused_line
refused_short number place = simp length-append (omega (arith, decimal_short number, decimal_short place))

pub last_short : (unsettled kept : ℕ) → length (last_line unsettled kept) ≤ 32
unfolding last_line
last_short unsettled kept = simp length-append (omega (arith, decimal_short unsettled, decimal_short kept))

pub point_short : (i : Point) (t : Stamp) (rows : ℕ) → length (point_line i t rows) ≤ 49
unfolding point_line
point_short i t rows = simp length-append (omega (arith, decimal_short i.0, decimal_short t.0, decimal_short rows))

-- a value and the space or line end beside it take at most 11 bytes
values_short : (vs : List ℕ) → length (gather (figure space) vs) ≤ 11 * length vs
values_short [] = omega arith
values_short (v ∷ vs) = simp length-append (omega (arith, decimal_short v, values_short vs))

pub row_short : (row : List ℕ) → length (row_line row) ≤ 11 * length row + 1
unfolding row_line
row_short [] = omega arith
row_short (v ∷ vs) = simp length-append (omega (arith, decimal_short v, values_short vs))
