-- An event that is read has at most 162 words, and no more than are there.
use Prim.Native.Nat.{ℕ, ◌+◌, ◌*◌, ◌≤◌}
use native.Mathlib.Omega.{arith}
use mathlib.Core.Path.{◌≡◌, refl}
use mathlib.Core.Bool.{Bool, true, false, cond, ◌||◌}
use mathlib.Core.List.{List}
use lib.ListN.{length}
use lib.Dec.{ltb, eqb}
use borrow.Author.Tests.{ltb-false}
use Rattle.meaning.specs.Outcome.{most_rows}
use Rattle.lines.specs.Input.{rows_asked, next_in}
use Rattle.lines.specs.declared.input.Next.TheVariants.{Event, Cut, Ended}

by_tests : (none short above part : Bool) (m n long : ℕ) → (above ≡ false → m ≤ 32) → (part ≡ false → 8 + 20 * m ≤ long) → cond none Ended (cond (short || above || part) Cut (Event (2 + 5 * m))) ≡ Event n → (n ≤ 162) × (4 * n ≤ long)
by_tests true short above part m n long h l e = let z : ◌≡◌ {A = ℕ} 0 1 = cc in absurd (omega arith)
by_tests false true above part m n long h l e = let z : ◌≡◌ {A = ℕ} 0 1 = cc in absurd (omega arith)
by_tests false false true part m n long h l e = let z : ◌≡◌ {A = ℕ} 0 1 = cc in absurd (omega arith)
by_tests false false false true m n long h l e = let z : ◌≡◌ {A = ℕ} 0 1 = cc in absurd (omega arith)
by_tests false false false false m n long h l e =
    let z : 2 + 5 * m ≡ n = cc in
    (omega (arith, h refl), omega (arith, l refl))

pub event_there : (bytes : List ℕ) (n : ℕ) → next_in bytes ≡ Event n → (n ≤ 162) × (4 * n ≤ length bytes)
unfolding next_in
event_there bytes n = by_tests (eqb (length bytes) 0) (ltb (length bytes) 8) (ltb most_rows (rows_asked bytes)) (ltb (length bytes) (8 + 20 * rows_asked bytes)) (rows_asked bytes) n (length bytes) (ltb-false most_rows (rows_asked bytes)) (ltb-false (length bytes) (8 + 20 * rows_asked bytes))
