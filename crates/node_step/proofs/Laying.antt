-- Sets of at most 32 rows each: one of them, a run of them, fewer of them, and more behind others.
use Prim.Native.Nat.{ℕ, zero, suc, ◌+◌, ◌-◌, ◌*◌, ◌≤◌, ◌<◌}
use native.Mathlib.Omega.{arith}
use mathlib.Core.Path.{◌≡◌, ap}
use mathlib.Core.List.{List}
use lib.ListN.{length, get_or}
use lib.Dec.{ltb}
use borrow.Author.Tests.{ltb-true, ltb-false}
use Rattle.meaning.specs.Outcome.{most_rows}
use Rattle.meaning.proofs.Points.{Tested, passed, failed, tested}
use Rattle.rowset.proofs.Runs.{rows_length}
use Rattle.room.specs.Room.{set_in, Sets}
use Rattle.room.proofs.SetsInOrder.{laid_fewer}
use Rattle.entries.specs.Appended.{Extended}

set_long : (rows at : List ℕ) (q : ℕ) → length (set_in rows at q) ≡ get_or at (q + 1) 0 - get_or at q 0
set_long rows at q = rows_length rows (get_or at q 0) (get_or at (q + 1) 0 - get_or at q 0)

module _ {rows at : List ℕ} {n : ℕ} (s : Sets rows at n) where
  pub set_few : (q : ℕ) → q < n → length (set_in rows at q) ≤ most_rows
  set_few q l = omega (arith, set_long rows at q, s.few q l)

  pub run_few : (q k : ℕ) → q + k ≤ n → get_or at (q + k) 0 ≤ get_or at q 0 + 32 * k
  run_few q zero l = let e : q + 0 ≡ q = omega arith in rw e (omega arith)
  run_few q (suc k) l =
      let e : q + suc k ≡ q + k + 1 = omega arith in
      rw e (omega (arith, run_few q k (omega arith), s.few (q + k) (omega arith), s.laid.steps (q + k) (omega arith)))

  pub sets_fewer : (k : ℕ) → k ≤ n → Sets rows at k
  sets_fewer k l = record { laid = laid_fewer s.laid k l; few = λ q h. s.few q (omega arith) }

  pub sets_more : {rows' at' : List ℕ} {m : ℕ} {F : ℕ → List (List ℕ)} → Extended rows at rows' at' n m F → ((k : ℕ) → k < m → length (F k) ≤ most_rows) → Sets rows' at' (n + m)
  sets_more {rows'} {at'} {m} {F} g h = record { laid = g.laid; few = λ q l. go q l (tested (ltb q n)) }
    where
      new : (k : ℕ) → k < m → get_or at' (n + k + 1) 0 - get_or at' (n + k) 0 ≤ most_rows
      new k l = omega (arith, h k l, ap length (g.sets k l), set_long rows' at' (n + k))

      go : (q : ℕ) → q < n + m → Tested (ltb q n) → get_or at' (q + 1) 0 - get_or at' q 0 ≤ most_rows
      go q l (passed t) =
          let u : q < n = ltb-true q n t in
          omega (arith, s.few q u, g.marks q (omega arith), g.marks (q + 1) (omega arith))
      go q l (failed t) =
          let u : n ≤ q = ltb-false q n t in
          let e : n + (q - n) ≡ q = omega arith in
          rw e at (new (q - n) (omega arith))

-- behind fewer sets there are fewer new ones, or none
module _ {rows at rows' at' : List ℕ} {n m : ℕ} {F : ℕ → List (List ℕ)} (g : Extended rows at rows' at' n m F) where
  pub extended_front : (k : ℕ) {G : ℕ → List (List ℕ)} → k ≤ n → Extended rows at rows' at' k 0 G
  extended_front k l =
      record {
        rows_long = g.rows_long;
        at_long = g.at_long;
        laid = laid_fewer g.laid (k + 0) (omega arith);
        marks = λ q h. g.marks q (omega arith);
        earlier = λ q h. g.earlier q (omega arith);
        sets = λ q h. absurd (omega arith);
      }
