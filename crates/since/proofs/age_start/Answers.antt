-- `age_start` meets its contract. The loop's invariant: the ages from the next place on are that of the last.
use Prim.Native.Nat.{ℕ, ◌-◌, ◌<◌}
use native.Mathlib.Nat.{eq-or-lt_of_le}
use native.Mathlib.Omega.{arith}
use mathlib.Core.Logic.{◌⊎◌, inl, inr}
use mathlib.Core.Path.{◌≡◌, ap}
use mathlib.Core.List.{List}
use lib.ListN.{get_or}
use Rattle.since.proofs.age_start.Goals as goal
use Rattle.since.proofs.age_start.Invariants.{OneAge}

one_more : (ages : List ℕ) (to x : ℕ) → get_or ages (x - 1) 0 ≡ get_or ages (to - 1) 0 → OneAge ages to x → OneAge ages to (x - 1)
one_more ages to x e h k l m = go (eq-or-lt_of_le l)
  where
    go : (x - 1 ≡ k) ⊎ (x - 1 < k) → get_or ages k 0 ≡ get_or ages (to - 1) 0
    go (inl q) = rw (← q) e
    go (inr v) = h k (omega arith) m

pub loop-x-init : goal.loop-x-init
loop-x-init c = let a = c.args in (
  omega arith,
  λ k l m.
      let e : k ≡ a.to - 1 = omega arith in
      ap (λ j. get_or a.ages.now j 0) e,
)

pub returns-then-ages-x : goal.returns-then-ages-x
returns-then-ages-x c = record { begun = omega arith; within = omega arith; alike = c.loop-x.invariant.1; other = λ m. c.if-ages-x.true }

pub loop-x-preserved : goal.loop-x-preserved
loop-x-preserved c = (omega arith, one_more c.args.ages.now c.args.to (c.loop-x.x - 1) c.if-ages-x.false c.loop-x.invariant.1)

pub returns : goal.returns
returns c = let e : c.loop-x.x - 1 ≡ c.args.from = omega arith in
    record { begun = omega arith; within = omega arith; alike = rw e at c.loop-x.invariant.1; other = λ m. absurd (omega arith) }
