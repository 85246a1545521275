-- A run ascends where each item stands before the next; the ages of pairs that ascend don't fall, so that they are parted at a bound.
use Prim.Native.Nat.{ℕ, zero, suc, ◌+◌, ◌-◌, ◌≤◌, ◌<◌}
use native.Mathlib.Nat.{eq-or-lt_of_le}
use native.Mathlib.Numerals.{add-one}
use native.Mathlib.Omega.{arith}
use mathlib.Core.Path.{◌≡◌, refl}
use mathlib.Core.Bool.{true, false, ◌&&◌}
use mathlib.Core.Logic.{◌⊎◌, inl, inr}
use mathlib.Core.List.{List, ◌∷◌, map}
use lib.ListN.{length, get_or, take}
use Rattle.std.specs.List.Sorted.{IsNonDecreasingBy, IsPartitionPoint}
use lib.Dec.{ltb, eqb}
use Rattle.std.proofs.lemmas.List.{get_or-take, length-take-le}
use Rattle.std.proofs.lemmas.Grind.{get_or_default_zero}
use borrow.Author.Tests.{ltb-true, ltb-false, lt-ltb, le-ltb, eqb-true, eq-eqb}
use Rattle.meaning.specs.Lists.{range}
use Rattle.meaning.specs.Order.{before, ascending}
use Rattle.meaning.proofs.Points.{first, second}
use Rattle.meaning.proofs.Rows.{either}
use Rattle.rowset.specs.Rows.{row_at}
use Rattle.kinds.specs.Kinds.{pair_at, pairs_from}
use Rattle.pairs.specs.Pairs.{Rising, Below}

pub ascends_run : (lowest : ℕ) (at : ℕ → List ℕ) (a n : ℕ) → ((k : ℕ) → a ≤ k → k + 1 < a + n → before lowest (at k) (at (k + 1)) ≡ true) → ascending lowest (map at (range a n)) ≡ true
ascends_run lowest at a zero h = refl
ascends_run lowest at a (suc zero) h = refl
ascends_run lowest at a (suc (suc n)) h =
    let e : before lowest (at a) (at (suc a)) ≡ true = rw (add-one a) at (h a (omega arith) (omega arith)) in
    rw e (ascends_run lowest at (suc a) (suc n) (λ k l m. h k (omega arith) (omega arith)))

pub run_ascends : (lowest : ℕ) (at : ℕ → List ℕ) (a n : ℕ) → ascending lowest (map at (range a n)) ≡ true → (k : ℕ) → a ≤ k → k + 1 < a + n → before lowest (at k) (at (k + 1)) ≡ true
run_ascends lowest at a zero h k l m = absurd (omega arith)
run_ascends lowest at a (suc zero) h k l m = absurd (omega arith)
run_ascends lowest at a (suc (suc n)) h k l m =
    go (eq-or-lt_of_le l) (λ v. run_ascends lowest at (suc a) (suc n) (second (before lowest (at a) (at (suc a))) (ascending lowest (map at (range (suc a) (suc n)))) h) k (omega arith) (omega arith))
  where
    go : (a ≡ k) ⊎ (a < k) → (a < k → before lowest (at k) (at (k + 1)) ≡ true) → before lowest (at k) (at (k + 1)) ≡ true
    go (inl e) rest = rw (← e, add-one a) (first (before lowest (at a) (at (suc a))) (ascending lowest (map at (range (suc a) (suc n)))) h)
    go (inr v) rest = rest v

-- a pair that stands before another isn't older, and stands before it when both have grown older
module _ (lowest a b : ℕ) (x y : List ℕ) (e : before (suc lowest) (a ∷ x) (b ∷ y) ≡ true) where
  pub age_rises : a ≤ b
  age_rises = go (either (ltb a b) (eqb a b && before lowest x y) e)
    where
      go : (ltb a b ≡ true) ⊎ ((eqb a b && before lowest x y) ≡ true) → a ≤ b
      go (inl p) = omega (arith, ltb-true a b p)
      go (inr p) = omega (arith, eqb-true a b (first (eqb a b) (before lowest x y) p))

  pub both_grown : (by : ℕ) → before (suc lowest) ((a + by) ∷ x) ((b + by) ∷ y) ≡ true
  both_grown by = go (either (ltb a b) (eqb a b && before lowest x y) e)
    where
      go : (ltb a b ≡ true) ⊎ ((eqb a b && before lowest x y) ≡ true) → before (suc lowest) ((a + by) ∷ x) ((b + by) ∷ y) ≡ true
      go (inl p) = rw (lt-ltb (a + by) (b + by) (omega (arith, ltb-true a b p)))
      go (inr p) =
          let same : a ≡ b = eqb-true a b (first (eqb a b) (before lowest x y) p) in
          rw (le-ltb (a + by) (b + by) (omega arith), eq-eqb (a + by) (b + by) (omega arith)) (second (eqb a b) (before lowest x y) p)

-- pairs that ascend
module _ (lowest : ℕ) (ages values : List ℕ) (n : ℕ) (up : ascending (suc lowest) (pairs_from ages values 0 n) ≡ true) where
  pub next_before : (k : ℕ) → k + 1 < n → before (suc lowest) (pair_at ages values k) (pair_at ages values (k + 1)) ≡ true
  unfolding pairs_from
  next_before k l = run_ascends (suc lowest) (pair_at ages values) 0 n up k (omega arith) (omega arith)

  later : (j d : ℕ) → j + d < n → get_or ages j 0 ≤ get_or ages (j + d) 0
  later j zero l =
      let e : j + 0 ≡ j = omega arith in
      rw e (omega arith)
  later j (suc d) l =
      let e : j + suc d ≡ j + d + 1 = omega arith in
      let h = later j d (omega arith) in
      rw e (omega (arith, age_rises lowest (get_or ages (j + d) 0) (get_or ages (j + d + 1) 0) (row_at values (j + d)) (row_at values (j + d + 1)) (next_before (j + d) (omega arith))))

  pub rising : Rising ages n
  rising j k l m =
      let e : j + (k - j) ≡ k = omega arith in
      rw e at (later j (k - j) (omega arith))

  pub fewer_ascend : (m : ℕ) → m ≤ n → ascending (suc lowest) (pairs_from ages values 0 m) ≡ true
  unfolding pairs_from
  fewer_ascend m l = ascends_run (suc lowest) (pair_at ages values) 0 m (λ k a b. next_before k (omega arith))

-- the first n ages don't fall, and so they are parted at a bound
module _ (ages : List ℕ) (n by : ℕ) (l : n ≤ length ages) where
  pub first_rise : Rising ages n → IsNonDecreasingBy (λ age. age + by) (take n ages)
  first_rise up j k d h m =
      let e = length-take-le n ages l in
      let v : k < n = omega arith in
      rw (get_or-take n ages j d (omega arith), get_or-take n ages k d v, get_or_default_zero ages j d (omega arith), get_or_default_zero ages k d (omega arith)) (omega (arith, up j k h v))

  pub below_parted : (bound m : ℕ) → m ≤ length (take n ages) → IsPartitionPoint (λ age. ltb (age + by) bound ≡ true) (λ age. ltb (age + by) bound ≡ false) (take n ages) m → Below ages n by bound m
  below_parted bound m h p =
      let e = length-take-le n ages l in
      record {
        most = omega arith;
        below = λ k v. ltb-true (get_or ages k 0 + by) bound (rw (get_or-take n ages k 0 (omega arith)) at (p.0 k 0 (omega arith) v));
        others = λ k v w. ltb-false (get_or ages k 0 + by) bound (rw (get_or-take n ages k 0 w) at (p.1 k 0 v (omega arith)));
      }
