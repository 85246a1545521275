-- In an accepted rule every node but the last is a child of just one node, which parent_of finds.
use Prim.Native.Nat.{ℕ, zero, suc, ◌+◌, ◌-◌, ◌≤◌, ◌<◌}
use native.Mathlib.Nat.{eq-or-lt_of_le}
use native.Mathlib.Omega.{arith}
use mathlib.Core.Path.{◌≡◌, refl}
use mathlib.Core.Bool.{Bool, true, false, cond}
use mathlib.Core.Logic.{◌⊎◌, inl, inr, ◌↔◌}
use mathlib.Core.List.{List, [], ◌∷◌, Memᴰ}
use lib.Dec.{eqb}
use borrow.Author.Tests.{eqb-true, eq-eqb}
use Rattle.meaning.specs.Lists.{range, gather, first_or, occurrences}
use Rattle.meaning.specs.Outcome.{given}
use Rattle.meaning.specs.RuleFile.{Accepted, checking, node_count, node_at, children_of, is_one_of, times_child}
use Rattle.meaning.specs.Kept.{parent_of}
use Rattle.meaning.proofs.Lists.{occurrences_append}
use Rattle.meaning.proofs.Rows.{any_at, any_of}
use Rattle.meaning.proofs.Points.{Tested, passed, failed, tested}
use Rattle.meaning.proofs.Accepted.{accepted, lower}

-- ---- how often a number stands in gathered lists

occ_mem : (y : ℕ) {xs : List ℕ} → Memᴰ y xs → 1 ≤ occurrences y xs
occ_mem y (Memᴰ.head {x = x} {xs = xs} e) = rw (eq-eqb y x e) (omega arith)
occ_mem y (Memᴰ.tail {x = x} {xs = xs} m) = go (eqb y x) (occ_mem y m)
  where
    go : (t : Bool) → 1 ≤ occurrences y xs → 1 ≤ cond t (suc (occurrences y xs)) (occurrences y xs)
    go true h = omega arith
    go false h = h

mem_occ : (y : ℕ) (xs : List ℕ) → 1 ≤ occurrences y xs → Memᴰ y xs
mem_occ y [] h = absurd (omega arith)
mem_occ y (x ∷ xs) h = go (tested (eqb y x)) (mem_occ y xs)
  where
    go : Tested (eqb y x) → (1 ≤ occurrences y xs → Memᴰ y xs) → Memᴰ y (x ∷ xs)
    go (passed e) rest = Memᴰ.head (eqb-true y x e)
    go (failed e) rest = Memᴰ.tail (rest (rw e at h))

module _ (f : ℕ → List ℕ) (y : ℕ) where
  occ_in : (x a n : ℕ) → a ≤ x → x < a + n → Memᴰ y (f x) → 1 ≤ occurrences y (gather f (range a n))
  occ_in x a zero u o m = absurd (omega arith)
  occ_in x a (suc n) u o m = rw occurrences_append (go (eq-or-lt_of_le u) (λ v. occ_in x (suc a) n v (omega arith) m))
    where
      go : (a ≡ x) ⊎ (a < x) → (a < x → 1 ≤ occurrences y (gather f (range (suc a) n))) → 1 ≤ occurrences y (f a) + occurrences y (gather f (range (suc a) n))
      go (inl e) rest = let h : 1 ≤ occurrences y (f a) = rw e (occ_mem y m) in omega arith
      go (inr e) rest = omega (arith, rest e)

  occ_two : (z x a n : ℕ) → a ≤ z → z < x → x < a + n → Memᴰ y (f z) → Memᴰ y (f x) → 2 ≤ occurrences y (gather f (range a n))
  occ_two z x a zero u v o m k = absurd (omega arith)
  occ_two z x a (suc n) u v o m k = rw occurrences_append (go (eq-or-lt_of_le u) (λ t. occ_two z x (suc a) n t v (omega arith) m k))
    where
      go : (a ≡ z) ⊎ (a < z) → (a < z → 2 ≤ occurrences y (gather f (range (suc a) n))) → 2 ≤ occurrences y (f a) + occurrences y (gather f (range (suc a) n))
      go (inl e) rest = let h : 1 ≤ occurrences y (f a) = rw e (occ_mem y m) in omega (arith, occ_in x (suc a) n (omega arith) (omega arith) k)
      go (inr e) rest = omega (arith, rest e)

  occ_some : (a n : ℕ) → 1 ≤ occurrences y (gather f (range a n)) → (x : ℕ) × (a ≤ x) × (x < a + n) × Memᴰ y (f x)
  occ_some a zero h = absurd (omega arith)
  occ_some a (suc n) h = go (tested (eqb (occurrences y (f a)) 0)) (occ_some (suc a) n)
    where
      sum : occurrences y (gather f (range a (suc n))) ≡ occurrences y (f a) + occurrences y (gather f (range (suc a) n))
      sum = occurrences_append y (f a) (gather f (range (suc a) n))

      go : Tested (eqb (occurrences y (f a)) 0) → (1 ≤ occurrences y (gather f (range (suc a) n)) → (x : ℕ) × (suc a ≤ x) × (x < suc a + n) × Memᴰ y (f x)) → (x : ℕ) × (a ≤ x) × (x < a + suc n) × Memᴰ y (f x)
      go (passed e) rest = let r = rest (omega (arith, sum, eqb-true (occurrences y (f a)) 0 e)) in (r.0, omega (arith, r.1), omega (arith, r.2), r.3)
      go (failed e) rest = (a, omega arith, omega arith, mem_occ y (f a) (some (occurrences y (f a)) e))
        where
          some : (k : ℕ) → eqb k 0 ≡ false → 1 ≤ k
          some zero d = let q : ◌≡◌ {A = Bool} true false = d in let z : ◌≡◌ {A = ℕ} 0 1 = cc in absurd (omega arith)
          some (suc k) d = omega arith

-- the first of a run that passes a test
first_at : (p : ℕ → Bool) (x a n d : ℕ) → a ≤ x → x < a + n → p x ≡ true → ((z : ℕ) → a ≤ z → z < x → p z ≡ false) → first_or p (range a n) d ≡ x
first_at p x a zero d u o e h = absurd (omega arith)
first_at p x a (suc n) d u o e h = go (eq-or-lt_of_le u) (λ v. first_at p x (suc a) n d v (omega arith) e (λ z t. h z (omega arith)))
  where
    go : (a ≡ x) ⊎ (a < x) → (a < x → first_or p (range (suc a) n) d ≡ x) → cond (p a) a (first_or p (range (suc a) n) d) ≡ x
    go (inl q) rest = let t : p a ≡ true = rw q e in rw t q
    go (inr v) rest = rw (h a (omega arith) v) (rest v)

-- ---- parents

pub is_one_of_lem : (ks : List ℕ) (k : ℕ) → (is_one_of ks k ≡ true) ↔ Memᴰ k ks
is_one_of_lem ks k = (λ e. let (y, m, h) = any_at (eqb k) ks e in rw (eqb-true k y h) m, λ m. any_of (eqb k) m (eq-eqb k k refl))

module _ (b : List ℕ) (a : Accepted) (ok : checking b ≡ given a) where
  pub parent_is : (x : ℕ) → x < node_count b → (y : ℕ) → Memᴰ y (children_of (node_at b x)) → parent_of b y ≡ x
  unfolding parent_of times_child
  parent_is x o y m =
      let under : y < x = lower b (node_count b) (accepted b a ok).each x o x (omega arith) y m in
      first_at (λ z. is_one_of (children_of (node_at b z)) y) x 0 (node_count b) 0 (omega arith) (omega arith) ((is_one_of_lem (children_of (node_at b x)) y).1 m)
      (λ z u v. others under z v (tested (is_one_of (children_of (node_at b z)) y)))
    where
      others : y < x → (z : ℕ) → z < x → Tested (is_one_of (children_of (node_at b z)) y) → is_one_of (children_of (node_at b z)) y ≡ false
      others under z v (passed e) = absurd (omega (arith, (accepted b a ok).once y (omega arith), occ_two (λ z. children_of (node_at b z)) y z x 0 (node_count b) (omega arith) v (omega arith) ((is_one_of_lem (children_of (node_at b z)) y).0 e) m))
      others under z v (failed e) = e

  -- a node that isn't the last has a parent
  pub has_parent : (y : ℕ) → y < node_count b - 1 → (x : ℕ) × (x < node_count b) × Memᴰ y (children_of (node_at b x))
  unfolding times_child
  has_parent y o =
      let r = occ_some (λ z. children_of (node_at b z)) y 0 (node_count b) (omega (arith, (accepted b a ok).once y o)) in
      (r.0, omega (arith, r.2), r.3)
