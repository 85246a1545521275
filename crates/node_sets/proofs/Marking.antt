-- Marks where each point's rows end, entry after entry; and marks raised one after the other: none yet, one more, and all.
use Prim.Native.Nat.{ℕ, ◌+◌, ◌≤◌, ◌<◌}
use mathlib.Core.Path.{◌≡◌, refl, ap, ◌∙◌}
use mathlib.Core.List.{List}
use native.Mathlib.Omega.{arith}
use lib.ListN.{length, get_or, set, length-set}
use lib.Seq.{get_or-set_same, get_or-set_other}
use lib.Dec.{ltb}
use borrow.Author.Tests.{ltb-true, ltb-false}
use Rattle.meaning.proofs.Points.{Tested, passed, failed, tested}
use Rattle.node_sets.specs.Parts.{EndsMarked, MarksRaised}

-- the entries from cursor to i are marked
pub record Marking (ns : List ℕ) (cursor count low : ℕ) (old new : List ℕ) (sets end i : ℕ) : Type 0 where
  pub begun : cursor ≤ i
  pub reached : i ≤ count
  pub done : EndsMarked ns cursor i low old new sets end

-- k of the marks are raised, m is the last of them, and those behind it are as they were
pub record Raising (old new : List ℕ) (sets n m k : ℕ) : Type 0 where
  pub reached : k ≤ n
  pub last : get_or new (sets + k) 0 ≡ m
  pub done : MarksRaised old new sets k
  pub behind : (q : ℕ) → sets + k < q → get_or new q 0 ≡ get_or old q 0

pub raised_none : (at : List ℕ) (sets n : ℕ) → Raising at at sets n (get_or at sets 0) 0
raised_none at sets n =
    let e : sets + 0 ≡ sets = omega arith in
    record {
      reached = omega arith;
      last = rw e refl;
      done = record {
        long = refl;
        below = λ q l. refl;
        over = λ j k a b. let d : j ≡ k = omega arith in rw d (omega arith);
        most = λ k b l f. f k (omega arith);
      };
      behind = λ q l. refl;
    }

module _ {old new : List ℕ} {sets n m k : ℕ} (t : Raising old new sets n m k) where
  module _ (l : k < n) (room : sets + n < length old) (m' : ℕ) (up : m ≤ m') (over : get_or old (sets + (k + 1)) 0 ≤ m') (most : (b : ℕ) → m ≤ b → get_or old (sets + (k + 1)) 0 ≤ b → m' ≤ b)
      {new' : List ℕ} (e : new' ≡ set new (sets + (k + 1)) m') where
    raised : get_or new' (sets + (k + 1)) 0 ≡ m'
    raised = ap (λ ms. get_or ms (sets + (k + 1)) 0) e ∙ get_or-set_same new (sets + (k + 1)) m' 0 (omega (arith, t.done.long))

    others : (q : ℕ) → (q ≡ sets + (k + 1) → ⊥) → get_or new' q 0 ≡ get_or new q 0
    others q d = ap (λ ms. get_or ms q 0) e ∙ get_or-set_other new (sets + (k + 1)) q m' 0 d

    raised_over : (j i : ℕ) → j ≤ i → i ≤ k + 1 → Tested (ltb i (k + 1)) → Tested (ltb j (k + 1)) → get_or old (sets + j) 0 ≤ get_or new' (sets + i) 0
    raised_over j i a b (passed u) v =
        let h : i < k + 1 = ltb-true i (k + 1) u in
        rw (others (sets + i) (omega arith)) (t.done.over j i a (omega arith))
    raised_over j i a b (failed u) (passed v) =
        let h : i ≡ k + 1 = omega (arith, ltb-false i (k + 1) u) in
        let g : j < k + 1 = ltb-true j (k + 1) v in
        rw h (omega (arith, raised, t.last, t.done.over j k (omega arith) (omega arith)))
    raised_over j i a b (failed u) (failed v) =
        let h : i ≡ k + 1 = omega (arith, ltb-false i (k + 1) u) in
        let g : j ≡ k + 1 = omega (arith, ltb-false j (k + 1) v) in
        rw (h, g) (omega (arith, raised))

    raised_most : (i b : ℕ) → i ≤ k + 1 → ((j : ℕ) → j ≤ i → get_or old (sets + j) 0 ≤ b) → Tested (ltb i (k + 1)) → get_or new' (sets + i) 0 ≤ b
    raised_most i b a f (passed u) =
        let h : i < k + 1 = ltb-true i (k + 1) u in
        rw (others (sets + i) (omega arith)) (t.done.most i b (omega arith) f)
    raised_most i b a f (failed u) =
        let h : i ≡ k + 1 = omega (arith, ltb-false i (k + 1) u) in
        let c : m ≤ b = omega (arith, t.last, t.done.most k b (omega arith) (λ j d. f j (omega arith))) in
        rw h (omega (arith, raised, most b c (f (k + 1) (omega arith))))

    pub raised_more : Raising old new' sets n m' (k + 1)
    raised_more =
        record {
          reached = omega arith;
          last = raised;
          done = record {
            long = ap length e ∙ length-set new (sets + (k + 1)) m' ∙ t.done.long;
            below = λ q h. others q (omega arith) ∙ t.done.below q h;
            over = λ j i a b. raised_over j i a b (tested (ltb i (k + 1))) (tested (ltb j (k + 1)));
            most = λ i b a f. raised_most i b a f (tested (ltb i (k + 1)));
          };
          behind = λ q h. others q (omega arith) ∙ t.behind q (omega arith);
        }

  pub raised_all : n ≤ k → MarksRaised old new sets n
  raised_all l =
      let e : k ≡ n = omega (arith, t.reached) in
      rw e at t.done
