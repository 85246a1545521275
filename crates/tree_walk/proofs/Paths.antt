-- The path down a tree along the first children, as it grows.
use Prim.Native.Nat.{ℕ, zero, suc, ◌+◌, ◌≤◌, ◌<◌}
use native.Mathlib.Omega.{arith}
use mathlib.Core.Path.{◌≡◌, sym, ap, ◌∙◌}
use mathlib.Core.List.{List}
use lib.ListN.{length, get_or, set}
use lib.Seq.{get_or-set_same, get_or-set_other}
use lib.Dec.{ltb}
use borrow.Author.Tests.{ltb-true, ltb-false}
use Rattle.meaning.specs.Outcome.{given}
use Rattle.meaning.specs.RuleFile.{Accepted, checking, node_count}
use Rattle.meaning.proofs.Accepted.{nodes_most}
use Rattle.meaning.proofs.Points.{Tested, passed, failed, tested}
use Rattle.method.specs.Room.{need}
use Rattle.tree_walk.specs.Tree.{first_of, HeavyPath}
use Rattle.tree_walk.proofs.Trees.{first_none, first_need}

-- k steps are noted, and y is the next node
pub record Noted (b path : List ℕ) (k y x : ℕ) : Type 0 where
  pub top : get_or path 0 0 ≡ x
  pub down : (j : ℕ) → j < k → get_or path (j + 1) 0 ≡ first_of b (get_or path j 0)
  pub lower : (j : ℕ) → j < k → get_or path (j + 1) 0 < get_or path j 0
  pub next : y ≡ first_of b (get_or path k 0)
  pub falls : k + get_or path k 0 ≤ x

pub noted_none : (b path : List ℕ) (y x : ℕ) → 0 < length path → y ≡ first_of b x → Noted b (set path 0 x) 0 y x
noted_none b path y x l e =
    let t : get_or (set path 0 x) 0 0 ≡ x = get_or-set_same path 0 x 0 l in
    record { top = t; down = λ j u. absurd (omega arith); lower = λ j u. absurd (omega arith); next = e ∙ ap (first_of b) (sym t); falls = omega (arith, t) }

module _ {b path : List ℕ} {k y x : ℕ} (h : Noted b path k y x) where
  pub noted_more : (z : ℕ) → y < get_or path k 0 → k + 1 < length path → z ≡ first_of b y → Noted b (set path (k + 1) y) (k + 1) z x
  noted_more z l u e =
      record {
        top = same 0 (omega arith) ∙ h.top;
        down = λ j v. step_down j v (tested (ltb j k));
        lower = λ j v. step_lower j v (tested (ltb j k));
        next = e ∙ ap (first_of b) (sym last);
        falls = omega (arith, last, h.falls);
      }
    where
      same : (j : ℕ) → j ≤ k → get_or (set path (k + 1) y) j 0 ≡ get_or path j 0
      same j v = get_or-set_other path (k + 1) j y 0 (omega arith)

      last : get_or (set path (k + 1) y) (k + 1) 0 ≡ y
      last = get_or-set_same path (k + 1) y 0 u

      step_down : (j : ℕ) → j < k + 1 → Tested (ltb j k) → get_or (set path (k + 1) y) (j + 1) 0 ≡ first_of b (get_or (set path (k + 1) y) j 0)
      step_down j v (passed t) = let i : j < k = ltb-true j k t in same (j + 1) (omega arith) ∙ h.down j i ∙ ap (first_of b) (sym (same j (omega arith)))
      step_down j v (failed t) = let i : j ≡ k = omega (arith, ltb-false j k t) in rw i (last ∙ h.next ∙ ap (first_of b) (sym (same k (omega arith))))

      step_lower : (j : ℕ) → j < k + 1 → Tested (ltb j k) → get_or (set path (k + 1) y) (j + 1) 0 < get_or (set path (k + 1) y) j 0
      step_lower j v (passed t) = let i : j < k = ltb-true j k t in omega (arith, same (j + 1) (omega arith), h.lower j i, same j (omega arith))
      step_lower j v (failed t) = let i : j ≡ k = omega (arith, ltb-false j k t) in rw i (omega (arith, last, same k (omega arith)))

  pub noted_all : (a : Accepted) → checking b ≡ given a → x < node_count b → 32 ≤ length path → (y < get_or path k 0 → ⊥) → HeavyPath b path k x
  noted_all a ok o l n =
      record {
        within = omega (arith, h.falls, nodes_most b a ok);
        top = h.top;
        down = h.down;
        lower = h.lower;
        leaf = first_none b a ok (get_or path k 0) (omega (arith, h.falls)) (λ u. n (omega (arith, h.next)));
      }

module _ {b path : List ℕ} {n x : ℕ} (h : HeavyPath b path n x) where
  -- its nodes are no higher than the first
  pub path_low : (k : ℕ) → k ≤ n → get_or path k 0 ≤ x
  path_low zero l = omega (arith, h.top)
  path_low (suc k) l = let e : k + 1 ≡ suc k = omega arith in omega (arith, ap (λ j. get_or path j 0) e, h.lower k (omega arith), path_low k (omega arith))

  -- and their trees take no more room
  pub path_need : (a : Accepted) → checking b ≡ given a → x < node_count b → (size : ℕ → ℕ) (k : ℕ) → k ≤ n → need b size (get_or path k 0) ≤ need b size x
  path_need a ok o size zero l = rw h.top (omega arith)
  path_need a ok o size (suc k) l =
      let e : k + 1 ≡ suc k = omega arith in
      let d = h.down k (omega arith) in
      omega (
        arith,
        ap (λ j. need b size (get_or path j 0)) e,
        ap (need b size) d,
        first_need b a ok (get_or path k 0) (omega (arith, path_low k (omega arith))) size (omega (arith, d, h.lower k (omega arith))),
        path_need a ok o size k (omega arith),
      )
