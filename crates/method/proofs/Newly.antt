-- The points settled for a node are the first of the log, and those newly settled as it goes on are the next.
use Prim.Native.Nat.{ℕ, ◌+◌, ◌-◌, ◌≤◌}
use native.Mathlib.Omega.{arith}
use mathlib.Core.Path.{◌≡◌, sym, ◌∙◌, ap, ap₂}
use mathlib.Core.Bool.{Bool, true, false, not, ◌&&◌}
use mathlib.Core.List.{◌++◌}
use lib.Dec.{ltb, leb}
use borrow.Author.Tests.{ltb-true, ltb-false, le-leb, lt-leb}
use Rattle.meaning.specs.Lists.{select}
use Rattle.meaning.specs.Log.{Log, size, point, points_from, points_of}
use Rattle.meaning.specs.Formula.{Formula}
use Rattle.meaning.specs.Settled.{settled, settled_count}
use Rattle.meaning.specs.Keeper.{newly_settled}
use Rattle.meaning.proofs.Fine.{Fine}
use Rattle.meaning.proofs.Growth.{Extends}
use Rattle.meaning.proofs.Points.{Tested, passed, failed, tested, points_from_append}
use Rattle.method.proofs.Counted.{Counted, counted_most, count_counted, counts_grow}
use Rattle.method.proofs.Lists.{select_run}

settled_run : (l : Log) (φ : Formula) (c : ℕ) → Counted l φ c → select (settled l φ) (points_of l) ≡ points_from (point 0) c
settled_run l φ c h =
    let z : c - 0 ≡ c = omega arith in
    select_run (settled l φ) (size l) 0 c (omega arith) (counted_most l φ c h) (λ j n. rw (le-leb 0 j.0 (omega arith)) (h j)) ∙ ap (points_from (point 0)) z

pub newly_run : (l l' : Log) (φ : Formula) (c d : ℕ) → c ≤ d → Counted l φ c → Counted l' φ d → newly_settled l l' φ ≡ points_from (point c) (d - c)
unfolding newly_settled
newly_run l l' φ c d u h k = select_run (λ i. settled l' φ i && not (settled l φ i)) (size l') c d u (counted_most l' φ d k) (λ j n. rw (k j, h j) (ends j.0))
  where
    ends : (j : ℕ) → (ltb j d && not (ltb j c)) ≡ (leb c j && ltb j d)
    ends j = go (tested (ltb j c)) (ltb j d)
      where
        go : Tested (ltb j c) → (t : Bool) → (t && not (ltb j c)) ≡ (leb c j && t)
        go (passed e) true = rw (e, lt-leb c j (ltb-true j c e))
        go (passed e) false = rw (lt-leb c j (ltb-true j c e))
        go (failed e) true = rw (e, le-leb c j (ltb-false j c e))
        go (failed e) false = rw (le-leb c j (ltb-false j c e))

-- each settled point of the longer log is settled in the shorter one or newly, and not both
pub settled_then_newly : (l l' : Log) (φ : Formula) → Fine φ → Extends l l' → select (settled l φ) (points_of l) ++ newly_settled l l' φ ≡ select (settled l' φ) (points_of l')
settled_then_newly l l' φ f x =
    let c : ℕ = settled_count l φ in
    let d : ℕ = settled_count l' φ in
    let h : Counted l φ c = count_counted l φ x.before f in
    let k : Counted l' φ d = count_counted l' φ x.ordered f in
    let u : c ≤ d = counts_grow l l' x φ c d h k in
    ap₂ (λ xs ys. xs ++ ys) (settled_run l φ c h) (newly_run l l' φ c d u h k) ∙ join c d u ∙ sym (settled_run l' φ d k)
  where
    join : (c d : ℕ) → c ≤ d → points_from (point 0) c ++ points_from (point c) (d - c) ≡ points_from (point 0) d
    join c d u =
        let e : c + (d - c) ≡ d = omega arith in
        let z : 0 + c ≡ c = omega arith in
        ap (λ k. points_from (point 0) c ++ points_from (point k) (d - c)) (sym z) ∙ sym (points_from_append (point 0) c (d - c)) ∙ ap (points_from (point 0)) e
