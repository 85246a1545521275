-- `put_in` meets its contract: the pairs behind the place, if there are any, have moved up, and the pair is put there.
use Prim.Native.Nat.{ℕ, ◌+◌, ◌-◌, ◌≤◌, ◌<◌}
use native.Mathlib.Omega.{arith}
use mathlib.Core.Path.{◌≡◌, ap₂, ◌∙◌}
use mathlib.Core.List.{◌∷◌}
use Rattle.rowset.proofs.Runs.{run_shifted, rows_below, rows_above}
use Rattle.kinds.specs.Kinds.{pair_at, pairs_from}
use Rattle.pairs.proofs.Runs.{pair_replaced}
use Rattle.pairs.proofs.put_in.Goals.{then-p-n, else-p-n}
use Rattle.pairs.proofs.put_in.Goals as goal

pub returns : goal.returns
unfolding pairs_from
returns c = let a = c.args in
    let us = c.if-p-n.ages in
    let vs = c.if-p-n.values in
    let put = pair_replaced us vs a.p a.age a.r (omega arith) (omega arith) c.put_row.ensures in
    let low : (k : ℕ) → k < a.p → pair_at us vs k ≡ pair_at a.ages.now a.values.now k = λ k l.
    elim c.if-p-n.branch [
      | then-p-n w ↦
          let f = w.copy_within.ensures in
          let h = w.copy_within-then-p-n.ensures in
          ap₂ (λ xs ys. pair_at xs ys k) w.ages-is w.values-is
          ∙ ap₂ (λ x y. x ∷ y) (f.by_index.1 k 0 (omega arith)) (rows_below a.values.now w.copy_within-then-p-n.new.self a.n a.p h.by_index.0 h.by_index.1 k (omega arith))
      | else-p-n w ↦ ap₂ (λ xs ys. pair_at xs ys k) w.ages-is w.values-is
    ] in
    let high : (k : ℕ) → a.p ≤ k → k < a.n → pair_at us vs (k + 1) ≡ pair_at a.ages.now a.values.now k = λ k l m.
    elim c.if-p-n.branch [
      | then-p-n w ↦
          let f = w.copy_within.ensures in
          let h = w.copy_within-then-p-n.ensures in
          let e : a.p + (k + 1 - (a.p + 1)) ≡ k = omega arith in
          ap₂ (λ xs ys. pair_at xs ys (k + 1)) w.ages-is w.values-is
          ∙ ap₂ (λ x y. x ∷ y) (rw e at (f.by_index.0 (k + 1) 0 (omega arith) (omega arith))) (rows_above a.values.now w.copy_within-then-p-n.new.self a.n a.p h.by_index.0 h.by_index.1 k l m)
      | else-p-n w ↦ absurd (omega arith)
    ] in
    run_shifted c.requires.0
    (record {
      below = λ k l. put.others k (omega arith) ∙ low k l;
      here = put.here;
      above = λ k l m. put.others (k + 1) (omega arith) ∙ high k l m;
    })
