-- Runs of pairs in words: none, how many, one of them, and after a pair was put in place of another.
use Prim.Native.Nat.{ℕ, ◌+◌, ◌*◌, ◌≤◌, ◌<◌}
use mathlib.Core.Path.{◌≡◌, refl, ap₂}
use mathlib.Core.List.{List, [], ◌∷◌}
use native.Mathlib.Omega.{arith}
use lib.ListN.{length, get_or, set}
use lib.Seq.{get_or-set_same, get_or-set_other}
use Rattle.rowset.specs.declared.Row.{Row}
use Rattle.rowset.specs.Rows.{words_of, set_row}
use Rattle.rowset.proofs.Runs.{run_length, run_at, put_same, put_other, Replaced}
use Rattle.kinds.specs.Kinds.{pair_at, pairs_from}

module _ (ages values : List ℕ) where
  pub pairs_none : pairs_from ages values 0 0 ≡ []
  unfolding pairs_from
  pairs_none = refl

  pub pairs-length : (a n : ℕ) → length (pairs_from ages values a n) ≡ n
  unfolding pairs_from
  pairs-length a n = run_length (pair_at ages values) a n

  pub pairs_at : (n k : ℕ) → k < n → get_or (pairs_from ages values 0 n) k [] ≡ pair_at ages values k
  unfolding pairs_from
  pairs_at n k l =
      let z : 0 + k ≡ k = omega arith in
      rw z at (run_at (pair_at ages values) [] 0 n k l)

  pub pair_replaced : (k age : ℕ) (r : Row) → k < length ages → k * 4 + 4 ≤ length values → {values' : List ℕ} → values' ≡ set_row values k r → Replaced (pair_at ages values) (pair_at (set ages k age) values') k (age ∷ words_of r)
  pair_replaced k age r l m e =
      rw e
      (record {
        here = ap₂ (λ x y. x ∷ y) (get_or-set_same ages k age 0 l) (put_same values k r m);
        others = λ j n. ap₂ (λ x y. x ∷ y) (get_or-set_other ages k j age 0 (omega arith)) (put_other values k r j n);
      })
