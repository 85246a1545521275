-- Words put one after the other behind others: none yet, and one more.
use Prim.Native.Nat.{ℕ, ◌+◌, ◌<◌}
use mathlib.Core.Path.{◌≡◌, refl, ◌∙◌}
use mathlib.Core.List.{List}
use native.Mathlib.Omega.{arith}
use lib.ListN.{length, get_or, set, length-set}
use lib.Seq.{get_or-set_same, get_or-set_other}
use lib.Dec.{ltb}
use borrow.Author.Tests.{ltb-true, ltb-false}
use Rattle.meaning.proofs.Points.{Tested, passed, failed, tested}
use Rattle.entries.specs.Appended.{WordsPut}

pub put_none : (ws : List ℕ) (end : ℕ) (f : ℕ → ℕ) → WordsPut ws end ws 0 f
put_none ws end f = record { long = refl; below = λ j l. refl; there = λ k l. absurd (omega arith); behind = λ j l. refl }

module _ {old : List ℕ} {end : ℕ} {new : List ℕ} {k : ℕ} (f : ℕ → ℕ) (t : WordsPut old end new k f) (x : ℕ) (is : x ≡ f k) (l : end + k < length new) where
  word_there : (j : ℕ) → j < k + 1 → get_or (set new (end + k) x) (end + j) 0 ≡ f j
  word_there j m = go (tested (ltb j k))
    where
      go : Tested (ltb j k) → get_or (set new (end + k) x) (end + j) 0 ≡ f j
      go (passed p) =
          let b : j < k = ltb-true j k p in
          get_or-set_other new (end + k) (end + j) x 0 (omega arith) ∙ t.there j b
      go (failed p) =
          let e : j ≡ k = omega (arith, ltb-false j k p) in
          rw e (get_or-set_same new (end + k) x 0 l ∙ is)

  pub put_more : WordsPut old end (set new (end + k) x) (k + 1) f
  put_more =
      record {
        long = length-set new (end + k) x ∙ t.long;
        below = λ j m. get_or-set_other new (end + k) j x 0 (omega arith) ∙ t.below j m;
        there = word_there;
        behind = λ j m. get_or-set_other new (end + k) j x 0 (omega arith) ∙ t.behind j (omega arith);
      }
