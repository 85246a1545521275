-- Retained times and counts of settled points: the least of the counts, times that don't fall, and counts from where none is below.
use Rattle.std.specs.Prelude.{MatchBool}
use Rattle.std.specs.List.{fold}
use Rattle.std.specs.List.Sorted.{IsNonDecreasing}
use Prim.Native.Nat.{ℕ, zero, suc, ◌+◌, ◌-◌, ◌≤◌, ◌<◌, min}
use native.Mathlib.Omega.{arith}
use mathlib.Core.Path.{◌≡◌, refl, sym, ap, ap₂, ◌∙◌}
use mathlib.Core.Bool.{Bool, true, false, ◌&&◌}
use mathlib.Core.List.{List, [], ◌∷◌, ◌++◌}
use lib.ListN.{length, get_or, replicate, get_or-replicate}
use lib.Dec.{leb}
use borrow.Author.Tests.{le-leb, leb-true}
use Rattle.meaning.proofs.Points.{first, second, both, Tested, passed, failed, tested}
use Rattle.meaning.specs.Log.{point}
use Rattle.meaning.specs.View.{view_of}
use Rattle.meaning.specs.RuleFile.{node_count, node_at}
use Rattle.meaning.specs.declared.Point.{Point}
use Rattle.meaning.specs.declared.Stamp.{Stamp}
use Rattle.meaning.specs.declared.LogEnd.{LogEnd}
use Rattle.method.specs.Stored.{stamp_in, least_of}
use Rattle.method.specs.Counts.{advance, counts_to}
use Rattle.method.specs.WellFormed.{not_falling}
use Rattle.progress.specs.Filled.{Filled}
use Rattle.formed.specs.Parts.{counts_in, CountsStand}

-- ---- the least

least_most : (n x : ℕ) (cs : List ℕ) → least_of (min n x) cs ≡ min x (least_of n cs)
least_most n x [] = omega arith
least_most n x (c ∷ cs) = omega (arith, least_most n x cs)

-- it is found from the first count on too
pub least_folds : (n : ℕ) (cs : List ℕ) → fold min n cs ≡ least_of n cs
least_folds n [] = refl
least_folds n (c ∷ cs) = least_folds (min n c) cs ∙ least_most n c cs

-- ---- times that don't fall

rises : (ts : List ℕ) → ((k : ℕ) → suc k < length ts → get_or ts k 0 ≤ get_or ts (suc k) 0) → not_falling ts ≡ true
rises [] h = refl
rises (t ∷ []) h = refl
rises (t ∷ u ∷ ts) h = both (le-leb t u (h 0 (omega arith))) (rises (u ∷ ts) (λ k l. h (suc k) (omega arith)))

rose : (ts : List ℕ) → not_falling ts ≡ true → (k : ℕ) → suc k < length ts → get_or ts k 0 ≤ get_or ts (suc k) 0
rose [] t k l = absurd (omega arith)
rose (a ∷ []) t k l = absurd (omega arith)
rose (a ∷ b ∷ ts) t zero l = leb-true a b (first (leb a b) (not_falling (b ∷ ts)) t)
rose (a ∷ b ∷ ts) t (suc k) l = rose (b ∷ ts) (second (leb a b) (not_falling (b ∷ ts)) t) k (omega arith)

-- what `is_sorted` says of them
pub sorted_rise : (ts : List ℕ) (r : Bool) → MatchBool r (IsNonDecreasing ts) ((k : ℕ) × (k + 1 < length ts) × ((d : ℕ) → get_or ts (k + 1) d < get_or ts k d)) → r ≡ not_falling ts
sorted_rise ts true h = sym (rises ts (λ k l. h k (suc k) 0 (omega arith) l))
sorted_rise ts false h = go (tested (not_falling ts))
  where
    go : Tested (not_falling ts) → false ≡ not_falling ts
    go (passed t) =
        let s : suc h.0 ≡ h.0 + 1 = omega arith in
        let up = rw s at (rose ts t h.0 (omega (arith, h.1))) in
        absurd (omega (arith, up, h.2 0))
    go (failed f) = sym f

-- one time more, which is behind the last
pub behind_last : (ts : List ℕ) (t : ℕ) → not_falling (ts ++ t ∷ []) ≡ (not_falling ts && leb (get_or ts (length ts - 1) 0) t)
behind_last [] t = sym (le-leb 0 t (omega arith))
behind_last (u ∷ []) t = go (leb u t)
  where
    go : (b : Bool) → (b && true) ≡ b
    go true = refl
    go false = refl
behind_last (u ∷ v ∷ ts) t =
    let z : length (u ∷ v ∷ ts) - 1 ≡ suc (length (v ∷ ts) - 1) = omega arith in
    ap (λ b. leb u v && b) (behind_last (v ∷ ts) t) ∙ grouped (leb u v) (not_falling (v ∷ ts)) _ ∙ ap (λ k. (leb u v && not_falling (v ∷ ts)) && leb (get_or (u ∷ v ∷ ts) k 0) t) (sym z)
  where
    grouped : (a b c : Bool) → (a && (b && c)) ≡ ((a && b) && c)
    grouped true b c = refl
    grouped false b c = refl

-- ---- counts from one number for all

counts_same : (b : List ℕ) (τ : Point → Stamp) (n : LogEnd) (f g : ℕ → ℕ) (k : ℕ) → ((x : ℕ) → x < k → f x ≡ g x) → counts_to b τ n f k ≡ counts_to b τ n g k
counts_same b τ n f g zero h = refl
counts_same b τ n f g (suc k) h =
    ap₂ (λ cs v. cs ++ advance τ n (λ y. get_or cs y 0) v (view_of (node_at b k)) ∷ []) (counts_same b τ n f g k (λ x l. h x (omega arith))) (h k (omega arith))

all_most : (n v y : ℕ) → get_or (replicate n v) y 0 ≤ v
all_most zero v y = omega arith
all_most (suc n) v zero = omega arith
all_most (suc n) v (suc y) = all_most n v y

pub counted : (b : List ℕ) (l : LogEnd) (times : List ℕ) {base : Point} {before counts : List ℕ} → node_count b ≤ 32 → base.0 ≡ l.points - length times
    → Filled b (stamp_in base times) l (replicate 32 base.0) before counts → CountsStand b l times counts
unfolding counts_in
counted b l times {base} few e f =
    record {
      exact = f.exact ∙ counts_same b (stamp_in base times) l (λ x. get_or (replicate 32 base.0) x 0) (λ x. base.0) (node_count b) (λ x o. get_or-replicate 32 x base.0 0 (omega arith))
          ∙ ap (λ k. counts_to b (stamp_in (point k) times) l (λ x. k) (node_count b)) e;
      bounded = f.bounded (λ y. omega (arith, all_most 32 base.0 y));
    }
