-- The figures of a call: what its counts start from gives the counts after it and the points from which on rows are kept.
use Prim.Native.Nat.{ℕ, ◌+◌, ◌-◌, ◌≤◌, ◌<◌}
use native.Mathlib.Omega.{arith}
use mathlib.Core.Path.{◌≡◌, ◌∙◌, ap, ap₂}
use mathlib.Core.List.{List, [], ◌∷◌, ◌++◌}
use lib.ListN.{length, get_or, take}
use lib.Seq.{length-take-le}
use Rattle.meaning.specs.Log.{point}
use Rattle.meaning.specs.RuleFile.{node_count}
use Rattle.meaning.specs.declared.Point.{Point}
use Rattle.meaning.specs.declared.LogEnd.{LogEnd}
use Rattle.method.specs.Stored.{base_of, stamp_in}
use Rattle.method.specs.Counts.{counts_to}
use Rattle.method.specs.Step.{points_added, wanted_from, counts_stored, count_before, stamps_now, end_now, counts_after, count_after}
use Rattle.method.proofs.Bounds.{one_added}
use Rattle.progress.specs.Bounds.{Within}
use Rattle.progress.specs.Filled.{Filled}
use Rattle.progress.proofs.Withins.{counts_within}
use Rattle.figures.specs.Counts.{bare, Counting, Figured}

-- as many words as there are nodes
pub many_first : {k : ℕ} (n : ℕ) (xs : List ℕ) → n ≡ k → k ≤ length xs → k ≤ length (take n xs)
many_first n xs e o = omega (arith, length-take-le n xs (omega arith))

module _ {b : List ℕ} {l : LogEnd} {times before : List ℕ} (c : Counting (bare b l times) before) (w : List ℕ) where
  -- no count is above the number of points
  before-within : Within l.points (counts_stored (bare b l times))
  unfolding counts_stored
  before-within = counts_within (stamp_in (base_of (bare b l times)) times) l b (λ x. (base_of (bare b l times)).0) (node_count b) (λ y. omega arith)

  after_within : Within (l.points + points_added w) (counts_after (bare b l times) w)
  unfolding counts_after count_before
  after_within = counts_within (stamps_now (bare b l times) w) (end_now (bare b l times) w) b (λ x. get_or (counts_stored (bare b l times)) x 0) (node_count b) (λ y. omega (arith, before-within y))

  module _ (stamps : List ℕ) {after after₀ : List ℕ} {base : Point} (m : ℕ) (many : m ≡ length times + 1) (t : take (length times + 1) stamps ≡ times ++ get_or w 0 0 ∷ []) (z : base.0 ≡ l.points - length times)
      {end : LogEnd} (is : end ≡ end_now (bare b l times) w) (f : Filled b (stamp_in base (take m stamps)) end before after₀ after) where
    counts_are : take (node_count b) after ≡ counts_after (bare b l times) w
    unfolding counts_after count_before stamps_now
    counts_are =
        f.exact ∙ ap (λ ts. counts_to b (stamp_in base ts) end (λ x. get_or before x 0) (node_count b)) (ap (λ q. take q stamps) many ∙ t)
        ∙ ap₂ (λ k bs. counts_to b (stamp_in (point k) (times ++ get_or w 0 0 ∷ [])) end (λ x. get_or bs x 0) (node_count b)) z c.counts
        ∙ ap (λ (e : LogEnd). counts_to b (stamp_in (point (l.points - length times)) (times ++ get_or w 0 0 ∷ [])) e (λ x. get_or (counts_stored (bare b l times)) x 0) (node_count b)) is

    pub few_after : (n : ℕ) → n ≡ node_count b → Within 4294967294 (take n after)
    few_after n e y = rw (e, counts_are) (omega (arith, after_within y, c.few_points, one_added w))

    pub figured : (n : ℕ) → n ≡ node_count b → {wants : List ℕ} → ((x : ℕ) → x < node_count b → get_or wants x 0 ≡ (wanted_from b (λ y. get_or (take n after) y 0) x).0) → Figured (bare b l times) w stamps after wants
    unfolding count_after
    figured n e h = record { times_now = t; counts_now = counts_are; wants_now = λ x o. h x o ∙ ap (λ q. (wanted_from b (λ y. get_or (take q after) y 0) x).0) e ∙ ap (λ cs. (wanted_from b (λ y. get_or cs y 0) x).0) counts_are }
