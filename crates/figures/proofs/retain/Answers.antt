-- `retain` meets its contract: no more than all stamps are dropped, and the rest are copied.
use Prim.Native.Nat.{ℕ, ◌-◌, ◌≤◌}
use native.Mathlib.Omega.{arith}
use mathlib.Core.Path.{◌≡◌, refl, ◌∙◌, ap}
use mathlib.Core.List.{List}
use lib.ListN.{length, take, drop, length-drop}
use lib.Seq.{take_all, length-take-le}
use Rattle.meaning.specs.declared.Point.{Point}
use Rattle.method.specs.Stored.{first_retained}
use Rattle.method.proofs.Least.{least_most}
use Rattle.entries.specs.Appended.{at_front}
use Rattle.figures.proofs.Front.{put_front}
use Rattle.figures.proofs.retain.Goals as goal

-- `retain` meets its contract: no more than all stamps are dropped, and the rest are copied.
-- all of a part that reaches to the end
rest-long : (n from : ℕ) (xs : List ℕ) → n ≡ length xs - from → length (take n (drop from xs)) ≡ n
rest-long n from xs e = length-take-le n (drop from xs) (omega (arith, length-drop from xs))

whole-rest : (n from : ℕ) (xs : List ℕ) → n ≡ length xs - from → take n (take n (drop from xs)) ≡ drop from xs
whole-rest n from xs e = take_all n (take n (drop from xs)) (omega (arith, rest-long n from xs e)) ∙ take_all n (drop from xs) (omega (arith, length-drop from xs))

pub slice_bounds-copy_words-count : goal.slice_bounds-copy_words-count
slice_bounds-copy_words-count c = omega (arith, ((let it : (c.saturating_sub-from.result ≡ (first_retained c.args.points c.args.after.now).0 - (c.args.points - length c.args.stamps.now)) × (c.saturating_sub-from.result ≤ length c.args.stamps.now) = let e = c.saturating_sub-from.ensures ∙ ap (λ (q : Point). q.0 - (c.args.points - length c.args.stamps.now)) c.first_retained-first.ensures in (e, omega (arith, c.requires.0, e, least_most c.args.points c.args.after.now)) in it)).1)

pub slice_bounds-copy_words-start : goal.slice_bounds-copy_words-start
slice_bounds-copy_words-start c = ((let it : (c.saturating_sub-from.result ≡ (first_retained c.args.points c.args.after.now).0 - (c.args.points - length c.args.stamps.now)) × (c.saturating_sub-from.result ≤ length c.args.stamps.now) = let e = c.saturating_sub-from.ensures ∙ ap (λ (q : Point). q.0 - (c.args.points - length c.args.stamps.now)) c.first_retained-first.ensures in (e, omega (arith, c.requires.0, e, least_most c.args.points c.args.after.now)) in it)).1

pub overflow_sub-k : goal.overflow_sub-k
overflow_sub-k c = ((let it : (c.saturating_sub-from.result ≡ (first_retained c.args.points c.args.after.now).0 - (c.args.points - length c.args.stamps.now)) × (c.saturating_sub-from.result ≤ length c.args.stamps.now) = let e = c.saturating_sub-from.ensures ∙ ap (λ (q : Point). q.0 - (c.args.points - length c.args.stamps.now)) c.first_retained-first.ensures in (e, omega (arith, c.requires.0, e, least_most c.args.points c.args.after.now)) in it)).1

pub overflow_sub-result : goal.overflow_sub-result
overflow_sub-result c = ((let it : (c.saturating_sub-from.result ≡ (first_retained c.args.points c.args.after.now).0 - (c.args.points - length c.args.stamps.now)) × (c.saturating_sub-from.result ≤ length c.args.stamps.now) = let e = c.saturating_sub-from.ensures ∙ ap (λ (q : Point). q.0 - (c.args.points - length c.args.stamps.now)) c.first_retained-first.ensures in (e, omega (arith, c.requires.0, e, least_most c.args.points c.args.after.now)) in it)).1

pub returns : goal.returns
returns c = let stamps : List ℕ = c.args.stamps.now in
    let (e, l) = (let it : (c.saturating_sub-from.result ≡ (first_retained c.args.points c.args.after.now).0 - (c.args.points - length c.args.stamps.now)) × (c.saturating_sub-from.result ≤ length c.args.stamps.now) = let e = c.saturating_sub-from.ensures ∙ ap (λ (q : Point). q.0 - (c.args.points - length c.args.stamps.now)) c.first_retained-first.ensures in (e, omega (arith, c.requires.0, e, least_most c.args.points c.args.after.now)) in it) in
    let from : ℕ = c.saturating_sub-from.result in
    let n : ℕ = length stamps - from in (
      put_front (take n (drop from stamps)) c.copy_words.ensures (omega (arith, c.requires.1)) (omega (arith, rest-long n from stamps refl)) ∙ ap (λ ws. at_front ws c.args.times.now) (whole-rest n from stamps refl)
          ∙ ap (λ q. at_front (drop q stamps) c.args.times.now) e,
      ap (λ q. length stamps - q) e,
    )
