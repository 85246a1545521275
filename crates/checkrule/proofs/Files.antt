-- Checking looks no further than at the first 653 bytes: a file that has them all is longer than any rule.
use Prim.Native.Nat.{ℕ, ◌+◌, ◌*◌, ◌<◌}
use native.Mathlib.Omega.{arith}
use mathlib.Core.Path.{◌≡◌, refl, sym, ap, ◌∙◌}
use mathlib.Core.Bool.{Bool, true, false, not}
use mathlib.Core.List.{List}
use lib.ListN.{length, get_or, take}
use lib.Dec.{leb, eqb, lit<}
use lib.Seq.{get_or-take, take_all, length-take-le}
use borrow.Author.Tests.{le-ltb, leb-true, leb-false, ne_eqb}
use Rattle.meaning.specs.Outcome.{Outcome, refused, when, cut, other_version, size_out}
use Rattle.meaning.specs.RuleFile.{Accepted, node_count, sizes_fit, checking}
use Rattle.meaning.proofs.Points.{first, second}

-- the answer for more than 652 bytes, by the first twelve
abbrev by_head : List ℕ → Outcome Accepted
by_head b = when (not (eqb (get_or b 0 0) 1)) other_version 0 (when (not (sizes_fit b)) size_out 0 (refused cut 0))

few_nodes : (b : List ℕ) → sizes_fit b ≡ true → leb (node_count b) 32 ≡ true
unfolding sizes_fit
few_nodes b e = search (first, second)

long_file : (b : List ℕ) → 652 < length b → checking b ≡ by_head b
unfolding checking
long_file b h = rw (le-ltb (length b) 12 (omega arith)) (ap (when (not (eqb (get_or b 0 0) 1)) other_version 0) (sizes (sizes_fit b) refl _))
  where
    sizes : (t : Bool) → sizes_fit b ≡ t → (rest : Outcome Accepted) → when (not t) size_out 0 (when (not (eqb (length b) (12 + 20 * node_count b))) cut 0 rest) ≡ when (not t) size_out 0 (refused cut 0)
    sizes true e rest = rw (ne_eqb (length b) (12 + 20 * node_count b) (λ q. omega (arith, leb-true (node_count b) 32 (few_nodes b e))))
    sizes false e rest = refl

same_head : (b : List ℕ) → by_head (take 653 b) ≡ by_head b
unfolding sizes_fit
same_head b =
    let at : (i : ℕ) → i < 653 → get_or (take 653 b) i 0 ≡ get_or b i 0 = λ i h. get_or-take 653 b i 0 h in
    simp (at 0 (lit< tt), at 1 (lit< tt), at 2 (lit< tt), at 3 (lit< tt), at 4 (lit< tt), at 5 (lit< tt), at 6 (lit< tt), at 7 (lit< tt), at 8 (lit< tt), at 9 (lit< tt), at 10 (lit< tt), at 11 (lit< tt))

pub first_enough : (b : List ℕ) → checking (take 653 b) ≡ checking b
first_enough b = by_length (leb (length b) 653) refl
  where
    by_length : (t : Bool) → leb (length b) 653 ≡ t → checking (take 653 b) ≡ checking b
    by_length true e = ap checking (take_all 653 b (leb-true _ _ e))
    by_length false e =
        let h : 653 < length b = leb-false _ _ e in
        long_file (take 653 b) (omega (arith, length-take-le 653 b (omega arith))) ∙ (same_head b ∙ sym (long_file b (omega arith)))
