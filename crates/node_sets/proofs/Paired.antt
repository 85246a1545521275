-- A node's pairs as entries, read back as pairs.
use Prim.Native.Nat.{ℕ}
use mathlib.Core.Path.{◌≡◌, refl, ap₂}
use mathlib.Core.Bool.{true}
use mathlib.Core.List.Memᴰ
use mathlib.Core.List.{List, [], ◌∷◌, map}
use native.Mathlib.Omega.{arith}
use lib.ListN.{length, get_or, drop}
use borrow.Author.Tests.{eq-eqb}
use Rattle.meaning.specs.Lists.{range, all}
use Rattle.meaning.specs.Kept.{Entry}
use Rattle.meaning.proofs.Points.{both}
use Rattle.meaning.specs.Order.{OfLength}
use Rattle.kinds.specs.Kinds.{pairs_from}
use Rattle.entries.specs.Entries.{entry_at, entries_from, has_owner}
use Rattle.entries.proofs.Listed.{map_twice}
use Rattle.node_sets.specs.NodeEntries.{aged_entries}

pub all_owned : (x : ℕ) (pairs : List (List ℕ)) → all (has_owner x 1) (aged_entries x pairs) ≡ true
all_owned x [] = refl
all_owned x (p ∷ pairs) = both (both (eq-eqb x x refl) refl) (all_owned x pairs)

-- an entry as a pair
abbrev pub pair_of : Entry → List ℕ
pair_of e = e.number ∷ e.values

first_and_rest : (p : List ℕ) → length p ≡ 5 → get_or p 0 0 ∷ drop 1 p ≡ p
first_and_rest [] l = absurd (omega arith)
first_and_rest (w ∷ p) l = refl

pub pairs_back : (x : ℕ) (pairs : List (List ℕ)) → OfLength 5 pairs → map pair_of (aged_entries x pairs) ≡ pairs
pairs_back x [] long = refl
pairs_back x (p ∷ pairs) long = ap₂ (λ q qs. q ∷ qs) (first_and_rest p (long p (Memᴰ.head refl))) (pairs_back x pairs (λ q m. long q (Memᴰ.tail m)))

pub entries-pairs : (os ns vs : List ℕ) (from count : ℕ) → map pair_of (entries_from os ns vs from count) ≡ pairs_from ns vs from count
unfolding entries_from pairs_from
entries-pairs os ns vs from count = map_twice pair_of (entry_at os ns vs) (range from count)
