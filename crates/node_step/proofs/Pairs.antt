-- A node's pairs where they stand among the entries, read from a part of the words.
use Prim.Native.Nat.{ℕ, suc, ◌+◌, ◌-◌, ◌*◌, ◌≤◌, ◌<◌}
use native.Mathlib.Omega.{arith}
use mathlib.Core.Path.{◌≡◌, sym, ap, ap₂, ◌∙◌}
use mathlib.Core.Bool.{◌&&◌}
use mathlib.Core.List.Memᴰ
use mathlib.Core.List.{List, ◌∷◌, map, Memᴰ}
use lib.ListN.{length, get_or, take, drop, length-take, length-drop}
use lib.Seq.{get_or-take, get_or-drop}
use lib.Dec.{eqb}
use Rattle.meaning.specs.Lists.{range}
use Rattle.meaning.specs.Kept.{Entry}
use Rattle.meaning.specs.Order.{OfLength}
use Rattle.meaning.proofs.Rows.{select_at}
use Rattle.method.specs.Stored.{held_pairs}
use Rattle.kinds.specs.Kinds.{pair_at, pairs_from, PairsThere}
use Rattle.entries.specs.Entries.{entry_at, entries_from}
use Rattle.entries.proofs.Listed.{listed_moved}
use Rattle.node_sets.specs.NodeEntries.{aged_entries}
use Rattle.node_sets.proofs.Paired.{pair_of, pairs_back, entries-pairs}
use Rattle.since.specs.Since.{held_in}
use Rattle.node_step.proofs.Keeping.{row_same}

-- an entry's row has four words
entry_four : (os ns vs : List ℕ) (a n : ℕ) {e : Entry} → Memᴰ e (entries_from os ns vs a n) → length e.values ≡ 4
unfolding entries_from
entry_four os ns vs a n m =
    let (k, i, f) = Memᴰ.of_map (entry_at os ns vs) (range a n) m in
    ap (λ e. length e.values) (sym f)

pairs_five : (os ns vs : List ℕ) (a n x : ℕ) → OfLength 5 (held_pairs (entries_from os ns vs a n) x)
unfolding held_pairs
pairs_five os ns vs a n x p m =
    let (e, i, f) = Memᴰ.of_map (λ (e : Entry). e.number ∷ e.values) _ m in
    ap length (sym f) ∙ ap suc (entry_four os ns vs a n (select_at (λ e. eqb e.node x && eqb e.mark 1) (entries_from os ns vs a n) i).0)

-- the entries from `from` to `to` stand in the words
module _ (ns vs : List ℕ) (from to : ℕ) (l : from ≤ to) (n : to ≤ length ns) (v : to * 4 ≤ length vs) where
  abbrev pub ages_part : List ℕ
  ages_part = take (to - from) (drop from ns)

  abbrev pub values_part : List ℕ
  values_part = take (to * 4 - from * 4) (drop (from * 4) vs)

  ages_long_lem : length ages_part ≡ to - from
  ages_long_lem = omega (arith, length-take (to - from) (drop from ns), length-drop from ns)

  values_are_long : length values_part ≡ to * 4 - from * 4
  values_are_long = omega (arith, length-take (to * 4 - from * 4) (drop (from * 4) vs), length-drop (from * 4) vs)

  pub part_there : PairsThere ages_part values_part (length ages_part)
  part_there = record { ages_there = omega arith; values_there = omega (arith, ages_long_lem, values_are_long) }

  part_pair : (k : ℕ) → k < to - from → pair_at ages_part values_part (0 + k) ≡ pair_at ns vs (from + k)
  part_pair k h =
      let z : 0 + k ≡ k = omega arith in
      let age = get_or-take (to - from) (drop from ns) k 0 h ∙ get_or-drop from ns k 0 in
      let row = row_same values_part vs k (from + k)
      (λ i m.
      let e : from * 4 + (k * 4 + i) ≡ (from + k) * 4 + i = omega arith in
      get_or-take (to * 4 - from * 4) (drop (from * 4) vs) (k * 4 + i) 0 (omega arith) ∙ get_or-drop (from * 4) vs (k * 4 + i) 0 ∙ ap (λ j. get_or vs j 0) e) in
      rw z (ap₂ (λ a u. a ∷ u) age row)

  part_pairs : pairs_from ages_part values_part 0 (to - from) ≡ pairs_from ns vs from (to - from)
  unfolding pairs_from
  part_pairs = listed_moved (pair_at ages_part values_part) (pair_at ns vs) 0 from (to - from) part_pair

  -- what is held in the part are the node's pairs
  pub held_part : (os : List ℕ) (count x : ℕ) → entries_from os ns vs from (to - from) ≡ aged_entries x (held_pairs (entries_from os ns vs 0 count) x) → held_in ages_part values_part ≡ held_pairs (entries_from os ns vs 0 count) x
  held_part os count x e =
      ap (pairs_from ages_part values_part 0) ages_long_lem ∙ part_pairs ∙ sym (entries-pairs os ns vs from (to - from)) ∙ ap (map pair_of) e
      ∙ pairs_back x (held_pairs (entries_from os ns vs 0 count) x) (pairs_five os ns vs 0 count x)
