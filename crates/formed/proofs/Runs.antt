-- A walk through entries in slices: a run at the cursor, a node's runs point by point, and its pairs.
use Prim.Native.Nat.{ℕ, suc, ◌+◌, ◌-◌, ◌*◌, ◌≤◌, ◌<◌}
use native.Mathlib.Nat.{eq-or-lt_of_le}
use native.Mathlib.Omega.{arith}
use mathlib.Core.Path.{◌≡◌, refl, sym, ap, ◌∙◌}
use mathlib.Core.Bool.{true}
use mathlib.Core.Logic.{◌⊎◌, inl, inr}
use mathlib.Core.List.{List, ◌++◌, map}
use lib.ListN.{length}
use Rattle.meaning.specs.Log.{point}
use Rattle.meaning.specs.Kept.{Entry}
use Rattle.meaning.specs.declared.Point.{Point}
use Rattle.rowset.specs.Rows.{rows_from}
use Rattle.kinds.specs.Kinds.{pairs_from}
use Rattle.entries.specs.Entries.{entries_from, run_of, has_owner, is_entry}
use Rattle.entries.proofs.Walking.{entry_run, RunAt, PairsAt, run_walked, pairs_walked}
use Rattle.node_sets.proofs.Paired.{pair_of, entries-pairs}
use Rattle.formed.specs.Tests.{rows_fit}
use Rattle.formed.specs.Walk.{front, behind, sets_rest, rows_found, pairs_found}
use Rattle.formed.specs.Steps.{rest_at}
use Rattle.formed.proofs.Fronts.{two_parts, front-passes, behind_stops}
use Rattle.formed.proofs.Walks.{rows_back}

-- ---- a run at the cursor

-- node x's run at point number, from cursor to r
pub record RunFound (os ns vs : List ℕ) (count cursor x number r : ℕ) : Type 0 where
  pub onward : cursor ≤ r
  pub within : r ≤ count
  pub rows : map (λ e. e.values) (front (is_entry x 0 number) (rest_at os ns vs count cursor)) ≡ rows_from vs cursor (r - cursor)
  pub rest : rest_at os ns vs count r ≡ behind (is_entry x 0 number) (rest_at os ns vs count cursor)

-- its pairs
pub record PairsFound (os ns vs : List ℕ) (count cursor x r : ℕ) : Type 0 where
  pub onward : cursor ≤ r
  pub within : r ≤ count
  pub pairs : pairs_found x (rest_at os ns vs count cursor) ≡ pairs_from ns vs cursor (r - cursor)
  pub rest : rest_at os ns vs count r ≡ behind (has_owner x 1) (rest_at os ns vs count cursor)

module _ (os ns vs : List ℕ) (count cursor x : ℕ) (l : cursor ≤ count) where
  abbrev es : List Entry
  es = rest_at os ns vs count cursor

  pub run_found : (number : ℕ) {r : ℕ} → r ≡ cursor + entry_run os ns cursor count (x * 2) number → RunFound os ns vs count cursor x number r
  run_found number {r} e =
      let q = is_entry x 0 number in
      let rows : List (List ℕ) = map (λ e. e.values) (front q es) in
      let o : x * 2 + 0 ≡ x * 2 = omega arith in
      let w : RunAt os ns vs cursor count (entry_run os ns cursor count (x * 2) number) rows (behind q es)
      = rw o at (run_walked os ns vs cursor count x l 0 number rows (behind q es) (omega arith) (sym (ap (λ ys. ys ++ behind q es) (rows_back x number es) ∙ two_parts q es)) (behind_stops q es)) in
      let d : r ≡ cursor + length rows = e ∙ ap (λ m. cursor + m) w.many in
      let m : r - cursor ≡ length rows = omega arith in
      record { onward = omega arith; within = omega (arith, w.within); rows = sym (ap (rows_from vs cursor) m ∙ w.these); rest = ap (rest_at os ns vs count) d ∙ w.behind }

  pub pairs_found_lem : {r : ℕ} → r ≡ cursor + run_of os cursor count (x * 2 + 1) → PairsFound os ns vs count cursor x r
  pairs_found_lem {r} e =
      let q = has_owner x 1 in
      let w : PairsAt os ns vs cursor count (x * 2 + 1) (front q es) (behind q es) = pairs_walked os ns vs cursor count x l (front q es) (behind q es) (sym (two_parts q es)) (front-passes q es) (behind_stops q es) in
      let d : r ≡ cursor + length (front q es) = e ∙ ap (λ m. cursor + m) w.run in
      let m : r - cursor ≡ length (front q es) = omega arith in
      record {
        onward = omega arith;
        within = omega (arith, w.within);
        pairs = sym (sym (entries-pairs os ns vs cursor (r - cursor)) ∙ ap (λ k. map pair_of (entries_from os ns vs cursor k)) m ∙ ap (map pair_of) w.these);
        rest = ap (rest_at os ns vs count) d ∙ w.behind;
      }

-- ---- the runs of a node at its first points

-- r is behind node x's runs at n points from low on, and the rows of each fit the mask
pub record SetsTo (os ns vs : List ℕ) (count cursor x : ℕ) (low : Point) (n mask r : ℕ) : Type 0 where
  pub onward : cursor ≤ r
  pub within : r ≤ count
  pub rest : rest_at os ns vs count r ≡ sets_rest x low n (rest_at os ns vs count cursor)
  pub fit : (j : Point) → low.0 ≤ j.0 → j.0 < low.0 + n → rows_fit mask (rows_found x low (rest_at os ns vs count cursor) j) ≡ true

pub sets_none : (os ns vs : List ℕ) (count cursor x : ℕ) (low : Point) (mask : ℕ) → cursor ≤ count → SetsTo os ns vs count cursor x low 0 mask cursor
sets_none os ns vs count cursor x low mask l = record { onward = omega arith; within = l; rest = refl; fit = λ j u o. absurd (omega arith) }

module _ {os ns vs : List ℕ} {count : ℕ} (cursor : ℕ) {x : ℕ} (low : Point) (k : ℕ) {next r : ℕ} (e : rest_at os ns vs count next ≡ sets_rest x low k (rest_at os ns vs count cursor)) (f : RunFound os ns vs count next x (low.0 + k) r) where
  -- the run found is that of the point
  pub found_here : rows_found x low (rest_at os ns vs count cursor) (point (low.0 + k)) ≡ rows_from vs next (r - next)
  found_here =
      let z : low.0 + k - low.0 ≡ k = omega arith in
      ap (λ m. map (λ e. e.values) (front (is_entry x 0 (low.0 + k)) (sets_rest x low m (rest_at os ns vs count cursor)))) z ∙ ap (λ es. map (λ e. e.values) (front (is_entry x 0 (low.0 + k)) es)) (sym e) ∙ f.rows

pub sets_more : {os ns vs : List ℕ} {count cursor x : ℕ} {low : Point} {k mask next r : ℕ} → SetsTo os ns vs count cursor x low k mask next → RunFound os ns vs count next x (low.0 + k) r
    → rows_fit mask (rows_from vs next (r - next)) ≡ true → SetsTo os ns vs count cursor x low (suc k) mask r
sets_more {os} {ns} {vs} {count} {cursor} {x} {low} {k} {mask} t f fit =
    record {
      onward = omega (arith, t.onward, f.onward);
      within = f.within;
      rest = f.rest ∙ ap (behind (is_entry x 0 (low.0 + k))) t.rest;
      fit = λ j u o. go j u (eq-or-lt_of_le (let w : j.0 ≤ low.0 + k = omega arith in w));
    }
  where
    go : (j : Point) → low.0 ≤ j.0 → (j.0 ≡ low.0 + k) ⊎ (j.0 < low.0 + k) → rows_fit mask (rows_found x low (rest_at os ns vs count cursor) j) ≡ true
    go j u (inl e) = ap (λ k. rows_fit mask (rows_found x low (rest_at os ns vs count cursor) (point k))) e ∙ ap (rows_fit mask) (found_here cursor low k t.rest f) ∙ fit
    go j u (inr o) = t.fit j u o
