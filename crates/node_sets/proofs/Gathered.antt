-- The entries of sets at a run of points: one point more at either end, and what they begin with; and how many entries a run of words has.
use Prim.Native.Nat.{ℕ, zero, suc, ◌+◌, ◌-◌, ◌<◌}
use mathlib.Core.Path.{◌≡◌, refl, ap, ◌∙◌}
use mathlib.Core.Bool.{Bool, true, false, ◌&&◌}
use mathlib.Core.List.{List, [], ◌∷◌, ◌++◌, map, append_assoc, append-nil}
use native.Mathlib.Omega.{arith}
use lib.Dec.{eqb}
use borrow.Author.Tests.{ne_eqb}
use lib.ListN.{length, length-map}
use Rattle.meaning.specs.Lists.{range, gather}
use Rattle.meaning.specs.Log.{point, point_after, points_from}
use Rattle.meaning.specs.Kept.{Entry, entry_of}
use Rattle.meaning.specs.declared.Point.{Point}
use Rattle.meaning.proofs.Lists.{range_length, gather_append}
use Rattle.meaning.proofs.Points.{points_from_append}
use Rattle.entries.specs.Entries.{entries_from, begins, has_owner, is_entry}
use Rattle.entries.proofs.Walking.{has_number}
use Rattle.node_sets.specs.NodeEntries.{set_entries}

pub entries_many : (os ns vs : List ℕ) (from count : ℕ) → length (entries_from os ns vs from count) ≡ count
unfolding entries_from
entries_many os ns vs from count = length-map (range from count) _ ∙ range_length from count

module _ (x : ℕ) (S : Point → List (List ℕ)) where
  -- one point more behind the others
  pub sets_more : (a : Point) (m : ℕ) → set_entries x S a (m + 1) ≡ set_entries x S a m ++ map (entry_of x 0 (a.0 + m)) (S (point (a.0 + m)))
  sets_more a m =
      let f : Point → List Entry = λ j. map (entry_of x 0 j.0) (S j) in
      ap (gather f) (points_from_append a m 1) ∙ gather_append f (points_from a m) (points_from (point (a.0 + m)) 1) ∙ ap (λ es. set_entries x S a m ++ es) (append-nil (f (point (a.0 + m))))

  -- the first point apart from the others
  pub sets_apart : (a : Point) (k n : ℕ) → k < n → set_entries x S (point (a.0 + k)) (n - k) ≡ map (entry_of x 0 (a.0 + k)) (S (point (a.0 + k))) ++ set_entries x S (point (a.0 + (k + 1))) (n - (k + 1))
  sets_apart a k n l =
      let e : n - k ≡ suc (n - (k + 1)) = omega arith in
      let f : suc (a.0 + k) ≡ a.0 + (k + 1) = omega arith in
      ap (set_entries x S (point (a.0 + k))) e ∙ ap (λ b. map (entry_of x 0 (a.0 + k)) (S (point (a.0 + k))) ++ set_entries x S (point b) (n - (k + 1))) f

  -- later points don't begin with an entry that has an earlier point's number
  pub numbers_later : (i a : Point) (m : ℕ) → i.0 < a.0 → begins (has_number i.0) (set_entries x S a m) ≡ false
  numbers_later i a zero l = refl
  numbers_later i a (suc m) l = go (S a) (numbers_later i (point_after a) m (omega arith))
    where
      go : (rows : List (List ℕ)) → begins (has_number i.0) (set_entries x S (point_after a) m) ≡ false → begins (has_number i.0) (map (entry_of x 0 a.0) rows ++ set_entries x S (point_after a) m) ≡ false
      go [] h = h
      go (r ∷ rows) h = ne_eqb a.0 i.0 (omega arith)

  module _ (rest : List Entry) where
    -- the same before a rest
    pub sets_first : (a : Point) (k n : ℕ) → k < n
        → set_entries x S (point (a.0 + k)) (n - k) ++ rest ≡ map (entry_of x 0 (a.0 + k)) (S (point (a.0 + k))) ++ (set_entries x S (point (a.0 + (k + 1))) (n - (k + 1)) ++ rest)
    sets_first a k n l =
        ap (λ es. es ++ rest) (sets_apart a k n l) ∙ append_assoc (map (entry_of x 0 (a.0 + k)) (S (point (a.0 + k)))) (set_entries x S (point (a.0 + (k + 1))) (n - (k + 1))) rest

    -- later points, and then a rest of other owners, don't begin with an entry of an earlier point
    pub sets-later : begins (has_owner x 0) rest ≡ false → (i a : Point) (m : ℕ) → i.0 < a.0 → begins (is_entry x 0 i.0) (set_entries x S a m ++ rest) ≡ false
    sets-later b i a zero l = go rest b
      where
        go : (es : List Entry) → begins (has_owner x 0) es ≡ false → begins (is_entry x 0 i.0) es ≡ false
        go [] h = refl
        go (e ∷ es) h = ap (λ t. t && eqb e.number i.0) h
    sets-later b i a (suc m) l = go (S a) (sets-later b i (point_after a) m (omega arith))
      where
        other : (t : Bool) → (t && eqb a.0 i.0) ≡ false
        other true = ne_eqb a.0 i.0 (omega arith)
        other false = refl

        go : (rows : List (List ℕ)) → begins (is_entry x 0 i.0) (set_entries x S (point_after a) m ++ rest) ≡ false
            → begins (is_entry x 0 i.0) ((map (entry_of x 0 a.0) rows ++ set_entries x S (point_after a) m) ++ rest) ≡ false
        go [] h = h
        go (r ∷ rows) h = other (eqb x x && eqb 0 0)
