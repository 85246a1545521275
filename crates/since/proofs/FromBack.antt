-- Rows of pairs put in run by run, the last run first: in the end they are all in, in some order.
use Prim.Native.Nat.{ℕ, ◌+◌, ◌-◌, ◌≤◌}
use native.Mathlib.Omega.{arith}
use mathlib.Core.Logic.{◌⊎◌, inl, inr, ◌↔◌}
use mathlib.Core.Path.{◌≡◌}
use mathlib.Core.List.Memᴰ
use mathlib.Core.List.{List, [], ◌++◌, Memᴰ}
use Rattle.rowset.specs.Rows.{rows_from}
use Rattle.rowset.specs.Sets.{SetRoom, from_front, Gathers}
use Rattle.rowset.specs.declared.Gathered.{Gathered}
use Rattle.rowset.proofs.Runs.{rows_append, rows_of_length}
use Rattle.rowset.proofs.Growing.{added_then, gathered_none, gather_from, made_same}
use Rattle.since.specs.Since.{RowsPut}

-- the rows from x on up to `to` are put in, in some order
pub record FromBack (lowest : ℕ) (values : List ℕ) (to : ℕ) (old : List ℕ) (set : Gathered) (new : List ℕ) (set' : Gathered) (x : ℕ) : Type 0 where
  pub reached : x ≤ to
  pub order : List (List ℕ)
  pub put : Gathers lowest old set new set' order
  pub same : (u : List ℕ) → Memᴰ u order ↔ Memᴰ u (rows_from values x (to - x))

module _ {lowest : ℕ} {values : List ℕ} {to : ℕ} {old : List ℕ} where
  pub none_yet : {n : ℕ} → SetRoom old n → FromBack lowest values to old (from_front n) old (from_front n) to
  unfolding rows_from
  none_yet h =
      let z : to - to ≡ 0 = omega arith in
      record { reached = omega arith; order = []; put = gathered_none (gather_from h); same = λ u. rw z (λ m. m, λ m. m) }

  module _ {set : Gathered} {new : List ℕ} {set' : Gathered} {x : ℕ} (t : FromBack lowest values to old set new set' x) where
    pub run_more : (first : ℕ) → first ≤ x → {new' : List ℕ} {set'' : Gathered} → Gathers lowest new set' new' set'' (rows_from values first (x - first)) → FromBack lowest values to old set new' set'' first
    run_more first l g =
        let m = t.reached in
        let part : List (List ℕ) = rows_from values first (x - first) in
        let rest : List (List ℕ) = rows_from values x (to - x) in
        let y : x - first + (to - x) ≡ to - first = omega arith in
        let z : first + (x - first) ≡ x = omega arith in
        let whole : rows_from values first (to - first) ≡ part ++ rest = rw (y, z) at (rows_append values first (x - first) (to - x)) in
        record {
          reached = omega arith;
          order = t.order ++ part;
          put = record { added = added_then t.put.added g.added; led = g.led };
          same = λ u. (λ i. rw whole (there u (Memᴰ.append_cases t.order i)), λ i. back u (Memᴰ.append_cases part (rw whole at i)));
        }
      where
        there : (u : List ℕ) → Memᴰ u t.order ⊎ Memᴰ u (rows_from values first (x - first)) → Memᴰ u (rows_from values first (x - first) ++ rows_from values x (to - x))
        there u (inl i) = Memᴰ.append_right (rows_from values first (x - first)) ((t.same u).0 i)
        there u (inr i) = Memᴰ.append_left (rows_from values x (to - x)) i

        back : (u : List ℕ) → Memᴰ u (rows_from values first (x - first)) ⊎ Memᴰ u (rows_from values x (to - x)) → Memᴰ u (t.order ++ rows_from values first (x - first))
        back u (inl i) = Memᴰ.append_right t.order i
        back u (inr i) = Memᴰ.append_left (rows_from values first (x - first)) ((t.same u).1 i)

    pub all_put : (from : ℕ) → from ≤ x → x ≤ from → RowsPut lowest old set.count new set'.count (rows_from values from (to - from))
    all_put from l m =
        let e : x ≡ from = omega arith in
        rw (← e)
        (record {
          long = t.put.added.long;
          put = λ s up h. made_same (rows_from values x (to - x)) up (λ u i. rows_of_length values x (to - x) u ((t.same u).0 i)) t.same h t.put.added;
        })
