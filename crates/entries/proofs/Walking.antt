-- A cursor that walks through a list of entries: where the rest of them is one run and then others, the run has just those entries, and behind it stand the others.
use Prim.Native.Nat.{ℕ, zero, suc, ◌+◌, ◌-◌, ◌*◌, ◌/◌, ◌%◌, ◌≤◌, ◌<◌}
use mathlib.Core.Path.{◌≡◌, refl, sym, ap, ap₂, ◌∙◌}
use mathlib.Core.Bool.{Bool, true, false, ◌&&◌}
use mathlib.Core.List.{List, [], ◌∷◌, ◌++◌, map}
use native.Mathlib.Omega.{arith}
use lib.ListN.{length, get_or, length-map}
use lib.Dec.{eqb}
use borrow.Author.Tests.{eqb-true, eqb-false, eq-eqb}
use Rattle.meaning.specs.Lists.{range, all}
use Rattle.meaning.specs.Kept.{Entry, entry_of}
use Rattle.meaning.proofs.Points.{Tested, passed, failed, tested, both, first, second}
use Rattle.rowset.specs.Rows.{rows_from}
use Rattle.entries.specs.Entries.{entry_at, entries_from, streak, is_word, run_of, has_owner, is_entry, begins}
use Rattle.entries.proofs.Streaks.{streak_same}
use Rattle.entries.proofs.Listed.{map_twice}

module _ {A : Type 0} where
  -- from cursor on there are these, all of which pass, and then the rest
  pub record Walked (at : ℕ → A) (q : A → Bool) (cursor left : ℕ) (xs rest : List A) : Type 0 where
    pub fits : length xs ≤ left
    pub run : streak (λ k. q (at k)) cursor left ≡ length xs
    pub these : map at (range cursor (length xs)) ≡ xs
    pub behind : map at (range (cursor + length xs) (left - length xs)) ≡ rest

  pub walked : (at : ℕ → A) (q : A → Bool) (xs rest : List A) (cursor left : ℕ) → map at (range cursor left) ≡ xs ++ rest → all q xs ≡ true → begins q rest ≡ false → Walked at q cursor left xs rest
  walked at q [] rest cursor zero h a b = record { fits = omega arith; run = refl; these = refl; behind = h }
  walked at q [] rest cursor (suc left) h a b =
      let e : cursor + 0 ≡ cursor = omega arith in
      let f : suc left - 0 ≡ suc left = omega arith in
      let g : q (at cursor) ≡ false = ap (begins q) h ∙ b in
      record { fits = omega arith; run = rw g; these = refl; behind = rw (e, f) h }
  walked at q (x ∷ xs) rest cursor zero h a b =
      let l : 0 ≡ suc (length (xs ++ rest)) = ap length h in
      absurd (omega arith)
  walked at q (x ∷ xs) rest cursor (suc left) h a b =
      let e : at cursor ≡ x = cc in
      let t : map at (range (suc cursor) left) ≡ xs ++ rest = cc in
      let w = walked at q xs rest (suc cursor) left t (second (q x) (all q xs) a) b in
      let g : q (at cursor) ≡ true = ap q e ∙ first (q x) (all q xs) a in
      let m : suc cursor + length xs ≡ cursor + suc (length xs) = omega arith in
      let n : left - length xs ≡ suc left - suc (length xs) = omega arith in
      record {
        fits = omega (arith, w.fits);
        run = rw g (ap suc w.run);
        these = ap₂ (λ y ys. y ∷ ys) e w.these;
        behind = rw (m, n) at w.behind;
      }

-- an owner in one word or in two parts
owner_parts : (w x mark : ℕ) → mark < 2 → eqb w (x * 2 + mark) ≡ (eqb (w / 2) x && eqb (w % 2) mark)
owner_parts w x mark l = go (tested (eqb w (x * 2 + mark))) (tested (eqb (w / 2) x)) (tested (eqb (w % 2) mark))
  where
    go : Tested (eqb w (x * 2 + mark)) → Tested (eqb (w / 2) x) → Tested (eqb (w % 2) mark) → eqb w (x * 2 + mark) ≡ (eqb (w / 2) x && eqb (w % 2) mark)
    go (passed e) p r =
        let f : w ≡ x * 2 + mark = eqb-true w (x * 2 + mark) e in
        e ∙ sym (both (eq-eqb (w / 2) x (omega arith)) (eq-eqb (w % 2) mark (omega arith)))
    go (failed e) (failed p) r = rw (e, p)
    go (failed e) (passed p) (failed r) = rw (e, p, r)
    go (failed e) (passed p) (passed r) =
        let f : w / 2 ≡ x = eqb-true (w / 2) x p in
        let g : w % 2 ≡ mark = eqb-true (w % 2) mark r in
        absurd (eqb-false w (x * 2 + mark) e (omega arith))

values_of : (x mark number : ℕ) (rows : List (List ℕ)) → map (λ e. e.values) (map (entry_of x mark number) rows) ≡ rows
values_of x mark number [] = refl
values_of x mark number (r ∷ rows) = ap (λ rs. r ∷ rs) (values_of x mark number rows)

pub all_are : (x mark number : ℕ) (rows : List (List ℕ)) → all (is_entry x mark number) (map (entry_of x mark number) rows) ≡ true
all_are x mark number [] = refl
all_are x mark number (r ∷ rows) = both (both (both (eq-eqb x x refl) (eq-eqb mark mark refl)) (eq-eqb number number refl)) (all_are x mark number rows)

-- the rows of entries
entries_rows : (os ns vs : List ℕ) (from count : ℕ) → map (λ e. e.values) (entries_from os ns vs from count) ≡ rows_from vs from count
unfolding entries_from rows_from
entries_rows os ns vs from count = map_twice (λ e. e.values) (entry_at os ns vs) (range from count)

-- entry k has that owner and number
abbrev pub is_of : List ℕ → List ℕ → ℕ → ℕ → ℕ → Bool
is_of owners numbers owner number k = is_word owners owner k && is_word numbers number k

-- how many entries from cursor on, before count, have that owner and number, one after the other
unfoldable pub entry_run : List ℕ → List ℕ → ℕ → ℕ → ℕ → ℕ → ℕ
entry_run owners numbers cursor count owner number = streak (is_of owners numbers owner number) cursor (count - cursor)

abbrev pub has_number : ℕ → Entry → Bool
has_number number e = eqb e.number number

all_number : (x mark number : ℕ) (rows : List (List ℕ)) → all (has_number number) (map (entry_of x mark number) rows) ≡ true
all_number x mark number [] = refl
all_number x mark number (r ∷ rows) = both (eq-eqb number number refl) (all_number x mark number rows)

-- at the cursor is a run of so many entries: just these rows; and behind it stands the rest
pub record RunAt (os ns vs : List ℕ) (cursor count run : ℕ) (rows : List (List ℕ)) (rest : List Entry) : Type 0 where
  pub within : cursor + length rows ≤ count
  pub many : run ≡ length rows
  pub these : rows_from vs cursor (length rows) ≡ rows
  pub behind : entries_from os ns vs (cursor + length rows) (count - (cursor + length rows)) ≡ rest

-- the same of an owner's pairs
pub record PairsAt (os ns vs : List ℕ) (cursor count owner : ℕ) (pairs rest : List Entry) : Type 0 where
  pub within : cursor + length pairs ≤ count
  pub run : run_of os cursor count owner ≡ length pairs
  pub these : entries_from os ns vs cursor (length pairs) ≡ pairs
  pub behind : entries_from os ns vs (cursor + length pairs) (count - (cursor + length pairs)) ≡ rest

module _ (os ns vs : List ℕ) (cursor count x : ℕ) (ordered : cursor ≤ count) where
  -- a run by any test of its entries
  run_by : (q : Entry → Bool) {run : ℕ} → run ≡ streak (λ k. q (entry_at os ns vs k)) cursor (count - cursor) → (mark number : ℕ) (rows : List (List ℕ)) (rest : List Entry)
      → entries_from os ns vs cursor (count - cursor) ≡ map (entry_of x mark number) rows ++ rest → all q (map (entry_of x mark number) rows) ≡ true → begins q rest ≡ false → RunAt os ns vs cursor count run rows rest
  unfolding entries_from
  run_by q e mark number rows rest h a b =
      let w = walked (entry_at os ns vs) q (map (entry_of x mark number) rows) rest cursor (count - cursor) h a b in
      let n : length (map (entry_of x mark number) rows) ≡ length rows = length-map rows (entry_of x mark number) in
      let d : count - cursor - length rows ≡ count - (cursor + length rows) = omega arith in
      let t : entries_from os ns vs cursor (length rows) ≡ map (entry_of x mark number) rows = rw n at w.these in
      record {
        within = omega (arith, w.fits);
        many = e ∙ w.run ∙ n;
        these = sym (entries_rows os ns vs cursor (length rows)) ∙ ap (map (λ e. e.values)) t ∙ values_of x mark number rows;
        behind = rw (n, d) at w.behind;
      }

  -- by owner and number
  pub run_walked : (mark number : ℕ) (rows : List (List ℕ)) (rest : List Entry) → mark < 2
      → entries_from os ns vs cursor (count - cursor) ≡ map (entry_of x mark number) rows ++ rest → begins (is_entry x mark number) rest ≡ false
      → RunAt os ns vs cursor count (entry_run os ns cursor count (x * 2 + mark) number) rows rest
  unfolding entry_run
  run_walked mark number rows rest l h b =
      run_by (is_entry x mark number)
      (streak_same (is_of os ns (x * 2 + mark) number) (λ k. is_entry x mark number (entry_at os ns vs k)) (λ k. ap (λ t. t && eqb (get_or ns k 0) number) (owner_parts (get_or os k 0) x mark l)) cursor (count - cursor))
      mark number rows rest h (all_are x mark number rows) b

  -- by number alone
  pub number_walked : (mark number : ℕ) (rows : List (List ℕ)) (rest : List Entry) → entries_from os ns vs cursor (count - cursor) ≡ map (entry_of x mark number) rows ++ rest → begins (has_number number) rest ≡ false
      → RunAt os ns vs cursor count (run_of ns cursor count number) rows rest
  unfolding run_of
  number_walked mark number rows rest h b = run_by (has_number number) refl mark number rows rest h (all_number x mark number rows) b

  pub pairs_walked : (pairs rest : List Entry) → entries_from os ns vs cursor (count - cursor) ≡ pairs ++ rest → all (has_owner x 1) pairs ≡ true → begins (has_owner x 1) rest ≡ false
      → PairsAt os ns vs cursor count (x * 2 + 1) pairs rest
  unfolding entries_from run_of
  pairs_walked pairs rest h a b =
      let w = walked (entry_at os ns vs) (has_owner x 1) pairs rest cursor (count - cursor) h a b in
      let d : count - cursor - length pairs ≡ count - (cursor + length pairs) = omega arith in
      record {
        within = omega (arith, w.fits);
        run = streak_same (is_word os (x * 2 + 1)) (λ k. has_owner x 1 (entry_at os ns vs k)) (λ k. owner_parts (get_or os k 0) x 1 (omega arith)) cursor (count - cursor) ∙ w.run;
        these = w.these;
        behind = rw d at w.behind;
      }
