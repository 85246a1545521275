-- A node's rows as a run of entries of one owner. Walked through point by point they fit where their numbers are points of the node, numbers and then rows ascend, and no more than 32 have one number.
use Prim.Native.Nat.{ℕ, zero, suc, ◌+◌, ◌-◌, ◌*◌, ◌/◌, ◌%◌, ◌≤◌, ◌<◌}
use native.Mathlib.Nat.{add-zero, eq-or-lt_of_le}
use native.Mathlib.Omega.{arith}
use mathlib.Core.Path.{◌≡◌, refl, sym, ap, subst, ◌∙◌}
use mathlib.Core.Bool.{Bool, true, false, ◌&&◌, true≢false}
use mathlib.Core.Logic.{◌⊎◌, inl, inr}
use mathlib.Core.List.{List, ◌∷◌}
use lib.ListN.{get_or, drop}
use lib.Dec.{ltb, leb, eqb}
use borrow.Author.Tests.{lt-ltb, ltb-true, ltb-false, leb-true, leb-false, eqb-true, eq-eqb}
use Rattle.meaning.specs.Log.{point}
use Rattle.meaning.specs.Outcome.{most_rows}
use Rattle.meaning.specs.Order.{before}
use Rattle.meaning.specs.Formula.{lowest_of}
use Rattle.meaning.specs.Kept.{Entry}
use Rattle.meaning.specs.declared.Point.{Point}
use Rattle.meaning.proofs.Points.{Tested, passed, failed, tested, first, second, both}
use Rattle.rowset.specs.Rows.{row_at, rows_from}
use Rattle.rowset.proofs.Runs.{run_first}
use Rattle.kinds.specs.Kinds.{in_mask, pair_at}
use Rattle.entries.specs.Entries.{entry_at, entries_from, begins, streak, is_word, run_of, has_owner, is_entry}
use Rattle.entries.proofs.Streaks.{streak-within, streak_all}
use Rattle.entries.proofs.Walking.{is_of, entry_run}
use Rattle.pairs.proofs.Ascents.{age_rises}
use Rattle.formed.specs.Tests.{row_cut, rows_fit, Rising, SetsFit}
use Rattle.formed.specs.Walk.{behind, sets_rest, rows_found}
use Rattle.formed.specs.Steps.{rest_at}
use Rattle.formed.proofs.Ascents.{rows_rise, rows_of_lem}
use Rattle.formed.proofs.Runs.{RunFound, run_found, SetsTo, sets_none, sets_more, found_here}

-- ---- a run as far as a test passes

streak_last : (q : ℕ → Bool) (i left : ℕ) → streak q i left < left → q (i + streak q i left) ≡ false
streak_last q i zero l = absurd (omega arith)
streak_last q i (suc left) l = go (tested (q i)) (streak_last q (suc i) left) l
  where
    go : Tested (q i) → (streak q (suc i) left < left → q (suc i + streak q (suc i) left) ≡ false) → streak q i (suc left) < suc left → q (i + streak q i (suc left)) ≡ false
    go (passed e) rest l =
        let m : suc (streak q (suc i) left) < suc left = rw e at l in
        let f : suc i + streak q (suc i) left ≡ i + suc (streak q (suc i) left) = omega arith in
        rw e (rw f at (rest (omega arith)))
    go (failed e) rest l = rw e (rw add-zero e)

pub record Streaked (q : ℕ → Bool) (cursor count r : ℕ) : Type 0 where
  pub onward : cursor ≤ r
  pub within : r ≤ count
  pub each : (i : ℕ) → cursor ≤ i → i < r → q i ≡ true
  pub stops : r < count → q r ≡ false

streaked : (q : ℕ → Bool) (cursor count : ℕ) → cursor ≤ count → {r : ℕ} → r ≡ cursor + streak q cursor (count - cursor) → Streaked q cursor count r
streaked q cursor count l {r} e =
    record {
      onward = omega arith;
      within = omega (arith, streak-within q cursor (count - cursor));
      each = λ i u o. let z : cursor + (i - cursor) ≡ i = omega arith in rw z at (streak_all q cursor (count - cursor) (i - cursor) (omega arith));
      stops = λ o. rw e (streak_last q cursor (count - cursor) (omega arith));
    }

-- the entries of an owner from cursor on
pub own_run : (os : List ℕ) (cursor count owner : ℕ) → cursor ≤ count → {r : ℕ} → r ≡ cursor + run_of os cursor count owner → Streaked (is_word os owner) cursor count r
unfolding run_of
own_run os cursor count owner l e = streaked (is_word os owner) cursor count l e

-- ---- pairs of a number and a row, in their order

module _ (lowest a b : ℕ) (u v : List ℕ) where
  before_lt : a < b → before (suc lowest) (a ∷ u) (b ∷ v) ≡ true
  before_lt l = rw (lt-ltb a b l)

  before_same : a ≡ b → before lowest u v ≡ true → before (suc lowest) (a ∷ u) (b ∷ v) ≡ true
  before_same e h = go (tested (ltb a b))
    where
      go : Tested (ltb a b) → before (suc lowest) (a ∷ u) (b ∷ v) ≡ true
      go (passed t) = rw t
      go (failed t) = rw (t, eq-eqb a b e) h

  before_rows : a ≡ b → before (suc lowest) (a ∷ u) (b ∷ v) ≡ true → before lowest u v ≡ true
  before_rows e h = go (tested (ltb a b))
    where
      go : Tested (ltb a b) → before lowest u v ≡ true
      go (passed t) = let l : a < b = ltb-true a b t in absurd (omega arith)
      go (failed t) = let k : (eqb a b && before lowest u v) ≡ true = rw t at h in second (eqb a b) (before lowest u v) k

-- numbers that ascend, over any distance
pub rises : {lowest : ℕ} (ns vs : List ℕ) (p : List ℕ → Bool) (from to : ℕ) → Rising (suc lowest) (pair_at ns vs) p from to → (i j : ℕ) → from ≤ i → i ≤ j → j < to → get_or ns i 0 ≤ get_or ns j 0
rises {lowest} ns vs p from to h i j u l o = let z : i + (j - i) ≡ j = omega arith in rw z at (go (j - i) (omega arith))
  where
    go : (d : ℕ) → i + d < to → get_or ns i 0 ≤ get_or ns (i + d) 0
    go zero m = let z : i + 0 ≡ i = omega arith in rw z (omega arith)
    go (suc d) m =
        let z : i + suc d ≡ i + d + 1 = omega arith in
        let s : get_or ns (i + d) 0 ≤ get_or ns (i + d + 1) 0 = age_rises lowest (get_or ns (i + d) 0) (get_or ns (i + d + 1) 0) (row_at vs (i + d)) (row_at vs (i + d + 1)) (h.up (i + d) (omega arith) (omega arith)) in
        rw z (omega (arith, go d (omega arith)))

-- ---- a node's runs, point by point

module _ (os ns vs : List ℕ) (count cursor x to : ℕ) (low : Point) (mask : ℕ) (start : cursor ≤ count) (run : Streaked (is_word os (x * 2)) cursor count to) where
  abbrev whole : List Entry
  whole = rest_at os ns vs count cursor

  -- the run at point number that begins at entry a
  record OneRun (a number r : ℕ) : Type 0 where
    found : RunFound os ns vs count a x number r
    owned : (i : ℕ) → a ≤ i → i < r → is_word os (x * 2) i ≡ true
    numbered : (i : ℕ) → a ≤ i → i < r → get_or ns i 0 ≡ number
    stops : r < count → is_word os (x * 2) r ≡ true → get_or ns r 0 ≡ number → ⊥

  abbrev end_of : ℕ → ℕ → ℕ
  end_of a number = a + entry_run os ns a count (x * 2) number

  one_run : (a number : ℕ) → a ≤ count → OneRun a number (end_of a number)
  unfolding entry_run
  one_run a number l =
      let s = streaked (is_of os ns (x * 2) number) a count l refl in
      let r : ℕ = end_of a number in
      record {
        found = run_found os ns vs count a x l number refl;
        owned = λ i u o. first (is_word os (x * 2) i) (eqb (get_or ns i 0) number) (s.each i u o);
        numbered = λ i u o. eqb-true (get_or ns i 0) number (second (is_word os (x * 2) i) (eqb (get_or ns i 0) number) (s.each i u o));
        stops = λ o w e. true≢false (sym (both w (eq-eqb (get_or ns r 0) number e)) ∙ s.stops o);
      }

  -- ---- entries in order fit

  module _ (end : Point) (h : SetsFit ns vs cursor to low end mask) where
    -- k points have been walked through, up to entry a
    record Upto (k a : ℕ) : Type 0 where
      begun : cursor ≤ a
      reached : a ≤ to
      above : (i : ℕ) → a ≤ i → i < to → low.0 + k ≤ get_or ns i 0
      done : SetsTo os ns vs count cursor x low k mask a

    run_fits : (a number r : ℕ) → cursor ≤ a → r ≤ to → OneRun a number r → rows_fit mask (rows_from vs a (r - a)) ≡ true
    run_fits a number r u l o =
        rows_of_lem vs mask a r
        (go (tested (leb (r - a) most_rows)))
        (record {
          each = λ i v m. h.rise.each i (omega arith) (omega arith);
          up = λ i v m. before_rows (lowest_of (in_mask mask)) (get_or ns i 0) (get_or ns (i + 1) 0) (row_at vs i) (row_at vs (i + 1)) (o.numbered i v (omega arith) ∙ sym (o.numbered (i + 1) (omega arith) m)) (h.rise.up i (omega arith) (omega arith));
        })
      where
        go : Tested (leb (r - a) most_rows) → r - a ≤ most_rows
        go (passed t) = leb-true (r - a) most_rows t
        go (failed t) =
            let m : most_rows < r - a = leb-false (r - a) most_rows t in
            absurd (h.few.apart a u (omega arith) (o.numbered a (omega arith) (omega arith) ∙ sym (o.numbered (a + most_rows) (omega arith) (omega arith))))

    next : (k a : ℕ) → Upto k a → Upto (suc k) (end_of a (low.0 + k))
    next k a t =
        record {
          begun = omega (arith, t.begun, o.found.onward);
          reached = short;
          above = λ i u l. omega (arith, later (omega arith), rises ns vs _ cursor to h.rise r i (omega (arith, t.begun, o.found.onward)) u l);
          done = sets_more t.done o.found (run_fits a (low.0 + k) r t.begun short o);
        }
      where
        r : ℕ
        r = end_of a (low.0 + k)

        o : OneRun a (low.0 + k) r
        o = one_run a (low.0 + k) t.done.within

        short : r ≤ to
        short = go (tested (leb r to))
          where
            go : Tested (leb r to) → r ≤ to
            go (passed e) = leb-true r to e
            go (failed e) =
                let m : to < r = leb-false r to e in
                absurd (true≢false (sym (o.owned to t.reached m) ∙ run.stops (omega (arith, o.found.within))))

        later : r < to → low.0 + suc k ≤ get_or ns r 0
        later l = go (eq-or-lt_of_le (t.above r o.found.onward l))
          where
            go : (low.0 + k ≡ get_or ns r 0) ⊎ (low.0 + k < get_or ns r 0) → low.0 + suc k ≤ get_or ns r 0
            go (inl e) = absurd (o.stops (omega (arith, run.within)) (run.each r (omega (arith, t.begun, o.found.onward)) l) (sym e))
            go (inr m) = omega arith

    upto : (k : ℕ) → (a : ℕ) × Upto k a
    upto zero = (cursor, record { begun = omega arith; reached = run.onward; above = λ i u l. omega (arith, h.inside i u l); done = sets_none os ns vs count cursor x low mask start })
    upto (suc k) = let (a, t) = upto k in (end_of a (low.0 + k), next k a t)

    pub sets_fit : SetsTo os ns vs count cursor x low (end.0 - low.0) mask to
    sets_fit =
        let (a, t) = upto (end.0 - low.0) in
        let e : a ≡ to = ends a t in
        subst (λ r. SetsTo os ns vs count cursor x low (end.0 - low.0) mask r) e t.done
      where
        ends : (a : ℕ) → Upto (end.0 - low.0) a → a ≡ to
        ends a t = go (eq-or-lt_of_le t.reached)
          where
            go : (a ≡ to) ⊎ (a < to) → a ≡ to
            go (inl e) = e
            go (inr l) = absurd (omega (arith, t.above a (omega arith) l, h.inside a t.begun l))

  -- ---- entries that fit are in order

  module _ (n : ℕ) (fits : (j : Point) → low.0 ≤ j.0 → j.0 < low.0 + n → rows_fit mask (rows_found x low whole j) ≡ true) where
    record Been (k a : ℕ) : Type 0 where
      begun : cursor ≤ a
      within : a ≤ count
      rest : rest_at os ns vs count a ≡ sets_rest x low k whole
      owned : (i : ℕ) → cursor ≤ i → i < a → is_word os (x * 2) i ≡ true
      inside : (i : ℕ) → cursor ≤ i → i < a → (low.0 ≤ get_or ns i 0) × (get_or ns i 0 < low.0 + k)
      rise : Rising (suc (lowest_of (in_mask mask))) (pair_at ns vs) (λ p. row_cut mask (drop 1 p)) cursor a
      few : (i : ℕ) → cursor ≤ i → i + most_rows < a → get_or ns i 0 ≡ get_or ns (i + most_rows) 0 → ⊥

    module _ (k a : ℕ) (l : k < n) (t : Been k a) where
      abbrev r : ℕ
      r = end_of a (low.0 + k)

      o : OneRun a (low.0 + k) r
      o = one_run a (low.0 + k) t.within

      rows : (r - a ≤ most_rows) × Rising (lowest_of (in_mask mask)) (row_at vs) (row_cut mask) a r
      rows = rows_rise vs mask a r (sym (ap (rows_fit mask) (found_here cursor low k t.rest o.found)) ∙ fits (point (low.0 + k)) (omega arith) (omega arith))

      farther : Been (suc k) r
      farther =
          record {
            begun = omega (arith, t.begun, o.found.onward);
            within = o.found.within;
            rest = o.found.rest ∙ ap (behind (is_entry x 0 (low.0 + k))) t.rest;
            owned = λ i u m. either i (λ m. t.owned i u m) (λ v. o.owned i v m);
            inside = λ i u m. either i (λ m. let w = t.inside i u m in (w.0, omega (arith, w.1))) (λ v. let e = o.numbered i v m in (omega arith, omega arith));
            rise = record {
              each = λ i u m. either i (λ m. t.rise.each i u m) (λ v. rows.1.each i v m);
              up = λ i u m. either (i + 1) (λ w. t.rise.up i u w) (λ w. either i (λ v. across i u v (o.numbered (i + 1) w m)) (λ v. within_run i v m));
            };
            few = λ i u m e. either (i + most_rows) (λ w. t.few i u w e) (λ w. either i (λ v. let z = o.numbered (i + most_rows) w m in omega (arith, (t.inside i u v).1)) (λ v. omega (arith, rows.0)));
          }
        where
          either : {P : Type 0} (i : ℕ) → (i < a → P) → (a ≤ i → P) → P
          either {P} i f g = go (tested (ltb i a))
            where
              go : Tested (ltb i a) → P
              go (passed e) = f (ltb-true i a e)
              go (failed e) = g (ltb-false i a e)

          across : (i : ℕ) → cursor ≤ i → i < a → get_or ns (i + 1) 0 ≡ low.0 + k → before (suc (lowest_of (in_mask mask))) (pair_at ns vs i) (pair_at ns vs (i + 1)) ≡ true
          across i u v e = before_lt (lowest_of (in_mask mask)) (get_or ns i 0) (get_or ns (i + 1) 0) (row_at vs i) (row_at vs (i + 1)) (omega (arith, (t.inside i u v).1))

          within_run : (i : ℕ) → a ≤ i → i + 1 < r → before (suc (lowest_of (in_mask mask))) (pair_at ns vs i) (pair_at ns vs (i + 1)) ≡ true
          within_run i v m =
              before_same (lowest_of (in_mask mask)) (get_or ns i 0) (get_or ns (i + 1) 0) (row_at vs i) (row_at vs (i + 1)) (o.numbered i v (omega arith) ∙ sym (o.numbered (i + 1) (omega arith) m)) (rows.1.up i v m)

    been : (k : ℕ) → k ≤ n → (a : ℕ) × Been k a
    been zero l = (
      cursor,
      record {
        begun = omega arith;
        within = start;
        rest = refl;
        owned = λ i u m. absurd (omega arith);
        inside = λ i u m. absurd (omega arith);
        rise = record { each = λ i u m. absurd (omega arith); up = λ i u m. absurd (omega arith) };
        few = λ i u m e. omega arith;
      },
    )
    been (suc k) l = let (a, t) = been k (omega arith) in (end_of a (low.0 + k), farther k a l t)

    module _ (end : Point) (many : n ≡ end.0 - low.0) (ended : begins (has_owner x 0) (sets_rest x low n whole) ≡ false) where
      -- an entry of the owner that stands first behind the runs
      stands_first : (a : ℕ) → a < count → is_word os (x * 2) a ≡ true → rest_at os ns vs count a ≡ sets_rest x low n whole → ⊥
      unfolding entries_from
      stands_first a l w e =
          let o : get_or os a 0 ≡ x * 2 = eqb-true (get_or os a 0) (x * 2) w in
          let s : begins (has_owner x 0) (rest_at os ns vs count a) ≡ true = rw (run_first (entry_at os ns vs) count a l) (both (eq-eqb (get_or os a 0 / 2) x (omega arith)) (eq-eqb (get_or os a 0 % 2) 0 (omega arith))) in
          true≢false (sym s ∙ ap (begins (has_owner x 0)) e ∙ ended)

      meets : (a : ℕ) → Been n a → a ≡ to
      meets a t = go (tested (leb to a)) (tested (leb a to))
        where
          go : Tested (leb to a) → Tested (leb a to) → a ≡ to
          go (passed d) (passed e) = let u : to ≤ a = leb-true to a d in let v : a ≤ to = leb-true a to e in omega arith
          go (passed d) (failed e) = let v : to < a = leb-false a to e in absurd (true≢false (sym (t.owned to run.onward v) ∙ run.stops (omega (arith, t.within))))
          go (failed d) e = let v : a < to = leb-false to a d in absurd (stands_first a (omega (arith, run.within)) (run.each a t.begun v) t.rest)

      pub sets_ordered : SetsFit ns vs cursor to low end mask
      sets_ordered =
          let (a, t) = been n (omega arith) in
          let e : a ≡ to = meets a t in
          record {
            rise = subst (λ r. Rising (suc (lowest_of (in_mask mask))) (pair_at ns vs) (λ p. row_cut mask (drop 1 p)) cursor r) e t.rise;
            inside = λ i u l. let w = t.inside i u (omega arith) in (w.0, omega (arith, w.0, w.1));
            few = record { apart = λ i u l d. t.few i u (omega arith) d };
          }
