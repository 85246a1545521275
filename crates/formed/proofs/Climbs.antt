-- Entries tested in loops: that they ascend, their joined numbers, which bits their rows have, and that no more have one number than a point may have rows; and what these say of a node's rows and pairs.
use Prim.Native.Nat.{ℕ, zero, suc, ◌+◌, ◌-◌, ◌*◌, ◌/◌, ◌%◌, ◌≤◌, ◌<◌}
use native.Mathlib.Nat.{eq-or-lt_of_le}
use native.Mathlib.Omega.{arith}
use mathlib.Core.Path.{◌≡◌, refl, sym, ap, ap₂, ◌∙◌}
use mathlib.Core.Bool.{Bool, true, false, not, ◌&&◌, ◌||◌, true≢false}
use mathlib.Core.Logic.{◌⊎◌, inl, inr}
use mathlib.Core.List.{List}
use lib.ListN.{get_or, drop}
use lib.Bits.{bit_or, or_add_and, and_le_l, and_le_r, or_zero_l, or_lt}
use lib.Dec.{leb, eqb}
use borrow.Author.Tests.{le-leb, lt-leb, leb-true, eqb-true, eqb-false}
use Rattle.meaning.specs.Outcome.{most_rows}
use Rattle.meaning.specs.Order.{before}
use Rattle.meaning.specs.Formula.{lowest_of}
use Rattle.meaning.specs.declared.Point.{Point}
use Rattle.meaning.specs.declared.Window.{Window}
use Rattle.meaning.proofs.Points.{first, second, both, Tested, passed, failed, tested}
use Rattle.rowset.specs.Rows.{words_of, row_at}
use Rattle.rowset.specs.declared.Row.{Row}
use Rattle.kinds.specs.Kinds.{in_mask, pair_at, pairs_from}
use Rattle.formed.specs.Tests.{Tells, row_cut, age_fits, pair_cut, aged_fit, most_of, row_under, joined_bits, joint_at, Rising, FewAlike, SetsFit}
use Rattle.formed.proofs.Ascents.{rising_passes, passes_rising, pairs_fit_lem}
use Rattle.formed.proofs.Masks.{row_under_lem}
use Rattle.formed.proofs.Ordered.{rises}

-- what a test says, of something that holds where another does
pub tells_as : {P Q : Type 0} → (P → Q) → (Q → P) → (t : Bool) → Tells t P → Tells t Q
tells_as f g true h = f h
tells_as f g false h = λ q. h (g q)

-- what it says after a branch on it
pub said_so : {P : Type 0} (t : Bool) → not t ≡ false → Tells t P → P
said_so true e h = h
said_so false e h = absurd (true≢false e)

pub said_not : {P : Type 0} (t : Bool) → not t ≡ true → Tells t P → P → ⊥
said_not true e h = absurd (true≢false (sym e))
said_not false e h = h

-- ---- entries that ascend

-- what an accessor gives from one number up to another: each stands before the next
pub record Ascends (lowest : ℕ) (at : ℕ → List ℕ) (from to : ℕ) : Type 0 where
  pub up : (i : ℕ) → from ≤ i → i + 1 < to → before lowest (at i) (at (i + 1)) ≡ true

module _ (lowest : ℕ) (at : ℕ → List ℕ) (from : ℕ) where
  pub ascends_one : (to : ℕ) → to ≤ from + 1 → Ascends lowest at from to
  ascends_one to l = record { up = λ i u m. absurd (omega arith) }

  pub ascends_more : (i : ℕ) → from < i → Ascends lowest at from i → before lowest (at (i - 1)) (at i) ≡ true → Ascends lowest at from (i + 1)
  ascends_more i l h t = record { up = λ j u m. next j u (eq-or-lt_of_le (let w : j + 1 ≤ i = omega arith in w)) }
    where
      next : (j : ℕ) → from ≤ j → (j + 1 ≡ i) ⊎ (j + 1 < i) → before lowest (at j) (at (j + 1)) ≡ true
      next j u (inl e) =
          let d : j ≡ i - 1 = omega arith in
          ap₂ (λ a b. before lowest (at a) (at b)) d e ∙ t
      next j u (inr m) = h.up j u m

  pub ascends_fails : (i to : ℕ) → from < i → i < to → before lowest (at (i - 1)) (at i) ≡ false → Ascends lowest at from to → ⊥
  ascends_fails i to l m t h =
      let z : i - 1 + 1 ≡ i = omega arith in
      let up : before lowest (at (i - 1)) (at i) ≡ true = rw z at (h.up (i - 1) (omega arith) (omega arith)) in
      true≢false (sym up ∙ t)

-- ---- joined numbers

module _ (ns vs : List ℕ) (k : ℕ) where
  -- entry k's, from its row
  pub joint_at_lem : (row : Row) {n : ℕ} → words_of row ≡ row_at vs k → n ≡ get_or ns k 0 * 4294967296 + row.v0 → n ≡ joint_at ns vs k
  joint_at_lem row e h = h ∙ ap (λ u. get_or ns k 0 * 4294967296 + get_or u 0 0) e

  -- it is that of the last entry before the next
  pub joint_last : {n : ℕ} → n ≡ joint_at ns vs k → n ≡ joint_at ns vs (k + 1 - 1)
  joint_last h =
      let z : k ≡ k + 1 - 1 = omega arith in
      h ∙ ap (joint_at ns vs) z

-- ---- the bits of words

-- a word is at least each word of a column from one row up to another, and 0 where these are
pub record Bits (column : ℕ → ℕ) (from to w : ℕ) : Type 0 where
  pub word : w < 4294967296
  pub most : (i : ℕ) → from ≤ i → i < to → column i ≤ w
  pub none : ((i : ℕ) → from ≤ i → i < to → column i ≡ 0) → w ≡ 0

pub record BitsOf (vs : List ℕ) (from to : ℕ) (r : Row) : Type 0 where
  pub bits0 : Bits (λ i. get_or vs (i * 4) 0) from to r.v0
  pub bits1 : Bits (λ i. get_or vs (i * 4 + 1) 0) from to r.v1
  pub bits2 : Bits (λ i. get_or vs (i * 4 + 2) 0) from to r.v2
  pub bits3 : Bits (λ i. get_or vs (i * 4 + 3) 0) from to r.v3

le_bit_or_left : (a b : ℕ) → a ≤ bit_or a b
le_bit_or_left a b = omega (arith, or_add_and a b, and_le_r a b)

le_bit_or_right : (a b : ℕ) → b ≤ bit_or a b
le_bit_or_right a b = omega (arith, or_add_and a b, and_le_l a b)

module _ (column : ℕ → ℕ) (from : ℕ) where
  bits_one : column from < 4294967296 → Bits column from (from + 1) (column from)
  bits_one l =
      record {
        word = l;
        most = λ i u m.
            let e : i ≡ from = omega arith in
            rw e (omega arith);
        none = λ z. z from (omega arith) (omega arith);
      }

  bits_more : {i w : ℕ} → from ≤ i → column i < 4294967296 → Bits column from i w → Bits column from (i + 1) (bit_or w (column i))
  bits_more {i} {w} f l h =
      record {
        word = or_lt 32 w (column i) h.word l;
        most = λ j u m. go j u (eq-or-lt_of_le (let n : j ≤ i = omega arith in n));
        none = λ z. ap₂ bit_or (h.none (λ j u m. z j u (omega arith))) (z i f (omega arith)) ∙ or_zero_l 0;
      }
    where
      go : (j : ℕ) → from ≤ j → (j ≡ i) ⊎ (j < i) → column j ≤ bit_or w (column i)
      go j u (inl e) = rw e (le_bit_or_right w (column i))
      go j u (inr m) = omega (arith, h.most j u m, le_bit_or_left w (column i))

-- a row under another, word by word
words_under : (m r : Row) → row_under m (words_of r) ≡ true → (r.v0 ≤ m.v0) × (r.v1 ≤ m.v1) × (r.v2 ≤ m.v2) × (r.v3 ≤ m.v3)
words_under m r t =
    let s = second (leb r.v0 m.v0) (leb r.v1 m.v1 && (leb r.v2 m.v2 && leb r.v3 m.v3)) t in
    let q = second (leb r.v1 m.v1) (leb r.v2 m.v2 && leb r.v3 m.v3) s in (
      leb-true r.v0 m.v0 (first (leb r.v0 m.v0) (leb r.v1 m.v1 && (leb r.v2 m.v2 && leb r.v3 m.v3)) t),
      leb-true r.v1 m.v1 (first (leb r.v1 m.v1) (leb r.v2 m.v2 && leb r.v3 m.v3) s),
      leb-true r.v2 m.v2 (first (leb r.v2 m.v2) (leb r.v3 m.v3) q),
      leb-true r.v3 m.v3 (second (leb r.v2 m.v2) (leb r.v3 m.v3) q),
    )

-- a word is at most what a bit leaves where each of the column is
word_most : {column : ℕ → ℕ} {from to w : ℕ} (b : ℕ) → b < 2 → Bits column from to w → ((i : ℕ) → from ≤ i → i < to → column i ≤ b * 4294967295) → w ≤ b * 4294967295
word_most zero l g h = let z = g.none (λ i u m. omega (arith, h i u m)) in omega arith
word_most (suc zero) l g h = omega (arith, g.word)
word_most (suc (suc b)) l g h = absurd (omega arith)

module _ (vs : List ℕ) (words : (i : ℕ) → get_or vs i 0 < 4294967296) (from : ℕ) where
  -- the words of a row, as they stand in the list
  fields : (row : Row) (i : ℕ) → words_of row ≡ row_at vs i → (row.v0 ≡ get_or vs (i * 4) 0) × (row.v1 ≡ get_or vs (i * 4 + 1) 0) × (row.v2 ≡ get_or vs (i * 4 + 2) 0) × (row.v3 ≡ get_or vs (i * 4 + 3) 0)
  fields row i e = (ap (λ u. get_or u 0 0) e, ap (λ u. get_or u 1 0) e, ap (λ u. get_or u 2 0) e, ap (λ u. get_or u 3 0) e)

  pub rows_one : (row : Row) → words_of row ≡ row_at vs from → BitsOf vs from (from + 1) row
  rows_one row e =
      let f = fields row from e in
      record {
        bits0 = rw f.0 (bits_one (λ i. get_or vs (i * 4) 0) from (words (from * 4)));
        bits1 = rw f.1 (bits_one (λ i. get_or vs (i * 4 + 1) 0) from (words (from * 4 + 1)));
        bits2 = rw f.2 (bits_one (λ i. get_or vs (i * 4 + 2) 0) from (words (from * 4 + 2)));
        bits3 = rw f.3 (bits_one (λ i. get_or vs (i * 4 + 3) 0) from (words (from * 4 + 3)));
      }

  pub rows_more : {i : ℕ} {bits : Row} (row : Row) → from ≤ i → BitsOf vs from i bits → words_of row ≡ row_at vs i → BitsOf vs from (i + 1) (joined_bits bits row)
  rows_more {i} {bits} row l h e =
      let f = fields row i e in
      record {
        bits0 = rw f.0 (bits_more (λ i. get_or vs (i * 4) 0) from l (words (i * 4)) h.bits0);
        bits1 = rw f.1 (bits_more (λ i. get_or vs (i * 4 + 1) 0) from l (words (i * 4 + 1)) h.bits1);
        bits2 = rw f.2 (bits_more (λ i. get_or vs (i * 4 + 2) 0) from l (words (i * 4 + 2)) h.bits2);
        bits3 = rw f.3 (bits_more (λ i. get_or vs (i * 4 + 3) 0) from l (words (i * 4 + 3)) h.bits3);
      }

  module _ (mask to : ℕ) (r : Row) (h : BitsOf vs from to r) where
    -- the rows are cut down to the mask where the bits of all are
    bits_cut : row_under (most_of mask) (words_of r) ≡ true → (i : ℕ) → from ≤ i → i < to → row_cut mask (row_at vs i) ≡ true
    bits_cut t i u l =
        let m = most_of mask in
        let w = words_under m r t in
        sym (row_under_lem mask vs words i)
        ∙ both (le-leb (get_or vs (i * 4) 0) m.v0 (omega (arith, h.bits0.most i u l, w.0)))
        (both (le-leb (get_or vs (i * 4 + 1) 0) m.v1 (omega (arith, h.bits1.most i u l, w.1)))
        (both (le-leb (get_or vs (i * 4 + 2) 0) m.v2 (omega (arith, h.bits2.most i u l, w.2))) (le-leb (get_or vs (i * 4 + 3) 0) m.v3 (omega (arith, h.bits3.most i u l, w.3)))))

    cut_bits : ((i : ℕ) → from ≤ i → i < to → row_cut mask (row_at vs i) ≡ true) → row_under (most_of mask) (words_of r) ≡ true
    cut_bits c =
        both (le-leb r.v0 m.v0 (word_most (mask / 1 % 2) (omega arith) h.bits0 (λ i u l. (at i u l).0)))
        (both (le-leb r.v1 m.v1 (word_most (mask / 2 % 2) (omega arith) h.bits1 (λ i u l. (at i u l).1)))
        (both (le-leb r.v2 m.v2 (word_most (mask / 4 % 2) (omega arith) h.bits2 (λ i u l. (at i u l).2))) (le-leb r.v3 m.v3 (word_most (mask / 8 % 2) (omega arith) h.bits3 (λ i u l. (at i u l).3)))))
      where
        m : Row
        m = most_of mask

        at : (i : ℕ) → from ≤ i → i < to
            → (get_or vs (i * 4) 0 ≤ mask / 1 % 2 * 4294967295) × (get_or vs (i * 4 + 1) 0 ≤ mask / 2 % 2 * 4294967295) × (get_or vs (i * 4 + 2) 0 ≤ mask / 4 % 2 * 4294967295) × (get_or vs (i * 4 + 3) 0 ≤ mask / 8 % 2 * 4294967295)
        at i u l = words_under m (record { v0 = get_or vs (i * 4) 0; v1 = get_or vs (i * 4 + 1) 0; v2 = get_or vs (i * 4 + 2) 0; v3 = get_or vs (i * 4 + 3) 0 }) (row_under_lem mask vs words i ∙ c i u l)

  -- so entries that ascend are a node's where the test of all their bits says so
  pub rising_tells : (ns : List ℕ) (mask to : ℕ) (r : Row) → Ascends (suc (lowest_of (in_mask mask))) (pair_at ns vs) from to → BitsOf vs from to r → (t : Bool) → t ≡ row_under (most_of mask) (words_of r) → Tells t (Rising (suc (lowest_of (in_mask mask))) (pair_at ns vs) (λ p. row_cut mask (drop 1 p)) from to)
  rising_tells ns mask to r a h true e = record { each = bits_cut mask to r h (sym e); up = a.up }
  rising_tells ns mask to r a h false e = λ g. true≢false (sym (cut_bits mask to r h g.each) ∙ sym e)

-- ---- no more of one number than a point may have rows

module _ (ns : List ℕ) (from : ℕ) where
  pub alike_few : (to : ℕ) → to ≤ from + most_rows → FewAlike ns from to
  alike_few to l = record { apart = λ i u m e. omega arith }

  alike_more : (i : ℕ) → from + most_rows ≤ i → FewAlike ns from i → (get_or ns i 0 ≡ get_or ns (i - most_rows) 0 → ⊥) → FewAlike ns from (i + 1)
  alike_more i l h d = record { apart = λ j u m. go j u (eq-or-lt_of_le (let w : j + most_rows ≤ i = omega arith in w)) }
    where
      go : (j : ℕ) → from ≤ j → (j + most_rows ≡ i) ⊎ (j + most_rows < i) → get_or ns j 0 ≡ get_or ns (j + most_rows) 0 → ⊥
      go j u (inl e) s =
          let f : j ≡ i - most_rows = omega arith in
          d (sym (ap (λ k. get_or ns k 0) e) ∙ sym s ∙ ap (λ k. get_or ns k 0) f)
      go j u (inr m) s = h.apart j u m s

  alike_fails : (i to : ℕ) → from + most_rows ≤ i → i < to → get_or ns i 0 ≡ get_or ns (i - most_rows) 0 → FewAlike ns from to → ⊥
  alike_fails i to l m e h =
      let z : i - most_rows + most_rows ≡ i = omega arith in
      h.apart (i - most_rows) (omega arith) (omega arith) (sym e ∙ sym (ap (λ k. get_or ns k 0) z))

  -- what a loop over the entries knows before entry i: one of all has such a number, or none before i has
  abbrev pub AlikeYet : ℕ → ℕ → Bool → Type 0
  AlikeYet to i true = FewAlike ns from to → ⊥
  AlikeYet to i false = FewAlike ns from i

  pub yet_more : (to i : ℕ) → from + most_rows ≤ i → i < to → (t : Bool) {u : Bool} → AlikeYet to i t → u ≡ t || eqb (get_or ns i 0) (get_or ns (i - most_rows) 0) → AlikeYet to (i + 1) u
  yet_more to i l m true h e = rw e h
  yet_more to i l m false {u} h e = go (tested (eqb (get_or ns i 0) (get_or ns (i - most_rows) 0)))
    where
      go : Tested (eqb (get_or ns i 0) (get_or ns (i - most_rows) 0)) → AlikeYet to (i + 1) u
      go (passed q) = rw (e, q) (alike_fails i to l m (eqb-true (get_or ns i 0) (get_or ns (i - most_rows) 0) q))
      go (failed q) = rw (e, q) (alike_more i l h (eqb-false (get_or ns i 0) (get_or ns (i - most_rows) 0) q))

  pub yet_all : (to i : ℕ) → i ≡ to → (t : Bool) → AlikeYet to i t → Tells (not t) (FewAlike ns from to)
  yet_all to i e true h = h
  yet_all to i e false h = rw e at h

-- ---- a node's rows and pairs, with the mask

pub sets_empty : (ns vs : List ℕ) (mask from to : ℕ) (low end : Point) → from ≡ to → SetsFit ns vs from to low end mask
sets_empty ns vs mask from to low end e =
    record { rise = record { each = λ i u m. absurd (omega arith); up = λ i u m. absurd (omega arith) }; inside = λ i u m. absurd (omega arith); few = alike_few ns from to (omega arith) }

module _ (ns vs : List ℕ) (mask from to : ℕ) where
  -- the first and the last number say where all are
  pub sets_are : (low end : Point) → from < to → low.0 ≤ get_or ns from 0 → get_or ns (to - 1) 0 < end.0 → Rising (suc (lowest_of (in_mask mask))) (pair_at ns vs) (λ p. row_cut mask (drop 1 p)) from to → FewAlike ns from to → SetsFit ns vs from to low end mask
  sets_are low end l a z h few =
      record {
        rise = h;
        inside = λ i u m. (omega (arith, rises ns vs (λ p. row_cut mask (drop 1 p)) from to h from i (omega arith) u m), omega (arith, rises ns vs (λ p. row_cut mask (drop 1 p)) from to h i (to - 1) u (omega arith) (omega arith)));
        few = few;
      }

  module _ (w : Window) (old : ℕ) (oldest : (age : ℕ) → leb age old ≡ age_fits w age) (some : from < to) where
    aged_rise : aged_fit mask w (pairs_from ns vs from (to - from)) ≡ true → Rising (suc (lowest_of (in_mask mask))) (pair_at ns vs) (pair_cut mask w) from to
    aged_rise t = passes_rising (suc (lowest_of (in_mask mask))) (pair_at ns vs) (pair_cut mask w) to from (pairs_fit_lem ns vs mask w from to ∙ t)

    not_aged : (aged_fit mask w (pairs_from ns vs from (to - from)) ≡ true → ⊥) → false ≡ aged_fit mask w (pairs_from ns vs from (to - from))
    not_aged d = go (aged_fit mask w (pairs_from ns vs from (to - from))) d
      where
        go : (t : Bool) → (t ≡ true → ⊥) → false ≡ t
        go true d = absurd (d refl)
        go false d = refl

    -- the last is too old
    pub aged_old : old < get_or ns (to - 1) 0 → false ≡ aged_fit mask w (pairs_from ns vs from (to - from))
    aged_old l =
        not_aged
        (λ t.
        let last : age_fits w (get_or ns (to - 1) 0) ≡ true = first (age_fits w (get_or ns (to - 1) 0)) (row_cut mask (row_at vs (to - 1))) ((aged_rise t).each (to - 1) (omega arith) (omega arith)) in
        true≢false (sym last ∙ sym (oldest (get_or ns (to - 1) 0)) ∙ lt-leb (get_or ns (to - 1) 0) old l))

    pub aged_tells : get_or ns (to - 1) 0 ≤ old → (t : Bool) → Tells t (Rising (suc (lowest_of (in_mask mask))) (pair_at ns vs) (λ p. row_cut mask (drop 1 p)) from to) → t ≡ aged_fit mask w (pairs_from ns vs from (to - from))
    aged_tells l true h =
        sym
        (sym (pairs_fit_lem ns vs mask w from to)
        ∙ rising_passes (suc (lowest_of (in_mask mask))) (pair_at ns vs) (pair_cut mask w) to from
        (record {
          each = λ i u m.
              both (sym (oldest (get_or ns i 0)) ∙ le-leb (get_or ns i 0) old (omega (arith, rises ns vs (λ p. row_cut mask (drop 1 p)) from to h i (to - 1) u (omega arith) (omega arith)))) (h.each i u m);
          up = h.up;
        }))
    aged_tells l false h =
        not_aged
        (λ t.
        let r = aged_rise t in
        h (record { each = λ i u m. second (age_fits w (get_or ns i 0)) (row_cut mask (row_at vs i)) (r.each i u m); up = r.up }))
