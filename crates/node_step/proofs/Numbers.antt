-- The numbers of a node's step: how its figures stand to one another, and the room that it takes.
use Prim.Native.Nat.{ℕ, ◌+◌, ◌-◌, ◌*◌, ◌≤◌, ◌<◌}
use native.Mathlib.Omega.{arith}
use mathlib.Core.Path.{◌≡◌, sym, ap, ◌∙◌}
use mathlib.Core.List.{List}
use lib.ListN.{length, get_or, length-append}
use Rattle.meaning.specs.Formula.{free, lowest_of}
use Rattle.meaning.specs.Lists.{gather}
use Rattle.meaning.specs.Log.{point, points_from}
use Rattle.meaning.specs.Outcome.{given}
use Rattle.meaning.specs.RuleFile.{Accepted, checking, node_count, formula_at}
use Rattle.meaning.specs.Kept.{entry_of}
use Rattle.meaning.proofs.OrderLaws.{lowest_same}
use Rattle.meaning.proofs.Accepted.{nodes_most}
use Rattle.method.specs.Stored.{Stored, base_of, held}
use Rattle.method.specs.Step.{wanted_from, count_before, count_after}
use Rattle.method.specs.Room.{rows_most, sets_most}
use Rattle.method.proofs.Bounds.{one_added, before_after, after_most, wanted_before, wanted_after, wanted_grows}
use Rattle.method.proofs.Room.{entries_rows}
use Rattle.rowset.specs.Sets.{Run}
use Rattle.entries.specs.Entries.{entries_from}
use Rattle.node_sets.specs.NodeEntries.{set_entries, Spaces, NumbersWithin}
use Rattle.node_sets.proofs.Gathered.{entries_many}
use Rattle.node_sets.proofs.Loading.{numbers_within}
use Rattle.kinds.specs.Kinds.{in_mask}
use Rattle.node_step.specs.declared.Own.{Own}
use Rattle.node_step.specs.Figures.{NodeFigures, CallReady, mask_in}
use Rattle.node_step.specs.Walks.{RoomFor}
use Rattle.node_step.specs.Parts.{OwnFigures, FiguresThere}

-- room for more is room for fewer
fewer_words : (a k m r : ℕ) → (a + (k + m)) * 4 ≤ r → (a + k) * 4 ≤ r
fewer_words a k m r h = omega arith

fewer_marks : (a k m : ℕ) {b : ℕ} → a + (k + m) < b → a + k < b
fewer_marks a k m h = omega arith

-- how node x's figures stand to one another in a call after so many points, and how many times, entries and figures there are
pub record Numbers (points x stamps entries numbers values figures : ℕ) (o : Own) : Type 0 where
  pub node : x < 32
  pub figured : x * 9 + 9 ≤ figures
  pub low_before : o.low.0 ≤ o.before
  pub before_after : o.before ≤ o.after
  pub low_want : o.low.0 ≤ o.want.0
  pub want_after : o.want.0 ≤ o.after
  pub after_most : o.after ≤ points + 1
  pub few_points : points ≤ 10000000
  pub begin_pairs : o.begin ≤ o.pairs
  pub pairs_end : o.pairs ≤ o.end
  pub end_there : o.end ≤ entries
  pub few_entries : entries ≤ 512
  pub numbers_are_there : entries ≤ numbers
  pub values_are_there : entries * 4 ≤ values
  pub some_stamps : 1 ≤ stamps
  pub few_stamps : stamps ≤ points + 1

module _ {s : Stored} {w os ns vs stamps f : List ℕ} (g : CallReady s w os ns vs stamps f) where
  abbrev pub a : Accepted
  a = g.formed.accepted.0

  abbrev pub ok : checking s.rule ≡ given a
  ok = g.formed.accepted.1

  stamps_many : length stamps ≡ length s.times + 1
  stamps_many = ap length g.stamps_are_now ∙ length-append s.times _

  -- the first retained point
  pub base_is : point (s.points + 1 - length stamps) ≡ base_of s
  base_is = ap point (omega (arith, stamps_many))

  pub figures_at : (y : ℕ) → y < node_count s.rule → FiguresThere f y
  figures_at y l = record { there = omega (arith, g.figures_there); mask = (g.each y l).mask_small }

  module _ (x : ℕ) (l : x < node_count s.rule) {o : Own} (h : OwnFigures f x o) where
    figures : NodeFigures s w os ns vs f x
    figures = g.each x l

    pub lowest_is : o.lowest ≡ lowest_of (free (formula_at s.rule x))
    lowest_is = h.lowest ∙ lowest_same (in_mask (mask_in f x)) (free (formula_at s.rule x)) figures.mask

    pub low_is : o.low.0 ≡ (wanted_from s.rule (count_before s) x).0
    low_is = h.low ∙ figures.low

    pub before_is : o.before ≡ count_before s x
    before_is = h.before ∙ figures.before

    pub after_is : o.after ≡ count_after s w x
    after_is = h.after ∙ figures.after

    pub want_is : o.want.0 ≡ (wanted_from s.rule (count_after s w) x).0
    want_is = h.want ∙ figures.want

    pub numbers : Numbers s.points x (length stamps) (length os) (length ns) (length vs) (length f) o
    numbers =
        let few = g.formed.few_times in
        let many = g.formed.times_many in
        record {
          node = omega (arith, nodes_most s.rule a ok);
          figured = omega (arith, g.figures_there);
          low_before = omega (arith, low_is, before_is, wanted_before s a ok few many x);
          before_after = omega (arith, before_is, after_is, before_after s a ok few many w x l);
          low_want = omega (arith, low_is, want_is, wanted_grows s a ok few many w x l);
          want_after = omega (arith, want_is, after_is, wanted_after s a ok few many w x);
          after_most = omega (arith, after_is, after_most s a ok few many w x l, one_added w);
          few_points = omega (arith, g.not_full);
          begin_pairs = omega (arith, h.begin, h.pairs, figures.sets_first);
          pairs_end = omega (arith, h.pairs, h.end, figures.pairs_last);
          end_there = omega (arith, h.end, figures.within);
          few_entries = omega (arith, g.formed.few_kept, ap length g.entries_are, entries_many os ns vs 0 (length os));
          numbers_are_there = g.numbers_are_there;
          values_are_there = g.values_are_there;
          some_stamps = omega (arith, stamps_many);
          few_stamps = omega (arith, stamps_many, many);
        }

    pub entries-here : entries_from os ns vs o.begin (o.pairs - o.begin) ≡ set_entries x (held s.entries x) o.low (o.before - o.low.0)
    entries-here = rw (h.begin, h.pairs, low_is, before_is) figures.sets

    rows_kept : o.pairs - o.begin ≡ length (gather (held s.entries x) (points_from o.low (o.before - o.low.0)))
    rows_kept =
        sym (entries_many os ns vs o.begin (o.pairs - o.begin)) ∙ ap length entries-here
        ∙ entries_rows (λ j. entry_of x 0 j.0) (held s.entries x) (points_from o.low (o.before - o.low.0))

    pub sets_most_lem : sets_most s w x ≡ o.after - o.low.0
    sets_most_lem = rw (after_is, low_is)

    pub rows_most_lem : rows_most s w x ≡ o.pairs - o.begin + 32 * (o.after - o.before)
    rows_most_lem = rw (rows_kept, after_is, low_is, before_is)

    load_rows : Run vs o.begin o.pairs
    load_rows =
        let m = numbers in
        record { ordered = omega arith; there = omega arith }

    load_numbers : NumbersWithin ns o.begin o.pairs o.low.0 (o.before - o.low.0)
    load_numbers = numbers_within (held s.entries x) o.low os ns vs o.begin o.pairs x (o.before - o.low.0) numbers.begin_pairs entries-here

    module _ {rows at : List ℕ} {n : ℕ} (r : RoomFor rows at n (sets_most s w x) (rows_most s w x)) where
      pub room_here : RoomFor rows at n (o.after - o.low.0) (o.pairs - o.begin + 32 * (o.after - o.before))
      room_here = rw (sets_most_lem, rows_most_lem) at r

      load_spaces : Spaces rows at n (o.before - o.low.0) (o.pairs - o.begin)
      load_spaces =
          let q = room_here in
          record {
            laid = q.stand.laid;
            marks = omega (arith, q.marks, numbers.low_before, numbers.before_after);
            words = fewer_words (get_or at n 0) (o.pairs - o.begin) (32 * (o.after - o.before)) (length rows) q.words;
            small = fewer_marks (get_or at n 0) (o.pairs - o.begin) (32 * (o.after - o.before)) q.small;
          }

      -- what loading its kept sets asks
      pub load_ready : (o.pairs ≤ length ns) × Run vs o.begin o.pairs × Spaces rows at n (o.before - o.low.0) (o.pairs - o.begin) × NumbersWithin ns o.begin o.pairs o.low.0 (o.before - o.low.0)
      load_ready = (omega (arith, numbers.pairs_end, numbers.end_there, numbers.numbers_are_there), load_rows, load_spaces, load_numbers)
