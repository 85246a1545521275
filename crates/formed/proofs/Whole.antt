-- The parts of the test, and that together they are well-formedness.
use Prim.Native.Nat.{ℕ, zero, suc, ◌+◌, ◌-◌, ◌≤◌, ◌<◌}
use native.Mathlib.Omega.{arith}
use mathlib.Core.Path.{◌≡◌, refl, sym, subst, ap, ap₂, ◌∙◌}
use mathlib.Core.Bool.{Bool, true, false, ◌&&◌}
use mathlib.Core.List.{List, [], ◌∷◌, ◌++◌}
use lib.ListN.{length, get_or, take, length-map, length-take}
use lib.Seq.{get_or-take}
use lib.Dec.{leb, eqb}
use borrow.Author.Tests.{le-leb, lt-leb}
use Rattle.meaning.specs.Lists.{all, range, gather}
use Rattle.meaning.specs.Outcome.{most_points, most_open, most_kept}
use Rattle.meaning.specs.Log.{points_from, point}
use Rattle.meaning.specs.Formula.{free}
use Rattle.meaning.specs.View.{view_of}
use Rattle.meaning.specs.RuleFile.{checking, node_count, node_at, formula_at, last_node, is_accepted}
use Rattle.meaning.specs.Kept.{Entry}
use Rattle.meaning.specs.declared.Point.{Point}
use Rattle.meaning.specs.declared.LogEnd.{LogEnd}
use Rattle.meaning.proofs.Lists.{range_length}
use Rattle.method.specs.Stored.{Stored, held, held_pairs, first_retained}
use Rattle.method.specs.Step.{wanted_from, counts_stored, count_before, open_stored}
use Rattle.method.specs.WellFormed.{most_times, not_falling, same_entries, set_fits, pairs_fit, own_entries, node_fits, well_formed}
use Rattle.method.proofs.Lists.{gather_each}
use Rattle.progress.specs.Bounds.{Within}
use Rattle.rulefile.specs.Weighing.{Masked}
use Rattle.kinds.specs.Kinds.{in_mask}
use Rattle.entries.specs.Entries.{entry_at, entries_from}
use Rattle.node_sets.specs.NodeEntries.{set_entries, aged_entries}
use Rattle.formed.specs.StateFigures.{stored_in, StateFigures, EntryPlaces}
use Rattle.formed.specs.Walk.{own_runs, own_fit, entries_fit}
use Rattle.formed.specs.Parts.{counts_in, CountsStand, times_fit, kept_fit}
use Rattle.formed.specs.Tests.{MaskOf}
use Rattle.formed.specs.Steps.{EntriesPlaced}
use Rattle.formed.proofs.Masks.{mask_has}

-- ---- the rule

-- masks of an accepted rule
pub masks_of : (b masks : List ℕ) → Masked b masks → (x : ℕ) → x < node_count b → MaskOf b x (get_or masks x 0)
masks_of b masks h x o = record { each = λ v l. ap (λ m. in_mask m v) (h x o) ∙ mask_has (free (formula_at b x)) v l }

-- ---- times

-- the counts, as a part of a slice has them
module _ {b : List ℕ} {e : LogEnd} {times counts : List ℕ} (c : CountsStand b e times counts) where
  part_exact : take (node_count b - 0) counts ≡ counts_in b e times
  part_exact = let z : node_count b - 0 ≡ node_count b = omega arith in rw z c.exact

  -- the points that the last node has not settled
  pub part_open : 0 < node_count b → e.points - get_or counts (node_count b - 1) 0 ≡ e.points - get_or (counts_in b e times) (last_node b) 0
  part_open h = ap (λ n. e.points - n) (sym (get_or-take (node_count b) counts (last_node b) 0 (omega arith)) ∙ ap (λ cs. get_or cs (last_node b) 0) c.exact)

  pub part_within : e.points ≤ most_points → Within most_points (take (node_count b - 0) counts)
  part_within l y = let z : node_count b - 0 ≡ node_count b = omega arith in rw z (omega (arith, c.bounded y))

  pub part_long : node_count b ≤ length counts → node_count b ≤ length (take (node_count b - 0) counts)
  part_long l = rw (length-take (node_count b - 0) counts) (omega arith)

module _ (b : List ℕ) (e : LogEnd) (times : List ℕ) where
  pub points_many : most_points < e.points → false ≡ times_fit b e times
  unfolding times_fit
  points_many l = rw (lt-leb e.points most_points l)

  pub times_many : e.points ≤ most_points → most_times < length times → false ≡ times_fit b e times
  unfolding times_fit
  times_many m l = rw (le-leb e.points most_points m, lt-leb (length times) most_times l)

  abbrev unsettled : ℕ
  unsettled = e.points - get_or (counts_in b e times) (last_node b) 0

  pub open_many : e.points ≤ most_points → length times ≤ most_times → most_open < unsettled → false ≡ times_fit b e times
  unfolding times_fit
  open_many m l o = rw (le-leb e.points most_points m, le-leb (length times) most_times l, lt-leb unsettled most_open o)

  pub times_tested : e.points ≤ most_points → length times ≤ most_times → unsettled ≤ most_open → {counts : List ℕ} → CountsStand b e times counts
      → (eqb (length times) (e.points - (first_retained e.points (take (node_count b - 0) counts)).0) && not_falling (times ++ e.latest.0 ∷ [])) ≡ times_fit b e times
  unfolding times_fit
  times_tested m l o c = rw (le-leb e.points most_points m, le-leb (length times) most_times l, le-leb unsettled most_open o) (ap (λ cs. eqb (length times) (e.points - (first_retained e.points cs).0) && not_falling (times ++ e.latest.0 ∷ [])) (part_exact c))

-- ---- entries

all_each : (p q : ℕ → Bool) (a n : ℕ) → ((y : ℕ) → a ≤ y → y < a + n → p y ≡ q y) → all p (range a n) ≡ all q (range a n)
all_each p q a zero h = refl
all_each p q a (suc n) h = ap₂ (λ s t. s && t) (h a (omega arith) (omega arith)) (all_each p q (suc a) n (λ y u o. h y (omega arith) (omega arith)))

-- the first kept points by another name
module _ (b : List ℕ) (low low' : ℕ → Point) (end : ℕ → ℕ) (es : List Entry) (nodes : ℕ) (same : (x : ℕ) → x < nodes → low x ≡ low' x) where
  entries_same : entries_fit b low end es nodes ≡ entries_fit b low' end es nodes
  unfolding entries_fit own_runs own_fit
  entries_same =
      ap₂ (λ ys t. same_entries es ys && t)
      (gather_each (own_runs b low end es) (own_runs b low' end es) 0 nodes (λ x u o. ap (λ (k : Point). set_entries x (held es x) k (end x - k.0) ++ aged_entries x (held_pairs es x)) (same x (omega arith))))
      (all_each (own_fit b low end es) (own_fit b low' end es) 0 nodes (λ x u o. ap (λ (k : Point). all (λ j. set_fits b x (held es x j)) (points_from k (end x - k.0)) && pairs_fit b x (view_of (node_at b x)) (held_pairs es x)) (same x (omega arith))))

module _ (b counts : List ℕ) (es : List Entry) (count : ℕ) where
  pub kept_many : most_kept < count → false ≡ kept_fit b counts es count
  unfolding kept_fit
  kept_many l = rw (lt-leb count most_kept l)

  pub kept_tested : (lows : List ℕ) → count ≤ most_kept → ((x : ℕ) → x < node_count b → get_or lows x 0 ≡ (wanted_from b (λ y. get_or counts y 0) x).0)
      → entries_fit b (λ y. point (get_or lows y 0)) (λ y. get_or counts y 0) es (node_count b) ≡ kept_fit b counts es count
  unfolding kept_fit
  kept_tested lows l h = rw (le-leb count most_kept l) (entries_same b (λ y. point (get_or lows y 0)) (wanted_from b (λ y. get_or counts y 0)) (λ y. get_or counts y 0) es (node_count b) (λ x o. ap point (h x o)))

-- ---- all

regroup : (a b c d e f g h i : Bool) → (a && b && c && d && e && f && g && h && i) ≡ (a && (b && c && d && e && f && (g && (h && i))))
regroup false b c d e f g h i = refl
regroup true false c d e f g h i = refl
regroup true true false d e f g h i = refl
regroup true true true false e f g h i = refl
regroup true true true true false f g h i = refl
regroup true true true true true false g h i = refl
regroup true true true true true true false h i = refl
regroup true true true true true true true h i = refl

module _ (b : List ℕ) (e : LogEnd) (times os ns vs : List ℕ) (count : ℕ) where
  abbrev s : Stored
  s = stored_in b e times os ns vs count

  entries_long : length (entries_from os ns vs 0 count) ≡ count
  unfolding entries_from
  entries_long = length-map (range 0 count) (entry_at os ns vs) ∙ range_length 0 count

  well_is : well_formed s ≡ (is_accepted (checking b) && (times_fit b e times && kept_fit b (counts_in b e times) (entries_from os ns vs 0 count) count))
  unfolding well_formed own_entries node_fits times_fit kept_fit counts_in entries_fit own_runs own_fit counts_stored count_before open_stored
  well_is =
      regroup (is_accepted (checking b)) (leb e.points most_points) (leb (length times) most_times) (leb (open_stored s) most_open) (eqb (length times) (e.points - (first_retained e.points (counts_stored s)).0)) (not_falling (times ++ e.latest.0 ∷ [])) (leb (length s.entries) most_kept)
      (same_entries s.entries (gather (own_entries s) (range 0 (node_count b)))) (all (node_fits s) (range 0 (node_count b)))
      ∙ ap (λ n. is_accepted (checking b) && (times_fit b e times && (leb n most_kept && (same_entries s.entries (gather (own_entries s) (range 0 (node_count b))) && all (node_fits s) (range 0 (node_count b)))))) entries_long

  pub well_refused : is_accepted (checking b) ≡ false → false ≡ well_formed s
  well_refused t = sym (well_is ∙ rw t)

  module _ (ok : is_accepted (checking b) ≡ true) where
    pub well_times : times_fit b e times ≡ false → false ≡ well_formed s
    well_times t = sym (well_is ∙ rw (ok, t))

    pub well_kept : times_fit b e times ≡ true → {counts : List ℕ} → CountsStand b e times counts → kept_fit b (take (node_count b - 0) counts) (entries_from os ns vs 0 count) count ≡ well_formed s
    well_kept t c = ap (λ cs. kept_fit b cs (entries_from os ns vs 0 count) count) (part_exact c) ∙ sym (well_is ∙ rw (ok, t))

  pub known : (masks counts lows : List ℕ) → ((x : ℕ) → x < node_count b → MaskOf b x (get_or masks x 0)) → CountsStand b e times counts
      → ((x : ℕ) → x < node_count b → get_or lows x 0 ≡ (wanted_from b (λ y. get_or (take (node_count b - 0) counts) y 0) x).0) → StateFigures s masks counts lows
  unfolding counts_in counts_stored count_before
  known masks counts lows m c l =
      record {
        masks_free = λ x o. (m x o).each;
        counts_are_stored = c.exact;
        lows_wanted = λ x o. l x o ∙ ap (λ cs. (wanted_from b (λ y. get_or cs y 0) x).0) (part_exact c);
      }

  pub places : (counts begins pairs : List ℕ) → CountsStand b e times counts
      → EntriesPlaced os ns vs count (wanted_from b (λ y. get_or (take (node_count b - 0) counts) y 0)) (λ y. get_or (take (node_count b - 0) counts) y 0) (node_count b) begins pairs → EntryPlaces s os ns vs count begins pairs
  unfolding counts_in counts_stored count_before
  places counts begins pairs c p =
      let q = subst (λ cs. EntriesPlaced os ns vs count (wanted_from b (λ y. get_or cs y 0)) (λ y. get_or cs y 0) (node_count b) begins pairs) (part_exact c) p in
      record { rows_first = q.rows_first; pairs_last = q.pairs_last; within = q.within; rows_there = q.rows_there; pairs_there = q.pairs_there }
