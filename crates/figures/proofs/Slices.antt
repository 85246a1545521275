-- A state that stands at the front of slices: its parts, figures that no well-formed state has, and its figure `open`.
use Rattle.std.specs.Prelude.{Some, None}
use Prim.Native.Nat.{ℕ, ◌-◌, ◌≤◌, ◌<◌}
use native.Mathlib.Omega.{arith}
use mathlib.Core.Path.{◌≡◌, sym, ◌∙◌, ap, ap₂}
use mathlib.Core.Bool.{true, false}
use mathlib.Core.List.{List}
use lib.ListN.{length, get_or, take, length-map}
use lib.Dec.{leb}
use lib.Seq.{length-take-le, get_or-take}
use borrow.Author.Tests.{leb-true, leb-false}
use Rattle.meaning.specs.Lists.{range}
use Rattle.meaning.specs.Outcome.{most_nodes, most_bytes, most_kept}
use Rattle.meaning.specs.RuleFile.{node_count, last_node}
use Rattle.meaning.proofs.Lists.{range_length}
use Rattle.meaning.proofs.Points.{first, second, Tested, passed, failed, tested}
use Rattle.meaning.proofs.Accepted.{accepted, nodes_most, last_is_node}
use Rattle.method.specs.Stored.{Stored}
use Rattle.meaning.specs.declared.LogEnd.{LogEnd}
use Rattle.method.specs.Step.{count_before, open_stored}
use Rattle.method.specs.WellFormed.{most_times, well_formed, Formed}
use Rattle.method.proofs.Turns.{from_get_d}
use Rattle.method.proofs.Formed.{formed}
use Rattle.method.proofs.Bounds.{before_most}
use Rattle.entries.specs.Entries.{entry_at, entries_from}
use Rattle.formed.specs.StateFigures.{stored_in, StateFigures}
use Rattle.figures.specs.Fronts.{front, stored_front, figures_fit, open_of, open_answer}

-- ---- the front of the slices

pub front_length : (n : ℕ) (xs : List ℕ) → length (front n xs) ≡ n
front_length n xs = length-map (range 0 n) (λ k. get_or xs k 0) ∙ range_length 0 n

pub front-take : (n : ℕ) (xs : List ℕ) → n ≤ length xs → front n xs ≡ take n xs
front-take n xs h = sym (from_get_d (take n xs) n (λ k. get_or xs k 0) (length-take-le n xs h) (λ k o. get_or-take n xs k 0 o))

-- as many entries are read off as the count says
pub run_many : (os ns vs : List ℕ) (from n : ℕ) → length (entries_from os ns vs from n) ≡ n
unfolding entries_from
run_many os ns vs from n = length-map (range from n) (entry_at os ns vs) ∙ range_length from n

pub entries_many : (os ns vs : List ℕ) (n : ℕ) → n ≡ length (entries_from os ns vs 0 n)
entries_many os ns vs n = sym (run_many os ns vs 0 n)

-- what is stored in the slices' parts is what is stored at their front
pub front_parts : (rule : List ℕ) (bytes : ℕ) (e : LogEnd) (times : List ℕ) (retained : ℕ) (os ns vs : List ℕ) (count : ℕ) → bytes ≤ length rule → retained ≤ length times
    → stored_in (take (bytes - 0) rule) e (take (retained - 0) times) os ns vs count ≡ stored_front rule bytes e times retained os ns vs count
front_parts rule bytes e times retained os ns vs count b t = ap₂ (λ r ts. stored_in r e ts os ns vs count) (part bytes rule b) (part retained times t)
  where
    part : (n : ℕ) (xs : List ℕ) → n ≤ length xs → take (n - 0) xs ≡ front n xs
    part n xs h = let z : n - 0 ≡ n = omega arith in rw z (sym (front-take n xs h))

-- 12 bytes and 20 for each of at most 32 nodes
pub node_sizes : {s : Stored} → Formed s → (2 < length s.rule) × (length s.rule ≤ most_bytes) × (1 ≤ node_count s.rule) × (node_count s.rule ≤ most_nodes)
node_sizes {s} f =
    let (a, ok) = f.accepted in
    omega (arith, (accepted s.rule a ok).long, last_is_node s.rule a ok, nodes_most s.rule a ok)

-- ---- 8: figures that no well-formed state has

unless : (s : Stored) → (Formed s → ⊥) → well_formed s ≡ false
unless s h = go (tested (well_formed s))
  where
    go : Tested (well_formed s) → well_formed s ≡ false
    go (passed t) = absurd (h (formed s t))
    go (failed t) = t

pub figures_out : (rule : List ℕ) (bytes : ℕ) (e : LogEnd) (times : List ℕ) (retained : ℕ) (os ns vs : List ℕ) (count : ℕ) → figures_fit bytes retained count ≡ false → well_formed (stored_front rule bytes e times retained os ns vs count) ≡ false
figures_out rule bytes e times retained os ns vs count out =
    unless (stored_front rule bytes e times retained os ns vs count) (λ f. go f (tested (leb bytes most_bytes)) (tested (leb retained most_times)) (tested (leb count most_kept)))
  where
    go : Formed (stored_front rule bytes e times retained os ns vs count) → Tested (leb bytes most_bytes) → Tested (leb retained most_times) → Tested (leb count most_kept) → ⊥
    go f (failed t) u v = omega (arith, node_sizes f, leb-false bytes most_bytes t, front_length bytes rule)
    go f (passed t) (failed u) v = omega (arith, f.few_times, leb-false retained most_times u, front_length retained times)
    go f (passed t) (passed u) (failed v) = omega (arith, f.few_kept, leb-false count most_kept v, entries_many os ns vs count)
    go f (passed t) (passed u) (passed v) = let z : true ≡ false = rw (t, u, v) at out in let q : ◌≡◌ {A = ℕ} 0 1 = cc in omega arith

pub figures_in : (bytes retained count : ℕ) → figures_fit bytes retained count ≡ true → (bytes ≤ most_bytes) × (retained ≤ most_times) × (count ≤ most_kept)
figures_in bytes retained count e = (leb-true bytes most_bytes (search first), leb-true retained most_times (search (first, second)), leb-true count most_kept (search (first, second)))

-- ---- the figure `open`

pub not_open : (s : Stored) → well_formed s ≡ false → open_of None ≡ open_answer s
unfolding open_answer
not_open s w = rw w

module _ (s : Stored) {masks counts lows : List ℕ} (ok : well_formed s ≡ true) (k : StateFigures s masks counts lows) where
  -- what the last node has settled stands in the counts
  last_count : get_or counts (last_node s.rule) 0 ≡ count_before s (last_node s.rule)
  unfolding count_before
  last_count =
      let (a, good) = (formed s ok).accepted in
      sym (get_or-take (node_count s.rule) counts (last_node s.rule) 0 (last_is_node s.rule a good)) ∙ ap (λ cs. get_or cs (last_node s.rule) 0) k.counts_are_stored

  pub last_most : get_or counts (last_node s.rule) 0 ≤ s.points
  last_most =
      let f = formed s ok in
      let (a, good) = f.accepted in
      rw last_count (before_most s a good f.few_times f.times_many (last_node s.rule) (last_is_node s.rule a good))

  pub open_counted : open_of (Some (s.points - get_or counts (last_node s.rule) 0)) ≡ open_answer s
  unfolding open_answer open_stored
  open_counted = rw (ok, last_count)
