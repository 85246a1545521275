-- A report's words by the marks of its sets: the triples, the rows as one run, and how many words there are.
use Prim.Native.Nat.{ℕ, zero, suc, ◌+◌, ◌-◌, ◌*◌, ◌^◌, ◌≤◌, ◌<◌}
use native.Mathlib.Nat.{add-zero, mul-le-mul_right}
use native.Mathlib.Omega.{arith}
use mathlib.Core.Path.{◌≡◌, refl, sym, ap, ap₂, ◌∙◌}
use mathlib.Core.Bool.{Bool, true, false, cond}
use mathlib.Core.List.{List, [], ◌∷◌, ◌++◌, map, append-nil}
use lib.ListN.{length, get_or, length-append, length-map}
use Rattle.meaning.specs.Lists.{range, select, gather, total}
use Rattle.meaning.specs.Log.{point, points_from}
use Rattle.meaning.specs.Formula.{variables}
use Rattle.meaning.specs.Report.{Reported, triple, row_words, report_words}
use Rattle.meaning.specs.Keeper.{report_row}
use Rattle.meaning.specs.declared.Point.{Point}
use Rattle.meaning.specs.declared.Stamp.{Stamp}
use Rattle.meaning.proofs.Lists.{range_length, gather_append}
use Rattle.method.specs.Stored.{stamp_in}
use Rattle.method.proofs.Lists.{gather_length, gather_map}
use Rattle.rowset.specs.declared.Row.{Row}
use Rattle.rowset.specs.Rows.{words_of, row_at, rows_from}
use Rattle.rowset.proofs.Runs.{rows_length, rows_append}
use Rattle.room.proofs.SetsInOrder.{marks_rise, laid_fewer}
use Rattle.room.specs.Room.{set_at, SetsInOrder}
use Rattle.kinds.specs.Kinds.{in_mask}
use Rattle.writer.specs.declared.Points.{Points}
use Rattle.writer.specs.declared.Part.TheVariants.{Sizes, Triples, Rows}
use Rattle.writer.specs.Words.{free_count, points_of, set_of, first_set, end_set, first_row, end_row, triple_at, part_words, reported_from, words, Marked, Reportable}

-- a report's row has a word for each free variable
row_words_lem : (f : ℕ → Bool) (u xs : List ℕ) → length (gather (λ x. cond (f x) (get_or u x 0 ∷ []) []) xs) ≡ length (select f xs)
row_words_lem f u [] = refl
row_words_lem f u (x ∷ xs) = by_test (f x) _ (row_words_lem f u xs)
  where
    by_test : (t : Bool) (us : List ℕ) → length us ≡ length (select f xs) → length (cond t (get_or u x 0 ∷ []) [] ++ us) ≡ length (cond t (x ∷ select f xs) (select f xs))
    by_test true us e = ap suc e
    by_test false us e = e

-- the rows of a run, each by its number
pub gather_rows : (give : List ℕ → List ℕ) (rows : List ℕ) (from n : ℕ) → gather (λ k. give (row_at rows k)) (range from n) ≡ gather give (rows_from rows from n)
unfolding rows_from
gather_rows give rows from zero = refl
gather_rows give rows from (suc n) = ap (λ us. give (row_at rows from) ++ us) (gather_rows give rows (suc from) n)

-- two runs that meet
rows_join : (rows : List ℕ) (a b c : ℕ) → a ≤ b → b ≤ c → rows_from rows a (b - a) ++ rows_from rows b (c - b) ≡ rows_from rows a (c - a)
rows_join rows a b c l m =
    let e : a + (b - a) ≡ b = omega arith in
    let f : (b - a) + (c - b) ≡ c - a = omega arith in
    sym (rw (f, e) at (rows_append rows a (b - a) (c - b)))

-- how many words a variable gives, and a report's row by its four variables
abbrev pub words_for : ℕ → ℕ → ℕ → ℕ
words_for mask x v = length (cond (in_mask mask x) (v ∷ []) [])

pub row-length : (mask : ℕ) (r : Row) → length (report_row (in_mask mask) (words_of r)) ≡ words_for mask 0 r.v0 + (words_for mask 1 r.v1 + (words_for mask 2 r.v2 + words_for mask 3 r.v3))
row-length mask r = four (cond (in_mask mask 0) (r.v0 ∷ []) []) (cond (in_mask mask 1) (r.v1 ∷ []) []) (cond (in_mask mask 2) (r.v2 ∷ []) []) (cond (in_mask mask 3) (r.v3 ∷ []) [])
  where
    four : (a b c d : List ℕ) → length (a ++ (b ++ (c ++ (d ++ [])))) ≡ length a + (length b + (length c + length d))
    four a b c d = simp (length-append, append-nil)

-- a triple from the marks of a point's set and its time
pub triple_same : (at times : List ℕ) (p : Points) {j q from to : ℕ} {t : Stamp} → q ≡ set_of p (point j) → to ≡ get_or at (q + 1) 0 → from ≡ get_or at q 0 → t ≡ stamp_in p.base times (point j) → j ∷ t.0 ∷ (to - from) ∷ [] ≡ triple_at at times p (point j)
triple_same at times p e f g h = cc

-- a report's words are few enough to be counted
pub product_below : {a b : ℕ} → a ≤ 4 → b < 2 ^ 32 → a * b < 2 ^ 34
product_below {a} {b} h k = omega (arith, mul-le-mul_right b h)

module _ (rows at : List ℕ) (p : Points) where
  abbrev set_for : Point → List (List ℕ)
  set_for = set_at rows at p.first p.low

  abbrev show : List ℕ → List ℕ
  show = report_row (in_mask p.mask)

  -- what is reported of points, by their sets
  module _ (times : List ℕ) where
    abbrev reported_at : Point → Reported
    reported_at i = record { at = i; time = stamp_in p.base times i; rows = map show (set_for i) }

    reported-triples : (is : List Point) → gather triple (map reported_at is) ≡ gather (triple_at at times p) is
    reported-triples [] = refl
    reported-triples (i ∷ is) =
        let e : length (map show (set_for i)) ≡ get_or at (set_of p i + 1) 0 - get_or at (set_of p i) 0 = length-map (set_for i) show ∙ rows_length rows _ _ in
        rw (e, reported-triples is)

    reported_rows : (is : List Point) → gather row_words (map reported_at is) ≡ gather show (gather set_for is)
    reported_rows [] = refl
    reported_rows (i ∷ is) = rw (gather_append show (set_for i) (gather set_for is)) (ap₂ (λ us vs. us ++ vs) (gather_map (λ r. r) show (set_for i)) (reported_rows is))

    reported-total : (is : List Point) → total (map (λ e. length e.rows) (map reported_at is)) ≡ length (gather set_for is)
    reported-total [] = refl
    reported-total (i ∷ is) = rw (length-append (set_for i) (gather set_for is), length-map (set_for i) show, reported-total is)

    reported-length : length (map reported_at (points_of p)) ≡ p.count
    reported-length = length-map (points_of p) reported_at ∙ length-map (range p.from.0 p.count) point ∙ range_length p.from.0 p.count

  -- the sets of points in a row are one run of rows
  all_run : (i n : ℕ) → p.low.0 ≤ i → ((q : ℕ) → q < set_of p (point i) + n → get_or at q 0 ≤ get_or at (q + 1) 0)
      → gather set_for (points_from (point i) n) ≡ rows_from rows (get_or at (set_of p (point i)) 0) (get_or at (set_of p (point i) + n) 0 - get_or at (set_of p (point i)) 0)
  unfolding rows_from
  all_run i zero l steps =
      let e : get_or at (set_of p (point i)) 0 - get_or at (set_of p (point i)) 0 ≡ 0 = omega arith in
      rw (add-zero, e)
  all_run i (suc n) l steps =
      let e : set_of p (point (suc i)) ≡ set_of p (point i) + 1 = omega arith in
      let f : set_of p (point (suc i)) + n ≡ set_of p (point i) + suc n = omega arith in
      let after : (q : ℕ) → q < set_of p (point (suc i)) + n → get_or at q 0 ≤ get_or at (q + 1) 0 = λ q o. steps q (omega arith) in
      let rest = rw (f, e) at (all_run (suc i) n (omega arith) after) in
      let h : get_or at (set_of p (point i)) 0 ≤ get_or at (set_of p (point i) + 1) 0 = steps (set_of p (point i)) (omega arith) in
      let k : get_or at (set_of p (point i) + 1) 0 ≤ get_or at (set_of p (point i) + suc n) 0 = rw (f, e) at (marks_rise at (set_of p (point (suc i))) n after) in
      ap (λ us. set_for (point i) ++ us) rest ∙ rows_join rows _ _ _ h k

-- a report is its parts
module _ (rows at times : List ℕ) (p : Points) (m : Marked at p) where
  pub words_parts : words rows at times p ≡ part_words Sizes rows at times p ++ (part_words Triples rows at times p ++ part_words Rows rows at times p)
  unfolding words reported_from report_words
  words_parts =
      let run = all_run rows at p p.from.0 p.count m.from m.steps in
      let t = reported-total rows at p times (points_of p) ∙ ap length run ∙ rows_length rows _ _ in
      rw (reported-length rows at p times, t, reported-triples rows at p times (points_of p), reported_rows rows at p times (points_of p), run)

  pub words_length : length (words rows at times p) ≡ 3 + 3 * p.count + free_count p.mask * (end_row at p - first_row at p)
  words_length =
      let ts = gather_length (triple_at at times p) 3 (λ i. refl) (points_of p) in
      let rs = gather_length (report_row (in_mask p.mask)) (free_count p.mask) (λ u. row_words_lem (in_mask p.mask) u variables) (rows_from rows (first_row at p) (end_row at p - first_row at p)) in
      let ps : length (points_of p) ≡ p.count = length-map (range p.from.0 p.count) point ∙ range_length p.from.0 p.count in
      rw (words_parts, length-append (part_words Triples rows at times p) (part_words Rows rows at times p), ts, rs, ps, rows_length) (omega arith)

-- the rows of the points are a run
pub rows_ordered : {at : List ℕ} {p : Points} → Marked at p → first_row at p ≤ end_row at p
rows_ordered {at} {p} m = marks_rise at (first_set p) p.count m.steps

-- points can be reported whose sets are among those that stand in the words, and these have their marks
module _ {rows at : List ℕ} {p : Points} where
  pub reportable : {n : ℕ} → p.low.0 ≤ p.from.0 → SetsInOrder rows at n → end_set p ≤ n → p.from.0 + p.count < 2 ^ 32 → Reportable rows at p
  reportable h l k m = record { from = h; laid = laid_fewer l _ k; numbers = m }

  pub marked : Reportable rows at p → Marked at p
  marked r = record { from = r.from; there = r.laid.marks; steps = r.laid.steps }
