-- The words of a well_made report, whatever words trail them, are in form, and each entry's point, time, count and rows are read back from them.
use Prim.Native.Nat.{ℕ, zero, suc, ◌+◌, ◌*◌, ◌≤◌, ◌<◌}
use native.Mathlib.Nat.{mul-add, mul-zero, le_refl}
use native.Mathlib.Numerals.{add-one}
use native.Mathlib.Omega.{arith}
use mathlib.Core.Bool.{Bool, true}
use mathlib.Core.List.{List, [], ◌∷◌, ◌++◌, map, append_assoc}
use mathlib.Core.Path.{◌≡◌, refl, sym, ap, ap₂, ◌∙◌}
use lib.Dec.{eqb}
use lib.ListN.{length, get_or, take, drop, length-append, get_or-append}
use lib.Seq.{get_or-append-add, take-suc, take-length, take_at, drop_at}
use borrow.Author.Tests.{le-leb, lt-ltb, eq-eqb, eqb-true}
use Rattle.meaning.specs.Lists.{all, range, gather, total}
use Rattle.meaning.specs.Order.{ascending}
use Rattle.meaning.specs.Outcome.{given}
use Rattle.meaning.specs.Report.{Reported, triple, row_words, report_words, point_in, count_in, rows_before, rows_in, in_form, read_rows}
use Rattle.report.specs.Form.{rows_from, sizes_fit}
use Rattle.report.specs.Reports.{ReadsBack, nothing}
use Rattle.method.proofs.Sums.{total_append}
use Rattle.report.proofs.Forms.{both, words_test, sum_test, points_test, rows_test, rows_decide}
use Rattle.report.proofs.Lists.{all_at, all_take, all_map, map_range, gather_split, equal_lengths}
use Rattle.report.proofs.Reading.{entry_test, count_given}
use Rattle.report.proofs.Runs.{rows_run}
use Rattle.report.proofs.Sums.{before_next}

-- every row of the entry has f words
abbrev pub rows_fit : ℕ → Reported → Bool
rows_fit f e = all (λ (row : List ℕ). eqb (length row) f) e.rows

-- what a report's entries have to be, with F the count of free variables
pub record WellMade (f : ℕ) (es : List Reported) : Type 0 where
  pub few_points : length es ≤ 33
  pub few_free : f ≤ 4
  pub widths : all (rows_fit f) es ≡ true
  pub points_ascend : ascending 0 (map (λ (e : Reported). e.at.0 ∷ []) es) ≡ true
  pub rows_ascend : all (λ (e : Reported). ascending 0 e.rows) es ≡ true

abbrev pub row_total : List Reported → ℕ
row_total es = total (map (λ (e : Reported). length e.rows) es)

-- ---- lengths

triples-length : (es : List Reported) → length (gather triple es) ≡ 3 * length es
triples-length [] = refl
triples-length (e ∷ es) = omega (arith, triples-length es)

rows_length : (f : ℕ) (es : List Reported) → all (rows_fit f) es ≡ true
    → length (gather row_words es) ≡ f * row_total es
rows_length f [] h = sym (mul-zero f)
rows_length f (e ∷ es) h =
    let s = both (rows_fit f e) (all (rows_fit f) es) h in
    omega (arith, length-append (row_words e) (gather row_words es), equal_lengths f e.rows s.0, rows_length f es s.1, mul-add f (length e.rows) (row_total es))

-- "Words used: 3 + 3P + F × total"
pub words_length : (f : ℕ) (es : List Reported) → all (rows_fit f) es ≡ true → length (report_words f es) ≡ 3 + 3 * length es + f * row_total es
unfolding report_words
words_length f es h = omega (arith, length-append (gather triple es) (gather row_words es), triples-length es, rows_length f es h)

-- ---- the triples

triple_at_lem : (es : List Reported) (rest : List ℕ) (k j : ℕ) → j < 3 → k < length es
    → get_or (gather triple es ++ rest) (3 * k + j) 0 ≡ get_or (triple (get_or es k nothing)) j 0
triple_at_lem [] rest k j h l = absurd (omega arith)
triple_at_lem (e ∷ es) rest zero j h l =
    let z : 3 * 0 + j ≡ j = omega arith in
    rw z (get_or-append (triple e) (gather triple es ++ rest) 0 j h)
triple_at_lem (e ∷ es) rest (suc k) j h l =
    let z : 3 * suc k + j ≡ 3 + (3 * k + j) = omega arith in
    rw z (get_or-append-add (triple e) (gather triple es ++ rest) (3 * k + j) 0 ∙ triple_at_lem es rest k j h (omega arith))

-- ---- rows of one width, end to end, are found at that distance

rows_found_lem : (f : ℕ) (rows : List (List ℕ)) (front rest words : List ℕ) (at : ℕ) → length front ≡ at
    → words ≡ front ++ (gather (λ (row : List ℕ). row) rows ++ rest)
    → all (λ (row : List ℕ). eqb (length row) f) rows ≡ true → rows_from words at f f (length rows) ≡ rows
rows_found_lem f [] front rest words at a w h = refl
rows_found_lem f (row ∷ rows) front rest words at a w h =
    let s = both (eqb (length row) f) (all (λ (q : List ℕ). eqb (length q) f) rows) h in
    let n : length row ≡ f = eqb-true _ _ s.0 in
    let more = gather (λ (q : List ℕ). q) rows in
    let w₁ : words ≡ front ++ (row ++ (more ++ rest)) = w ∙ rw append_assoc in
    let w₂ : words ≡ (front ++ row) ++ (more ++ rest) = w₁ ∙ sym (append_assoc front row (more ++ rest)) in
    let b : length (front ++ row) ≡ at + f = length-append front row ∙ omega arith in
    let first : take f (drop at words) ≡ row = rw (w₁, drop_at front (row ++ (more ++ rest)) at a) (take_at row (more ++ rest) f n) in
    ap₂ ◌∷◌ first (rows_found_lem f rows (front ++ row) rest words (at + f) b w₂ s.1)

-- ---- the whole report

module _ (f : ℕ) (es : List Reported) (trailing : List ℕ) (w : WellMade f es) where
  abbrev head : List ℕ
  head = length es ∷ f ∷ row_total es ∷ []

  abbrev words : List ℕ
  words = head ++ (gather triple es ++ (gather row_words es ++ trailing))

  words_are : report_words f es ++ trailing ≡ words
  unfolding report_words
  words_are = ap (λ (l : List ℕ). head ++ l) (append_assoc (gather triple es) (gather row_words es) trailing)

  -- word j of triple k
  field : (k j i : ℕ) → i ≡ 3 + (3 * k + j) → j < 3 → k < length es → get_or words i 0 ≡ get_or (triple (get_or es k nothing)) j 0
  field k j i e h l =
      ap (λ (n : ℕ). get_or words n 0) e
      ∙ (get_or-append-add head (gather triple es ++ (gather row_words es ++ trailing)) (3 * k + j) 0
      ∙ triple_at_lem es (gather row_words es ++ trailing) k j h l)

  count_at : (k : ℕ) → k < length es → count_in words k ≡ length (get_or es k nothing).rows
  count_at k l = field k 2 (3 + 3 * k + 2) (omega arith) (omega arith) l

  before_is : (k : ℕ) → k ≤ length es → rows_before words k ≡ row_total (take k es)
  unfolding rows_before
  before_is zero l = refl
  before_is (suc k) l =
      let i = before_is k (omega arith) in
      let n = count_at k l in
      let t = total_append (λ (e : Reported). length e.rows) (take k es) (get_or es k nothing ∷ []) in
      ap (rows_before words) (sym (add-one k)) ∙ rw (take-suc es k nothing l) (omega (arith, before_next words k))

  sum_is : rows_before words (length es) ≡ row_total es
  sum_is = before_is (length es) (le_refl (length es)) ∙ ap row_total (take-length es)

  -- ---- entry k

  module _ (k : ℕ) (l : k < length es) where
    abbrev entry : Reported
    entry = get_or es k nothing

    abbrev front : List ℕ
    front = head ++ (gather triple es ++ gather row_words (take k es))

    abbrev behind : List ℕ
    behind = gather row_words (drop (suc k) es) ++ trailing

    words_at : words ≡ front ++ (row_words entry ++ behind)
    words_at = rw (gather_split row_words es nothing k l) (simp append_assoc)

    front_length : length front ≡ 3 + 3 * length es + f * rows_before words k
    front_length =
        let b = ap (λ (n : ℕ). f * n) (before_is k (omega arith)) in
        omega (arith, length-append (gather triple es) (gather row_words (take k es)), triples-length es, rows_length f (take k es) (all_take (rows_fit f) es k w.widths))

    entry_fits : rows_fit f entry ≡ true
    entry_fits = all_at (rows_fit f) es nothing k l w.widths

    rows_at : rows_in words k ≡ entry.rows
    rows_at =
        rows_run words k
        ∙ (ap (λ (n : ℕ). rows_from words (3 + 3 * length es + f * rows_before words k) f f n) (count_at k l)
        ∙ rows_found_lem f entry.rows front behind words _ front_length words_at entry_fits)

  -- ---- the form

  sizes_fit_lem : sizes_fit words ≡ true
  sizes_fit_lem =
      let a = length-append (gather triple es) (gather row_words es ++ trailing) in
      let b = length-append (gather row_words es) trailing in
      let c = triples-length es in
      let d = rows_length f es w.widths in
      let room : 3 + 3 * length es + f * row_total es ≤ length words = omega arith in
      sym (words_test words (length es) f (row_total es) refl refl refl (omega arith) w.few_points w.few_free)
      ∙ le-leb _ _ room

  sums : sum_test words ≡ true
  sums = eq-eqb _ _ sum_is

  points : points_test words ≡ true
  points =
      ap (ascending 0)
      (map_range (λ (k : ℕ). point_in words k ∷ []) (λ (e : Reported). e.at.0 ∷ []) nothing es 0
      (λ k l. ap (λ (n : ℕ). n ∷ []) (field k 0 (3 + 3 * (0 + k)) (omega arith) (omega arith) l)))
      ∙ w.points_ascend

  rows : rows_test words ≡ true
  rows =
      all_map (λ (k : ℕ). ascending 0 (rows_in words k)) (range 0 (length es))
      ∙ (ap (all (λ (b : Bool). b))
      (map_range (λ (k : ℕ). ascending 0 (rows_in words k)) (λ (e : Reported). ascending 0 e.rows) nothing es 0
      (λ k l.
      let z : 0 + k ≡ k = omega arith in
      ap (ascending 0) (ap (rows_in words) z ∙ rows_at k l)))
      ∙ (sym (all_map (λ (e : Reported). ascending 0 e.rows) es) ∙ w.rows_ascend))

  formed : in_form words ≡ true
  formed = sym (rows_decide words sizes_fit_lem sums points) ∙ rows

  -- ---- what is read

  module _ (k : ℕ) (l : k < length es) where
    found : entry_test words k ≡ true
    found = rw (formed, lt-ltb k (length es) l)

    rows_part : read_rows words k ≡ row_words (entry k l)
    unfolding read_rows
    rows_part =
        let start = 3 + 3 * length es + f * rows_before words k in
        let n = f * length (entry k l).rows in
        rw (found, count_at k l)
        (ap (λ (xs : List ℕ). take n (drop start xs)) (words_at k l)
        ∙ (ap (take n) (drop_at (front k l) (row_words (entry k l) ++ behind k l) start (front_length k l))
        ∙ take_at (row_words (entry k l)) (behind k l) n (equal_lengths f (entry k l).rows (entry_fits k l))))

    reads_back : ReadsBack words k (entry k l)
    reads_back = record {
      point_is = field k 0 (3 + 3 * k) (omega arith) (omega arith) l;
      time_is = field k 1 (3 + 3 * k + 1) (omega arith) (omega arith) l;
      count_is = count_at k l;
      rows_are = rows_at k l;
      count_read = sym (count_given words k found) ∙ ap given (count_at k l);
      rows_read = rows_part;
    }

  -- ---- the theorems

  pub is_in_form : in_form (report_words f es ++ trailing) ≡ true
  is_in_form = rw words_are formed

  pub read_back : (k : ℕ) → k < length es → ReadsBack (report_words f es ++ trailing) k (get_or es k nothing)
  read_back k l = rw words_are (reads_back k l)
