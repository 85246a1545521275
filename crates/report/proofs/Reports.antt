-- On every well-formed state: what a call reports is in form and reads back, and a buffer for the longest report is never too short.
use Prim.Native.Nat.{ℕ, zero, suc, ◌+◌, ◌-◌, ◌*◌, ◌≤◌, ◌<◌}
use native.Mathlib.Nat.{mul-le-mul_right}
use native.Mathlib.Omega.{arith}
use mathlib.Core.Bool.{Bool, true, false, not}
use mathlib.Core.List.{List, [], ◌∷◌, map}
use mathlib.Core.Path.{◌≡◌, refl, subst}
use lib.Dec.{ltb, leb}
use lib.ListN.{length, get_or, length-map}
use borrow.Author.Tests.{ltb-false, le-ltb}
use Rattle.meaning.specs.Lists.{any, range, select}
use Rattle.meaning.specs.Log.{point, point_after, points_from}
use Rattle.meaning.specs.Outcome.{Outcome, refused, given, when, buffer_short, most_points, most_rows, most_open, most_kept}
use Rattle.meaning.specs.Formula.{free, variables}
use Rattle.meaning.specs.RuleFile.{node_count, last_node, pattern}
use Rattle.meaning.specs.Event.{is_event, row_count, row_fits}
use Rattle.meaning.specs.Report.{report_words, points_in}
use Rattle.meaning.specs.Keeper.{Fed, event, notice, report_row, weigh_rows, weigh_crowds, admitted, admits, weighed, backlog_of}
use Rattle.meaning.specs.declared.Point.{Point}
use Rattle.meaning.specs.declared.Stamp.{Stamp}
use Rattle.meaning.proofs.Accepted.{last_is_node}
use Rattle.meaning.proofs.Points.{from_first}
use Rattle.meaning.proofs.Rows.{neither}
use Rattle.method.specs.Stored.{Stored}
use Rattle.method.specs.Settle.{rows_of_turn}
use Rattle.method.specs.Step.{words_of, points_added, count_before, open_stored, stamps_now, count_after, turn, stored_now, crowded_now, reported_now, report_now, answer_now}
use Rattle.method.specs.WellFormed.{well_formed, Formed}
use Rattle.method.proofs.Bounds.{one_added, after_most}
use Rattle.method.proofs.Formed.{formed}
use Rattle.method.proofs.Sets.{turn_rows}
use Rattle.report.specs.Reports.{longest_report, Reports}
use Rattle.report.proofs.RoundTrip.{WellMade, row_total, words_length, is_in_form, read_back}
use Rattle.report.proofs.Shown.{entry_at, well_made}

-- where no point of a run has over 32 rows, they are at most 32 for each point
rows_few : (f : ℕ → Bool) (time : Point → Stamp) (rows : Point → List (List ℕ)) (a : Point) (n : ℕ) → any (λ j. ltb most_rows (length (rows j))) (points_from a n) ≡ false
    → row_total (map (entry_at f time rows) (points_from a n)) ≤ most_rows * n
rows_few f time rows a zero e = omega arith
rows_few f time rows a (suc n) e =
    let (here, later) = neither (ltb most_rows (length (rows a))) (any (λ j. ltb most_rows (length (rows j))) (points_from (point_after a) n)) e in
    omega (arith, length-map (rows a) (report_row f), ltb-false most_rows (length (rows a)) here, rows_few f time rows (point_after a) n later)

-- ---- the refusals of a taking, of which 16 is the last

-- the answer isn't 16
abbrev NotShort : Outcome ℕ → Type 0
NotShort (refused number place) = number ≡ buffer_short → ⊥
NotShort (given words) = Unit

go_on : (t : Bool) (number place : ℕ) (rest : Outcome ℕ) → (number ≡ buffer_short → ⊥) → (t ≡ false → NotShort rest) → NotShort (when t number place rest)
go_on true number place rest other h = other
go_on false number place rest other h = h refl

rows_on : (b w ks : List ℕ) (rest : Outcome ℕ) → NotShort rest → NotShort (weigh_rows b w ks rest)
rows_on b w [] rest h = h
rows_on b w (k ∷ ks) rest h = go_on (not (row_fits b w k)) 10 k (weigh_rows b w ks rest) (λ e. omega arith) (λ t. rows_on b w ks rest h)

crowds_on : (crowds : ℕ → Bool) (a k : ℕ) (rest : Outcome ℕ) → (((x : ℕ) → a ≤ x → x < a + k → crowds x ≡ false) → NotShort rest) → NotShort (weigh_crowds crowds (range a k) rest)
crowds_on crowds a zero rest h = h (λ x u o. absurd (omega arith))
crowds_on crowds a (suc k) rest h =
    go_on (crowds a) 13 a (weigh_crowds crowds (range (suc a) k) rest) (λ e. omega arith)
    (λ t. crowds_on crowds (suc a) k rest (λ more. h (from_first (λ x. crowds x ≡ false) a k t more)))

weighed_on : (crowds : ℕ → Bool) (nodes unsettled entries words room : ℕ) → (((x : ℕ) → x < nodes → crowds x ≡ false) → words ≤ room) → NotShort (weighed crowds nodes unsettled entries words room)
unfolding weighed
weighed_on crowds nodes unsettled entries words room h =
    crowds_on crowds 0 nodes _
    (λ calm. go_on (ltb most_open unsettled) 14 0 _ (λ e. omega arith)
    (λ t. go_on (ltb most_kept entries) 15 0 _ (λ e. omega arith)
    (λ t. rw (le-ltb room words (h (λ x o. calm x (omega arith) (omega arith)))) tt)))

admitted_on : (b w : List ℕ) (last : Stamp) (points : ℕ) (rest : Outcome ℕ) → NotShort rest → NotShort (admitted b w last points rest)
unfolding admitted
admitted_on b w last points rest h =
    go_on (not (is_event w)) 9 0 _ (λ e. omega arith)
    (λ t. rows_on b w (range 0 (row_count w)) _
    (go_on (ltb (get_or w 0 0) last.0) 11 0 _ (λ e. omega arith)
    (λ t. go_on (leb most_points points) 12 0 rest (λ e. omega arith) (λ t. h))))

-- ---- one call

module _ (s : Stored) (f : Formed s) (w : List ℕ) where
  abbrev b : List ℕ
  b = s.rule

  abbrev last : ℕ
  last = last_node b

  abbrev width : ℕ
  width = length (select (free (pattern b)) variables)

  last_node_lem : last < node_count b
  last_node_lem = last_is_node b f.accepted.0 f.accepted.1

  -- no more points are newly settled than were open, and the new one
  new_points_lem : count_after s w last - count_before s last ≤ 33
  unfolding open_stored
  new_points_lem = omega (arith, f.few_open, after_most s f.accepted.0 f.accepted.1 f.few_times f.times_many w last last_node_lem, one_added w)

  made : WellMade width (reported_now s w)
  made = well_made (free (pattern b)) (stamps_now s w) (rows_of_turn (turn s w last)) (turn_rows s f w last last_node_lem) (point (count_before s last)) (count_after s w last - count_before s last) new_points_lem

  report_is : report_now s w ≡ report_words width (reported_now s w)
  unfolding report_now
  report_is = refl

  few_points : points_in (report_now s w) ≤ 33
  unfolding report_now report_words
  few_points = made.few_points

  few_words : crowded_now s w last ≡ false → length (report_now s w) ≤ longest_report
  unfolding crowded_now
  few_words e =
      let rows : row_total (reported_now s w) ≤ most_rows * (count_after s w last - count_before s last) = rows_few (free (pattern b)) (stamps_now s w) (rows_of_turn (turn s w last)) (point (count_before s last)) (count_after s w last - count_before s last) e in
      rw (report_is, words_length width (reported_now s w) made.widths) (omega (arith, made.few_points, new_points_lem, mul-le-mul_right (row_total (reported_now s w)) made.few_free))

-- the first refusals aren't 16
admits_on : (b : List ℕ) (f : Fed) (last : Stamp) (points : ℕ) (rest : Outcome ℕ) → NotShort rest → NotShort (admits b f last points rest)
admits_on b (event w) last points rest h = admitted_on b w last points rest h
admits_on b (notice t) last points rest h = go_on (ltb t last.0) 11 0 rest (λ e. omega arith) (λ u. h)

fits : (s : Stored) (k : Formed s) (f : Fed) (room : ℕ) → longest_report ≤ room → NotShort (answer_now s f room)
unfolding answer_now
fits s k f room h =
    let w : List ℕ = words_of f in
    let x : ℕ = last_node s.rule in
    admits_on s.rule f s.latest s.points _
    (weighed_on (crowded_now s w) (node_count s.rule) (backlog_of f (s.points + points_added w - count_after s w x)) (length (stored_now s w).entries) (length (report_now s w)) room (λ calm. omega (arith, few_words s k w (calm x (last_node_lem s k w)))))

pub reports : (s : Stored) → well_formed s ≡ true → (f : Fed) → Reports s f
reports s ok f =
    let w : List ℕ = words_of f in
    record {
      few_points = few_points s (formed s ok) w;
      is_in_form = λ rest. rw (report_is s (formed s ok) w) (is_in_form _ (reported_now s w) rest (made s (formed s ok) w));
      reads_back = λ rest. rw (report_is s (formed s ok) w) (read_back _ (reported_now s w) rest (made s (formed s ok) w));
      few_words = few_words s (formed s ok) w;
      never_short = λ room place h e. subst NotShort e (fits s (formed s ok) f room h) refl;
    }
