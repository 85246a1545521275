-- What is known of an event that was found fine: its form, each row, its time stamp and the room for its point.
use Prim.Native.Nat.{ℕ, zero, suc, ◌+◌, ◌≤◌, ◌<◌}
use mathlib.Core.Path.{◌≡◌, refl}
use mathlib.Core.Bool.{Bool, true, false, not}
use mathlib.Core.List.{List}
use native.Mathlib.Omega.{arith}
use lib.ListN.{get_or}
use lib.Dec.{ltb, leb}
use borrow.Author.Tests.{not-false, ltb-false, leb-false}
use Rattle.meaning.specs.Lists.{range}
use Rattle.meaning.specs.Outcome.{Outcome, given, when, not_an_event, row_out, time_falls, log_full, most_points}
use Rattle.meaning.specs.Event.{row_count, is_event, row_fits}
use Rattle.meaning.specs.Keeper.{weigh_rows, admitted}
use Rattle.meaning.specs.declared.Stamp.{Stamp}
use Rattle.meaning.proofs.Points.{from_first}
use Rattle.events.specs.Answers.{Rowed}
use Rattle.events.proofs.Forms.{rowed}

pub record Passed (b w : List ℕ) (last : Stamp) (points : ℕ) : Type 0 where
  pub form : Rowed w (row_count w)
  pub rows : (k : ℕ) → k < row_count w → row_fits b w k ≡ true
  pub order : last.0 ≤ get_or w 0 0
  pub room : points < most_points

-- where a test and what follows refuse nothing, the test failed and what follows refuses nothing
when_passed : (t : Bool) (number place : ℕ) (rest : Outcome ℕ) → when t number place rest ≡ given 0 → (t ≡ false) × (rest ≡ given 0)
when_passed true number place rest e =
    let z : ◌≡◌ {A = ℕ} 0 1 = cc in
    absurd (omega arith)
when_passed false number place rest e = (refl, e)

rows_passed : (b w : List ℕ) (a n : ℕ) (rest : Outcome ℕ) → weigh_rows b w (range a n) rest ≡ given 0 → ((k : ℕ) → a ≤ k → k < a + n → row_fits b w k ≡ true) × (rest ≡ given 0)
rows_passed b w a zero rest e = (λ k h o. absurd (omega arith), e)
rows_passed b w a (suc n) rest e =
    let here : (not (row_fits b w a) ≡ false) × (weigh_rows b w (range (suc a) n) rest ≡ given 0) = when_passed (not (row_fits b w a)) row_out a (weigh_rows b w (range (suc a) n) rest) e in
    let later : ((k : ℕ) → suc a ≤ k → k < suc a + n → row_fits b w k ≡ true) × (rest ≡ given 0) = rows_passed b w (suc a) n rest here.1 in
    (from_first (λ k. row_fits b w k ≡ true) a n (not-false (row_fits b w a) here.0) later.0, later.1)

module _ (b w : List ℕ) (last : Stamp) (points : ℕ) where
  late : Outcome ℕ
  late = when (leb most_points points) log_full 0 (given 0)

  event_passed : admitted b w last points (given 0) ≡ given 0 → Passed b w last points
  unfolding admitted late
  event_passed e =
      let form : (not (is_event w) ≡ false) × (weigh_rows b w (range 0 (row_count w)) (when (ltb (get_or w 0 0) last.0) time_falls 0 late) ≡ given 0) = when_passed (not (is_event w)) not_an_event 0 (weigh_rows b w (range 0 (row_count w)) (when (ltb (get_or w 0 0) last.0) time_falls 0 late)) e in
      let rows : ((k : ℕ) → 0 ≤ k → k < 0 + row_count w → row_fits b w k ≡ true) × (when (ltb (get_or w 0 0) last.0) time_falls 0 late ≡ given 0) = rows_passed b w 0 (row_count w) (when (ltb (get_or w 0 0) last.0) time_falls 0 late) form.1 in
      let order : (ltb (get_or w 0 0) last.0 ≡ false) × (late ≡ given 0) = when_passed (ltb (get_or w 0 0) last.0) time_falls 0 late rows.1 in
      record {
        form = rowed w (not-false (is_event w) form.0);
        rows = λ k h. rows.0 k (omega arith) (omega arith);
        order = ltb-false (get_or w 0 0) last.0 order.0;
        room = leb-false most_points points (when_passed (leb most_points points) log_full 0 (given 0) order.1).0;
      }
