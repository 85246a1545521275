-- The form of an event by its length and its row count, and what is known once words are an event.
use Prim.Native.Nat.{ℕ, ◌+◌, ◌*◌, ◌≤◌, ◌<◌}
use mathlib.Core.Path.{◌≡◌, refl}
use mathlib.Core.Bool.{true, false, ◌&&◌}
use mathlib.Core.List.{List}
use lib.ListN.{length}
use lib.Dec.{leb, eqb}
use borrow.Author.Tests.{le-leb, lt-leb, eq-eqb, ne_eqb, leb-true, eqb-true}
use Rattle.meaning.specs.Outcome.{most_rows}
use Rattle.meaning.specs.Event.{row_count, is_event}
use Rattle.meaning.proofs.Points.{first, second, Tested, passed, failed, tested}
use Rattle.std.specs.Prelude.{Some, None}
use Rattle.events.specs.Answers.{Rowed, form_of}

module _ (w : List ℕ) where
  pub form_short : length w < 2 → None ≡ form_of w
  unfolding form_of is_event
  form_short h = rw (lt-leb 2 (length w) h)

  pub form_many : 2 ≤ length w → most_rows < row_count w → None ≡ form_of w
  unfolding form_of is_event
  form_many h k = rw (le-leb 2 (length w) h, lt-leb (row_count w) most_rows k)

  pub form_off : 2 ≤ length w → row_count w ≤ most_rows → (length w ≡ 2 + 5 * row_count w → ⊥) → None ≡ form_of w
  unfolding form_of is_event
  form_off h k l = rw (le-leb 2 (length w) h, le-leb (row_count w) most_rows k, ne_eqb (length w) (2 + 5 * row_count w) l)

  pub form_event : 2 ≤ length w → row_count w ≤ most_rows → length w ≡ 2 + 5 * row_count w → Some (row_count w) ≡ form_of w
  unfolding form_of is_event
  form_event h k l = rw (le-leb 2 (length w) h, le-leb (row_count w) most_rows k, eq-eqb (length w) (2 + 5 * row_count w) l)

  pub rowed : is_event w ≡ true → Rowed w (row_count w)
  unfolding is_event
  rowed e =
      let tests : (leb 2 (length w) && leb (row_count w) most_rows) ≡ true = first (leb 2 (length w) && leb (row_count w) most_rows) (eqb (length w) (2 + 5 * row_count w)) e in
      record {
        count = refl;
        few = leb-true (row_count w) most_rows (second (leb 2 (length w)) (leb (row_count w) most_rows) tests);
        long = eqb-true (length w) (2 + 5 * row_count w) (second (leb 2 (length w) && leb (row_count w) most_rows) (eqb (length w) (2 + 5 * row_count w)) e);
      }

  -- words that were found an event are one, of so many rows
  pub form_passed : {m : ℕ} → Some m ≡ form_of w → is_event w ≡ true
  unfolding form_of
  form_passed {m} e = go (tested (is_event w))
    where
      go : Tested (is_event w) → is_event w ≡ true
      go (passed t) = t
      go (failed t) =
          let f : form_of w ≡ None = rw t in
          cc

  pub form_rowed : {m : ℕ} → Some m ≡ form_of w → Rowed w m
  unfolding form_of
  form_rowed {m} e =
      let f : form_of w ≡ Some (row_count w) = rw (form_passed e) in
      let same : row_count w ≡ m = cc in
      rw same at (rowed (form_passed e))

  pub form_failed : None ≡ form_of w → is_event w ≡ false
  unfolding form_of
  form_failed e = go (tested (is_event w))
    where
      go : Tested (is_event w) → is_event w ≡ false
      go (failed t) = t
      go (passed t) =
          let f : form_of w ≡ Some (row_count w) = rw t in
          cc
