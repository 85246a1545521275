-- The refusals 9 to 12 by what the checks answer, in their order.
use Prim.Native.Nat.{ℕ}
use mathlib.Core.Path.{◌≡◌, refl}
use mathlib.Core.List.{List, [], ◌∷◌}
use lib.ListN.{get_or}
use lib.Dec.{ltb, leb}
use Rattle.std.specs.Prelude.{Some, None, Result, Ok, Err}
use Rattle.meaning.specs.Lists.{range}
use Rattle.meaning.specs.Outcome.{Outcome, refused, when, not_an_event, row_out, time_falls, log_full, most_points}
use Rattle.meaning.specs.Event.{row_count, row_fits}
use Rattle.meaning.specs.Keeper.{weigh_rows, admitted}
use Rattle.meaning.specs.declared.Stamp.{Stamp}
use Rattle.meaning.proofs.Points.{Tested, passed, failed, tested}
use Rattle.events.specs.Answers.{form_of, rows_of}
use Rattle.events.proofs.Forms.{form_passed, form_rowed, form_failed}

-- what the rows say, and what follows where they fit
abbrev pub after_rows : Result Unit ℕ → Outcome ℕ → Outcome ℕ
after_rows (Ok u) rest = rest
after_rows (Err k) rest = refused row_out k

-- the rows are weighed by their first that doesn't fit
weighed_rows : (b w ks : List ℕ) (rest : Outcome ℕ) → weigh_rows b w ks rest ≡ after_rows (rows_of b w ks) rest
weighed_rows b w [] rest = refl
weighed_rows b w (k ∷ ks) rest = go (tested (row_fits b w k)) (weighed_rows b w ks rest)
  where
    go : Tested (row_fits b w k) → weigh_rows b w ks rest ≡ after_rows (rows_of b w ks) rest → weigh_rows b w (k ∷ ks) rest ≡ after_rows (rows_of b w (k ∷ ks)) rest
    go (passed t) e = rw t e
    go (failed t) e = rw t

module _ (b w : List ℕ) (last : Stamp) (points : ℕ) (rest : Outcome ℕ) where
  pub not-event : None ≡ form_of w → admitted b w last points rest ≡ refused not_an_event 0
  unfolding admitted
  not-event e = rw (form_failed w e)

  -- the rows, the time stamp and the room, of words that are an event
  pub event_rows : {m : ℕ} → Some m ≡ form_of w → admitted b w last points rest ≡ after_rows (rows_of b w (range 0 m)) (when (ltb (get_or w 0 0) last.0) time_falls 0 (when (leb most_points points) log_full 0 rest))
  unfolding admitted
  event_rows {m} event =
      let same : m ≡ row_count w = (form_rowed w event).count in
      rw (form_passed w event, same) (weighed_rows b w (range 0 (row_count w)) (when (ltb (get_or w 0 0) last.0) time_falls 0 (when (leb most_points points) log_full 0 rest)))
