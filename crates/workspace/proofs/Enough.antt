-- What a call needs, by its times, and that the largest room always has it.
use Prim.Native.Nat.{ℕ, ◌*◌, ◌≤◌, ◌<◌}
use native.Mathlib.Omega.{arith}
use mathlib.Core.List.{List}
use lib.ListN.{length}
use Rattle.meaning.specs.Outcome.{most_kept}
use Rattle.meaning.specs.declared.LogEnd.{LogEnd}
use Rattle.method.specs.Room.{marks_needed, marks_to_time}
use Rattle.method.proofs.Room.{room_enough}
use Rattle.call.specs.Settles.{call_in, ReadyIn}
use Rattle.call.proofs.Calls.{stamps_long}
use Rattle.std.proofs.lemmas.Bool.Decides.{nat_tests}
use Rattle.workspace.specs.Rooms.{CallFits, IsRoom, largest_rows, marks}

module _ {b : List ℕ} {log : LogEnd} {stamps os ns vs : List ℕ} {count : ℕ} {w f : List ℕ} (h : ReadyIn b log stamps os ns vs count w f) where
  pub marks_enough : marks_needed (call_in b log stamps os ns vs count) w < marks
  marks_enough = omega (arith, (room_enough (call_in b log stamps os ns vs count) h.ready.formed w).marks)

  pub largest_fits : CallFits (call_in b log stamps os ns vs count) w largest_rows marks
  largest_fits = ((room_enough (call_in b log stamps os ns vs count) h.ready.formed w).rows, marks_enough)

  pub stamps_few : length stamps ≤ 65
  stamps_few = omega (arith, stamps_long h, h.ready.formed.few_times)

  pub marks_by_times : marks_needed (call_in b log stamps os ns vs count) w ≤ marks_to_time * length stamps
  marks_by_times = omega (arith, stamps_long h, (room_enough (call_in b log stamps os ns vs count) h.ready.formed w).by_times)

-- no room has more than the largest
pub room_small : {rows m kept row_words values : ℕ} → IsRoom rows m kept row_words values → (rows ≤ largest_rows) × (m ≤ marks) × (kept ≤ most_kept)
room_small {rows} {m} {kept} r = grind (arith, nat_tests)
