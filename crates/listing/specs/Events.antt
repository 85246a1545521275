-- What an event leaves: it is taken, and what is printed for it put behind the text so far.
use Rattle.std.specs.Prelude.{ℕ, ◌≡◌, List, length}
use Rattle.meaning.specs.Keeper.{event, buffer_after}
use Rattle.method.specs.Step.{report_now}
use Rattle.lent_state.specs.Lent.{Lent, stored, answer_in, lent_after}
use Rattle.writer.specs.Puts.{Put}
use Rattle.lines.specs.Answers.{answer_text}

-- every word of the state and of the buffer, as a taking leaves them; and of the text, with the answer's from `at` on
pub record EventAnswered (m : Lent) (w buffer text : List ℕ) (at : ℕ) (m' : Lent) (buffer' text' : List ℕ) (end : ℕ) : Type 0 where
  pub moved : m' ≡ lent_after (answer_in m (event w) (length buffer)) m (event w)
  pub written : buffer' ≡ buffer_after (answer_in m (event w) (length buffer)) (report_now (stored m) w) buffer
  pub put : Put text at (answer_text (answer_in m (event w) (length buffer)) buffer') text' end
