-- What writing words into a buffer leaves, and what writing a report answers.
use Rattle.std.specs.Prelude.{ℕ, ◌+◌, ◌≡◌, cond, List, ◌++◌, ltb, length, drop, Result, Ok, Err}
use lib.Seq.{sets}
use denote.Ref.{at_last}
use Rattle.writer.specs.declared.Writer.{Writer}
use Rattle.writer.specs.declared.Short.{Short}

-- the words stand in the buffer from `at` on, all others are as before, and `end` is the place after them
pub record Put (before : List ℕ) (at : ℕ) (words after : List ℕ) (end : ℕ) : Type 0 where
  pub place : end ≡ at + length words
  pub stored : after ≡ sets before at words

-- the writer once words are written: the same borrow (`at_last x l` is the reference x at the list l), with the words from the writer's place on, and the place after them
abbrev pub handed : Writer → List ℕ → Writer
handed w words = record { buf = at_last w.buf (sets w.buf.now w.at words); at = w.at + length words }

-- "report buffer too short, place the words needed .. Otherwise .. the words written"
abbrev pub wrote : List ℕ → List ℕ → Result ℕ Short
wrote report buffer = cond (ltb (length buffer) (length report)) (Err (record { needed = length report })) (Ok (length report))

-- and the buffer then: "words past those stay"
abbrev pub written_to : List ℕ → List ℕ → List ℕ
written_to report buffer = cond (ltb (length buffer) (length report)) buffer (report ++ drop (length report) buffer)
