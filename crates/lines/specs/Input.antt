-- "Standard input: a word with the rule's length, the rule, events end to end": what is read off bytes.
use Rattle.std.specs.Prelude.{ℕ, ◌+◌, ◌-◌, ◌*◌, ◌≡◌, cond, ◌&&◌, ◌||◌, List, [], ◌++◌, map, length, take, drop, ltb, leb, eqb}
use Rattle.meaning.specs.Lists.{range}
use Rattle.meaning.specs.Outcome.{most_rows}
use Rattle.meaning.specs.RuleFile.{word_at}
use Rattle.lines.specs.declared.input.Next.{Next}
use Rattle.lines.specs.declared.input.Next.TheVariants.{Event, Cut, Ended}

-- "a word is an unsigned 32-bit number, little-endian in files": the first n words of some bytes
abbrev pub words_in : List ℕ → ℕ → List ℕ
words_in bytes n = map (λ k. word_at bytes (4 * k)) (range 0 n)

-- where the rule ends that begins after its length word; after that word, where it is cut short or above 652
unfoldable pub rule_end : List ℕ → ℕ
rule_end bytes = cond (leb 4 (length bytes) && leb (word_at bytes 0) 652) (4 + word_at bytes 0) 4

-- the rule's bytes. "A length above 652, or a rule or its length word cut short, prints `refused 1 place 0`": there are none then, and that is what checking answers on none (`no_bytes` of proofs/Written.antt)
unfoldable pub rule_in : List ℕ → List ℕ
rule_in bytes = cond (leb (rule_end bytes) (length bytes)) (take (rule_end bytes - 4) (drop 4 bytes)) []

-- an event's row count m, behind its time
abbrev pub rows_asked : List ℕ → ℕ
rows_asked bytes = word_at bytes 4

-- where the event ends that the bytes begin with: "Its length is 2 + 5m" words; after its first two words, where they are cut short or m is above 32
unfoldable pub event_end : List ℕ → ℕ
event_end bytes = cond (leb 8 (length bytes) && leb (rows_asked bytes) most_rows) (8 + 20 * rows_asked bytes) 8

-- "for m above 32 or a cut event it prints `refused 9 place 0`, stops reading"; else the event's words, so many as `Event` says, or the end of input
unfoldable pub next_in : List ℕ → Next
next_in bytes =
    cond (eqb (length bytes) 0) Ended
    (cond (ltb (length bytes) 8 || ltb most_rows (rows_asked bytes) || ltb (length bytes) (8 + 20 * rows_asked bytes)) Cut
    (Event (2 + 5 * rows_asked bytes)))

-- the event's words at the front of those that were lent, the others as they were; all as they were where there is no event
abbrev pub words_after : Next → List ℕ → List ℕ → List ℕ
words_after (Event n) bytes words = words_in bytes n ++ drop n words
words_after Cut bytes words = words
words_after Ended bytes words = words

pub record Reads (bytes words words' : List ℕ) (r : Next) : Type 0 where
  pub next : r ≡ next_in bytes
  pub left : words' ≡ words_after r bytes words
