-- #104: the image of what is stored, word by word; the form that reading asks, as a test on any words; and what is read in.
use Rattle.std.specs.Prelude.{ℕ, ◌+◌, ◌*◌, ◌/◌, ◌%◌, Bool, ◌&&◌, List, [], ◌∷◌, ◌++◌, map, length, get_or, take, drop, leb, eqb}
use Rattle.meaning.specs.Lists.{range, gather}
use Rattle.meaning.specs.Outcome.{most_bytes, most_kept}
use Rattle.meaning.specs.Log.{stamp}
use Rattle.meaning.specs.RuleFile.{word_at}
use Rattle.meaning.specs.Kept.{Entry, entry_of}
use Rattle.method.specs.Stored.{Stored}
use Rattle.method.specs.WellFormed.{most_times, well_formed}
use Rattle.rowset.specs.Rows.{row_at}

-- "image version 1"
abbrev pub image_version : ℕ
image_version = 1

-- "Sizes first: image version 1, points taken, latest known time (0 before any), kept entries, times retained"
abbrev pub sizes : Stored → List ℕ
sizes s = image_version ∷ s.points ∷ s.latest.0 ∷ length s.entries ∷ length s.times ∷ []

-- "the entries' owners (node, 0 for a point or 1 for an age, and that number)"
abbrev pub owner_words : Entry → List ℕ
owner_words e = e.node ∷ e.mark ∷ e.number ∷ []

-- "the rule file's bytes, four to a word, little-endian": where the bytes end, 0 stands for those that a word lacks
unfoldable pub rule_words : List ℕ → List ℕ
rule_words b = map (λ k. word_at b (k * 4)) (range 0 ((length b + 3) / 4))

-- "Then two parallel arrays, the entries' owners .. and their values (four words, variable k in word k, 0 where it isn't free), then the retained times and the rule file"
unfoldable pub image_of : Stored → List ℕ
image_of s = sizes s ++ gather owner_words s.entries ++ gather (λ e. e.values) s.entries ++ s.times ++ rule_words s.rule

-- the words of the longest: "sizes first", seven words for each entry, the times and the rule file
abbrev pub most_image : ℕ
most_image = 5 + most_kept * 7 + most_times + most_bytes / 4

-- a word's bytes, and those of a rule file's words
abbrev pub bytes_of : ℕ → List ℕ
bytes_of w = w % 256 ∷ w / 256 % 256 ∷ w / 65536 % 256 ∷ w / 16777216 % 256 ∷ []

unfoldable pub rule_bytes : List ℕ → List ℕ
rule_bytes ws = gather bytes_of ws

module _ (ws : List ℕ) where
  -- the entries and the times that the sizes tell
  abbrev pub kept_in : ℕ
  kept_in = get_or ws 3 0

  abbrev pub retained_in : ℕ
  retained_in = get_or ws 4 0

  -- where the values begin, the times, and the rule file
  abbrev pub values_at : ℕ
  values_at = 5 + kept_in * 3

  abbrev pub times_at : ℕ
  times_at = 5 + kept_in * 7

  abbrev pub rule_at : ℕ
  rule_at = times_at + retained_in

  -- entry k, by its owner and its values
  abbrev pub entry_in : ℕ → Entry
  entry_in k = entry_of (get_or ws (5 + k * 3) 0) (get_or ws (5 + k * 3 + 1) 0) (get_or ws (5 + k * 3 + 2) 0) (row_at (drop values_at ws) k)

  -- what is read in
  unfoldable pub read_in : Stored
  read_in =
      record {
        rule = rule_bytes (drop rule_at ws);
        points = get_or ws 1 0;
        latest = stamp (get_or ws 2 0);
        times = take retained_in (drop times_at ws);
        entries = map entry_in (range 0 kept_in);
      }

  -- the form: the version is 1, the sizes are within the words, and what is read is well formed (docs/STATE.md), its rule, which all the words behind the times are, one that checking accepts
  unfoldable pub is_image : Bool
  is_image = eqb (get_or ws 0 0) image_version && (leb rule_at (length ws) && well_formed read_in)
