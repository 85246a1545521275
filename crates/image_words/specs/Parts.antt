-- The parts of an image as functions over slices write and read them.
use Rattle.std.specs.Prelude.{ℕ, ◌+◌, ◌*◌, ◌/◌, ◌%◌, ◌≤◌, ◌<◌, ◌≡◌, Bool, true, false, ◌&&◌, List, [], ◌∷◌, map, length, get_or, take, drop, ltb, ◌-◌, Option, Some, None}
use Rattle.meaning.specs.Lists.{range, gather}
use Rattle.meaning.specs.Outcome.{most_nodes, most_bytes, most_kept}
use Rattle.method.specs.WellFormed.{most_times}
use Rattle.entries.specs.Appended.{at_front}
use Rattle.call.specs.Stores.{owner_of}
use Rattle.image.specs.Image.{image_version, rule_bytes, kept_in, retained_in, values_at, times_at, rule_at, read_in, is_image}
use Rattle.image_words.specs.declared.Layout.{Layout}
use Rattle.meaning.specs.Log.{stamp}
use Rattle.lent_state.specs.Lent.{Lent, lent}

-- the owners' words of so many entries of a state: of each the node, the mark and the number
unfoldable pub owners_from : List ℕ → List ℕ → ℕ → List ℕ
owners_from os ns count = gather (λ k. get_or os k 0 / 2 ∷ get_or os k 0 % 2 ∷ get_or ns k 0 ∷ []) (range 0 count)

-- the words of an image of so many bytes of a rule, times and entries
abbrev pub image_needs : ℕ → ℕ → ℕ → ℕ
image_needs bytes times count = 5 + count * 7 + times + bytes / 4

-- the sizes of words that may be an image: the version is 1, and there is room in a state for the entries, the times and the rule file, whose words end with the last
pub record SizesFit (ws : List ℕ) (kept retained : ℕ) : Type 0 where
  pub version : get_or ws 0 0 ≡ image_version
  pub kept_are : kept ≡ kept_in ws
  pub retained_are : retained ≡ retained_in ws
  pub few_kept : kept ≤ most_kept
  pub few_times : retained ≤ most_times
  pub within : rule_at ws ≤ length ws
  pub rule_fits : length ws * 4 ≤ rule_at ws * 4 + most_bytes

abbrev pub LaidOut : List ℕ → Option Layout → Type 0
LaidOut ws (Some l) = SizesFit ws l.kept l.retained
LaidOut ws None = is_image ws ≡ false

-- an owner has a node's number, and a mark of 0 or 1
abbrev pub owner_fits : List ℕ → ℕ → Bool
owner_fits ws k = ltb (get_or ws (5 + k * 3) 0) most_nodes && ltb (get_or ws (5 + k * 3 + 1) 0) 2

-- the owners of so many entries as a state has them, each in one word
pub record OwnersRead (ws : List ℕ) (count : ℕ) (os ns : List ℕ) : Type 0 where
  pub fit : (k : ℕ) → k < count → owner_fits ws k ≡ true
  pub owners : (k : ℕ) → k < count → get_or os k 0 ≡ get_or ws (5 + k * 3) 0 * 2 + get_or ws (5 + k * 3 + 1) 0
  pub numbers : (k : ℕ) → k < count → get_or ns k 0 ≡ get_or ws (5 + k * 3 + 2) 0

abbrev pub ReadsOwners : List ℕ → ℕ → List ℕ → List ℕ → Bool → Type 0
ReadsOwners ws count os ns true = OwnersRead ws count os ns
ReadsOwners ws count os ns false = (k : ℕ) × (k < count) × (owner_fits ws k ≡ false)

-- the owners and the numbers of what is read in, as a state has them, at the front of words
pub record EntriesRead (ws os ns : List ℕ) (count : ℕ) : Type 0 where
  pub owners : take count os ≡ map owner_of (read_in ws).entries
  pub numbers : take count ns ≡ map (λ e. e.number) (read_in ws).entries

-- an image's rule file, times and values, and owners and numbers that were read off it, at the front of a state's words; every word behind them as it was
pub record PartsStored (ws os ns : List ℕ) (kept retained : ℕ) (rule times owners numbers values rule' times' owners' numbers' values' : List ℕ) : Type 0 where
  pub rule_stored : rule' ≡ at_front (rule_bytes (drop (rule_at ws) ws)) rule
  pub times_stored : times' ≡ at_front (take retained (drop (times_at ws) ws)) times
  pub owners_stored : owners' ≡ at_front (take kept os) owners
  pub numbers_stored : numbers' ≡ at_front (take kept ns) numbers
  pub values_stored : values' ≡ at_front (take (kept * 4) (drop (values_at ws) ws)) values

-- what is lent once the figures of an image are told, whose parts stand there
abbrev pub figures_read : List ℕ → Layout → Lent → Lent
figures_read ws l m = lent m.rule ((length ws - (5 + l.kept * 7 + l.retained)) * 4) (record { points = get_or ws 1 0; latest = stamp (get_or ws 2 0) }) m.times l.retained m.owners m.numbers m.values l.kept
