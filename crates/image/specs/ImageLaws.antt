-- What an image promises. It is proved as `image_laws` (proofs/ImageLaws.antt).
use Rattle.std.specs.Prelude.{ℕ, ◌+◌, ◌≤◌, ◌<◌, ◌≡◌, Bool, true, ◌&&◌, List, [], ◌∷◌, ◌++◌, length, get_or}
use Rattle.meaning.specs.Order.{before}
use Rattle.meaning.specs.Formula.{free, lowest_of}
use Rattle.meaning.specs.RuleFile.{formula_at}
use Rattle.meaning.specs.Kept.{Entry}
use Rattle.method.specs.Stored.{Stored}
use Rattle.method.specs.WellFormed.{well_formed}
use Rattle.image.specs.Image.{owner_words, image_of, most_image, read_in, is_image}

-- numbers that are bytes, and words
abbrev pub AllBelow : ℕ → List ℕ → Type 0
AllBelow most ws = (k : ℕ) → get_or ws k 0 < most

abbrev pub Bytes : List ℕ → Type 0
Bytes b = AllBelow 256 b

abbrev pub Words : List ℕ → Type 0
Words ws = AllBelow 4294967296 ws

-- what is well formed, under a rule of bytes
pub record Sound (s : Stored) : Type 0 where
  pub formed : well_formed s ≡ true
  pub bytes : Bytes s.rule

-- the owner of an entry ascends, by node, mark and number, and entries of one owner stand in the order of its node's valuations: an owner and then a row are told the order three places more
abbrev pub entry_before : List ℕ → Entry → Entry → Bool
entry_before b e f = before (3 + lowest_of (free (formula_at b e.node))) (owner_words e ++ e.values) (owner_words f ++ f.values)

-- each entry stands before the next
abbrev pub entries_ascend : List ℕ → List Entry → Bool
entries_ascend b [] = true
entries_ascend b (e ∷ []) = true
entries_ascend b (e ∷ f ∷ es) = entry_before b e f && entries_ascend b (f ∷ es)

pub record ImageLaws : Type 0 where
  -- "One state has one image": what is stored is equal where images are
  pub one_image : (s t : Stored) → Sound s → Sound t → image_of s ≡ image_of t → s ≡ t
  -- what a state saves is in form, and reads in to what was stored
  pub is_in_form : (s : Stored) → Sound s → is_image (image_of s) ≡ true
  pub reads_back : (s : Stored) → Sound s → read_in (image_of s) ≡ s
  -- "an image read in saves to itself", for every words in form, whatever their origin
  pub saves_itself : (ws : List ℕ) → Words ws → is_image ws ≡ true → image_of (read_in ws) ≡ ws
  -- "Entries ascend by owner, then in the order of valuations"
  pub ascends : (s : Stored) → well_formed s ≡ true → entries_ascend s.rule s.entries ≡ true
  -- what is read in is well formed
  pub sound : (ws : List ℕ) → is_image ws ≡ true → Sound (read_in ws)
  -- no image is longer than 3,816 words
  pub longest : (s : Stored) → well_formed s ≡ true → length (image_of s) ≤ most_image
