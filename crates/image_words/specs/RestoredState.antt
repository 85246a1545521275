-- What a state read in promises, whatever memory it was read into and whatever the words' origin: by what reading in and saving promise alone. It is proved as `restored` (proofs/RestoredState.antt).
use Rattle.std.specs.Prelude.{ℕ, ◌≡◌, true, List}
use Rattle.method.specs.WellFormed.{well_formed}
use Rattle.lent_state.specs.Lent.{Lent, fitting, stored}
use Rattle.image.specs.Image.{read_in}
use Rattle.image_words.specs.Promises.{saved_in, saving_in}

pub record RestoredState (ws : List ℕ) (m : Lent) : Type 0 where
  -- "8 never meets a state read in": it has a state's lengths, and what is stored is well formed
  pub fits : fitting m ≡ true
  pub formed : well_formed (stored m) ≡ true
  -- it stores what the words say
  pub holds : stored m ≡ read_in ws
  -- "an image read in saves to itself": saving it is answered with the words read, or 19 with their number
  pub saves : (room : ℕ) → saving_in m room ≡ saved_in ws room
