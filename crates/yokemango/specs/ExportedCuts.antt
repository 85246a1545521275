-- The claim about a whole list of takings, saves and restores, for the exported calls: a start and then calls of `yokemango_take`, `yokemango_notice`, `yokemango_save` and `yokemango_restore`, each known by its contract alone and each finding the memory as the last left it. It is proved as `exported_cuts` (proofs/ExportedCuts.antt); the claim about takings alone (ExportedList.antt) follows from the same steps.
use Rattle.std.specs.Prelude.{ℕ, ◌≡◌, cond, List, [], ◌∷◌, map, get_or, take, eqb}
use Rattle.meaning.specs.Log.{log_of}
use Rattle.meaning.specs.Kept.{kept, open_points}
use Rattle.meaning.specs.Keeper.{keeper_log}
use Rattle.monitor.specs.State.{lent_of}
use Rattle.monitor.specs.Cuts.{Act, taking, saving, restoring, nothing_held, cut_keeper, held_over, NoneLost, uncut_keeper, takings_of}
use Rattle.monitor.specs.declared.State.{State}
use Rattle.yokemango.specs.Numbers.{figures_of, TakesAs, SavesAs, RestoresAs}
use Rattle.yokemango.specs.ExportedList.{ExportedCall, taking_of, Back, back_of, told_given}
use Rattle.yokemango.specs.declared.Told.{Told}

-- a call of `yokemango_save`: the buffer that it was handed, what it told, and how the buffer ended; one of `yokemango_restore`: which image it was handed, what it told, and the state that it left in memory
pub data ExportedCut : Type 0 where
  took : ExportedCall → ExportedCut
  saved : List ℕ → Told → List ℕ → ExportedCut
  restored : ℕ → Told → State → ExportedCut

-- the images once a save has told its answer
abbrev pub images_told : Told → List ℕ → List (List ℕ) → List (List ℕ)
images_told r left images = cond (eqb r.number 0) (take r.words left ∷ images) images

-- from the state that memory holds first to the one that it holds last; the images are the words that saves wrote, the last one first
abbrev pub ExportedCuts : State → List (List ℕ) → List ExportedCut → State → Type 0
ExportedCuts s images [] s' = s' ≡ s
ExportedCuts s images (took x ∷ xs) s' = TakesAs (lent_of s) x.fed x.buffer x.told (lent_of x.state) x.left × ExportedCuts x.state images xs s'
ExportedCuts s images (saved buffer r left ∷ xs) s' = SavesAs (lent_of s) buffer r left × ExportedCuts s (images_told r left images) xs s'
ExportedCuts s images (restored k r next ∷ xs) s' = RestoresAs (lent_of s) (get_or images k []) r (lent_of next) × ExportedCuts next images xs s'

-- what the keeper is fed of a call, and what it is held to
abbrev pub act_of : ExportedCut → Act
act_of (took x) = taking (taking_of x)
act_of (saved buffer r left) = saving buffer
act_of (restored k r next) = restoring k

abbrev pub back_cut : ExportedCut → Back
back_cut (took x) = back_of x
back_cut (saved buffer r left) = record { told = r; buffer = left }
back_cut (restored k r next) = record { told = r; buffer = [] }

-- The claim, for a rule that checking accepted, the exported calls from the start's state on, and the state after them.
pub record ExportedCutList (b : List ℕ) (xs : List ExportedCut) (s : State) : Type 0 where
  -- answers, places and buffers, images among them, are the keeper's, which goes back at a restore to its log at that save
  pub answers : map back_cut xs ≡ map told_given (cut_keeper b nothing_held (map act_of xs))
  -- kept and `open` after the list, with number 0 and never 8
  pub figures : figures_of (lent_of s) ≡ record { number = 0; open_points = open_points b (log_of (held_over b nothing_held (map act_of xs)).log); kept = kept b (log_of (held_over b nothing_held (map act_of xs)).log) }
  -- "as though none had happened": where no restore loses a taking
  pub uncut : NoneLost b nothing_held (map act_of xs)
      → (map back_cut xs ≡ map told_given (uncut_keeper b [] (map act_of xs))) × ((held_over b nothing_held (map act_of xs)).log ≡ keeper_log b [] (takings_of (map act_of xs)))
