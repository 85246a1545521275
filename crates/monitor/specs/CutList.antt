-- Demand 3 with cuts (#104): one claim about a whole list of takings, saves and restores. Whatever bytes a start accepted, and whatever was then handed in, what the operations promise (Contracts.antt) makes each answer, every word of each buffer and every image the keeper's. It is proved as `Cut-list` (proofs/CutList.antt), for a rule of bytes; the claim about takings alone (WholeList.antt) is the same induction's, over a list without saves and restores, and asks nothing of the rule.
use Rattle.std.specs.Prelude.{ℕ, ◌≡◌, true, List, [], ◌∷◌, map, get_or, take, Result}
use Rattle.meaning.specs.Outcome.{Outcome, refused, given}
use Rattle.meaning.specs.Log.{log_of}
use Rattle.meaning.specs.Kept.{kept, open_points}
use Rattle.meaning.specs.Keeper.{Given, keeper_log, keeper}
use Rattle.method.specs.Step.{kept_stored}
use Rattle.method.specs.WellFormed.{well_formed}
use Rattle.figures.specs.Fronts.{open_answer}
use Rattle.image_words.specs.Promises.{saved_of, read_of}
use Rattle.image_words.specs.declared.Unsaved.{Unsaved}
use Rattle.monitor.specs.State.{stored}
use Rattle.monitor.specs.Promises.{Takes, Saves, Restores}
use Rattle.monitor.specs.Calls.{Call, taking_of, given_of}
use Rattle.monitor.specs.Cuts.{Act, taking, saving, restoring, nothing_held, cut_keeper, held_over, NoneLost, uncut_keeper, takings_of, takings_given}
use Rattle.monitor.specs.declared.State.{State}
use Rattle.monitor.specs.declared.Restored.{Restored}

-- a call of `save`: the buffer that it was handed, the answer, and how the buffer ended; one of `restore`: which image it was handed, and what it gave back
pub data CutCall : Type 0 where
  took : Call → CutCall
  saved : List ℕ → Result ℕ Unsaved → List ℕ → CutCall
  restored : ℕ → Restored → CutCall

-- the state after a restore is what it gave back, and the one before it where it was refused
abbrev pub state_after : Outcome ℕ → State → State → State
state_after (refused number place) s s' = s
state_after (given words) s s' = s'

-- the images once a save is answered
abbrev pub written : Outcome ℕ → List ℕ → List (List ℕ) → List (List ℕ)
written (refused number place) left images = images
written (given words) left images = take words left ∷ images

-- the images are the words that saves wrote, the last one first; nobody else writes them or the state
abbrev pub CutCalls : State → List (List ℕ) → List CutCall → State → Type 0
CutCalls s images [] s' = s' ≡ s
CutCalls s images (took c ∷ cs) s' = Takes s c.fed c.buffer c.back c.left × CutCalls c.back.state images cs s'
CutCalls s images (saved buffer r left ∷ cs) s' = Saves s buffer r left × CutCalls s (written (saved_of r) left images) cs s'
CutCalls s images (restored k r ∷ cs) s' = Restores (get_or images k []) r × CutCalls (state_after (read_of r.read) s r.state) images cs s'

-- what the keeper is fed of a call, and what it is held to
abbrev pub act_of : CutCall → Act
act_of (took c) = taking (taking_of c)
act_of (saved buffer r left) = saving buffer
act_of (restored k r) = restoring k

abbrev pub given_back : CutCall → Given
given_back (took c) = given_of c
given_back (saved buffer r left) = record { answer = saved_of r; buffer = left }
given_back (restored k r) = record { answer = read_of r.read; buffer = [] }

-- The claim, for a rule that checking accepted, the calls from the start's state on, and the state after them.
pub record CutList (b : List ℕ) (cs : List CutCall) (s : State) : Type 0 where
  -- answers, places and buffers, images among them, are the keeper's, which goes back at a restore to its log at that save
  pub answers : map given_back cs ≡ cut_keeper b nothing_held (map act_of cs)
  -- no state read in, saved or reached meets 8
  pub formed : well_formed (stored s) ≡ true
  -- kept and `open` after the list
  pub keeps : kept_stored (stored s) ≡ kept b (log_of (held_over b nothing_held (map act_of cs)).log)
  pub opens : open_answer (stored s) ≡ given (open_points b (log_of (held_over b nothing_held (map act_of cs)).log))
  -- "A log cut by any number of saves and restores is reported as though none had happened": where no restore loses a taking, every answer, buffer and image is that of the keeper to which saves and restores are nothing, the takings are given back what they are without them, and the log is theirs
  pub uncut : NoneLost b nothing_held (map act_of cs)
      → (map given_back cs ≡ uncut_keeper b [] (map act_of cs)) × (takings_given (map act_of cs) (map given_back cs) ≡ keeper b [] (takings_of (map act_of cs))) × ((held_over b nothing_held (map act_of cs)).log ≡ keeper_log b [] (takings_of (map act_of cs)))
