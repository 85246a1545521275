-- The keeper with cuts (#104): a list of takings, saves and restores, and what the keeper gives back of each.
use Rattle.std.specs.Prelude.{ℕ, ◌<◌, ◌≡◌, cond, List, [], ◌∷◌, length, get_or, ltb}
use Rattle.meaning.specs.Outcome.{Outcome, refused, given, not_an_image}
use Rattle.meaning.specs.Log.{Taken, log_of}
use Rattle.meaning.specs.Keeper.{Taking, Given, buffer_after, answered, step}
use Rattle.method.specs.Stored.{stored_of}
use Rattle.image.specs.Image.{image_of}
use Rattle.image_words.specs.Promises.{saved_in}

-- a taking; a save into a buffer; or a restore from an image that a save before it wrote: the last one for 0, the one before that for 1, ..
pub data Act : Type 0 where
  taking : Taking → Act
  saving : List ℕ → Act
  restoring : ℕ → Act

-- the image of what the keeper's log stores
abbrev pub image_on : List ℕ → List Taken → List ℕ
image_on b es = image_of (stored_of b (log_of es))

-- what the keeper holds: its log, and what its log was at each save that wrote an image, the last one first
pub record Held : Type 0 where
  pub log : List Taken
  pub images : List (List Taken)

abbrev pub nothing_held : Held
nothing_held = record { log = []; images = [] }

-- what a save gives back: 19, or the image at the buffer's front
abbrev pub saved_given : List ℕ → List Taken → List ℕ → Given
saved_given b es buffer = record { answer = saved_in (image_on b es) (length buffer); buffer = buffer_after (saved_in (image_on b es) (length buffer)) (image_on b es) buffer }

-- what a restore gives back: the words read; 18 where so many images weren't written. It has no buffer
abbrev pub restored_given : List ℕ → List (List Taken) → ℕ → Given
restored_given b images k = record { answer = cond (ltb k (length images)) (given (length (image_on b (get_or images k [])))) (refused not_an_image 0); buffer = [] }

abbrev pub given_for : List ℕ → Held → Act → Given
given_for b h (taking t) = answered b h.log t
given_for b h (saving buffer) = saved_given b h.log buffer
given_for b h (restoring k) = restored_given b h.images k

-- the logs of the images once a save is answered
abbrev pub images_after : Outcome ℕ → List Taken → List (List Taken) → List (List Taken)
images_after (refused number place) es images = images
images_after (given words) es images = es ∷ images

-- what the keeper holds then: a restore brings back the log of that save
abbrev pub held_after : List ℕ → Held → Act → Held
held_after b h (taking t) = record { log = step b h.log t; images = h.images }
held_after b h (saving buffer) = record { log = h.log; images = images_after (saved_given b h.log buffer).answer h.log h.images }
held_after b h (restoring k) = record { log = get_or h.images k h.log; images = h.images }

-- over a list
abbrev pub cut_keeper : List ℕ → Held → List Act → List Given
cut_keeper b h [] = []
cut_keeper b h (a ∷ acts) = given_for b h a ∷ cut_keeper b (held_after b h a) acts

abbrev pub held_over : List ℕ → Held → List Act → Held
held_over b h [] = h
held_over b h (a ∷ acts) = held_over b (held_after b h a) acts

-- no restore loses a taking: the image that it reads was saved after the last accepted one
abbrev pub NoneLost : List ℕ → Held → List Act → Type 0
NoneLost b h [] = Unit {0}
NoneLost b h (taking t ∷ acts) = NoneLost b (held_after b h (taking t)) acts
NoneLost b h (saving buffer ∷ acts) = NoneLost b (held_after b h (saving buffer)) acts
NoneLost b h (restoring k ∷ acts) = (k < length h.images) × (get_or h.images k [] ≡ h.log) × NoneLost b (held_after b h (restoring k)) acts

-- the keeper to which saves and restores are nothing: it goes on with its log
abbrev pub uncut_keeper : List ℕ → List Taken → List Act → List Given
uncut_keeper b es [] = []
uncut_keeper b es (taking t ∷ acts) = answered b es t ∷ uncut_keeper b (step b es t) acts
uncut_keeper b es (saving buffer ∷ acts) = saved_given b es buffer ∷ uncut_keeper b es acts
uncut_keeper b es (restoring k ∷ acts) = record { answer = given (length (image_on b es)); buffer = [] } ∷ uncut_keeper b es acts

-- the takings of a list, and of what it gives back what they are given back
abbrev pub takings_of : List Act → List Taking
takings_of [] = []
takings_of (taking t ∷ acts) = t ∷ takings_of acts
takings_of (saving buffer ∷ acts) = takings_of acts
takings_of (restoring k ∷ acts) = takings_of acts

abbrev pub takings_given : List Act → List Given → List Given
takings_given [] gs = []
takings_given (taking t ∷ acts) [] = []
takings_given (taking t ∷ acts) (g ∷ gs) = g ∷ takings_given acts gs
takings_given (saving buffer ∷ acts) [] = []
takings_given (saving buffer ∷ acts) (g ∷ gs) = takings_given acts gs
takings_given (restoring k ∷ acts) [] = []
takings_given (restoring k ∷ acts) (g ∷ gs) = takings_given acts gs
