-- The claim about a whole list of exported takings, saves and restores holds.
use Prim.Native.Nat.{ℕ}
use mathlib.Core.Path.{◌≡◌, refl, ◌∙◌, ap, ap₂, subst}
use mathlib.Core.Bool.{true}
use mathlib.Core.List.{List, [], ◌∷◌, map, Memᴰ}
use lib.ListN.{length, get_or}
use lib.Dec.{ltb}
use Rattle.meaning.specs.Outcome.{Outcome, refused, given}
use Rattle.meaning.specs.Log.{Taken}
use Rattle.meaning.specs.RuleFile.{Accepted, checking}
use Rattle.meaning.specs.Keeper.{Given}
use Rattle.meaning.proofs.Points.{Tested, passed, failed, tested}
use Rattle.method.specs.Step.{kept_stored}
use Rattle.method.specs.WellFormed.{well_formed}
use Rattle.figures.specs.Fronts.{open_answer}
use Rattle.lent_state.specs.Lent.{Lent, fitting, stored}
use Rattle.image.specs.Image.{image_of}
use Rattle.image_words.specs.Promises.{saving as saving_of, saving_in, reading_in, lent_read}
use Rattle.image.specs.ImageLaws.{Bytes}
use Rattle.monitor.specs.State.{lent_of}
use Rattle.monitor.specs.Cuts.{Act, taking, saving, restoring, nothing_held, cut_keeper, held_over}
use Rattle.monitor.specs.CutList.{written}
use Rattle.monitor.specs.declared.State.{State}
use Rattle.monitor.proofs.Along.{given_in}
use Rattle.monitor.proofs.Starting.{start_stores}
use Rattle.monitor.proofs.Cuts.{lent_after_read, saved_back, read_back, LentCall, LentCalls, Asks}
use Rattle.monitor.proofs.CutList.{Uncut, none_lost, FromStart, from_start, asks_all, kept_then, open_then}
use Rattle.yokemango.specs.Numbers.{told_of, start_parts, open_in, figures_of}
use Rattle.yokemango.specs.ExportedList.{taking_of, Back, told_given}
use Rattle.yokemango.specs.ExportedCuts.{ExportedCut, took, saved, restored, images_told, ExportedCuts, act_of, back_cut, ExportedCutList}
use Rattle.yokemango.specs.declared.StartParts.{StartParts}
use Rattle.yokemango.specs.declared.Told.{Told}

-- the figures of memory that fits, from those of what is stored in it
pub figures_then : (m : Lent) {open-points entries : ℕ} → fitting m ≡ true → kept_stored (stored m) ≡ entries → open_answer (stored m) ≡ given open-points
    → figures_of m ≡ record { number = 0; open_points = open-points; kept = entries }
unfolding open_in
figures_then m f k o = rw (f, o, k)

-- ---- exported calls as calls in memory

-- a save that writes an image tells 0, and one that is refused doesn't
images_told_lem : (m : Lent) (room : ℕ) (left : List ℕ) (images : List (List ℕ)) → images_told (told_of (saving_in m room)) left images ≡ written (saving_in m room) left images
unfolding saving_in saving_of
images_told_lem m room left images = go (tested (fitting m)) (tested (well_formed (stored m))) (tested (ltb room (length (image_of (stored m)))))
  where
    go : Tested (fitting m) → Tested (well_formed (stored m)) → Tested (ltb room (length (image_of (stored m)))) → images_told (told_of (saving_in m room)) left images ≡ written (saving_in m room) left images
    go (passed f) (passed w) (passed l) = rw (f, w, l)
    go (passed f) (passed w) (failed l) = rw (f, w, l)
    go (passed f) (failed w) l = rw (f, w)
    go (failed f) w l = rw f

-- memory after a restore, read into where it was
read_after : (o : Outcome ℕ) (ws : List ℕ) (m : Lent) → lent_read o ws m ≡ lent_after_read o m (lent_read o ws m)
read_after (refused number place) ws m = refl
read_after (given words) ws m = refl

abbrev back : Told → List ℕ → Back
back told words = record { told = told; buffer = words }

record AsLent (s : State) (images : List (List ℕ)) (xs : List ExportedCut) (s' : State) : Type 0 where
  pub calls : List LentCall
  pub acts : map (λ c. c.act) calls ≡ map act_of xs
  pub tells : map back_cut xs ≡ map told_given (map (λ c. c.back) calls)
  pub lent : LentCalls (lent_of s) images calls (lent_of s')

as_lent : (s : State) (images : List (List ℕ)) (xs : List ExportedCut) (s' : State) → ExportedCuts s images xs s' → AsLent s images xs s'
as_lent s images [] s' e = record { calls = []; acts = refl; tells = refl; lent = ap lent_of e }
as_lent s images (took x ∷ xs) s' (t, r) =
    let rest : AsLent x.state images xs s' = as_lent x.state images xs s' r in
    record {
      calls = record { act = taking (taking_of x); back = given_in (lent_of s) (taking_of x); into = lent_of s; after = lent_of x.state } ∷ rest.calls;
      acts = ap (λ acts. taking (taking_of x) ∷ acts) rest.acts;
      tells = ap₂ (λ q qs. q ∷ qs) (ap₂ back t.told t.written) rest.tells;
      lent = ((refl, t.moved), rest.lent);
    }
as_lent s images (saved buffer q left ∷ xs) s' (t, r) =
    let e : images_told q left images ≡ written (saved_back (lent_of s) buffer).answer (saved_back (lent_of s) buffer).buffer images
    = ap (λ d. images_told d left images) t.told ∙ images_told_lem (lent_of s) (length buffer) left images ∙ ap (λ ws. written (saving_in (lent_of s) (length buffer)) ws images) t.written in
    let rest : AsLent s (images_told q left images) xs s' = as_lent s (images_told q left images) xs s' r in
    record {
      calls = record { act = saving buffer; back = saved_back (lent_of s) buffer; into = lent_of s; after = lent_of s } ∷ rest.calls;
      acts = ap (λ acts. saving buffer ∷ acts) rest.acts;
      tells = ap₂ (λ d ds. d ∷ ds) (ap₂ back t.told t.written) rest.tells;
      lent = ((refl, refl), subst (λ is. LentCalls (lent_of s) is rest.calls (lent_of s')) e rest.lent);
    }
as_lent s images (restored k q next ∷ xs) s' (t, r) =
    let rest : AsLent next images xs s' = as_lent next images xs s' r in
    record {
      calls = record { act = restoring k; back = read_back (lent_of s) (get_or images k []); into = lent_of s; after = lent_of next } ∷ rest.calls;
      acts = ap (λ acts. restoring k ∷ acts) rest.acts;
      tells = ap₂ (λ d ds. d ∷ ds) (ap₂ back t.told refl) rest.tells;
      lent = ((λ f. f, refl, t.moved ∙ read_after (reading_in (lent_of s) (get_or images k [])) (get_or images k []) (lent_of s)), rest.lent);
    }

-- what exported calls from a start tell, and what memory stores after them
pub record TellsFromStart (b : List ℕ) (a : Accepted) (ok : checking b ≡ given a) (acts : List Act) (backs : List Back) (m : Lent) : Type 0 where
  pub gives : List Given
  pub tells : backs ≡ map told_given gives
  pub all : FromStart b a ok acts gives m

pub told_from_start : (b : List ℕ) (r : StartParts) → r ≡ start_parts b → (a : Accepted) (ok : checking b ≡ given a) (xs : List ExportedCut) (s : State) → ExportedCuts r.state [] xs s
    → ((act : Act) → Memᴰ act (map act_of xs) → Asks b act) → TellsFromStart b a ok (map act_of xs) (map back_cut xs) (lent_of s)
told_from_start b r start a ok xs s calls asks =
    let k : AsLent r.state [] xs s = as_lent r.state [] xs s calls in
    record { gives = map (λ c. c.back) k.calls; tells = k.tells; all = from_start b a ok k.calls k.acts refl asks (lent_of r.state) (lent_of s) (rw (start, ok) (start_stores b a ok)) k.lent }

pub exported_cuts : (b : List ℕ) → Bytes b → (r : StartParts) → r ≡ start_parts b → (a : Accepted) → checking b ≡ given a
    → (xs : List ExportedCut) (s : State) → ExportedCuts r.state [] xs s → ExportedCutList b xs s
exported_cuts b bytes r start a ok xs s calls =
    let k : TellsFromStart b a ok (map act_of xs) (map back_cut xs) (lent_of s) = told_from_start b r start a ok xs s calls (λ act e. asks_all b bytes act) in
    let h = k.all.follows in
    let es : List Taken = (held_over b nothing_held (map act_of xs)).log in
    let answers : map back_cut xs ≡ map told_given (cut_keeper b nothing_held (map act_of xs)) = k.tells ∙ ap (map told_given) k.all.answers in
    record {
      answers = answers;
      figures = figures_then (lent_of s) h.stores.fits (kept_then b a ok es h.reached (lent_of s) h.stores) (open_then b a ok es h.reached (lent_of s) h.stores);
      uncut =
          λ n.
          let u : Uncut b nothing_held (map act_of xs) = none_lost b nothing_held (map act_of xs) n in
          (answers ∙ ap (map told_given) u.gives, u.holds);
    }
