-- What a state read in promises holds.
use Prim.Native.Nat.{ℕ, ◌≤◌}
use native.Mathlib.Omega.{arith}
use mathlib.Core.Path.{◌≡◌, sym, ◌∙◌, ap}
use mathlib.Core.Bool.{true}
use mathlib.Core.List.{List}
use lib.ListN.{length, drop}
use Rattle.meaning.specs.Outcome.{refused, given, not_an_image}
use Rattle.meaning.proofs.Points.{Tested, passed, failed, tested}
use Rattle.meaning.proofs.Accepted.{accepted, nodes_most}
use Rattle.method.specs.Stored.{Stored}
use Rattle.method.specs.WellFormed.{well_formed, Formed}
use Rattle.method.proofs.Formed.{formed}
use Rattle.figures.proofs.Front.{front_long, front_read}
use Rattle.lent_state.specs.Lent.{Lent, fitting, stored, lent_with}
use Rattle.lent_state.proofs.Memory.{fits_sized, sized_fits}
use Rattle.lent_state.proofs.Stores.{stored_with, fitting_with}
use Rattle.image.specs.Image.{image_of, read_in, is_image}
use Rattle.image.specs.ImageLaws.{Words}
use Rattle.image.proofs.ImageLaws.{is_in_form, image_laws}
use Rattle.image_words.specs.Promises.{saved_in, saving, saving_in, reading, reading_in, ruled_by, read_of, ReadsLent}
use Rattle.image_words.specs.RestoredState.{RestoredState}
use Rattle.image_words.specs.declared.NotAnImage.{NotAnImage}
use Rattle.std.specs.Prelude.{Result}

module _ (b : List ℕ) (m : Lent) where
  ruled_fits : length b ≤ 652 → fitting m ≡ true → fitting (ruled_by b m) ≡ true
  ruled_fits l fit =
      let z = fits_sized _ _ _ _ _ fit in
      sized_fits (record { rule_long = front_long b m.rule (omega (arith, z)) ∙ z.rule_long; times_long = z.times_long; owners_long = z.owners_long; numbers_long = z.numbers_long; values_are_long = z.values_are_long })

  ruled_read : (stored (ruled_by b m)).rule ≡ b
  ruled_read = front_read b (drop (length b) m.rule)

-- memory of a state's lengths, in which s is stored
pub record Holds (s : Stored) (m : Lent) : Type 0 where
  pub fits : fitting m ≡ true
  pub stores : stored m ≡ s

pub put_in : (s : Stored) → Formed s → (m : Lent) → fitting m ≡ true → Holds s (lent_with s (ruled_by s.rule m))
put_in s f m fit =
    record {
      fits = fitting_with (ruled_by s.rule m) s f (ruled_fits s.rule m (omega (arith, (accepted s.rule f.accepted.0 f.accepted.1).long, nodes_most s.rule f.accepted.0 f.accepted.1)) fit);
      stores = stored_with (ruled_by s.rule m) s f (sym (ruled_read s.rule m));
    }

-- reading is answered with words only where memory has a state's lengths and the words are in form
pub read_given : (m : Lent) (ws : List ℕ) (n : ℕ) → reading_in m ws ≡ given n → (fitting m ≡ true) × (is_image ws ≡ true)
unfolding reading_in reading
read_given m ws n e = go (tested (fitting m)) (tested (is_image ws))
  where
    none : refused not_an_image 0 ≡ given n → ⊥
    none z =
        let q : ◌≡◌ {A = ℕ} 0 1 = cc in
        absurd (omega arith)

    go : Tested (fitting m) → Tested (is_image ws) → (fitting m ≡ true) × (is_image ws ≡ true)
    go (passed f) (passed t) = (f, t)
    go (passed f) (failed t) = absurd (none (rw (f, t) at e))
    go (failed f) t = absurd (none (rw f at e))

pub restored_holds : (m : Lent) (ws : List ℕ) (r : Result ℕ NotAnImage) (m' : Lent) → ReadsLent m ws r m' → (n : ℕ) → read_of r ≡ given n → Holds (read_in ws) m'
restored_holds m ws r m' h n e =
    let g : reading_in m ws ≡ given n = sym h.answered ∙ e in
    let (f, t) = read_given m ws n g in
    rw (h.moved, g) (put_in (read_in ws) (formed (read_in ws) (is_in_form ws t).well) m f)

saves_back : (m : Lent) (ws : List ℕ) → fitting m ≡ true → well_formed (stored m) ≡ true → image_of (stored m) ≡ ws → (room : ℕ) → saving_in m room ≡ saved_in ws room
unfolding saving_in saving
saves_back m ws f w i room = rw (f, w, i)

-- words of a machine, read in
pub restored : (m : Lent) (ws : List ℕ) → Words ws → (r : Result ℕ NotAnImage) (m' : Lent) → ReadsLent m ws r m' → (n : ℕ) → read_of r ≡ given n → RestoredState ws m'
restored m ws words r m' h n e =
    let k : Holds (read_in ws) m' = restored_holds m ws r m' h n e in
    let (f, t) = read_given m ws n (sym h.answered ∙ e) in
    let w : well_formed (stored m') ≡ true = rw k.stores (is_in_form ws t).well in
    record { fits = k.fits; formed = w; holds = k.stores; saves = saves_back m' ws k.fits w (ap image_of k.stores ∙ image_laws.saves_itself ws words t) }
