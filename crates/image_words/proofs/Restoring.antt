-- What is lent once words are read in, or once they are refused.
use Prim.Native.Nat.{ℕ, ◌+◌, ◌-◌, ◌*◌}
use mathlib.Core.Path.{◌≡◌, sym, ◌∙◌, ap, ap₂}
use mathlib.Core.Bool.{true, false}
use mathlib.Core.List.{List, map}
use lib.ListN.{length, get_or, take, drop}
use Rattle.meaning.specs.Lists.{gather}
use Rattle.meaning.specs.Log.{stamp}
use Rattle.entries.specs.Appended.{at_front}
use Rattle.call.specs.Stores.{owner_of}
use Rattle.lent_state.specs.Lent.{Lent, lent, fitting, lent_with}
use Rattle.image.specs.Image.{times_at, read_in, is_image}
use Rattle.image_words.specs.Parts.{SizesFit, EntriesRead, PartsStored}
use Rattle.image_words.specs.Promises.{reading, reading_in, ruled_by, ReadsLent}
use Rattle.image_words.specs.declared.NotAnImage.{NotAnImage}
use Rattle.std.specs.Prelude.{Ok, Err}
use Rattle.image.proofs.Images.{entries_many, times_many}
use Rattle.image_words.proofs.Reading.{rule_long, values_are}

module _ (m : Lent) (ws : List ℕ) where
  -- a length isn't a state's
  pub unfit_stays : fitting m ≡ false → (r : NotAnImage) → ReadsLent m ws (Err r) m
  unfolding reading_in
  unfit_stays unfit r = record { answered = rw unfit; moved = rw unfit }

  -- the words are no image
  pub other_stays : fitting m ≡ true → is_image ws ≡ false → (r : NotAnImage) → ReadsLent m ws (Err r) m
  unfolding reading_in reading
  other_stays fit out r = record { answered = rw (fit, out); moved = rw (fit, out) }

  -- they are one
  module _ {kept retained : ℕ} {os ns rule' times' owners' numbers' values' : List ℕ} (z : SizesFit ws kept retained) (es : EntriesRead ws os ns kept)
      (p : PartsStored ws os ns kept retained m.rule m.times m.owners m.numbers m.values rule' times' owners' numbers' values') where
    abbrev left : Lent
    left = lent rule' ((length ws - (5 + kept * 7 + retained)) * 4) (record { points = get_or ws 1 0; latest = stamp (get_or ws 2 0) }) times' retained owners' numbers' values' kept

    left_is : left ≡ lent_with (read_in ws) (ruled_by (read_in ws).rule m)
    unfolding read_in
    left_is =
        let b : (length ws - (5 + kept * 7 + retained)) * 4 ≡ length (read_in ws).rule = ap₂ (λ n k. (length ws - (5 + n * 7 + k)) * 4) z.kept_are z.retained_are ∙ sym (rule_long ws) in
        let t : times' ≡ at_front (read_in ws).times m.times = p.times_stored ∙ ap (λ n. at_front (take n (drop (times_at ws) ws)) m.times) z.retained_are in
        let k : retained ≡ length (read_in ws).times = z.retained_are ∙ sym (times_many ws z.within) in
        let o : owners' ≡ at_front (map owner_of (read_in ws).entries) m.owners = p.owners_stored ∙ ap (λ us. at_front us m.owners) es.owners in
        let n : numbers' ≡ at_front (map (λ e. e.number) (read_in ws).entries) m.numbers = p.numbers_stored ∙ ap (λ us. at_front us m.numbers) es.numbers in
        let v : values' ≡ at_front (gather (λ e. e.values) (read_in ws).entries) m.values = p.values_stored ∙ ap (λ us. at_front us m.values) (values_are ws z) in
        let c : kept ≡ length (read_in ws).entries = z.kept_are ∙ sym (entries_many ws) in
        λ i. lent (p.rule_stored i) (b i) (record { points = get_or ws 1 0; latest = stamp (get_or ws 2 0) }) (t i) (k i) (o i) (n i) (v i) (c i)

    pub image_read : fitting m ≡ true → is_image ws ≡ true → ReadsLent m ws (Ok (length ws)) left
    unfolding reading_in reading
    image_read fit ok = record { answered = rw (fit, ok); moved = rw (fit, ok) left_is }
