-- What an image promises holds.
use Prim.Native.Nat.{ℕ, ◌+◌, ◌*◌, ◌≤◌}
use native.Mathlib.Omega.{arith}
use mathlib.Core.Path.{◌≡◌, refl, sym, ◌∙◌, ap}
use mathlib.Core.Bool.{true}
use mathlib.Core.List.{List}
use lib.ListN.{length, get_or, drop}
use borrow.Author.Tests.{eqb-true, leb-true, le-leb}
use Rattle.meaning.proofs.Points.{first, second}
use Rattle.meaning.specs.RuleFile.{node_count}
use Rattle.method.specs.Stored.{Stored}
use Rattle.method.specs.WellFormed.{well_formed, Formed}
use Rattle.method.proofs.Formed.{formed}
use Rattle.method.proofs.Rowed.{rowed}
use Rattle.image.specs.Image.{image_of, rule_at, read_in, is_image}
use Rattle.image.specs.ImageLaws.{Bytes, Sound, ImageLaws}
use Rattle.image.proofs.RuleWords.{bytes_read}
use Rattle.image.proofs.Ascent.{entries_ascend_lem}
use Rattle.image.proofs.Images.{kept_told, retained_told, reads_back, image_long, rule_words_lem, image_most, saves_itself}

-- ---- the form

pub record InForm (ws : List ℕ) : Type 0 where
  pub version : get_or ws 0 0 ≡ 1
  pub within : rule_at ws ≤ length ws
  pub well : well_formed (read_in ws) ≡ true

pub is_in_form : (ws : List ℕ) → is_image ws ≡ true → InForm ws
unfolding is_image
is_in_form ws t = record { version = eqb-true (get_or ws 0 0) 1 (search first); within = leb-true (rule_at ws) (length ws) (search (first, second)); well = search (first, second) }

version_told : (s : Stored) → get_or (image_of s) 0 0 ≡ 1
unfolding image_of
version_told s = refl

pub reads : (s : Stored) → Sound s → read_in (image_of s) ≡ s
reads s h =
    let f : Formed s = formed s h.formed in
    reads_back s (rowed f) (3 + 5 * node_count s.rule) (rule_words_lem s f) h.bytes

pub saves_in_form : (s : Stored) → Sound s → is_image (image_of s) ≡ true
unfolding is_image
saves_in_form s h =
    let f : Formed s = formed s h.formed in
    let l : rule_at (image_of s) ≤ length (image_of s) = omega (arith, image_long s (rowed f) (3 + 5 * node_count s.rule) (rule_words_lem s f), kept_told s, retained_told s) in
    rw (version_told s, le-leb (rule_at (image_of s)) (length (image_of s)) l, reads s h, h.formed)

rule_read : (ws : List ℕ) → Bytes (read_in ws).rule
unfolding read_in
rule_read ws = bytes_read (drop (rule_at ws) ws)

pub image_laws : ImageLaws
image_laws =
    record {
      one_image = λ s t hs ht e. sym (reads s hs) ∙ ap read_in e ∙ reads t ht;
      is_in_form = saves_in_form;
      reads_back = reads;
      saves_itself = λ ws h t. saves_itself ws (is_in_form ws t).within (is_in_form ws t).version h;
      ascends = entries_ascend_lem;
      sound = λ ws t. record { formed = (is_in_form ws t).well; bytes = rule_read ws };
      longest = λ s t. image_most s (formed s t);
    }
