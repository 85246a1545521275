-- `read_parts` meets its contract: an owner that doesn't fit is of no image; else what stands in the slices is what is read in.
use native.Mathlib.Omega.{arith}
use mathlib.Core.Path.{◌≡◌, sym}
use mathlib.Core.Bool.{true, false, false≢true}
use Rattle.image_words.proofs.Reading.{owner_out, image_told, entries_read}
use Rattle.image_words.proofs.read_parts.Goals as goal

pub returns-then-not-read_owners : goal.returns-then-not-read_owners
returns-then-not-read_owners c = let e : c.read_owners.result ≡ false = c.if-not-read_owners.true in
    let (k, o, t) = rw e at c.read_owners.ensures in
    record { answer = sym (owner_out c.args.image.now c.requires.0 k o t); entries = λ e. absurd (false≢true e) }

pub returns : goal.returns
returns c = let ws = c.args.image.now in
    let z = c.requires.0 in
    let e : c.read_owners.result ≡ true = c.if-not-read_owners.false in
    let h = rw e at c.read_owners.ensures in
    record { answer = image_told ws z h _ c.put_bytes.ensures c.well_formed-2.ensures; entries = λ e. entries_read ws z h (omega (arith, z.few_kept, c.requires)) (omega (arith, z.few_kept, c.requires)) }
