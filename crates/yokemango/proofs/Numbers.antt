-- What the operations give, told in numbers.
use Prim.Native.Nat.{ℕ, ◌≤◌}
use native.Mathlib.Omega.{arith}
use mathlib.Core.Path.{◌≡◌}
use mathlib.Core.Bool.{true, false}
use mathlib.Core.List.{List}
use lib.ListN.{length}
use Rattle.meaning.specs.Outcome.{Outcome, refused, most_kept}
use Rattle.entries.specs.Entries.{EntriesWithin}
use Rattle.figures.specs.Fronts.{open_answer}
use Rattle.figures.proofs.Slices.{entries_many}
use Rattle.lent_state.specs.Lent.{Lent, lengths_fit, fitting, stored}
use Rattle.lent_state.proofs.Memory.{Sized, fits_sized}
use Rattle.yokemango.specs.Numbers.{figures_with, open_in, figures_of}

-- the figures of what is lent, where a length isn't a state's and where all are
pub figures_unfit : (m : Lent) → fitting m ≡ false → figures_with (refused 8 0) m.count ≡ figures_of m
unfolding open_in
figures_unfit m f = rw (f, ← entries_many m.owners m.numbers m.values m.count)

pub figures_fit_lem : (m : Lent) → fitting m ≡ true → {o : Outcome ℕ} → o ≡ open_answer (stored m) → figures_with o m.count ≡ figures_of m
unfolding open_in
figures_fit_lem m f e = rw (f, e, ← entries_many m.owners m.numbers m.values m.count)

-- slices of a state's lengths are long enough to be looked at
pub long_enough : (rule times os ns vs : List ℕ) → lengths_fit rule times os ns vs ≡ true → (length rule ≡ 652) × (64 ≤ length times) × EntriesWithin os ns vs most_kept
long_enough rule times os ns vs f =
    let z : Sized rule times os ns vs = fits_sized rule times os ns vs f in
    (z.rule_long, omega (arith, z.times_long), record { owners_there = omega (arith, z.owners_long); numbers_there = omega (arith, z.numbers_long); values_there = omega (arith, z.values_are_long) })
