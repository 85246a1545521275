-- What is stored in memory once it is put there, and that the memory keeps its lengths.
use Prim.Native.Nat.{◌*◌, ◌≤◌}
use native.Mathlib.Omega.{arith}
use mathlib.Core.Path.{◌≡◌, ◌∙◌}
use mathlib.Core.Bool.{true}
use mathlib.Core.List.{map}
use lib.ListN.{length, drop, length-map}
use Rattle.meaning.specs.Lists.{gather}
use Rattle.method.specs.Stored.{Stored}
use Rattle.method.specs.WellFormed.{Formed}
use Rattle.method.proofs.Rowed.{rowed, values_are_long}
use Rattle.figures.proofs.Front.{front_long, front_read}
use Rattle.call.specs.Stores.{owner_of}
use Rattle.lent_state.specs.Lent.{Lent, fitting, stored, lent_with}
use Rattle.lent_state.proofs.Words.{entries_back}
use Rattle.lent_state.proofs.Memory.{fits_sized, sized_fits}

module _ (m : Lent) (s : Stored) (formed : Formed s) where
  pub stored_with : s.rule ≡ (stored m).rule → stored (lent_with s m) ≡ s
  stored_with e =
      rw (front_read s.times (drop (length s.times) m.times), entries_back s.entries (rowed formed) (drop (length (map owner_of s.entries)) m.owners) (drop (length (map (λ e. e.number) s.entries)) m.numbers) (drop (length (gather (λ e. e.values) s.entries)) m.values), ← e)

  pub fitting_with : fitting m ≡ true → fitting (lent_with s m) ≡ true
  fitting_with fit =
      let z = fits_sized _ _ _ _ _ fit in
      let n : length s.entries ≤ 512 = formed.few_kept in
      let o : length (map owner_of s.entries) ≡ length s.entries = length-map s.entries owner_of in
      let k : length (map (λ e. e.number) s.entries) ≡ length s.entries = length-map s.entries (λ e. e.number) in
      let v : length (gather (λ e. e.values) s.entries) ≡ length s.entries * 4 = values_are_long s.entries (rowed formed) in
      sized_fits
      (record {
        rule_long = z.rule_long;
        times_long = front_long s.times m.times (omega (arith, z, formed.few_times)) ∙ z.times_long;
        owners_long = front_long (map owner_of s.entries) m.owners (omega (arith, z)) ∙ z.owners_long;
        numbers_long = front_long (map (λ e. e.number) s.entries) m.numbers (omega (arith, z)) ∙ z.numbers_long;
        values_are_long = front_long (gather (λ e. e.values) s.entries) m.values (omega (arith, z)) ∙ z.values_are_long;
      })
