-- What well-formedness gives, part by part.
use Prim.Native.Nat.{ℕ, ◌-◌, ◌≤◌, ◌<◌}
use native.Mathlib.Omega.{arith}
use mathlib.Core.Path.{◌≡◌, refl, ap₂}
use mathlib.Core.Bool.{true, false≢true}
use mathlib.Core.List.{List, [], ◌∷◌}
use lib.ListN.{length}
use borrow.Author.Tests.{leb-true, eqb-true, eq-eqb}
use Rattle.meaning.specs.Lists.{range, gather}
use Rattle.meaning.specs.Outcome.{Outcome, refused, given, most_points, most_rows, most_open, most_kept}
use Rattle.meaning.specs.RuleFile.{Accepted, checking, node_count, is_accepted}
use Rattle.meaning.specs.Kept.{Entry}
use Rattle.meaning.specs.declared.Point.{Point}
use Rattle.meaning.proofs.Points.{both, first, second}
use Rattle.meaning.proofs.Rows.{all_at, all_points, range_of, same_row_lem}
use Rattle.method.specs.Stored.{Stored, held, first_retained}
use Rattle.method.specs.Step.{wanted_from, counts_stored, count_before, open_stored}
use Rattle.method.specs.WellFormed.{most_times, same_entry, same_entries, set_fits, own_entries, node_fits, well_formed, Formed}

-- two lists of entries are the same where the test says so
pub same_entries_lem : (es fs : List Entry) → es ≡ fs → same_entries es fs ≡ true
same_entries_lem es fs e = rw (← e) (go es)
  where
    go : (es : List Entry) → same_entries es es ≡ true
    go [] = refl
    go (e ∷ es) = both (both (both (both (eq-eqb e.node e.node refl) (eq-eqb e.mark e.mark refl)) (eq-eqb e.number e.number refl)) ((same_row_lem e.values e.values).1 refl)) (go es)

entry_same : (e f : Entry) → same_entry e f ≡ true → e ≡ f
entry_same e f t =
    let n : e.node ≡ f.node = eqb-true e.node f.node (search (first, second)) in
    let m : e.mark ≡ f.mark = eqb-true e.mark f.mark (search (first, second)) in
    let k : e.number ≡ f.number = eqb-true e.number f.number (search (first, second)) in
    let v : e.values ≡ f.values = (same_row_lem e.values f.values).0 (search second) in
    λ i. record { node = n i; mark = m i; number = k i; values = v i }

pub entries_same : (es fs : List Entry) → same_entries es fs ≡ true → es ≡ fs
entries_same [] [] t = refl
entries_same [] (f ∷ fs) t = absurd (false≢true t)
entries_same (e ∷ es) [] t = absurd (false≢true t)
entries_same (e ∷ es) (f ∷ fs) t = ap₂ (λ x xs. x ∷ xs) (entry_same e f (first (same_entry e f) (same_entries es fs) t)) (entries_same es fs (second (same_entry e f) (same_entries es fs) t))

pub is_accepted_lem : (o : Outcome Accepted) → is_accepted o ≡ true → (a : Accepted) × (o ≡ given a)
is_accepted_lem (refused n p) t = absurd (false≢true t)
is_accepted_lem (given a) t = (a, refl)

module _ (s : Stored) where
  set_few : (x : ℕ) → node_fits s x ≡ true → (j : Point) → (wanted_from s.rule (count_before s) x).0 ≤ j.0 → j.0 < count_before s x → length (held s.entries x j) ≤ most_rows
  unfolding node_fits
  set_few x t j u o =
      let w = (wanted_from s.rule (count_before s) x).0 in
      let fits : set_fits s.rule x (held s.entries x j) ≡ true = (all_points (λ j. set_fits s.rule x (held s.entries x j)) w (count_before s x - w)).0 (search first) j u (omega arith) in
      leb-true (length (held s.entries x j)) most_rows (search (first, second))

  pub formed : well_formed s ≡ true → Formed s
  unfolding well_formed
  formed t =
      let fits : (x : ℕ) → x < node_count s.rule → node_fits s x ≡ true = λ x o. all_at (node_fits s) (range_of 0 (node_count s.rule) (omega arith) (omega arith)) (search second) in
      record {
        accepted = is_accepted_lem (checking s.rule) (search (first, second) depth 9);
        few_points = leb-true s.points most_points (search (first, second) depth 9);
        few_times = leb-true (length s.times) most_times (search (first, second) depth 9);
        few_open = leb-true (open_stored s) most_open (search (first, second));
        times_many = eqb-true (length s.times) (s.points - (first_retained s.points (counts_stored s)).0) (search (first, second));
        rising = search (first, second);
        few_kept = leb-true (length s.entries) most_kept (search (first, second));
        entries_own = entries_same s.entries (gather (own_entries s) (range 0 (node_count s.rule))) (search (first, second));
        nodes_fit = fits;
        sets_few = λ x o. set_few x (fits x o);
      }
