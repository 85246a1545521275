-- A report's form is tested part by part: what each test gives, and what a passed form says of the words.
use Prim.Native.Nat.{ℕ, ◌+◌, ◌*◌, ◌≤◌, ◌<◌}
use native.Mathlib.Omega.{arith}
use mathlib.Core.Bool.{Bool, true, false, ◌&&◌, cond}
use mathlib.Core.List.{List, [], ◌∷◌, map}
use mathlib.Core.Path.{◌≡◌, refl, sym, ap, ◌∙◌}
use lib.Dec.{leb, eqb}
use lib.ListN.{length}
use borrow.Author.Tests.{le-leb, lt-leb, leb-true, eqb-true}
use Rattle.meaning.specs.Lists.{all, range}
use Rattle.meaning.specs.Order.{ascending}
use Rattle.meaning.specs.Report.{points_in, free_in, total_in, point_in, rows_before, rows_in, in_form}
use Rattle.report.specs.Form.{sizes_fit, Sized, Summed}

-- a conjunction that holds, taken apart
pub both : (a b : Bool) → (a && b) ≡ true → (a ≡ true) × (b ≡ true)
both true b e = (refl, e)
both false b e = (e, ap (λ (t : Bool). cond t true b) e)

-- ---- sizes in range, words enough

module _ (r : List ℕ) where
  pub too_short : length r < 3 → false ≡ sizes_fit r
  unfolding sizes_fit
  too_short h = rw (lt-leb 3 (length r) h)

  pub points_out : 3 ≤ length r → 33 < points_in r → false ≡ sizes_fit r
  unfolding sizes_fit
  points_out h p = rw (le-leb 3 (length r) h, lt-leb (points_in r) 33 p)

  pub free_out : 3 ≤ length r → points_in r ≤ 33 → 4 < free_in r → false ≡ sizes_fit r
  unfolding sizes_fit
  free_out h p f = rw (le-leb 3 (length r) h, le-leb (points_in r) 33 p, lt-leb (free_in r) 4 f)

  pub words_test : (p f t : ℕ) → p ≡ points_in r → f ≡ free_in r → t ≡ total_in r → 3 ≤ length r → p ≤ 33 → f ≤ 4
      → leb (3 + 3 * p + f * t) (length r) ≡ sizes_fit r
  unfolding sizes_fit
  words_test p f t ep ef et h hp hf =
      rw (ep, ef, et, le-leb 3 (length r) h, le-leb (points_in r) 33 (omega arith), le-leb (free_in r) 4 (omega arith))

  pub sized_of : sizes_fit r ≡ true → Sized r
  unfolding sizes_fit
  sized_of e =
      let s₃ = both (leb 3 (length r) && leb (points_in r) 33 && leb (free_in r) 4) _ e in
      let s₂ = both (leb 3 (length r) && leb (points_in r) 33) _ s₃.0 in
      let s₁ = both (leb 3 (length r)) _ s₂.0 in
      record {
        head = leb-true _ _ s₁.0;
        points = leb-true _ _ s₁.1;
        free = leb-true _ _ s₂.1;
        words = leb-true _ _ s₃.1;
      }

  -- ---- the whole form

  abbrev pub sum_test : Bool
  sum_test = eqb (rows_before r (points_in r)) (total_in r)

  abbrev pub points_test : Bool
  points_test = ascending 0 (map (λ (k : ℕ). point_in r k ∷ []) (range 0 (points_in r)))

  abbrev pub rows_test : Bool
  rows_test = all (λ (k : ℕ). ascending 0 (rows_in r k)) (range 0 (points_in r))

  form_is : in_form r ≡ (sizes_fit r && sum_test && points_test && rows_test)
  unfolding in_form sizes_fit
  form_is = refl

  pub sizes_fail : sizes_fit r ≡ false → false ≡ in_form r
  sizes_fail e = sym (form_is ∙ rw e)

  pub sum_fails : sizes_fit r ≡ true → sum_test ≡ false → false ≡ in_form r
  sum_fails e s = sym (form_is ∙ rw (e, s))

  pub points_fail : sizes_fit r ≡ true → sum_test ≡ true → points_test ≡ false → false ≡ in_form r
  points_fail e s p = sym (form_is ∙ rw (e, s, p))

  pub rows_decide : sizes_fit r ≡ true → sum_test ≡ true → points_test ≡ true → rows_test ≡ in_form r
  rows_decide e s p = sym (form_is ∙ rw (e, s, p))

  pub summed_by : sizes_fit r ≡ true → sum_test ≡ true → Summed r
  summed_by e s = record { sized = sized_of e; sum = eqb-true _ _ s }

  pub summed_of : in_form r ≡ true → Summed r
  summed_of e =
      let s₃ = both (sizes_fit r && sum_test && points_test) rows_test (sym form_is ∙ e) in
      let s₂ = both (sizes_fit r && sum_test) points_test s₃.0 in
      let s₁ = both (sizes_fit r) sum_test s₂.0 in
      summed_by s₁.0 s₁.1

  pub rows_test_lem : in_form r ≡ true → rows_test ≡ true
  rows_test_lem e = (both (sizes_fit r && sum_test && points_test) rows_test (sym form_is ∙ e)).1
