-- Runs of rows that are the same; and rows copied behind others, one after the other: what has been copied, a row more, and all.
use Prim.Native.Nat.{ℕ, ◌+◌, ◌-◌, ◌*◌, ◌≤◌, ◌<◌}
use mathlib.Core.Logic.{◌≢◌}
use mathlib.Core.Path.{◌≡◌, refl, sym, ap, ap₂, ◌∙◌}
use mathlib.Core.List.{List, [], ◌∷◌, ◌++◌}
use native.Mathlib.Omega.{arith}
use lib.ListN.{length, get_or}
use lib.Seq.{get_or-set_other}
use Rattle.rowset.specs.declared.Row.{Row}
use Rattle.rowset.specs.Rows.{words_of, row_at, set_row, rows_from}
use Rattle.rowset.proofs.Runs.{rows_same, rows_at, put_long, put_same, put_other}
use Rattle.entries.specs.Appended.{Copied}
use Rattle.entries.proofs.Listed.{listed_more, listed_moved}

pub rows_more : (ws : List ℕ) (a m : ℕ) → rows_from ws a (m + 1) ≡ rows_from ws a m ++ row_at ws (a + m) ∷ []
unfolding rows_from
rows_more ws a m = listed_more (row_at ws) a m

pub no_rows : (ws us : List ℕ) (a b : ℕ) → rows_from ws a 0 ≡ rows_from us b 0
unfolding rows_from
no_rows ws us a b = refl

-- where two runs of rows are the same, each row is and each part
pub rows_each : (ws us : List ℕ) (a c m : ℕ) → rows_from ws a m ≡ rows_from us c m → (j : ℕ) → j < m → row_at ws (a + j) ≡ row_at us (c + j)
rows_each ws us a c m h j l = sym (rows_at ws a m j l) ∙ ap (λ rs. get_or rs j []) h ∙ rows_at us c m j l

pub rows_moved : (ws us : List ℕ) (a c m : ℕ) → ((k : ℕ) → k < m → row_at ws (a + k) ≡ row_at us (c + k)) → rows_from ws a m ≡ rows_from us c m
unfolding rows_from
rows_moved ws us a c m h = listed_moved (row_at ws) (row_at us) a c m h

pub rows_part : (ws us : List ℕ) (a c m : ℕ) → rows_from ws a m ≡ rows_from us c m → (d n : ℕ) → d + n ≤ m → rows_from ws (a + d) n ≡ rows_from us (c + d) n
rows_part ws us a c m h d n l =
    rows_moved ws us (a + d) (c + d) n
    (λ k o.
    let e : a + (d + k) ≡ a + d + k = omega arith in
    let f : c + (d + k) ≡ c + d + k = omega arith in
    rw (e, f) at (rows_each ws us a c m h (d + k) (omega arith)))

-- a row put in leaves the words before it
pub word_before : (ws : List ℕ) (k : ℕ) (r : Row) (j : ℕ) → j < k * 4 → get_or (set_row ws k r) j 0 ≡ get_or ws j 0
unfolding set_row
word_before ws k r j l =
    let n0 : j ≢ k * 4 = omega arith in
    let n1 : j ≢ k * 4 + 1 = omega arith in
    let n2 : j ≢ k * 4 + 2 = omega arith in
    let n3 : j ≢ k * 4 + 3 = omega arith in
    simp get_or-set_other

-- the rows up to i of the run from from are copied to row end and on
pub record Copying (values : List ℕ) (from to : ℕ) (old : List ℕ) (end : ℕ) (new : List ℕ) (i : ℕ) : Type 0 where
  pub begun : from ≤ i
  pub reached : i ≤ to
  pub done : Copied old end new (i - from) (rows_from values from (i - from))

pub copied_none : (values : List ℕ) (from to : ℕ) (old : List ℕ) (end : ℕ) → from ≤ to → Copying values from to old end old from
copied_none values from to old end l =
    let e : from - from ≡ 0 = omega arith in
    record {
      begun = omega arith;
      reached = l;
      done = record { long = refl; below = λ j m. refl; there = rw e (no_rows old values end from) };
    }

module _ {values : List ℕ} {from to : ℕ} {old : List ℕ} {end : ℕ} {new : List ℕ} {i : ℕ} (t : Copying values from to old end new i) where
  pub copied_more : i < to → (end + (to - from)) * 4 ≤ length old → (r : Row) → words_of r ≡ row_at values i → {new' : List ℕ} → new' ≡ set_row new (end + (i - from)) r → Copying values from to old end new' (i + 1)
  copied_more l room r is {new'} e =
      let k : ℕ = end + (i - from) in
      let h : Copied old end new (i - from) (rows_from values from (i - from)) = t.done in
      let f : i + 1 - from ≡ i - from + 1 = omega (arith, t.begun) in
      let g : from + (i - from) ≡ i = omega (arith, t.begun) in
      let same : rows_from (set_row new k r) end (i - from) ≡ rows_from values from (i - from)
      = rows_same (set_row new k r) new end (i - from) (λ j a b. put_other new k r j (omega arith)) ∙ h.there in
      let put : row_at (set_row new k r) k ≡ row_at values i = put_same new k r (omega (arith, h.long)) ∙ is in
      let there : rows_from (set_row new k r) end (i - from + 1) ≡ rows_from values from (i - from + 1)
      = rows_more (set_row new k r) end (i - from)
      ∙ ap₂ (λ us u. us ++ u ∷ []) same (put ∙ ap (row_at values) (sym g))
      ∙ sym (rows_more values from (i - from)) in
      rw e
      (record {
        begun = omega arith;
        reached = omega arith;
        done = rw f (record { long = put_long new k r ∙ h.long; below = λ j a. word_before new k r j (omega arith) ∙ h.below j a; there = there });
      })

  pub copied_all : to ≤ i → Copied old end new (to - from) (rows_from values from (to - from))
  copied_all l =
      let e : i ≡ to = omega (arith, t.reached) in
      rw e at t.done
