-- What the order of rows promises: its laws, the two sentences of the reading of #103, and that a report's rows stand in it.
use Rattle.std.specs.Prelude.{ℕ, ◌<◌, ◌≡◌, Bool, true, false, List, length}
use Rattle.meaning.specs.Order.{before}
use Rattle.meaning.specs.Formula.{lowest_of}
use Rattle.meaning.specs.Definition2.{Valuation}
use Rattle.meaning.specs.Evaluator.{cut_to, valuation_of}
use Rattle.meaning.specs.Keeper.{report_row}

pub record OrderLaws : Type 0 where
  pub irreflexive : (lowest : ℕ) (r : List ℕ) → before lowest r r ≡ false
  pub transitive : (lowest : ℕ) (r s t : List ℕ) → before lowest r s ≡ true → before lowest s t ≡ true → before lowest r t ≡ true
  pub total : (lowest : ℕ) (r s : List ℕ) → length r ≡ length s → before lowest r s ≡ false → before lowest s r ≡ false → r ≡ s
  -- "The lowest free variable of that node ascends": x is in f, and none below it
  pub ascends : (f : ℕ → Bool) (v w : Valuation) (x : ℕ) → x < 4 → f x ≡ true → ((y : ℕ) → y < x → f y ≡ false) → v x < w x → before (lowest_of f) (cut_to f v) (cut_to f w) ≡ true
  -- "each later one descends": x and a lower y are in f, and the valuations tie on all below x
  pub descends : (f : ℕ → Bool) (v w : Valuation) (x y : ℕ) → y < x → x < 4 → f y ≡ true → f x ≡ true → ((z : ℕ) → z < x → f z ≡ true → v z ≡ w z) → w x < v x → before (lowest_of f) (cut_to f v) (cut_to f w) ≡ true
  -- "In a report column 0 ascends and columns 1 to 3 descend": the order of valuations, whatever is free
  pub shown : (f : ℕ → Bool) (r s : List ℕ) → before 0 (report_row f r) (report_row f s) ≡ before (lowest_of f) (cut_to f (valuation_of r)) (cut_to f (valuation_of s))
