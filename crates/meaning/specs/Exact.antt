-- Demand 2: "Nothing is reported for a point but the valuations that satisfy the rule's pattern there by Definition 2 .., and none of these is missing: each once, in 01's order".
use Rattle.std.specs.Prelude.{ℕ, ◌≡◌, Bool, true, ◌↔◌}
use mathlib.Core.List.{List, Memᴰ}
use Rattle.meaning.specs.Order.{ascending}
use Rattle.meaning.specs.Formula.{lowest_of}
use Rattle.meaning.specs.Definition2.{Valuation}
use Rattle.meaning.specs.Evaluator.{cut_to, valuation_of}

-- The rows are the valuations that satisfy H, cut down to f: nothing but these, and none missing.
pub record Gives (f : ℕ → Bool) (H : Valuation → Type 0) (rows : List (List ℕ)) : Type 0 where
  pub cut : (u : List ℕ) → Memᴰ u rows → u ≡ cut_to f (valuation_of u)
  pub same : (v : Valuation) → Memᴰ (cut_to f v) rows ↔ H v

-- The promises of an evaluator: nothing but the satisfying valuations, none missing, each once, in order.
pub record Exact (f : ℕ → Bool) (H : Valuation → Type 0) (rows : List (List ℕ)) : Type 0 where
  pub gives : Gives f H rows
  pub ascends : ascending (lowest_of f) rows ≡ true
