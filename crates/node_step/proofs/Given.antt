-- What a node's turn gives in a call: its low point, its rows at kept and at new points, and its pairs.
use Prim.Native.Nat.{ℕ, ◌+◌, ◌-◌, ◌≤◌, ◌<◌}
use native.Mathlib.Omega.{arith}
use mathlib.Core.Path.{◌≡◌, refl, sym, ap, ◌∙◌}
use mathlib.Core.List.{List, [], ◌++◌, map}
use lib.ListN.{length, get_or, length-map, get_or-append}
use lib.Seq.{get_or-append-add}
use Rattle.meaning.specs.Formula.{free, lowest_of}
use Rattle.meaning.specs.Log.{point, points_from}
use Rattle.meaning.specs.RuleFile.{node_count, node_at, formula_at}
use Rattle.meaning.specs.declared.Point.{Point}
use Rattle.method.specs.Stored.{Stored, held, held_pairs}
use Rattle.method.specs.Settle.{Inputs, settle, Turn, rows_of_turn}
use Rattle.method.specs.Step.{wanted_from, new_rows, new_pairs, turn_of, no_turn, inputs_of, turns_to, count_before, count_after, rows_taken, stamps_now, turn}
use Rattle.method.proofs.Turns.{turns_at, points_length, get_d_points, new_rows_at}

module _ (s : Stored) (w : List ℕ) where
  -- the turns of the first x nodes, and what node x looks at
  abbrev pub lower_turns : ℕ → List Turn
  lower_turns = turns_to s.rule s.entries (stamps_now s w) (count_before s) (count_after s w) (rows_taken s.rule w)

  abbrev pub sight : ℕ → Inputs
  sight x = inputs_of s.rule (stamps_now s w) (count_after s w) (rows_taken s.rule w) (lower_turns x)

  abbrev pub low : ℕ → Point
  low = wanted_from s.rule (count_before s)

  turn_of_lem : (x : ℕ) → turn s w x ≡ get_or (lower_turns (node_count s.rule)) x no_turn
  unfolding turn
  turn_of_lem x = refl

  -- a lower node's turn, as a later node sees it
  pub lower_turn : (x y : ℕ) → x ≤ node_count s.rule → y < x → get_or (lower_turns x) y no_turn ≡ turn s w y
  lower_turn x y l o =
      turns_at s.rule s.entries (stamps_now s w) (count_before s) (count_after s w) (rows_taken s.rule w) x y o
      ∙ sym (turns_at s.rule s.entries (stamps_now s w) (count_before s) (count_after s w) (rows_taken s.rule w) (node_count s.rule) y (omega arith))
      ∙ sym (turn_of_lem y)

  module _ (x : ℕ) (o : x < node_count s.rule) where
    turn_is : turn s w x ≡ turn_of s.rule s.entries (count_before s) (count_after s w) (sight x) x
    turn_is = turn_of_lem x ∙ turns_at s.rule s.entries (stamps_now s w) (count_before s) (count_after s w) (rows_taken s.rule w) (node_count s.rule) x o

    abbrev fresh : List (List (List ℕ))
    fresh = new_rows (sight x) (lowest_of (free (formula_at s.rule x))) (node_at s.rule x) (point (count_before s x)) (count_after s w x - count_before s x) (held_pairs s.entries x)

    abbrev kept : List (List (List ℕ))
    kept = map (held s.entries x) (points_from (low x) (count_before s x - (low x).0))

    turn_low : (turn s w x).low ≡ low x
    unfolding turn_of
    turn_low = ap (λ t. t.low) turn_is

    turn_rows : (turn s w x).rows ≡ kept ++ fresh
    unfolding turn_of
    turn_rows = ap (λ t. t.rows) turn_is

    pub turn_pairs : (turn s w x).pairs ≡ new_pairs (sight x) (lowest_of (free (formula_at s.rule x))) (node_at s.rule x) (point (count_before s x)) (count_after s w x - count_before s x) (held_pairs s.entries x)
    unfolding turn_of
    turn_pairs = ap (λ t. t.pairs) turn_is

    -- the rows at a point
    pub rows_at : (j : Point) → rows_of_turn (turn s w x) j ≡ get_or (turn s w x).rows (j.0 - (low x).0) []
    rows_at j = ap (λ (a : Point). get_or (turn s w x).rows (j.0 - a.0) []) turn_low

    kept_long : length kept ≡ count_before s x - (low x).0
    kept_long = length-map (points_from (low x) (count_before s x - (low x).0)) (held s.entries x) ∙ points_length (low x) (count_before s x - (low x).0)

    -- at a kept point, and at a new one
    pub rows_held : (q : ℕ) → q < count_before s x - (low x).0 → get_or (turn s w x).rows q [] ≡ held s.entries x (point ((low x).0 + q))
    rows_held q l =
        ap (λ rs. get_or rs q []) turn_rows ∙ get_or-append kept fresh [] q (omega (arith, kept_long))
        ∙ get_d_points (held s.entries x) [] (low x).0 (count_before s x - (low x).0) q l

    pub rows_new : (q : ℕ) → q < count_after s w x - count_before s x
        → get_or (turn s w x).rows (count_before s x - (low x).0 + q) [] ≡ settle (sight x) (lowest_of (free (formula_at s.rule x))) (held_pairs s.entries x) (point (count_before s x)) (point (count_before s x + q)) (node_at s.rule x)
    rows_new q l =
        ap (λ rs. get_or rs (count_before s x - (low x).0 + q) []) turn_rows ∙ ap (λ k. get_or (kept ++ fresh) (k + q) []) (sym kept_long)
        ∙ get_or-append-add kept fresh q []
        ∙ new_rows_at (sight x) (lowest_of (free (formula_at s.rule x))) (node_at s.rule x) (point (count_before s x)) (count_after s w x - count_before s x) (held_pairs s.entries x) q l
