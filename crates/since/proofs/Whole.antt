-- What right's rows and the held pairs give together is what the definitions say; pairs put into none are the set of them.
use Prim.Native.Nat.{ℕ, suc, ◌+◌}
use mathlib.Core.Path.{◌≡◌, ap, ap₂, ◌∙◌}
use mathlib.Core.Bool.{Bool}
use mathlib.Core.List.{List, [], ◌++◌}
use native.Mathlib.Numerals.{add-one}
use native.Mathlib.Omega.{arith}
use Rattle.meaning.specs.Log.{point}
use Rattle.meaning.specs.Evaluator.{set_of}
use Rattle.meaning.specs.declared.Point.{Point}
use Rattle.meaning.specs.declared.Stamp.{Stamp}
use Rattle.meaning.specs.declared.Window.{Window}
use Rattle.method.specs.Settle.{rows_since, pairs_since}
use Rattle.meaning.specs.declared.Left.{Left}
use Rattle.room.specs.declared.Child.{Child}
use Rattle.untils.specs.Until.{left_test, leads}
use Rattle.rowset.specs.declared.Gathered.{Gathered}
use Rattle.rowset.specs.Sets.{from_front}
use Rattle.pairs.specs.Pairs.{PairsStand, PairsAdded}
use Rattle.pairs.proofs.Runs.{pairs_none}
use Rattle.since.specs.Since.{PairsPut}
use Rattle.since.specs.Parts.{fresh_rows, fresh_pairs, grown_by, older_rows, older_pairs}

module _ (left : Left) (a : Child) (sets right : Point → List (List ℕ)) (τ : Point → Stamp) (w : Window) (held : List (List ℕ)) (start i : Point) where
  module _ {by : ℕ} {passed : List ℕ → Bool} (e : by ≡ grown_by τ start i) (f : passed ≡ leads left a sets start (point (i.0 + 1))) where
    pub rows_whole : fresh_rows τ w (left_test left a sets) right start i ++ older_rows w by passed held ≡ rows_since τ w (left_test left a sets) right held start i
    unfolding rows_since
    rows_whole =
        ap (λ us. fresh_rows τ w (left_test left a sets) right start i ++ us)
        (ap₂ (λ b p. older_rows w b p held) e (f ∙ ap (λ end. leads left a sets start (point end)) (add-one i.0)))

    pub pairs_whole : fresh_pairs τ w (left_test left a sets) right start i ++ older_pairs w by passed held ≡ pairs_since τ w (left_test left a sets) right held start i
    unfolding pairs_since
    pairs_whole =
        ap (λ us. fresh_pairs τ w (left_test left a sets) right start i ++ us)
        (ap₂ (λ b p. older_pairs w b p held) e (f ∙ ap (λ end. leads left a sets start (point end)) (add-one i.0)))

pub put_all : {lowest : ℕ} {ages values ages' values' : List ℕ} {g : Gathered} {xs : List (List ℕ)} → PairsAdded lowest ages values (from_front 0) ages' values' g xs → PairsPut ages values ages' values' g.count (set_of (suc lowest) xs)
put_all {lowest} {ages} {values} {ages'} {values'} {g} {xs} h =
    let s : PairsStand ages' values' g.count (set_of (suc lowest) xs) = h.put [] (record { counted = omega arith; set = λ _. pairs_none ages values }) in
    record { ages_long = h.ages_long; values_long = h.values_long; counted = omega (arith, s.counted, h.ages_long); set = λ l. s.set (omega (arith, h.ages_long)) }
