-- Pairs put in, one list after another, from nothing.
use Prim.Native.Nat.{ℕ, suc}
use mathlib.Core.Path.{◌≡◌, refl, subst, ◌∙◌}
use mathlib.Core.List.{List, ◌++◌}
use Rattle.meaning.specs.Evaluator.{insert, insert_all}
use Rattle.rowset.proofs.Saturation.{in_turn}
use Rattle.rowset.specs.declared.Gathered.{Gathered}
use Rattle.pairs.specs.Pairs.{PairsAdded}

-- one list of pairs put in after another
pub pairs_then : {lowest : ℕ} {ages values : List ℕ} {n : Gathered} {ages' values' : List ℕ} {m : Gathered} {ages'' values'' : List ℕ} {k : Gathered} {ys : List (List ℕ)} → PairsAdded lowest ages' values' m ages'' values'' k ys
    → (xs : List (List ℕ)) → PairsAdded lowest ages values n ages' values' m xs → PairsAdded lowest ages values n ages'' values'' k (xs ++ ys)
pairs_then {lowest} {ys = ys} h xs g =
    record {
      ages_long = h.ages_long ∙ g.ages_long;
      values_long = h.values_long ∙ g.values_long;
      room = h.room;
      put = λ s e. rw (in_turn (insert_all (suc lowest)) (λ s x. insert (suc lowest) x s) (λ s. refl) (λ s x xs. refl) s xs ys) (h.put (insert_all (suc lowest) s xs) (g.put s e));
    }

-- the pairs put in, written in another way
pub pairs_as : {lowest : ℕ} {ages values : List ℕ} {n : Gathered} {ages' values' : List ℕ} {k : Gathered} {xs ys : List (List ℕ)} → PairsAdded lowest ages values n ages' values' k xs → xs ≡ ys → PairsAdded lowest ages values n ages' values' k ys
pairs_as {lowest} {ages} {values} {n} {ages'} {values'} {k} h e = subst (PairsAdded lowest ages values n ages' values' k) e h
