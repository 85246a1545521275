-- Rooms of two small rules, computed.
use Prim.Native.Nat.{ℕ}
use mathlib.Core.Path.{◌≡◌, refl}
use mathlib.Core.Bool.{true}
use mathlib.Core.List.{List, [], ◌∷◌, ◌++◌, map}
use lib.ListN.{replicate}
use Rattle.meaning.specs.Log.{stamp}
use Rattle.meaning.specs.Lists.{range, gather}
use Rattle.meaning.specs.RuleFile.{word_at, sizes_fit, head_at, body_at, node_of, node_at, formula_at, shape_fits, range_fits, times_child, weigh_node, checking}
use Rattle.meaning.specs.Kept.{parent_of}
use Rattle.method.specs.Stored.{Stored, held, held_pairs}
use Rattle.method.specs.Counts.{until_count}
use Rattle.method.specs.Step.{wanted_from, counts_stored, count_before, open_stored, stamps_now, counts_after, count_after}
use Rattle.method.specs.WellFormed.{own_entries, node_fits, well_formed}
use Rattle.method.specs.Room.{weight, need, new_points, sets_needed}

abbrev head : ℕ → ℕ → ℕ → List ℕ
head kind left right = kind ∷ left ∷ right ∷ 0 ∷ []

-- a rule of one relation without columns, from its heads and the ends of its windows
abbrev rule : ℕ → List (List ℕ) → List ℕ → List ℕ
rule n heads ends = 1 ∷ 1 ∷ n ∷ replicate 9 0 ++ gather (λ h. h) heads ++ gather (λ d. replicate 4 0 ++ d ∷ replicate 11 0) ends

-- Rule L's tree with three open points, of which an event at 300, or a notice, settles all three at once.
abbrev burst : Stored
burst = record { rule = rule 4 (head 1 0 0 ∷ head 1 0 0 ∷ head 14 1 0 ∷ head 3 0 2 ∷ []) (0 ∷ 0 ∷ 61 ∷ 0 ∷ []); points = 3; latest = stamp 155; times = 100 ∷ 130 ∷ 150 ∷ []; entries = [] }

-- Four atoms and three nodes above them need four times one set.
abbrev full : List ℕ
full = rule 7 (head 1 0 0 ∷ head 1 0 0 ∷ head 2 0 1 ∷ head 1 0 0 ∷ head 1 0 0 ∷ head 2 3 4 ∷ head 2 2 5 ∷ []) (replicate 7 0)

pub rooms : (well_formed burst ≡ true) × (open_stored burst ≡ 3)
    × (map (new_points burst (300 ∷ 0 ∷ [])) (range 0 4) ≡ 1 ∷ 1 ∷ 3 ∷ 3 ∷ []) × (sets_needed burst (300 ∷ 0 ∷ []) ≡ 7)
    × (map (new_points burst (300 ∷ [])) (range 0 4) ≡ 0 ∷ 0 ∷ 3 ∷ 3 ∷ []) × (sets_needed burst (300 ∷ []) ≡ 6)
    × (need full (λ x. 1) 6 ≡ 4)
unfolding word_at sizes_fit head_at body_at node_of node_at formula_at shape_fits range_fits times_child weigh_node checking parent_of held held_pairs until_count wanted_from counts_stored count_before open_stored stamps_now counts_after count_after own_entries node_fits well_formed weight need
rooms = (refl, refl, refl, refl, refl, refl, refl)
