-- What a node sees of its children's sets in the words, and what its newly settled points find there.
use Prim.Native.Nat.{ℕ, ◌+◌, ◌-◌, ◌≤◌, ◌<◌}
use native.Mathlib.Omega.{arith}
use mathlib.Core.Path.{◌≡◌, refl, sym, ap, ap₂, ◌∙◌}
use mathlib.Core.Bool.{true}
use mathlib.Core.List.{List, [], ◌∷◌, Memᴰ}
use lib.ListN.{length, get_or}
use Rattle.meaning.specs.Formula.{free, lowest_of}
use Rattle.meaning.specs.Log.{point}
use Rattle.meaning.specs.View.{view_of}
use Rattle.meaning.specs.RuleFile.{node_count, node_at, formula_at, children_of}
use Rattle.meaning.specs.Event.{point_of}
use Rattle.meaning.specs.declared.Point.{Point}
use Rattle.meaning.specs.declared.Node.{Node}
use Rattle.meaning.proofs.OrderLaws.{lowest_same}
use Rattle.meaning.proofs.Accepted.{accepted}
use Rattle.method.specs.Stored.{Stored, stamp_in}
use Rattle.method.specs.Step.{first_wanted, count_before, count_after, stamps_now, end_now, turn}
use Rattle.method.specs.WellFormed.{pairs_fit}
use Rattle.method.proofs.Bounds.{below, wanted_child, after_step, consults}
use Rattle.method.proofs.Inputs.{one, two}
use Rattle.kinds.specs.Kinds.{in_mask, PairsThere}
use Rattle.room.specs.Room.{set_in, SetsInOrder}
use Rattle.room.specs.declared.Child.{Child}
use Rattle.since.specs.Since.{held_in}
use Rattle.settling.specs.Inputs.{ChildInputs, ChildrenInputs, InputsStand, asked}
use Rattle.node_step.specs.Figures.{CallReady, mask_in, low_in}
use Rattle.node_step.specs.Walks.{ChildStands, ChildrenStand}
use Rattle.node_step.specs.Parts.{child_in, ChildSetsAre, FiguresThere}
use Rattle.node_step.proofs.Arity.{as_many}
use Rattle.node_step.proofs.Given.{sight, lower_turn, rows_at}
use Rattle.node_step.proofs.Standing.{Reaches, ChildrenReach, point_asks}
use Rattle.node_step.proofs.Numbers.{a, ok, base_is, figures_at}

module _ {s : Stored} {w os ns vs stamps f : List ℕ} (g : CallReady s w os ns vs stamps f) (x : ℕ) (l : x < node_count s.rule) where
  -- children are lower
  lower : (y : ℕ) → Memᴰ y (children_of (node_at s.rule x)) → y < node_count s.rule
  lower y m = omega (arith, below s.rule (a g) (ok g) x l y m)

  pub children_figures : {node : Node} → node ≡ node_at s.rule x → (y : ℕ) → Memᴰ y (children_of node) → FiguresThere f y
  children_figures is y m = figures_at g y (lower y (rw is at m))

  module _ (rows at : List ℕ) (n : ℕ) where
    module _ (y : ℕ) (first : ℕ) (c : ChildStands s w rows at n y first) where
      -- a child's sets are among the first, from where the node's first new point consults them
      reaches : Memᴰ y (children_of (node_at s.rule x)) → (m : ℕ) → n ≤ m → Reaches m (first_wanted (view_of (node_at s.rule x)).times (count_before s x)).0 (count_after s w y) (child_in f y first)
      reaches h m o =
          let k = g.each y (lower y h) in
          record {
            sets = rw (k.after, k.low) (omega (arith, c.placed));
            consulted = omega (arith, k.low, wanted_child s (a g) (ok g) g.formed.few_times g.formed.times_many x l y h);
            counted = k.after;
          }

      -- they are what the node sees, wherever the first n sets are the same
      seen : y < x → (rows' at' : List ℕ) → ((q : ℕ) → q < n → set_in rows' at' q ≡ set_in rows at q) → ChildInputs (sight s w x) rows' at' y (child_in f y first)
      seen o rows' at' e =
          let m : y < node_count s.rule = omega arith in
          let k = g.each y m in
          record {
            free = λ v u. sym (k.mask v u);
            lowest = lowest_same (free (formula_at s.rule y)) (in_mask (mask_in f y)) (λ v u. sym (k.mask v u));
            counted = sym k.after;
            sets = λ j u v.
                let d : j.0 - low_in f y < count_after s w y - low_in f y = omega (arith, k.after) in
                ap (λ t. get_or t.rows (j.0 - t.low.0) []) (lower_turn s w x y (omega arith) o) ∙ rows_at s w y m j
                ∙ ap (λ i. get_or (turn s w y).rows (j.0 - i) []) (sym k.low)
                ∙ sym (c.there (j.0 - low_in f y) (rw (← k.low) d))
                ∙ sym (e (first + (j.0 - low_in f y)) (omega (arith, c.placed, k.low, k.after)));
          }

    -- the same of all children
    reach_all : (cs : List ℕ) → ((y : ℕ) → Memᴰ y cs → Memᴰ y (children_of (node_at s.rule x))) → (p q : ℕ) (left right : Child) → ChildSetsAre f cs p q left right → ChildrenStand s w rows at n cs p q → (m : ℕ) → n ≤ m
        → ChildrenReach m (first_wanted (view_of (node_at s.rule x)).times (count_before s x)).0 (count_after s w) cs left right
    reach_all [] i p q left right e c m o = tt
    reach_all (y ∷ []) i p q left right e c m o = rw e (reaches y p c (i y one) m o)
    reach_all (y ∷ z ∷ zs) i p q left right e c m o = rw (e.0, e.1) (reaches y p c.0 (i y one) m o, reaches z q c.1 (i z two) m o)

    seen_all : (cs : List ℕ) → ((y : ℕ) → Memᴰ y cs → y < x) → (p q : ℕ) (left right : Child) → ChildSetsAre f cs p q left right → ChildrenStand s w rows at n cs p q → (rows' at' : List ℕ) → ((k : ℕ) → k < n → set_in rows' at' k ≡ set_in rows at k)
        → ChildrenInputs (sight s w x) rows' at' cs left right
    seen_all [] i p q left right e c rows' at' t = tt
    seen_all (y ∷ []) i p q left right e c rows' at' t = rw e (seen y p c (i y one) rows' at' t)
    seen_all (y ∷ z ∷ zs) i p q left right e c rows' at' t = rw (e.0, e.1) (seen y p c.0 (i y one) rows' at' t, seen z q c.1 (i z two) rows' at' t)

    module _ (p q : ℕ) (left right : Child) (e : ChildSetsAre f (children_of (node_at s.rule x)) p q left right) (c : ChildrenStand s w rows at n (children_of (node_at s.rule x)) p q) where
      pub sees : (rows' at' : List ℕ) → ((k : ℕ) → k < n → set_in rows' at' k ≡ set_in rows at k) → InputsStand (sight s w x) s.rule w rows' at' stamps (point (s.points + 1 - length stamps)) left right (node_at s.rule x)
      unfolding stamps_now point_of
      sees rows' at' t =
          record {
            stamps = ap₂ stamp_in (sym (base_is g)) (sym g.stamps_are_now);
            event = λ r. refl;
            children = seen_all (children_of (node_at s.rule x)) (below s.rule (a g) (ok g) x l) p q left right e c rows' at' t;
          }

      pub asks : (old_ages old_values : List ℕ) → PairsThere old_ages old_values (length old_ages) → pairs_fit s.rule x (view_of (node_at s.rule x)) (held_in old_ages old_values) ≡ true → (m : ℕ) → n ≤ m → (i : Point) → count_before s x ≤ i.0 → i.0 < count_after s w x → (rows' at' : List ℕ) → SetsInOrder rows' at' m
          → asked s.rule w rows' at' old_ages old_values left right (lowest_of (free (formula_at s.rule x))) (point (count_before s x)) i (node_at s.rule x)
      asks old_ages old_values h fit m o i u v rows' at' laid =
          point_asks s.rule w old_ages old_values left right (point (count_before s x)) i (count_after s w) laid h g.event u x (node_at s.rule x) (as_many s.rule x ((accepted s.rule (a g) (ok g)).each x l))
          (reach_all (children_of (node_at s.rule x)) (λ y k. k) p q left right e c m o)
          (consults (stamps_now s w) (end_now s w) (count_after s w) (count_before s x) (view_of (node_at s.rule x)) i u (rw (after_step s (a g) (ok g) g.formed.few_times g.formed.times_many w x l) at v)) fit
