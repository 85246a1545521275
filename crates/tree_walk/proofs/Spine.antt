-- A tree walked up its heavy path: what holds at each node on the way, whatever came before the walk.
use Prim.Native.Nat.{ℕ, ◌+◌, ◌-◌, ◌≤◌, ◌<◌}
use native.Mathlib.Omega.{arith}
use mathlib.Core.Path.{◌≡◌, subst, ap, ◌∙◌}
use mathlib.Core.List.{List}
use lib.ListN.{get_or}
use Rattle.meaning.specs.RuleFile.{node_count}
use Rattle.method.specs.Stored.{Stored}
use Rattle.method.specs.Room.{sets_most, rows_most}
use Rattle.node_step.specs.declared.Place.{Place}
use Rattle.node_step.specs.Figures.{CallReady}
use Rattle.node_step.specs.Walks.{RoomFor, Walks}
use Rattle.tree_walk.specs.Tree.{kept_of, first_of, HeavyPath, TreeReady, TreeWalks, FirstWalked, Climbs}
use Rattle.tree_walk.proofs.Paths.{path_low, path_need}
use Rattle.tree_walk.proofs.Standing.{room_less}
use Rattle.tree_walk.proofs.Arms.{none_room, none_walks}

-- from the walk of node y's tree, left off at p, to that of node z's, left off at r
pub record Climbed (s : Stored) (w : List ℕ) (h y z : ℕ) (rows at on ov bl : List ℕ) (p : Place) (rows' at' on' ov' bl' : List ℕ) (r : Place) : Type 0 where
  pub whole :
      (rows0 at0 on0 ov0 bl0 : List ℕ) (kept0 : ℕ)
      → TreeWalks s w y h rows0 at0 rows at on0 ov0 bl0 on ov bl kept0 p
      → TreeWalks s w z h rows0 at0 rows' at' on0 ov0 bl0 on' ov' bl' kept0 r

pub climbed_none : {s : Stored} {w : List ℕ} {h y : ℕ} {rows at on ov bl : List ℕ} {p : Place} → Climbed s w h y y rows at on ov bl p rows at on ov bl p
climbed_none = record { whole = λ rows0 at0 on0 ov0 bl0 kept0 v. v }

pub climbed_more : {s : Stored} {w : List ℕ} {h y z u : ℕ} {rows at on ov bl rows' at' on' ov' bl' rows'' at'' on'' ov'' bl'' : List ℕ} {p q r : Place}
    → Climbed s w h y z rows at on ov bl p rows' at' on' ov' bl' q → z ≡ first_of s.rule u → Climbs s w u h rows' at' on' ov' bl' q rows'' at'' on'' ov'' bl'' r
    → Climbed s w h y u rows at on ov bl p rows'' at'' on'' ov'' bl'' r
climbed_more {s} {w} {h} {rows' = rows'} {at' = at'} {on' = on'} {ov' = ov'} {bl' = bl'} {q = q} c e d =
    record {
      whole = λ rows0 at0 on0 ov0 bl0 kept0 v.
          d.whole rows0 at0 on0 ov0 bl0 kept0
          (subst (λ (n : ℕ). TreeWalks s w n h rows0 at0 rows' at' on0 ov0 bl0 on' ov' bl' kept0 q) e (c.whole rows0 at0 on0 ov0 bl0 kept0 v));
    }

module _ {s : Stored} {w os ns vs stamps f : List ℕ} (g : CallReady s w os ns vs stamps f) {path : List ℕ} {n x : ℕ} (t : HeavyPath s.rule path n x) where
  -- each node of the path is the first child of the one above
  pub path_first : (k : ℕ) → 0 < k → k ≤ n → get_or path k 0 ≡ first_of s.rule (get_or path (k - 1) 0)
  path_first k u l = let e : k - 1 + 1 ≡ k = omega arith in rw e at (t.down (k - 1) (omega arith))

  module _ {rows0 at0 on0 ov0 bl0 : List ℕ} {h kept0 : ℕ} (ready : TreeReady s w rows0 at0 on0 ov0 bl0 x h kept0) where
    pub path_inside : (k : ℕ) → k ≤ n → get_or path k 0 < node_count s.rule
    path_inside k l = omega (arith, path_low t k l, ready.inside)

    -- there is room for its tree
    pub path_ready : (k : ℕ) → k ≤ n → TreeReady s w rows0 at0 on0 ov0 bl0 (get_or path k 0) h kept0
    path_ready k l =
        record {
          inside = path_inside k l;
          room = room_less ready.room (path_need t g.formed.accepted.0 g.formed.accepted.1 ready.inside (sets_most s w) k l) (path_need t g.formed.accepted.0 g.formed.accepted.1 ready.inside (rows_most s w) k l);
          out = ready.out;
        }

    -- and for the step of its last node
    pub leaf_room : RoomFor rows0 at0 h (sets_most s w (get_or path n 0)) (rows_most s w (get_or path n 0))
    leaf_room = none_room g (get_or path n 0) (path_inside n (omega arith)) t.leaf (path_ready n (omega arith)).room

    -- after that step, at node k of the path
    module _ {rows at on ov bl rows' at' on' ov' bl' : List ℕ} {p q : Place} (k : ℕ) (l : k ≤ n)
        (own : Walks s w (λ y. y ≡ get_or path n 0) (kept_of s w (get_or path n 0)) (get_or path n 0) h rows0 at0 rows at on0 ov0 bl0 on ov bl kept0 p)
        (c : Climbed s w h (get_or path n 0) (get_or path k 0) rows at on ov bl p rows' at' on' ov' bl' q) where
      pub path_walks : TreeWalks s w (get_or path k 0) h rows0 at0 rows' at' on0 ov0 bl0 on' ov' bl' kept0 q
      path_walks = c.whole rows0 at0 on0 ov0 bl0 kept0 (none_walks g (get_or path n 0) (path_inside n (omega arith)) t.leaf own)

      pub path_walked : 0 < k → FirstWalked s w rows' at' on' ov' bl' (get_or path (k - 1) 0) h q
      path_walked u =
          let e = path_first k u l in
          let e' : k - 1 + 1 ≡ k = omega arith in
          let m : get_or path k 0 < get_or path (k - 1) 0 = rw e' at (t.lower (k - 1) (omega arith)) in
          record {
            lower = omega (arith, e);
            rows_begun = rows0;
            at_begun = at0;
            on_begun = on0;
            ov_begun = ov0;
            bl_begun = bl0;
            kept_begun = kept0;
            begun = path_ready (k - 1) (omega arith);
            walked = subst (λ (z : ℕ). TreeWalks s w z h rows0 at0 rows' at' on0 ov0 bl0 on' ov' bl' kept0 q) e path_walks;
          }

      pub path_end : k ≡ 0 → TreeWalks s w x h rows0 at0 rows' at' on0 ov0 bl0 on' ov' bl' kept0 q
      path_end z = subst (λ (y : ℕ). TreeWalks s w y h rows0 at0 rows' at' on0 ov0 bl0 on' ov' bl' kept0 q) (ap (λ j. get_or path j 0) z ∙ t.top) path_walks
