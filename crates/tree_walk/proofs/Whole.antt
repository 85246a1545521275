-- The walk of the last node's tree is that of the whole rule.
use Prim.Native.Nat.{ℕ, ◌+◌, ◌*◌, ◌≤◌, ◌<◌}
use native.Mathlib.Omega.{arith}
use mathlib.Core.Path.{◌≡◌, sym, ◌∙◌}
use mathlib.Core.List.{List}
use lib.ListN.{length, get_or, set, length-set}
use lib.Seq.{get_or-set_same}
use Rattle.meaning.specs.Lists.{range}
use Rattle.meaning.specs.RuleFile.{node_count, last_node}
use Rattle.meaning.proofs.Accepted.{last_is_node}
use Rattle.method.specs.Stored.{Stored}
use Rattle.method.specs.Step.{entries_now, stored_now}
use Rattle.method.specs.Room.{weight, sets_most, rows_needed, marks_needed}
use Rattle.method.proofs.Room.{room_enough}
use Rattle.method.proofs.Sums.{length_gather}
use Rattle.method.proofs.Weights.{whole_weight}
use Rattle.node_step.specs.declared.Place.{Place}
use Rattle.node_step.specs.Figures.{CallReady}
use Rattle.node_step.specs.Walks.{OutThere, Walked}
use Rattle.tree_walk.specs.Tree.{Below, kept_of, TreeReady, TreeWalks}
use Rattle.tree_walk.proofs.Trees.{below_last}
use Rattle.tree_walk.proofs.Standing.{stands_all}

module _ {s : Stored} {w os ns vs stamps f : List ℕ} (g : CallReady s w os ns vs stamps f) where
  pub last_node_lem : last_node s.rule < node_count s.rule
  last_node_lem = last_is_node s.rule g.formed.accepted.0 g.formed.accepted.1

  pub whole_ready : (rows at on ov bl : List ℕ) → rows_needed s w * 4 ≤ length rows → marks_needed s w < length at → OutThere s w on ov bl 0 → TreeReady s w rows (set at 0 0) on ov bl (last_node s.rule) 0 0
  whole_ready rows at on ov bl l m out =
      let e : get_or (set at 0 0) 0 0 ≡ 0 = get_or-set_same at 0 0 0 (omega arith) in
      let t = length-set at 0 0 in
      let r = room_enough s g.formed w in
      record {
        inside = last_node_lem;
        room =
            record {
              stand = record { laid = record { marks = omega arith; steps = λ q u. absurd (omega arith); words = omega arith }; few = λ q u. absurd (omega arith) };
              marks = omega arith;
              words = omega arith;
              small = omega (arith, r.rows);
              few = omega (arith, r.marks);
            };
        out = out;
      }

  kept_all : weight s.rule (kept_of s w) (last_node s.rule) ≡ length (stored_now s w).entries
  unfolding stored_now
  kept_all =
      whole_weight s.rule g.formed.accepted.0 g.formed.accepted.1 (kept_of s w) ∙ sym (length_gather (entries_now s w) (range 0 (node_count s.rule)))

  pub whole_walked : {rows at rows' at' on ov bl on' ov' bl' : List ℕ} {r : Place} → TreeWalks s w (last_node s.rule) 0 rows at rows' at' on ov bl on' ov' bl' 0 r → Walked s w rows' at' on' ov' bl' (length on) r
  whole_walked {rows' = rows'} {at' = at'} {r = r} v =
      record {
        low = v.low;
        told = λ l. (omega (arith, v.inside l, last_node_lem), v.told l);
        calm = λ y o l. v.calm y (all y o) l;
        stand = λ e. let z : 0 + sets_most s w (last_node s.rule) ≡ sets_most s w (last_node s.rule) = omega arith in rw z at (rw (stands_all s w r.low (last_node s.rule) e) at v.stand);
        there = λ e k l. let z : 0 + k ≡ k = omega arith in rw z at (v.more.sets k (rw (stands_all s w r.low (last_node s.rule) e) l));
        counted = λ e. omega (arith, (v.keeps e).counted, kept_all);
        blocks = λ e l y o. (v.keeps e).new l y (all y o);
        on_long = v.on_long;
      }
    where
      all : (y : ℕ) → y < node_count s.rule → Below s.rule y (last_node s.rule)
      all = below_last s.rule g.formed.accepted.0 g.formed.accepted.1
