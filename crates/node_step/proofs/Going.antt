-- A node's newly settled points, one after the other: what one gives, what stands before each, and what stands behind the last or at a crowded one.
use Prim.Native.Nat.{ℕ, ◌+◌, ◌-◌, ◌*◌, ◌≤◌, ◌<◌}
use native.Mathlib.Omega.{arith}
use mathlib.Core.Path.{◌≡◌, refl, sym, ap, subst, ◌∙◌}
use mathlib.Core.Bool.{Bool, true, false, false≢true}
use mathlib.Core.List.{List, []}
use lib.ListN.{length}
use lib.Dec.{ltb}
use borrow.Author.Tests.{ltb-true, ltb-false}
use Rattle.meaning.specs.Log.{point}
use Rattle.meaning.specs.Outcome.{most_rows}
use Rattle.meaning.specs.declared.Point.{Point}
use Rattle.meaning.specs.declared.Node.{Node}
use Rattle.meaning.proofs.Points.{Tested, passed, failed, tested}
use Rattle.method.specs.Settle.{Inputs, settle}
use Rattle.rowset.specs.Rows.{rows_from}
use Rattle.rowset.proofs.Runs.{rows_length}
use Rattle.room.specs.Room.{set_in, Sets}
use Rattle.room.specs.declared.Child.{Child}
use Rattle.room.proofs.SetsInOrder.{laid_fewer}
use Rattle.entries.specs.Appended.{Space, Extended, Pushed}
use Rattle.entries.proofs.Growth.{pushed_set, extended_none, extended_as, extended_then, extended_next}
use Rattle.since.specs.Since.{held_in}
use Rattle.settling.specs.Inputs.{PointSettled}
use Rattle.node_step.specs.Parts.{SetPushed, NextReady, NextSettled, SeesFirst, PointsReady, PointsSettled}
use Rattle.node_step.proofs.Laying.{run_few, sets_more, extended_front}

-- ---- one point

module _ {rows at : List ℕ} {n k : ℕ} (space : Space rows at n most_rows) where
  pub push_crowded : {out : List ℕ} → most_rows < k → SetPushed out k rows at n rows at false
  push_crowded u = record { stay = extended_none space.laid; few = λ d. absurd (false≢true d); many = λ d. u }

  module _ (u : k ≤ most_rows) where
    pub push_space : Space rows at n (k - 0)
    push_space = record { laid = space.laid; mark = space.mark; words = omega (arith, space.words); small = omega (arith, space.small) }

    pub push_more : {out rows' at' : List ℕ} → Pushed rows at rows' at' n (k - 0) (rows_from out 0 (k - 0)) → SetPushed out k rows at n rows' at' true
    push_more h = record { stay = extended_front h.more n (omega arith); few = λ d. (u, h); many = λ d. absurd (false≢true (sym d)) }

-- the point's set, pushed
pub next_settled : {b w rows at times : List ℕ} {base : Point} {old_ages old_values : List ℕ} {left right : Child} {n lowest : ℕ} {start i : Point} {node : Node} {out : List ℕ} {k : ℕ} {rows' at' : List ℕ} {done : Bool}
    → PointSettled b w rows at times base old_ages old_values left right lowest start i node out k → SetPushed out k rows at n rows' at' done → NextSettled b w rows at times base old_ages old_values left right n lowest start i node rows' at' done
next_settled {out = out} {k = k} p h =
    let f : k - 0 ≡ k = omega arith in
    record {
      stay = h.stay;
      more = λ d. extended_as (h.few d).1.more (λ q l. sym (pushed_set (h.few d).1));
      few = λ d. omega (arith, (h.few d).0, ap length (pushed_set (h.few d).1), rows_length out 0 (k - 0));
      there = λ d v s. pushed_set (h.few d).1 ∙ ap (rows_from out 0) f ∙ (p.gives v s).few (h.few d).0;
      crowded = λ d v s. (p.gives v s).many (h.many d);
    }

-- ---- one point after the other

module _ (b w rows at times : List ℕ) (base : Point) (old_ages old_values : List ℕ) (left right : Child) (n lowest : ℕ) (start end : Point) (node : Node) where
  -- the points from start on before i are settled
  pub record Going (rows' at' : List ℕ) (i : Point) : Type 0 where
    pub begun : start.0 ≤ i.0
    pub reached : i.0 ≤ end.0
    pub more : Extended rows at rows' at' n (i.0 - start.0) (λ q. set_in rows' at' (n + q))
    pub sets : Sets rows' at' (n + (i.0 - start.0))
    pub there : (v : Inputs) → SeesFirst b w rows at times base old_ages old_values left right n lowest start end node v → (q : ℕ) → q < i.0 - start.0 → set_in rows' at' (n + q) ≡ settle v lowest (held_in old_ages old_values) start (point (start.0 + q)) node

module _ {b w rows at times : List ℕ} {base : Point} {old_ages old_values : List ℕ} {left right : Child} {n lowest : ℕ} {start end : Point} {node : Node}
    (r : PointsReady b w rows at times base old_ages old_values left right n lowest start end node) where
  pub going_none : Going b w rows at times base old_ages old_values left right n lowest start end node rows at start
  going_none =
      let e : start.0 - start.0 ≡ 0 = omega arith in
      let z : n + 0 ≡ n = omega arith in
      record {
        begun = omega arith;
        reached = r.ordered;
        more = rw e (extended_none r.sets.laid);
        sets = rw (e, z) r.sets;
        there = λ v s q l. absurd (omega arith);
      }

  module _ {rows' at' : List ℕ} {i : Point} (t : Going b w rows at times base old_ages old_values left right n lowest start end node rows' at' i) where
    pub going_front : Extended rows at rows' at' n 0 (λ q. [])
    going_front = extended_front t.more n (omega arith)

    module _ (l : i.0 < end.0) where
      pub point_ready : NextReady b w rows' at' times base old_ages old_values left right (n + (i.0 - start.0)) lowest start i node
      point_ready =
          let s = r.space in
          let m = run_few t.sets n (i.0 - start.0) (omega arith) in
          let d : 32 * (i.0 - start.0) + 32 ≤ 32 * (end.0 - start.0) = omega (arith, t.begun) in
          record {
            asks = r.asks i t.begun l rows' at' (laid_fewer t.more.laid n (omega arith));
            space =
                record {
                  laid = t.more.laid;
                  mark = omega (arith, s.marks, t.more.at_long, t.begun);
                  words = omega (arith, s.words, t.more.rows_long, t.more.marks n (omega arith));
                  small = omega (arith, s.small, t.more.marks n (omega arith));
                };
          }

      module _ {rows'' at'' : List ℕ} {done : Bool} (p : NextSettled b w rows' at' times base old_ages old_values left right (n + (i.0 - start.0)) lowest start i node rows'' at'' done) where
        pub going_crowded : done ≡ false → PointsSettled b w rows at times base old_ages old_values left right n lowest start end node rows'' at'' false
        going_crowded told =
            record {
              stay = extended_front (extended_then t.more (extended_as p.stay (λ q u. absurd (omega arith)))) n (omega arith);
              more = λ d. absurd (false≢true d);
              sets = λ d. absurd (false≢true d);
              there = λ d. absurd (false≢true d);
              crowded = λ d v s. (i, t.begun, l, p.crowded told v (s rows' at' t.more.earlier));
            }

        pub going_more : done ≡ true → Going b w rows at times base old_ages old_values left right n lowest start end node rows'' at'' (point (i.0 + 1))
        going_more told =
            let g = t.begun in
            let h = p.more told in
            let e : i.0 + 1 - start.0 ≡ i.0 - start.0 + 1 = omega arith in
            let f : n + (i.0 - start.0 + 1) ≡ n + (i.0 - start.0) + 1 = omega arith in
            let earlier : Extended rows at rows' at' n (i.0 - start.0) (λ q. set_in rows'' at'' (n + q)) = extended_as t.more (λ q m. sym (h.earlier (n + q) (omega arith))) in
            let few : Sets rows'' at'' (n + (i.0 - start.0) + 1) = sets_more t.sets h (λ q m. p.few told) in
            record {
              begun = omega arith;
              reached = omega arith;
              more = rw e (extended_next earlier h refl);
              sets = rw (e, f) few;
              there = λ v s q m. go v s q (rw e at m) (tested (ltb q (i.0 - start.0)));
            }
          where
            go : (v : Inputs) → SeesFirst b w rows at times base old_ages old_values left right n lowest start end node v → (q : ℕ) → q < i.0 - start.0 + 1 → Tested (ltb q (i.0 - start.0))
                → set_in rows'' at'' (n + q) ≡ settle v lowest (held_in old_ages old_values) start (point (start.0 + q)) node
            go v s q m (passed d) =
                let o : q < i.0 - start.0 = ltb-true q (i.0 - start.0) d in
                (p.more told).earlier (n + q) (omega arith) ∙ t.there v s q o
            go v s q m (failed d) =
                let o : q ≡ i.0 - start.0 = omega (arith, ltb-false q (i.0 - start.0) d) in
                let g = t.begun in
                let f : start.0 + (i.0 - start.0) ≡ i.0 = omega arith in
                rw (o, f) (p.there told v (s rows' at' t.more.earlier))

    pub going_all : end.0 ≤ i.0 → PointsSettled b w rows at times base old_ages old_values left right n lowest start end node rows' at' true
    going_all l =
        let e : i ≡ end = ap point (omega (arith, t.reached)) in
        let u : Going b w rows at times base old_ages old_values left right n lowest start end node rows' at' end = rw e at t in
        record {
          stay = going_front;
          more = λ d. u.more;
          sets = λ d. u.sets;
          there = λ d. u.there;
          crowded = λ d. absurd (false≢true (sym d));
        }

  -- where there is none, all stays
  pub none_settled : start.0 ≡ end.0 → {rows' at' : List ℕ} {done : Bool} → done ≡ true → rows' ≡ rows → at' ≡ at → PointsSettled b w rows at times base old_ages old_values left right n lowest start end node rows' at' done
  none_settled l d e f = rw (d, e, f) (going_all going_none (omega arith))

  -- where there is one point, it is all
  pub one_space : start.0 + 1 ≡ end.0 → Space rows at n most_rows
  one_space l = let z : n + (start.0 - start.0) ≡ n = omega arith in rw z at (point_ready going_none (omega arith)).space

  module _ (l : start.0 + 1 ≡ end.0) {rows' at' : List ℕ} {done : Bool} (p : NextSettled b w rows at times base old_ages old_values left right n lowest start start node rows' at' done) where
    first : NextSettled b w rows at times base old_ages old_values left right (n + (start.0 - start.0)) lowest start start node rows' at' done
    first = let z : n + (start.0 - start.0) ≡ n = omega arith in rw z p

    one_crowded : done ≡ false → PointsSettled b w rows at times base old_ages old_values left right n lowest start end node rows' at' false
    one_crowded told = going_crowded going_none (omega arith) first told

    one_settled : done ≡ true → PointsSettled b w rows at times base old_ages old_values left right n lowest start end node rows' at' true
    one_settled told = going_all (going_more going_none (omega arith) first told) (omega arith)

    pub one_more : PointsSettled b w rows at times base old_ages old_values left right n lowest start end node rows' at' done
    one_more = elim (tested done) [ passed t ↦ rw t (one_settled t) | failed t ↦ rw t (one_crowded t) ]

-- points settled, as was told
pub told_settled : {b w rows at times : List ℕ} {base : Point} {old_ages old_values : List ℕ} {left right : Child} {n lowest : ℕ} {start end : Point} {node : Node} {rows' at' : List ℕ} {done told : Bool}
    → PointsSettled b w rows at times base old_ages old_values left right n lowest start end node rows' at' done → done ≡ told → PointsSettled b w rows at times base old_ages old_values left right n lowest start end node rows' at' told
told_settled {b} {w} {rows} {at} {times} {base} {old_ages} {old_values} {left} {right} {n} {lowest} {start} {end} {node} {rows'} {at'} p e = subst (PointsSettled b w rows at times base old_ages old_values left right n lowest start end node rows' at') e p
