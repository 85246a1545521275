-- A node's own step from what its parts leave: its kept sets loaded, its new points asked for, its sets and its block as its turn gives them.
use Prim.Native.Nat.{ℕ, zero, suc, ◌+◌, ◌-◌, ◌*◌, ◌≤◌, ◌<◌}
use native.Mathlib.Omega.{arith}
use mathlib.Core.Path.{◌≡◌, refl, sym, ap, ap₂, ◌∙◌}
use mathlib.Core.Bool.{Bool, true, false}
use mathlib.Core.List.{List, [], ◌++◌, map}
use lib.ListN.{length, get_or, take, drop}
use lib.Dec.{ltb}
use borrow.Author.Tests.{lt-ltb, le-ltb}
use Rattle.meaning.specs.View.{view_of}
use Rattle.meaning.specs.Lists.{all, any, gather}
use Rattle.meaning.specs.Outcome.{most_rows}
use Rattle.meaning.specs.Log.{point, points_from}
use Rattle.meaning.specs.RuleFile.{node_count, node_at, children_of}
use Rattle.meaning.specs.Kept.{entry_of}
use Rattle.meaning.specs.declared.Point.{Point}
use Rattle.meaning.specs.declared.Node.{Node}
use Rattle.meaning.proofs.Points.{second}
use Rattle.meaning.proofs.Rows.{any_of, points_of_lem}
use Rattle.method.specs.Stored.{Stored, held, held_pairs}
use Rattle.method.specs.Settle.{settle, rows_of_turn}
use Rattle.method.specs.Step.{new_pairs, wanted_from, count_before, count_after, turn, entries_now, crowded_now}
use Rattle.method.specs.WellFormed.{set_fits, pairs_fit, node_fits}
use Rattle.method.specs.Room.{rows_most, sets_most}
use Rattle.method.proofs.Turns.{gather_over}
use Rattle.room.specs.Room.{set_at, SetsInOrder, Sets}
use Rattle.room.specs.declared.Child.{Child}
use Rattle.room.proofs.SetsInOrder.{laid_fewer}
use Rattle.entries.specs.Entries.{entries_from}
use Rattle.entries.specs.Appended.{Extended}
use Rattle.entries.proofs.Growth.{extended_as, extended_then}
use Rattle.node_sets.specs.NodeEntries.{set_entries, aged_entries, Loaded}
use Rattle.node_sets.specs.Parts.{Numbered}
use Rattle.since.specs.Since.{held_in}
use Rattle.settling.specs.Inputs.{asked}
use Rattle.kinds.specs.Kinds.{PairsThere}
use Rattle.node_step.specs.declared.Own.{Own}
use Rattle.node_step.specs.declared.Spot.{Spot}
use Rattle.node_step.specs.Figures.{CallReady}
use Rattle.node_step.specs.Walks.{RoomFor, ChildrenStand, turn_set, OutThere}
use Rattle.node_step.specs.Parts.{OwnFigures, ChildSetsAre, ages_of, SeesFirst, PointsReady, PointsSettled, BlockReady, BlockPut, BlockKept}
use Rattle.node_step.proofs.Laying.{set_few, run_few, sets_more}
use Rattle.node_step.proofs.Given.{sight, turn_pairs, rows_at, rows_held, rows_new}
use Rattle.node_step.proofs.Pairs.{part_there, held_part}
use Rattle.node_step.proofs.Numbers.{Numbers, numbers, lowest_is, low_is, before_is, after_is, want_is, entries-here, room_here}
use Rattle.node_step.proofs.Seeing.{sees, asks}

-- no point of a run passes
no_point : (p : Point → Bool) (a n : ℕ) → ((j : Point) → a ≤ j.0 → j.0 < a + n → p j ≡ false) → any p (points_from (point a) n) ≡ false
no_point p a zero h = refl
no_point p a (suc n) h = rw (h (point a) (omega arith) (omega arith)) (no_point p (suc a) n (λ j u o. h j (omega arith) (omega arith)))

-- room in words as long, of which some rows are now taken
room_words : (a k m r e : ℕ) → (a + (k + m)) * 4 ≤ r → e ≤ a + k → (e + m) * 4 ≤ r
room_words a k m r e h l = omega arith

room_small : (a k m e : ℕ) → a + (k + m) < 4294967296 → e ≤ a + k → e + m < 4294967296
room_small a k m e h l = omega arith

-- where the sets end
ends_most : (last middle middle' a k m : ℕ) → last ≤ middle + m → middle ≡ middle' → middle' ≤ a + k → last ≤ a + (k + m)
ends_most last middle middle' a k m h e u = omega arith

-- what stands once a node's kept sets are loaded: what its step begins with, the node and its figures, its children's sets, and its own behind the others
pub record Loads (s : Stored) (w os ns vs stamps f : List ℕ) (x : ℕ) (o : Own) (spot : Spot) (rows at : List ℕ) (left right : Child) (node : Node) (rows₁ at₁ : List ℕ) : Type 0 where
  pub ready : CallReady s w os ns vs stamps f
  pub here : x < node_count s.rule
  pub below : spot.below ≤ spot.sets
  pub room : RoomFor rows at spot.sets (sets_most s w x) (rows_most s w x)
  pub stand : ChildrenStand s w rows at spot.sets (children_of (node_at s.rule x)) spot.left spot.right
  pub figures : OwnFigures f x o
  pub decoded : node ≡ node_at s.rule x
  pub children : ChildSetsAre f (children_of node) spot.left spot.right left right
  pub read : Loaded ns vs o.begin o.pairs o.low (o.before - o.low.0) rows at rows₁ at₁ spot.sets

module _ {s : Stored} {w os ns vs stamps f : List ℕ} {x : ℕ} {o : Own} {spot : Spot} {rows at : List ℕ} {left right : Child} {node : Node} {rows₁ at₁ : List ℕ}
    (k : Loads s w os ns vs stamps f x o spot rows at left right node rows₁ at₁) where
  abbrev g : CallReady s w os ns vs stamps f
  g = k.ready

  abbrev l : x < node_count s.rule
  l = k.here

  abbrev h : OwnFigures f x o
  h = k.figures

  abbrev is : node ≡ node_at s.rule x
  is = k.decoded

  abbrev pub base : Point
  base = point (s.points + 1 - length stamps)

  nums : Numbers s.points x (length stamps) (length os) (length ns) (length vs) (length f) o
  nums = numbers g x l h

  -- its pairs, as they stand in the words
  abbrev pub old_ages : List ℕ
  old_ages = ages_of ns o

  abbrev pub old_values : List ℕ
  old_values = take (o.end * 4 - o.pairs * 4) (drop (o.pairs * 4) vs)

  old_there : PairsThere old_ages old_values (length old_ages)
  old_there = part_there ns vs o.pairs o.end nums.pairs_end (omega (arith, nums.end_there, nums.numbers_are_there)) (omega (arith, nums.end_there, nums.values_are_there))

  held_is : held_in old_ages old_values ≡ held_pairs s.entries x
  held_is =
      let e = g.entries_are in
      let here : entries_from os ns vs o.pairs (o.end - o.pairs) ≡ aged_entries x (held_pairs s.entries x) = rw (h.pairs, h.end) (g.each x l).pairs in
      held_part ns vs o.pairs o.end nums.pairs_end (omega (arith, nums.end_there, nums.numbers_are_there)) (omega (arith, nums.end_there, nums.values_are_there)) os (length os) x (here ∙ ap (λ es. aged_entries x (held_pairs es x)) e)
      ∙ ap (λ es. held_pairs es x) (sym e)

  pub pairs_fit_lem : pairs_fit s.rule x (view_of (node_at s.rule x)) (held_in old_ages old_values) ≡ true
  unfolding node_fits
  pairs_fit_lem =
      rw held_is
      (second (all (λ j. set_fits s.rule x (held s.entries x j)) (points_from (wanted_from s.rule (count_before s) x) (count_before s x - (wanted_from s.rule (count_before s) x).0)))
      (pairs_fit s.rule x (view_of (node_at s.rule x)) (held_pairs s.entries x)) (g.formed.nodes_fit x l))

  -- what its turn gives at a kept point, at a new one, and at any
  held_at : (q : ℕ) → q < o.before - o.low.0 → held s.entries x (point (o.low.0 + q)) ≡ turn_set s w x q
  held_at q u = rw (low_is g x l h) (sym (rows_held s w x l q (rw (before_is g x l h, low_is g x l h) at u)))

  new_at : (q : ℕ) → q < o.after - o.before → settle (sight s w x) o.lowest (held_in old_ages old_values) (point o.before) (point (o.before + q)) (node_at s.rule x) ≡ turn_set s w x (o.before - o.low.0 + q)
  new_at q u = rw (lowest_is g x l h, held_is, before_is g x l h, low_is g x l h) (sym (rows_new s w x l q (rw (after_is g x l h, before_is g x l h) at u)))

  point_rows : (j : Point) → rows_of_turn (turn s w x) j ≡ turn_set s w x (j.0 - o.low.0)
  point_rows j = rw (low_is g x l h) (rows_at s w x l j)

  new_rows_lem : (j : Point) → o.before ≤ j.0 → j.0 < o.after → settle (sight s w x) o.lowest (held_in old_ages old_values) (point o.before) j (node_at s.rule x) ≡ rows_of_turn (turn s w x) j
  new_rows_lem j u v =
      let a = nums.low_before in
      let d : o.before + (j.0 - o.before) ≡ j.0 = omega arith in
      let e : o.before - o.low.0 + (j.0 - o.before) ≡ j.0 - o.low.0 = omega arith in
      (rw (d, e) at (new_at (j.0 - o.before) (omega arith))) ∙ sym (point_rows j)

  -- its kept sets
  loaded : Extended rows at rows₁ at₁ spot.sets (o.before - o.low.0) (λ k. held s.entries x (point (o.low.0 + k)))
  loaded = k.read.read os x (held s.entries x) (entries-here g x l h)

  loaded_sets : Sets rows₁ at₁ (spot.sets + (o.before - o.low.0))
  loaded_sets =
      sets_more k.room.stand loaded
      (λ k u. g.formed.sets_few x l (point (o.low.0 + k)) (omega (arith, low_is g x l h)) (omega (arith, before_is g x l h)))

  loaded_end : get_or at₁ (spot.sets + (o.before - o.low.0)) 0 ≤ get_or at spot.sets 0 + (o.pairs - o.begin)
  loaded_end = k.read.end

  pub seen : SeesFirst s.rule w rows₁ at₁ stamps base old_ages old_values left right (spot.sets + (o.before - o.low.0)) o.lowest (point o.before) (point o.after) node (sight s w x)
  seen rows' at' e = rw is (sees g x l rows at spot.sets spot.left spot.right left right (rw is at k.children) k.stand rows' at' (λ k u. e k (omega arith) ∙ loaded.earlier k u))

  point_asks : (i : Point) → o.before ≤ i.0 → i.0 < o.after → (rows' at' : List ℕ) → SetsInOrder rows' at' (spot.sets + (o.before - o.low.0))
      → asked s.rule w rows' at' old_ages old_values left right o.lowest (point o.before) i node
  point_asks i u v rows' at' laid =
      rw (is, lowest_is g x l h, before_is g x l h)
      (asks g x l rows at spot.sets spot.left spot.right left right (rw is at k.children) k.stand old_ages old_values old_there pairs_fit_lem (spot.sets + (o.before - o.low.0)) (omega arith) i (omega (arith, before_is g x l h)) (omega (arith, after_is g x l h)) rows' at' laid)

  pub points_ready : PointsReady s.rule w rows₁ at₁ stamps base old_ages old_values left right (spot.sets + (o.before - o.low.0)) o.lowest (point o.before) (point o.after) node
  points_ready =
      let q = room_here g x l h k.room in
      let a = nums.low_before in
      let m = nums.before_after in
      record {
        sets = loaded_sets;
        ordered = m;
        small = omega (arith, q.few);
        asks = point_asks;
        space =
            record {
              laid = loaded.laid;
              marks = omega (arith, q.marks, loaded.at_long);
              words = rw loaded.rows_long (room_words (get_or at spot.sets 0) (o.pairs - o.begin) (32 * (o.after - o.before)) (length rows) (get_or at₁ (spot.sets + (o.before - o.low.0)) 0) q.words loaded_end);
              small = room_small (get_or at spot.sets 0) (o.pairs - o.begin) (32 * (o.after - o.before)) (get_or at₁ (spot.sets + (o.before - o.low.0)) 0) q.small loaded_end;
            };
      }

  module _ {rows₂ at₂ : List ℕ} {done : Bool}
      (p : PointsSettled s.rule w rows₁ at₁ stamps base old_ages old_values left right (spot.sets + (o.before - o.low.0)) o.lowest (point o.before) (point o.after) node rows₂ at₂ done) where
    -- a crowded point, and what stays then
    crowds_at : (i : Point) → o.before ≤ i.0 → i.0 < o.after → most_rows < length (settle (sight s w x) o.lowest (held_in old_ages old_values) (point o.before) i node) → crowded_now s w x ≡ true
    unfolding crowded_now
    crowds_at i u v many =
        let e : settle (sight s w x) o.lowest (held_in old_ages old_values) (point o.before) i node ≡ rows_of_turn (turn s w x) i = rw is (new_rows_lem i u v) in
        let few : most_rows < length (rows_of_turn (turn s w x) i) = rw e at many in
        any_of (λ j. ltb most_rows (length (rows_of_turn (turn s w x) j))) (points_of_lem {j = i} (count_before s x) (count_after s w x - count_before s x) (omega (arith, before_is g x l h)) (omega (arith, before_is g x l h, after_is g x l h)))
        (lt-ltb most_rows (length (rows_of_turn (turn s w x) i)) few)

    pub crowds : done ≡ false → crowded_now s w x ≡ true
    crowds told = let (i, u, v, many) = p.crowded told (sight s w x) seen in crowds_at i u v many

    pub front_stays : Extended rows at rows₂ at₂ spot.sets 0 (λ q. [])
    front_stays =
        let e = p.stay in
        let f = loaded in
        let z : spot.sets + 0 ≡ spot.sets = omega arith in
        record {
          rows_long = e.rows_long ∙ f.rows_long;
          at_long = e.at_long ∙ f.at_long;
          laid = laid_fewer e.laid (spot.sets + 0) (omega arith);
          marks = λ q u. e.marks q (omega arith) ∙ f.marks q u;
          earlier = λ q u. e.earlier q (omega arith) ∙ f.earlier q u;
          sets = λ q u. absurd (omega arith);
        }

    module _ (told : done ≡ true) where
      total : o.before - o.low.0 + (o.after - o.before) ≡ o.after - o.low.0
      total = omega (arith, nums.low_before, nums.before_after)

      -- all its sets
      pub whole : Extended rows at rows₂ at₂ spot.sets (o.after - o.low.0) (turn_set s w x)
      whole =
          rw total at
          (extended_then (extended_as loaded held_at)
          (extended_as (p.more told) (λ q u. p.there told (sight s w x) seen q u ∙ rw is (new_at q u))))

      pub whole_sets : Sets rows₂ at₂ (spot.sets + (o.after - o.low.0))
      whole_sets =
          let e : spot.sets + (o.before - o.low.0) + (o.after - o.before) ≡ spot.sets + (o.after - o.low.0) = omega (arith, total) in
          rw e at (p.sets told)

      pub whole_end : get_or at₂ (spot.sets + (o.after - o.low.0)) 0 ≤ get_or at spot.sets 0 + (o.pairs - o.begin + 32 * (o.after - o.before))
      whole_end =
          let e : spot.sets + (o.before - o.low.0) + (o.after - o.before) ≡ spot.sets + (o.after - o.low.0) = omega (arith, total) in
          let m = rw e at (run_few (p.sets told) (spot.sets + (o.before - o.low.0)) (o.after - o.before) (omega arith)) in
          ends_most (get_or at₂ (spot.sets + (o.after - o.low.0)) 0) (get_or at₂ (spot.sets + (o.before - o.low.0)) 0) (get_or at₁ (spot.sets + (o.before - o.low.0)) 0) (get_or at spot.sets 0) (o.pairs - o.begin) (32 * (o.after - o.before)) m ((p.more told).marks (spot.sets + (o.before - o.low.0)) (omega arith)) loaded_end

      set_there : (j : Point) → o.low.0 ≤ j.0 → j.0 < o.after → set_at rows₂ at₂ spot.sets o.low j ≡ rows_of_turn (turn s w x) j
      set_there j u v = whole.sets (j.0 - o.low.0) (omega arith) ∙ sym (point_rows j)

      pub calm_here : crowded_now s w x ≡ false
      unfolding crowded_now
      calm_here =
          let a = nums.low_before in
          let m = nums.before_after in
          no_point (λ j. ltb most_rows (length (rows_of_turn (turn s w x) j))) (count_before s x) (count_after s w x - count_before s x)
          (λ j u v.
          let u' : o.before ≤ j.0 = omega (arith, before_is g x l h) in
          let b : j.0 < o.after = omega (arith, before_is g x l h, after_is g x l h) in
          le-ltb most_rows (length (rows_of_turn (turn s w x) j)) (rw (set_there j (omega arith) b) at (set_few whole_sets (spot.sets + (j.0 - o.low.0)) (omega arith))))

      -- its block
      pub entries_now_lem : set_entries x (set_at rows₂ at₂ spot.sets o.low) o.want (o.after - o.want.0) ++ aged_entries x (new_pairs (sight s w x) o.lowest node (point o.before) (o.after - o.before) (held_in old_ages old_values)) ≡ entries_now s w x
      unfolding entries_now
      entries_now_lem =
          let a = nums.low_want in
          let pairs : new_pairs (sight s w x) o.lowest node (point o.before) (o.after - o.before) (held_in old_ages old_values) ≡ (turn s w x).pairs = rw (is, lowest_is g x l h, held_is, before_is g x l h, after_is g x l h) (sym (turn_pairs s w x l)) in
          let rows : set_entries x (set_at rows₂ at₂ spot.sets o.low) o.want (o.after - o.want.0) ≡ gather (λ j. map (entry_of x 0 j.0) (rows_of_turn (turn s w x) j)) (points_from o.want (o.after - o.want.0))
          = gather_over (λ j. map (entry_of x 0 j.0) (set_at rows₂ at₂ spot.sets o.low j)) (λ j. map (entry_of x 0 j.0) (rows_of_turn (turn s w x) j)) o.want.0 (o.after - o.want.0) (λ j u v. ap (map (entry_of x 0 j.0)) (set_there j (omega arith) (omega arith))) in
          let many : o.after - o.want.0 ≡ count_after s w x - (wanted_from s.rule (count_after s w) x).0 = rw (want_is g x l h, after_is g x l h) in
          ap₂ (λ es fs. es ++ fs) (rows ∙ ap₂ (λ a n. gather (λ j. map (entry_of x 0 j.0) (rows_of_turn (turn s w x) j)) (points_from (point a) n)) (want_is g x l h) many) (ap (aged_entries x) pairs)

      -- the numbers of its kept sets, by the marks that stand now
      mark_loaded : (q : ℕ) → q ≤ o.before - o.low.0 → get_or at₂ (spot.sets + q) 0 ≡ get_or at₁ (spot.sets + q) 0
      mark_loaded q u = (p.more told).marks (spot.sets + q) (omega arith)

      loaded_numbers : Numbered at₂ spot.sets (o.before - o.low.0) o.low.0 ns o.begin
      loaded_numbers =
          let z : spot.sets + 0 ≡ spot.sets = omega arith in
          let first : get_or at₂ spot.sets 0 ≡ get_or at₁ spot.sets 0 = rw z at (mark_loaded 0 (omega arith)) in
          record {
            points = λ q j u v.
                let e : spot.sets + (q + 1) ≡ spot.sets + q + 1 = omega arith in
                let next : get_or at₂ (spot.sets + q + 1) 0 ≡ get_or at₁ (spot.sets + q + 1) 0 = rw e at (mark_loaded (q + 1) (omega arith)) in
                rw (mark_loaded q (omega arith), first) (k.read.numbered os x (held s.entries x) (entries-here g x l h) q j u (rw (mark_loaded q (omega arith), next) at v));
            within = rw (mark_loaded (o.before - o.low.0) (omega arith), first) (omega (arith, loaded_end, loaded.marks spot.sets (omega arith), nums.begin_pairs, nums.pairs_end, nums.end_there, nums.numbers_are_there));
          }

      pub block_ready : {on ov bl : List ℕ} → OutThere s w on ov bl spot.kept → BlockReady s.rule w rows₂ at₂ stamps base ns old_values left right spot.sets o node on ov bl x spot.kept
      block_ready out =
          let m = nums.before_after in
          record {
            low_want = nums.low_want;
            want_after = nums.want_after;
            small = omega (arith, nums.after_most, nums.few_points);
            laid = whole.laid;
            numbered = loaded_numbers;
            pairs_end = nums.pairs_end;
            end_there = omega (arith, nums.end_there, nums.numbers_are_there);
            pairs =
                record {
                  ordered = nums.before_after;
                  asks = λ u. point_asks (point (o.after - 1)) (omega arith) (omega arith) rows₂ at₂ (laid_fewer (p.more told).laid (spot.sets + (o.before - o.low.0)) (omega arith));
                  sight = sight s w x;
                  sees = seen rows₂ at₂ (p.more told).earlier;
                  held = old_there.values_there;
                  room = record { few = out.few; rows = out.rows; counted = out.counted };
                };
            table = omega (arith, out.table);
          }

      pub block_now : {on ov bl on' ov' bl' : List ℕ} {kept' : ℕ} → BlockKept s.rule w rows₂ at₂ stamps base old_ages old_values left right spot.sets o node on ov bl x spot.kept on' ov' bl' kept'
          → BlockPut x on ov bl on' ov' bl' spot.kept kept' (entries_now s w x)
      block_now b = rw entries_now_lem at (b.gives (sight s w x) (seen rows₂ at₂ (p.more told).earlier))

      pub down_laid : SetsInOrder rows₂ at₂ (spot.below + (spot.sets - spot.below) + (o.after - o.low.0))
      down_laid = let z : spot.below + (spot.sets - spot.below) ≡ spot.sets = omega (arith, k.below) in rw z whole.laid
