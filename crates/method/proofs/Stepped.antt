-- From what is stored of a log, with an event or a notice that may join it: stamps, counts, turns and entries are those of the log then.
use Prim.Native.Nat.{ℕ, zero, suc, ◌+◌, ◌-◌, ◌≤◌, ◌<◌}
use native.Mathlib.Omega.{arith}
use mathlib.Core.Path.{◌≡◌, refl, sym, ◌∙◌, ap, ap₂, subst}
use mathlib.Core.Bool.{Bool, true, false, not, cond, ◌&&◌}
use mathlib.Core.List.{List, [], ◌∷◌, ◌++◌, map, append-nil, Memᴰ}
use lib.ListN.{length, get_or, drop, length-map, get_or-append}
use lib.Seq.{get_or-append_seam}
use lib.Dec.{ltb, leb, eqb}
use borrow.Author.Tests.{ltb-true, ltb-false, lt-ltb, le-leb, lt-leb, eqb-false}
use Rattle.meaning.specs.Lists.{range, select, gather}
use Rattle.meaning.specs.Outcome.{given, most_rows}
use Rattle.meaning.specs.Log.{Log, Ordered, point, stamp, size, time, rows_at, latest, points_from}
use Rattle.meaning.specs.Formula.{free, lowest_of, variables}
use Rattle.meaning.specs.Evaluator.{vals}
use Rattle.meaning.specs.Settled.{settled, settled_count}
use Rattle.meaning.specs.RuleFile.{Accepted, checking, node_count, node_at, children_of, formula_of, formula_at, last_node, pattern, one_if}
use Rattle.meaning.specs.Kept.{pairs, last_pairs, Entry, entry_of, entries, entries_of, kept, open_points}
use Rattle.meaning.specs.Report.{Reported, report_words}
use Rattle.meaning.specs.Keeper.{newly_settled, report_row, reported, report, crowded_at}
use Rattle.meaning.specs.declared.Point.{Point}
use Rattle.meaning.specs.declared.Stamp.{Stamp}
use Rattle.meaning.specs.declared.LogEnd.{LogEnd}
use Rattle.meaning.specs.declared.Node.{Node}
use Rattle.meaning.proofs.Fine.{Fine}
use Rattle.meaning.proofs.Tree.{formula_step}
use Rattle.meaning.proofs.Accepted.{accepted, lower, fine, last_is_node}
use Rattle.meaning.proofs.Rows.{range_at, range_of}
use Rattle.meaning.proofs.Growth.{Extends}
use Rattle.meaning.proofs.Settles.{stays}
use Rattle.meaning.proofs.Steady.{steady_by, pairs_by}
use Rattle.meaning.proofs.Points.{points_from_append, Tested, passed, failed, tested}
use Rattle.method.specs.Stored.{Stored, base_of, stamp_in, held, held_pairs, least_of, first_retained, stored_of}
use Rattle.method.specs.Counts.{counts_to}
use Rattle.method.specs.Settle.{Inputs, Turn, rows_of_turn}
use Rattle.method.specs.Step.{wanted_from, new_rows, new_pairs, turn_of, inputs_of, turns_to, points_added, times_added, rows_taken, stamps_now, end_now, counts_stored, count_before, kept_stored, open_stored, count_after, counts_after, turn, entries_now, stored_now, crowded_now, reported_now, report_now}
use Rattle.method.proofs.Least.{least_most, least_below, least_grows}
use Rattle.method.proofs.Counted.{Counted, end_in, counted_most, counted_is, count_counted, counts_length, counts_right, counts_grow, upto_holds}
use Rattle.method.proofs.Lists.{gather_each, select_run}
use Rattle.method.proofs.Keeps.{wanted_low, count_of, held_is, held_pairs_is, entries_run}
use Rattle.method.proofs.Inputs.{InputsAgree, pairs_before}
use Rattle.method.proofs.Bounds.{one_added, below, Placed, at_last, with_parent, placed, wanted_under, wanted_moves}
use Rattle.method.proofs.Turns.{any_over, drop_points, gather_over, from_get_d, points_length, get_d_points, map_points, map_append, Ready, new_rows_lem, new_pairs_lem, atom_counted, turns_at, turns_seen}
use Rattle.method.proofs.Newly.{newly_run}

-- The log l' is l with what is fed in the words w: it goes on from l and ends with its time; a point that is added has that time and its rows.
pub record Joins (b : List ℕ) (l : Log) (w : List ℕ) (l' : Log) : Type 0 where
  pub grows : Extends l l'
  pub many : size l' ≡ size l + points_added w
  pub clock : latest l' ≡ stamp (get_or w 0 0)
  pub new_time : points_added w ≡ 1 → time l' (point (size l)) ≡ stamp (get_or w 0 0)
  pub new_rows_lem : points_added w ≡ 1 → (r : ℕ) → rows_taken b w r ≡ rows_at l' r (point (size l))

module _ (b : List ℕ) (a : Accepted) (ok : checking b ≡ given a) (l : Log) (ordered : Ordered l) where
  abbrev s : Stored
  s = stored_of b l

  abbrev was : ℕ → ℕ
  was x = settled_count l (formula_at b x)

  abbrev base : Point
  base = first_retained (size l) (map was (range 0 (node_count b)))

  base_low : (x : ℕ) → x < node_count b → base.0 ≤ was x - 1
  base_low x o = let h : least_of (size l) (map was (range 0 (node_count b))) ≤ was x = least_below (size l) was (range 0 (node_count b)) x (range_of 0 (node_count b) (omega arith) (omega arith)) in omega arith

  base_size : base.0 ≤ size l
  base_size = let h : least_of (size l) (map was (range 0 (node_count b))) ≤ size l = least_most (size l) (map was (range 0 (node_count b))) in omega arith

  abbrev times_of : List ℕ
  times_of = map (λ i. (time l i).0) (points_from base (size l - base.0))

  times_length : length times_of ≡ size l - base.0
  times_length = length-map (points_from base (size l - base.0)) _ ∙ points_length base (size l - base.0)

  base_is : base_of s ≡ base
  unfolding stored_of
  base_is = let h : length times_of ≡ size l - base.0 = times_length in ap point (omega (arith, base_size))

  -- ---- the counts and figures of what is stored

  stored-stamp : (j : Point) → base.0 ≤ j.0 → j.0 < size l → stamp_in base times_of j ≡ time l j
  stored-stamp j u n =
      let q : base.0 + (j.0 - base.0) ≡ j.0 = omega arith in
      ap stamp (get_d_points (λ i. (time l i).0) 0 base.0 (size l - base.0) (j.0 - base.0) (omega arith) ∙ ap (λ k. (time l (point k)).0) q)

  pub count_before_lem : (x : ℕ) → x < node_count b → count_before s x ≡ was x
  unfolding count_before counts_stored stored_of
  count_before_lem x o =
      ap (λ (k : Point). get_or (counts_to b (stamp_in k times_of) (end_in l) (λ y. k.0) (node_count b)) x 0) base_is
      ∙ sym
      (counted_is l (formula_at b x) (get_or (counts_to b (stamp_in base times_of) (end_in l) (λ y. base.0) (node_count b)) x 0)
      (counts_right b a ok l ordered (λ y. base.0)
      (λ y q i u. upto_holds (settled l (formula_at b y)) (was y) (count_of b a ok l ordered y q) i (omega (arith, base_low y q)))
      (stamp_in base times_of) (λ y q i u v. stored-stamp i u v) x o))

  last_node_lem : last_node b < node_count b
  last_node_lem = last_is_node b a ok

  -- the points from a count on are those that a prefix test leaves
  pub open_run : (m : Log) (c : ℕ) → Counted m (pattern b) c → size m - c ≡ length (select (λ i. not (settled m (pattern b) i)) (points_from (point 0) (size m)))
  open_run m c h =
      sym (points_length (point c) (size m - c))
      ∙ ap length (sym (select_run (λ i. not (settled m (pattern b) i)) (size m) c (size m) (counted_most m (pattern b) c h) (omega arith) (λ j n. rw (h j, lt-ltb j.0 (size m) n) (ends c j.0))))
    where
      ends : (c j : ℕ) → not (ltb j c) ≡ (leb c j && true)
      ends c j = go (tested (ltb j c))
        where
          go : Tested (ltb j c) → not (ltb j c) ≡ (leb c j && true)
          go (passed e) = rw (e, lt-leb c j (ltb-true j c e))
          go (failed e) = rw (e, le-leb c j (ltb-false j c e))

  pub open_stored_lem : open_stored s ≡ open_points b l
  unfolding open_stored open_points stored_of
  open_stored_lem = ap (λ k. size l - k) (count_before_lem (last_node b) last_node_lem) ∙ open_run l (was (last_node b)) (count_of b a ok l ordered (last_node b) last_node_lem)

  pub kept_stored_lem : kept_stored s ≡ kept b l
  unfolding kept stored_of
  kept_stored_lem = refl

  -- what is wanted follows from the counts of the nodes
  pub wanted_same : (c d : ℕ → ℕ) → ((y : ℕ) → y < node_count b → c y ≡ d y) → (x : ℕ) → x < node_count b → wanted_from b c x ≡ wanted_from b d x
  wanted_same c d h x o = go (placed b a ok x o)
    where
      go : Placed b x → wanted_from b c x ≡ wanted_from b d x
      go (at_last e) = rw (e c, e d, h x o)
      go (with_parent p n e) = rw (e c, e d, h x o, h p n)

  -- what is fed may join the log
  module _ (w : List ℕ) (l' : Log) (joins : Joins b l w l') where
    abbrev is : ℕ → ℕ
    is x = settled_count l' (formula_at b x)

    abbrev grows : Extends l l'
    grows = joins.grows

    abbrev ordered' : Ordered l'
    ordered' = grows.ordered

    size-grown : size l' ≡ size l + points_added w
    size-grown = joins.many

    end_now_lem : record { points = size l + points_added w; latest = stamp (get_or w 0 0) } ≡ end_in l'
    end_now_lem = ap₂ (λ (n : ℕ) (t : Stamp). ended n t) (sym size-grown) (sym joins.clock)
      where
        ended : ℕ → Stamp → LogEnd
        ended n t = record { points = n; latest = t }

    is_counted : (x : ℕ) → x < node_count b → Counted l' (formula_at b x) (is x)
    is_counted x o = count_counted l' (formula_at b x) ordered' (fine b a ok x o)

    was_is : (x : ℕ) → x < node_count b → was x ≤ is x
    was_is x o = counts_grow l l' grows (formula_at b x) (was x) (is x) (count_of b a ok l ordered x o) (is_counted x o)

    pub stamps_right : (j : Point) → base.0 ≤ j.0 → j.0 < size l' → stamps_now s w j ≡ time l' j
    unfolding stamps_now stored_of
    stamps_right j u o = ap (λ (k : Point). stamp (get_or (times_of ++ get_or w 0 0 ∷ []) (j.0 - k.0) 0)) base_is ∙ go (tested (ltb j.0 (size l)))
      where
        z : length times_of ≡ size l - base.0
        z = times_length

        go : Tested (ltb j.0 (size l)) → stamp (get_or (times_of ++ get_or w 0 0 ∷ []) (j.0 - base.0) 0) ≡ time l' j
        go (passed e) =
            let n : j.0 < size l = ltb-true j.0 (size l) e in
            ap stamp (get_or-append times_of (get_or w 0 0 ∷ []) 0 (j.0 - base.0) (omega (arith, z))) ∙ stored-stamp j u n ∙ grows.times j n
        go (failed e) =
            let n : size l ≡ j.0 = omega (arith, ltb-false j.0 (size l) e, size-grown, one_added w) in
            let q : j.0 - base.0 ≡ length times_of = omega (arith, z) in
            ap (λ k. stamp (get_or (times_of ++ get_or w 0 0 ∷ []) k 0)) q ∙ ap stamp (get_or-append_seam times_of (get_or w 0 0) [] 0)
            ∙ sym (joins.new_time (omega (arith, size-grown, one_added w))) ∙ ap (λ k. time l' (point k)) n

    -- ---- the counts

    pub count_after_lem : (x : ℕ) → x < node_count b → count_after s w x ≡ is x
    unfolding count_after counts_after stored_of
    count_after_lem x o =
        rw end_now_lem
        (sym
        (counted_is l' (formula_at b x) (get_or (counts_to b (stamps_now s w) (end_in l') (count_before s) (node_count b)) x 0)
        (counts_right b a ok l' ordered' (count_before s)
        (λ y q i u. stays l l' grows (formula_at b y) i (upto_holds (settled l (formula_at b y)) (was y) (count_of b a ok l ordered y q) i (omega (arith, count_before_lem y q))))
        (stamps_now s w)
        (λ y q i u v. stamps_right i (omega (arith, count_before_lem y q, base_low y q)) v) x o)))

    -- ---- the turns

    abbrev sight : ℕ → Inputs
    sight x = inputs_of b (stamps_now s w) (count_after s w) (rows_taken b w) (turns_to b (entries b l) (stamps_now s w) (count_before s) (count_after s w) (rows_taken b w) x)

    turn_is : (x : ℕ) → x < node_count b → turn s w x ≡ turn_of b (entries b l) (count_before s) (count_after s w) (sight x) x
    unfolding turn stored_of
    turn_is x o = turns_at b (entries b l) (stamps_now s w) (count_before s) (count_after s w) (rows_taken b w) (node_count b) x o

    sight_rows : (x y : ℕ) → y < x → x < node_count b → (sight x).rows y ≡ rows_of_turn (turn s w y)
    unfolding turn stored_of
    sight_rows x y h o = turns_seen b (entries b l) (stamps_now s w) (count_before s) (count_after s w) (rows_taken b w) (node_count b) x y h (omega arith)

    -- a node's turn gives the evaluator's rows from the first wanted point on, and its pairs
    pub record TurnRight (x : ℕ) : Type 0 where
      pub rows : (j : Point) → (wanted_from b was x).0 ≤ j.0 → j.0 < is x → rows_of_turn (turn s w x) j ≡ vals l' (formula_at b x) j
      pub pairs : (turn s w x).pairs ≡ last_pairs l' (formula_at b x)

    stepped : (x : ℕ) → x < node_count b → formula_at b x ≡ formula_of (formula_at b) (node_at b x)
    stepped x o = formula_step b x (lower b (node_count b) (accepted b a ok).each x o)

    fine_node : (x : ℕ) → x < node_count b → Fine (formula_of (formula_at b) (node_at b x))
    fine_node x o = subst Fine (stepped x o) (fine b a ok x o)

    ready : (x : ℕ) (o : x < node_count b) → (i : Point) → was x ≤ i.0 → i.0 < is x → Ready (sight x) l' ordered' (formula_at b) (node_at b x) (fine_node x o) i
    ready x o i u v = (holds, event)
      where
        holds : settled l' (formula_of (formula_at b) (node_at b x)) i ≡ true
        holds = subst (λ φ. settled l' φ i ≡ true) (stepped x o) (upto_holds (settled l' (formula_at b x)) (is x) (is_counted x o) i v)

        event : children_of (node_at b x) ≡ [] → (r : ℕ) → rows_taken b w r ≡ rows_at l' r i
        event e r =
            let c : was x ≡ size l = ap (settled_count l) (stepped x o) ∙ counted_is l (formula_of (formula_at b) (node_at b x)) (size l) (atom_counted l (formula_at b) (node_at b x) e) in
            let k : is x ≤ size l' = counted_most l' (formula_at b x) (is x) (is_counted x o) in
            let z : size l ≡ i.0 = omega (arith, size-grown, one_added w) in
            joins.new_rows_lem (omega (arith, size-grown, one_added w)) r ∙ ap (λ j. rows_at l' r (point j)) z

    sees : (x : ℕ) → x < node_count b → ((y : ℕ) → y < x → TurnRight y) → InputsAgree (sight x) l' (formula_at b) (node_at b x) (point (was x))
    sees x o under =
        record {
          stamps = λ j p q. stamps_right j (omega (arith, base_low x o)) q;
          variables = refl;
          counts = λ y m. subst (Counted l' (formula_at b y)) (sym (count_after_lem y (omega (arith, low y m)))) (is_counted y (omega (arith, low y m)));
          rows = λ y m j p q.
              ap (λ (r : Point → List (List ℕ)). r j) (sight_rows x y (low y m) o)
              ∙ (under y (low y m)).rows j (omega (arith, wanted_under b a ok was x o y m)) (omega (arith, count_after_lem y (omega (arith, low y m))));
        }
      where
        low : (y : ℕ) → Memᴰ y (children_of (node_at b x)) → y < x
        low = below b a ok x o

    -- the pairs as the turn begins, and as it ends
    start_pairs : (x : ℕ) → x < node_count b → held_pairs (entries b l) x ≡ pairs_before l' (formula_at b x) (point (was x))
    unfolding last_pairs
    start_pairs x o = held_pairs_is b a ok l ordered x o ∙ go (tested (eqb (was x) 0))
      where
        go : Tested (eqb (was x) 0) → cond (eqb (was x) 0) [] (pairs l (formula_at b x) (point (was x - 1))) ≡ cond (eqb (was x) 0) [] (pairs l' (formula_at b x) (point (was x - 1)))
        go (passed e) = rw e
        go (failed e) =
            let d : was x ≡ 0 → ⊥ = eqb-false (was x) 0 e in
            rw (pairs_by l l' grows (formula_at b x) (fine b a ok x o) (point (was x - 1)) (upto_holds (settled l (formula_at b x)) (was x) (count_of b a ok l ordered x o) (point (was x - 1)) (omega arith)))

    end_pairs : (x : ℕ) → pairs_before l' (formula_at b x) (point (is x)) ≡ last_pairs l' (formula_at b x)
    unfolding last_pairs
    end_pairs x = refl

    module _ (x : ℕ) (o : x < node_count b) (under : (y : ℕ) → y < x → TurnRight y) where
      abbrev lo : Point
      lo = wanted_from b was x

      lo_low : lo.0 ≤ was x
      lo_low = wanted_low b was x

      abbrev node : Node
      node = node_at b x

      ready_run : (j : Point) → was x ≤ j.0 → j.0 < was x + (is x - was x) → Ready (sight x) l' ordered' (formula_at b) node (fine_node x o) j
      ready_run j u v = ready x o j u (omega (arith, was_is x o))

      old_rows : map (held (entries b l) x) (points_from lo (was x - lo.0)) ≡ map (vals l' (formula_at b x)) (points_from lo (was x - lo.0))
      old_rows =
          map_points (held (entries b l) x) (vals l' (formula_at b x)) lo.0 (was x - lo.0)
          (λ j u v. held_is b a ok l ordered x o j u (omega (arith, lo_low))
          ∙ steady_by l l' grows (formula_at b x) (fine b a ok x o) j (upto_holds (settled l (formula_at b x)) (was x) (count_of b a ok l ordered x o) j (omega (arith, lo_low))))

      made_rows : new_rows (sight x) (lowest_of (free (formula_at b x))) node (point (was x)) (is x - was x) (held_pairs (entries b l) x) ≡ map (vals l' (formula_at b x)) (points_from (point (was x)) (is x - was x))
      made_rows =
          ap (new_rows (sight x) (lowest_of (free (formula_at b x))) node (point (was x)) (is x - was x)) (start_pairs x o)
          ∙ ap (λ φ. new_rows (sight x) (lowest_of (free φ)) node (point (was x)) (is x - was x) (pairs_before l' φ (point (was x)))) (stepped x o)
          ∙ new_rows_lem (sight x) l' ordered' (formula_at b) node (fine_node x o) (point (was x)) (is x - was x) (sees x o under) ready_run
          ∙ ap (λ φ. map (vals l' φ) (points_from (point (was x)) (is x - was x))) (sym (stepped x o))

      made_pairs : new_pairs (sight x) (lowest_of (free (formula_at b x))) node (point (was x)) (is x - was x) (held_pairs (entries b l) x) ≡ last_pairs l' (formula_at b x)
      made_pairs =
          let z : was x + (is x - was x) ≡ is x = omega (arith, was_is x o) in
          ap (new_pairs (sight x) (lowest_of (free (formula_at b x))) node (point (was x)) (is x - was x)) (start_pairs x o)
          ∙ ap (λ φ. new_pairs (sight x) (lowest_of (free φ)) node (point (was x)) (is x - was x) (pairs_before l' φ (point (was x)))) (stepped x o)
          ∙ new_pairs_lem (sight x) l' ordered' (formula_at b) node (fine_node x o) (point (was x)) (is x - was x) (sees x o under) ready_run
          ∙ ap (λ k. pairs_before l' (formula_of (formula_at b) node) (point k)) z ∙ ap (λ φ. pairs_before l' φ (point (is x))) (sym (stepped x o)) ∙ end_pairs x

      all_rows : map (held (entries b l) x) (points_from lo (was x - lo.0)) ++ new_rows (sight x) (lowest_of (free (formula_at b x))) node (point (was x)) (is x - was x) (held_pairs (entries b l) x) ≡ map (vals l' (formula_at b x)) (points_from lo (is x - lo.0))
      all_rows =
          let z : is x - lo.0 ≡ (was x - lo.0) + (is x - was x) = omega (arith, lo_low, was_is x o) in
          let q : lo.0 + (was x - lo.0) ≡ was x = omega (arith, lo_low) in
          ap₂ (λ s t. s ++ t) old_rows made_rows
          ∙ sym (map_append (vals l' (formula_at b x)) (points_from lo (was x - lo.0)) (points_from (point (was x)) (is x - was x)))
          ∙ ap (map (vals l' (formula_at b x))) (ap (λ k. points_from lo (was x - lo.0) ++ points_from (point k) (is x - was x)) (sym q) ∙ sym (points_from_append lo (was x - lo.0) (is x - was x)) ∙ ap (points_from lo) (sym z))

      -- the turn with its counts written as the log's
      turn_with : turn s w x ≡ record { low = lo; rows = map (vals l' (formula_at b x)) (points_from lo (is x - lo.0)); pairs = last_pairs l' (formula_at b x) }
      unfolding turn_of
      turn_with =
          turn_is x o
          ∙ (rw (wanted_same (count_before s) was count_before_lem x o, count_before_lem x o, count_after_lem x o) (ap₂ (λ (r : List (List (List ℕ))) (p : List (List ℕ)). record { low = lo; rows = r; pairs = p }) all_rows made_pairs))

      turn_right : TurnRight x
      turn_right =
          record {
            rows = λ j u v.
                let q : lo.0 + (j.0 - lo.0) ≡ j.0 = omega arith in
                ap (λ (t : Turn). rows_of_turn t j) turn_with ∙ get_d_points (vals l' (formula_at b x)) [] lo.0 (is x - lo.0) (j.0 - lo.0) (omega arith) ∙ ap (λ k. vals l' (formula_at b x) (point k)) q;
            pairs = ap (λ (t : Turn). t.pairs) turn_with;
          }

    turns_up : (k : ℕ) → k ≤ node_count b → (x : ℕ) → x < k → TurnRight x
    turns_up zero h x u = absurd (omega arith)
    turns_up (suc k) h x u = turn_right x (omega arith) (λ y v. turns_up k (omega arith) y (omega arith))

    -- every node's turn is right
    pub turns_right : (x : ℕ) → x < node_count b → TurnRight x
    turns_right x o = turns_up (node_count b) (omega arith) x o

    -- ---- the entries

    pub entries_now_lem : (x : ℕ) → x < node_count b → entries_now s w x ≡ entries_of b l' x
    unfolding entries_now stored_of
    entries_now_lem x o =
        rw (wanted_same (count_after s w) is count_after_lem x o, count_after_lem x o)
        (ap₂ (λ r p. r ++ p)
        (gather_over (λ j. map (entry_of x 0 j.0) (rows_of_turn (turn s w x) j)) (λ j. map (entry_of x 0 j.0) (vals l' (formula_at b x) j)) (wanted_from b is x).0 (is x - (wanted_from b is x).0)
        (λ j u v. ap (map (entry_of x 0 j.0)) ((turns_right x o).rows j (omega (arith, wanted_moves b a ok was is was_is x o)) (omega (arith, wanted_low b is x)))))
        (ap (map (λ p. entry_of x 1 (get_or p 0 0) (drop 1 p))) (turns_right x o).pairs)
        ∙ sym (entries_run b a ok l' ordered' x o))

    -- ---- what is stored

    counts_many : length (counts_after s w) ≡ node_count b
    unfolding counts_after stored_of
    counts_many = counts_length b (stamps_now s w) (end_now s w) (count_before s) (node_count b)

    count_entry : (x : ℕ) → x < node_count b → get_or (counts_after s w) x 0 ≡ is x
    unfolding count_after
    count_entry x o = count_after_lem x o

    counts_now : counts_after s w ≡ map is (range 0 (node_count b))
    counts_now = from_get_d (counts_after s w) (node_count b) is counts_many count_entry

    base_grows : base.0 ≤ (first_retained (size l') (map is (range 0 (node_count b)))).0
    base_grows = let h : least_of (size l) (map was (range 0 (node_count b))) ≤ least_of (size l') (map is (range 0 (node_count b))) = least_grows (size l) (size l') was is (range 0 (node_count b)) (omega (arith, size-grown)) (λ x m. was_is x (omega (arith, range_at 0 (node_count b) m))) in omega arith

    old_times : times_of ≡ map (λ i. (time l' i).0) (points_from base (size l - base.0))
    old_times = map_points (λ i. (time l i).0) (λ i. (time l' i).0) base.0 (size l - base.0) (λ j u v. ap (λ (t : Stamp). t.0) (grows.times j (omega (arith, base_size))))

    times_now : times_of ++ times_added w ≡ map (λ i. (time l' i).0) (points_from base (size l' - base.0))
    times_now = go (ltb 1 (length w)) refl
      where
        go : (t : Bool) → ltb 1 (length w) ≡ t → times_of ++ cond t (get_or w 0 0 ∷ []) [] ≡ map (λ i. (time l' i).0) (points_from base (size l' - base.0))
        go false e =
            let z : size l - base.0 ≡ size l' - base.0 = omega (arith, size-grown, ap one_if e) in
            append-nil times_of ∙ old_times ∙ ap (λ n. map (λ i. (time l' i).0) (points_from base n)) z
        go true e =
            let z : size l' - base.0 ≡ (size l - base.0) + 1 = omega (arith, size-grown, base_size, ap one_if e) in
            let q : base.0 + (size l - base.0) ≡ size l = omega (arith, base_size) in
            ap₂ (λ r p. r ++ p) old_times (ap (λ (t : Stamp). t.0 ∷ []) (sym (joins.new_time (ap one_if e))))
            ∙ sym (map_append (λ i. (time l' i).0) (points_from base (size l - base.0)) (point (size l) ∷ []))
            ∙ ap (map (λ i. (time l' i).0)) (ap (λ k. points_from base (size l - base.0) ++ points_from (point k) 1) (sym q) ∙ sym (points_from_append base (size l - base.0) 1) ∙ ap (points_from base) (sym z))

    abbrev base' : Point
    base' = first_retained (size l') (map is (range 0 (node_count b)))

    base'_size : base'.0 ≤ size l'
    base'_size = let h : least_of (size l') (map is (range 0 (node_count b))) ≤ size l' = least_most (size l') (map is (range 0 (node_count b))) in omega arith

    first_now : (first_retained (size l + points_added w) (counts_after s w)).0 - (base_of s).0 ≡ base'.0 - base.0
    first_now = ap₂ (λ (r p : Point). r.0 - p.0) (ap₂ (λ n cs. first_retained n cs) (sym size-grown) counts_now) base_is

    times_kept : drop (base'.0 - base.0) (times_of ++ times_added w) ≡ map (λ i. (time l' i).0) (points_from base' (size l' - base'.0))
    times_kept =
        let z : base.0 + (base'.0 - base.0) ≡ base'.0 = omega (arith, base_grows) in
        let y : size l' - base.0 - (base'.0 - base.0) ≡ size l' - base'.0 = omega (arith, base_grows, base'_size) in
        ap (drop (base'.0 - base.0)) times_now ∙ drop_points (λ i. (time l' i).0) base.0 (size l' - base.0) (base'.0 - base.0) (omega (arith, base'_size))
        ∙ ap₂ (λ r p. map (λ i. (time l' i).0) (points_from (point r) p)) z y

    entries_all : gather (entries_now s w) (range 0 (node_count b)) ≡ entries b l'
    unfolding entries
    entries_all = gather_each (entries_now s w) (entries_of b l') 0 (node_count b) (λ x u o. entries_now_lem x (omega arith))

    abbrev stored : LogEnd → List ℕ → List Entry → Stored
    stored e ts es = record { rule = b; points = e.points; latest = e.latest; times = ts; entries = es }

    pub stored_now_lem : stored_now s w ≡ stored_of b l'
    unfolding stored_now stored_of
    stored_now_lem =
        ap (λ (e : LogEnd). stored e (drop ((first_retained (size l + points_added w) (counts_after s w)).0 - (base_of s).0) (times_of ++ times_added w)) (gather (entries_now s w) (range 0 (node_count b)))) end_now_lem
        ∙ ap₂ (stored (end_in l')) (ap (λ k. drop k (times_of ++ times_added w)) first_now ∙ times_kept) entries_all

    -- ---- the figures

    newly : (x : ℕ) → x < node_count b → newly_settled l l' (formula_at b x) ≡ points_from (point (was x)) (is x - was x)
    newly x o = newly_run l l' (formula_at b x) (was x) (is x) (was_is x o) (count_of b a ok l ordered x o) (is_counted x o)

    new_rows_right : (x : ℕ) → x < node_count b → (j : Point) → was x ≤ j.0 → j.0 < was x + (is x - was x) → rows_of_turn (turn s w x) j ≡ vals l' (formula_at b x) j
    new_rows_right x o j u v = (turns_right x o).rows j (omega (arith, wanted_low b was x)) (omega (arith, was_is x o))

    pub crowded_now_lem : (x : ℕ) → x < node_count b → crowded_now s w x ≡ crowded_at b l l' x
    unfolding crowded_now crowded_at
    crowded_now_lem x o =
        rw (count_before_lem x o, count_after_lem x o, newly x o)
        (any_over (λ j. ltb most_rows (length (rows_of_turn (turn s w x) j))) (λ j. ltb most_rows (length (vals l' (formula_at b x) j))) (was x) (is x - was x)
        (λ j u v. ap (λ rows. ltb most_rows (length rows)) (new_rows_right x o j u v)))

    pub open_now : s.points + points_added w - count_after s w (last_node s.rule) ≡ open_points b l'
    unfolding open_points stored_of
    open_now = ap₂ (λ r p. r - p) (sym size-grown) (count_after_lem (last_node b) last_node_lem) ∙ open_run l' (is (last_node b)) (is_counted (last_node b) last_node_lem)

    pub reported_now_lem : reported_now s w ≡ reported l l' (pattern b)
    unfolding reported stored_of
    reported_now_lem =
        rw (count_before_lem (last_node b) last_node_lem, count_after_lem (last_node b) last_node_lem, newly (last_node b) last_node_lem)
        (map_points _ _ (was (last_node b)) (is (last_node b) - was (last_node b))
        (λ j u v. ap₂ (λ (t : Stamp) (rows : List (List ℕ)). entry j t (map (report_row (free (pattern b))) rows))
        (stamps_right j (omega (arith, base_low (last_node b) last_node_lem)) (omega (arith, was_is (last_node b) last_node_lem, counted_most l' (pattern b) (is (last_node b)) (is_counted (last_node b) last_node_lem))))
        (new_rows_right (last_node b) last_node_lem j u v)))
      where
        entry : Point → Stamp → List (List ℕ) → Reported
        entry i t rows = record { at = i; time = t; rows = rows }

    pub report_now_lem : report_now s w ≡ report b l l'
    unfolding report_now report stored_of
    report_now_lem = ap (report_words (length (select (free (pattern b)) variables))) reported_now_lem
