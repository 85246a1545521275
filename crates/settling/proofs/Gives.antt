-- What a node gives at a point over the words of its children's sets, kind by kind; that any Inputs that say what stands there gives the same; and what the count of rows says of it.
use Prim.Native.Nat.{ℕ, suc, ◌≤◌, ◌<◌, min}
use native.Mathlib.Omega.{arith}
use mathlib.Core.Path.{◌≡◌, refl, sym, ap, ap₂, subst, fun_ext, ◌∙◌}
use mathlib.Core.Bool.{true, false, not, cond, ◌&&◌}
use mathlib.Core.List.{List, [], ◌++◌, map, cons≢nil}
use lib.Dec.{ltb, eqb}
use borrow.Author.Tests.{ltb-true}
use Rattle.meaning.specs.Lists.{range, select}
use Rattle.meaning.specs.Log.{relation_in, elapsed, point_before, point_after}
use Rattle.meaning.specs.Event.{row_count, row_of}
use Rattle.meaning.specs.Formula.{atom, terms_of, in_window, compares}
use Rattle.meaning.specs.Definition2.{value}
use Rattle.meaning.specs.Evaluator.{cut_to, valuation_of, set_of, atom_rows, and_rows, until_rows}
use Rattle.meaning.specs.LookUp.{look_up, is_there}
use Rattle.meaning.specs.View.{view_of, children_in, passes}
use Rattle.meaning.specs.RuleFile.{children_of}
use Rattle.meaning.specs.declared.Point.{Point}
use Rattle.meaning.specs.declared.Left.{Left}
use Rattle.meaning.specs.declared.Left.TheVariants.{Holds, Denied, Always}
use Rattle.meaning.specs.declared.Window.{Window}
use Rattle.meaning.specs.declared.Node.{Node}
use Rattle.meaning.specs.declared.Node.TheVariants.{Atom, And, AndNot, Keep, Or, Exists, Previous, Next, Since, NotSince, Until, NotUntil, Once, Eventually}
use Rattle.meaning.specs.declared.Children.{Children}
use Rattle.meaning.specs.declared.Children.TheVariants.{None, One, Two}
use Rattle.meaning.specs.declared.Times.{Times}
use Rattle.meaning.specs.declared.Times.TheVariants.{Here, Before, After, Past, Future}
use Rattle.meaning.proofs.Points.{Tested, passed, failed, tested}
use Rattle.method.specs.Stored.{stamp_in}
use Rattle.method.specs.Settle.{Inputs, found, rows_since, pairs_since, candidates, settle, left_of, right_of, has_pairs}
use Rattle.method.proofs.Views.{Branches, none, single, double, viewed}
use Rattle.rowset.specs.Sets.{SetMade}
use Rattle.kinds.specs.Kinds.{in_mask, pairs_from}
use Rattle.room.specs.declared.Child.{Child}
use Rattle.room.specs.declared.CallSets.{CallSets}
use Rattle.room.specs.declared.Operands.{Operands}
use Rattle.untils.specs.Until.{left_test, BothStand}
use Rattle.untils.proofs.Spans.{stand_part}
use Rattle.since.specs.Since.{held_in, rows_in, pairs_in, PairsPut}
use Rattle.settling.specs.Children.{child_set}
use Rattle.settling.specs.Inputs.{ChildInputs, ChildrenInputs, InputsStand, ChildThere, ChildrenThere, asked, right_in, PointSettled, PairsSettled}
use Rattle.settling.proofs.Agreeing.{Alike, cut_same, and_same, rows_same, pairs_same, until_same}

-- nothing put in
none_put : {ages values : List ℕ} → PairsPut ages values ages values 0 []
unfolding pairs_from
none_put = record { ages_long = refl; values_long = refl; counted = omega arith; set = λ l. refl }

-- a Inputs that say of node y what stands of a child says of its sets what stands, and the same of a row that is looked up in one
module _ {v : Inputs} {rows at : List ℕ} {y : ℕ} {c : Child} (s : ChildInputs v rows at y c) where
  seen_free : Alike (in_mask c.mask) (v.free y)
  seen_free x l = sym (s.free x l)

  seen_set : (j : Point) → c.low.0 ≤ j.0 → j.0 < c.count → child_set rows at c j ≡ v.rows y j
  seen_set j l o = sym (s.sets j l o)

  seen_found : (j : Point) → c.low.0 ≤ j.0 → j.0 < c.count → (u : List ℕ) → is_there (look_up c.lowest (cut_to (in_mask c.mask) (valuation_of u)) (child_set rows at c j)) ≡ found v y u j
  seen_found j l o u =
      ap₂ (λ r set. is_there (look_up c.lowest r set)) (cut_same (in_mask c.mask) (v.free y) seen_free (valuation_of u)) (seen_set j l o)
      ∙ ap (λ k. is_there (look_up k (cut_to (v.free y) (valuation_of u)) (v.rows y j))) (sym s.lowest)

module _ (b w rows at times : List ℕ) (base : Point) (old_ages old_values : List ℕ) (left right : Child) (lowest : ℕ) (start i : Point) where
  abbrev since_in : Left → Child → Window → List (List ℕ)
  since_in l d t = rows_in l rows at times base t left d (held_in old_ages old_values) start i

  abbrev until_in : Left → Child → Window → List (List ℕ)
  until_in l d t = until_rows (stamp_in base times) (min left.count d.count) t (left_test l left (child_set rows at left)) (child_set rows at d) i

  -- the rows that node's kind gives
  abbrev pub given : Node → List (List ℕ)
  given (Atom r t) = atom_rows (terms_of t) (relation_in r (map (row_of b w) (range 0 (row_count w))))
  given (And x y) = and_rows (in_mask left.mask) (in_mask right.mask) (child_set rows at left i) (child_set rows at right i)
  given (AndNot x y) = select (λ u. not (is_there (look_up right.lowest (cut_to (in_mask right.mask) (valuation_of u)) (child_set rows at right i)))) (child_set rows at left i)
  given (Keep x c s) = select (λ u. compares c (value (valuation_of u) s.first) (value (valuation_of u) s.second)) (child_set rows at left i)
  given (Or x y) = child_set rows at left i ++ child_set rows at right i
  given (Exists x z) = map (λ u. cut_to (λ y. not (eqb y z)) (valuation_of u)) (child_set rows at left i)
  given (Previous x t) = cond (ltb 0 i.0 && in_window t (elapsed (stamp_in base times (point_before i)) (stamp_in base times i))) (child_set rows at left (point_before i)) []
  given (Next x t) = cond (in_window t (elapsed (stamp_in base times i) (stamp_in base times (point_after i)))) (child_set rows at left (point_after i)) []
  given (Since x y t) = since_in Holds right t
  given (NotSince x y t) = since_in Denied right t
  given (Until x y t) = until_in Holds right t
  given (NotUntil x y t) = until_in Denied right t
  given (Once x t) = since_in Always left t
  given (Eventually x t) = until_rows (stamp_in base times) left.count t (λ u k. true) (child_set rows at left) i

  module _ (v : Inputs) where
    -- since and until over a test of left, by what the Inputs says of the children c and d
    module _ (l : Left) {c d : Child} {x y : ℕ} (t : Window) where
      module _ (h : ChildThere rows at start i Past c) (k : ChildThere rows at start i Past d) (p : ChildInputs v rows at x c) (q : ChildInputs v rows at y d) where
        since_test : (j : Point) → start.0 ≤ j.0 → j.0 ≤ i.0 → (u : List ℕ) → left_test l c (child_set rows at c) u j ≡ passes l (found v x u j)
        since_test j m o u = ap (passes l) (seen_found p j (omega (arith, h.sets.low_most)) (omega (arith, h.settled)) u)

        since_right : (j : Point) → start.0 ≤ j.0 → j.0 ≤ i.0 → child_set rows at d j ≡ v.rows y j
        since_right j m o = seen_set q j (omega (arith, k.sets.low_most)) (omega (arith, k.settled))

        since_rows_lem : rows_in l rows at times base t c d (held_in old_ages old_values) start i ≡ rows_since (stamp_in base times) t (λ u k. passes l (found v x u k)) (v.rows y) (held_in old_ages old_values) start i
        since_rows_lem =
            rows_same (stamp_in base times) t (left_test l c (child_set rows at c)) (λ u k. passes l (found v x u k)) (child_set rows at d) (v.rows y) (held_in old_ages old_values) start i since_test since_right

        since_pairs : pairs_in l rows at times base t c d (held_in old_ages old_values) start i ≡ pairs_since (stamp_in base times) t (λ u k. passes l (found v x u k)) (v.rows y) (held_in old_ages old_values) start i
        since_pairs =
            pairs_same (stamp_in base times) t (left_test l c (child_set rows at c)) (λ u k. passes l (found v x u k)) (child_set rows at d) (v.rows y) (held_in old_ages old_values) start i since_test since_right

        -- the pairs of since put in
        since_put : v.stamps ≡ stamp_in base times → {ages values ages' values' : List ℕ} {k : ℕ} → PairsPut ages values ages' values' k (set_of (suc lowest) (pairs_in l rows at times base t c d (held_in old_ages old_values) start i))
            → PairsPut ages values ages' values' k (set_of (suc lowest) (pairs_since v.stamps t (λ u k. passes l (found v x u k)) (v.rows y) (held_in old_ages old_values) start i))
        since_put e put = rw e (rw since_pairs at put)

      until_rows_lem : ChildThere rows at start i Future c → ChildThere rows at start i Future d → ChildInputs v rows at x c → ChildInputs v rows at y d
          → until_rows (stamp_in base times) (min c.count d.count) t (left_test l c (child_set rows at c)) (child_set rows at d) i ≡ until_rows (stamp_in base times) (min c.count d.count) t (λ u k. passes l (found v x u k)) (v.rows y) i
      until_rows_lem h k p q =
          until_same (stamp_in base times) (min c.count d.count) t (left_test l c (child_set rows at c)) (λ u k. passes l (found v x u k)) (child_set rows at d) (v.rows y) i
          (λ j m o u. ap (passes l) (seen_found p j (omega (arith, h.sets.low_most)) (omega arith) u)) (λ j m o. seen_set q j (omega (arith, k.sets.low_most)) (omega arith))

    -- a Inputs that say what stands gives the same
    given_same : (node : Node) → asked b w rows at old_ages old_values left right lowest start i node → InputsStand v b w rows at times base left right node → given node ≡ candidates v (held_in old_ages old_values) start i node
    given_same (Atom r t) d s = ap (atom_rows (terms_of t)) (sym (s.event r))
    given_same (And x y) d s =
        let (p, q) = s.children in
        let (h, k) = d.children in
        ap₂ (and_rows (in_mask left.mask) (in_mask right.mask)) (seen_set p i h.sets.low_most h.settled) (seen_set q i k.sets.low_most k.settled)
        ∙ and_same (in_mask left.mask) (v.free x) (in_mask right.mask) (v.free y) (seen_free p) (seen_free q) (v.rows x i) (v.rows y i)
    given_same (AndNot x y) d s =
        let (p, q) = s.children in
        let (h, k) = d.children in
        ap₂ (λ f rs. select (λ u. not (f u)) rs) (fun_ext (seen_found q i k.sets.low_most k.settled)) (seen_set p i h.sets.low_most h.settled)
    given_same (Keep x c t) d s =
        ap (select (λ u. compares c (value (valuation_of u) t.first) (value (valuation_of u) t.second))) (seen_set s.children i d.children.sets.low_most d.children.settled)
    given_same (Or x y) d s =
        let (p, q) = s.children in
        let (h, k) = d.children in
        ap₂ (λ us vs. us ++ vs) (seen_set p i h.sets.low_most h.settled) (seen_set q i k.sets.low_most k.settled)
    given_same (Exists x z) d s = ap (map (λ u. cut_to (λ y. not (eqb y z)) (valuation_of u))) (seen_set s.children i d.children.sets.low_most d.children.settled)
    given_same (Previous x t) d s = rw s.stamps (go (tested (ltb 0 i.0)))
      where
        go : Tested (ltb 0 i.0)
            → cond (ltb 0 i.0 && in_window t (elapsed (stamp_in base times (point_before i)) (stamp_in base times i))) (child_set rows at left (point_before i)) []
            ≡ cond (ltb 0 i.0 && in_window t (elapsed (stamp_in base times (point_before i)) (stamp_in base times i))) (v.rows x (point_before i)) []
        go (passed e) =
            let l : 0 < i.0 = ltb-true 0 i.0 e in
            ap (λ rs. cond (ltb 0 i.0 && in_window t (elapsed (stamp_in base times (point_before i)) (stamp_in base times i))) rs []) (seen_set s.children (point_before i) (d.children.sets l).low_most (d.children.settled l))
        go (failed e) = rw e
    given_same (Next x t) d s =
        rw s.stamps
        (ap (λ rs. cond (in_window t (elapsed (stamp_in base times i) (stamp_in base times (point_after i)))) rs [])
        (seen_set s.children (point_after i) (omega (arith, d.children.sets.low_most)) (omega (arith, d.children.settled))))
    given_same (Since x y t) d s = let (p, q) = s.children in let (h, k) = d.children in rw s.stamps (since_rows_lem Holds t h k p q)
    given_same (NotSince x y t) d s = let (p, q) = s.children in let (h, k) = d.children in rw s.stamps (since_rows_lem Denied t h k p q)
    given_same (Until x y t) d s = let (p, q) = s.children in let (h, k) = d.children in rw (s.stamps, p.counted, q.counted) (until_rows_lem Holds t h k p q)
    given_same (NotUntil x y t) d s = let (p, q) = s.children in let (h, k) = d.children in rw (s.stamps, p.counted, q.counted) (until_rows_lem Denied t h k p q)
    given_same (Once x t) d s = rw s.stamps (since_rows_lem Always t d.children d.children s.children s.children)
    given_same (Eventually x t) d s =
        let e : min left.count left.count ≡ left.count = omega arith in
        rw (s.stamps, s.children.counted) (rw e at (until_rows_lem Always t d.children d.children s.children s.children))

  -- the sets of left and right of a since, and what Inputs say of them
  module _ (node : Node) (past : (view_of node).times ≡ Past) where
    abbrev cs : Children
    cs = (view_of node).children

    has_child : cs ≡ None → ⊥
    has_child e = go (viewed (λ y. atom 0 []) node).shape
      where
        go : Branches (view_of node) → ⊥
        go (none c t) = let z : ◌≡◌ {A = ℕ} 0 1 = cc in absurd (omega arith)
        go (single a c) = cons≢nil (sym (ap children_in c) ∙ ap children_in e)
        go (double a c f t) = cons≢nil (sym (ap children_in f) ∙ ap children_in e)

    pub past_there : asked b w rows at old_ages old_values left right lowest start i node → ChildThere rows at start i Past left × ChildThere rows at start i Past (right_in cs left right)
    past_there d = go cs has_child (rw past at d.children)
      where
        go : (c : Children) → (c ≡ None → ⊥) → ChildrenThere rows at start i Past left right c → ChildThere rows at start i Past left × ChildThere rows at start i Past (right_in c left right)
        go None n h = absurd (n refl)
        go (One x) n h = (h, h)
        go (Two x y) n h = h

    past_seen : (v : Inputs) → ChildrenInputs v rows at (children_of node) left right → ChildInputs v rows at (left_of cs) left × ChildInputs v rows at (right_of cs) (right_in cs left right)
    past_seen v = go cs has_child
      where
        go : (c : Children) → (c ≡ None → ⊥) → ChildrenInputs v rows at (children_in c) left right → ChildInputs v rows at (left_of c) left × ChildInputs v rows at (right_of c) (right_in c left right)
        go None n h = absurd (n refl)
        go (One x) n h = (h, h)
        go (Two x y) n h = h

    -- its pairs, where they were put in
    pub past_settled : asked b w rows at old_ages old_values left right lowest start i node → {ages values ages' values' : List ℕ} {k : ℕ}
        → PairsPut ages values ages' values' k (set_of (suc lowest) (pairs_in (view_of node).left rows at times base (view_of node).window left (right_in cs left right) (held_in old_ages old_values) start i))
        → PairsSettled rows at times base old_ages old_values left right lowest start i node ages values ages' values' k
    past_settled d put =
        let (h, k) = past_there d in
        record { gives = λ v b w s. let (p, q) = past_seen v s.children in rw past (since_put v (view_of node).left (view_of node).window h k p q s.stamps put) }

  -- a node that is no since has no pairs
  pub no_pairs : (node : Node) → ((view_of node).times ≡ Past → ⊥) → {ages values : List ℕ} → PairsSettled rows at times base old_ages old_values left right lowest start i node ages values ages values 0
  no_pairs node other = record { gives = λ v b w s. rw (none_of (view_of node).times other) none_put }
    where
      none_of : (t : Times) → (t ≡ Past → ⊥) → has_pairs t ≡ false
      none_of Here n = refl
      none_of Before n = refl
      none_of After n = refl
      none_of Past n = absurd (n refl)
      none_of Future n = refl

-- the node's valuations, where the set of what its kind gives was made
pub settled : {b w rows at times : List ℕ} {base : Point} {old_ages old_values : List ℕ} {left right : Child} {lowest : ℕ} {start i : Point} {node kind : Node} {out : List ℕ} {k : ℕ}
    → asked b w rows at old_ages old_values left right lowest start i node → node ≡ kind → SetMade out k (set_of lowest (given b w rows at times base old_ages old_values left right lowest start i kind))
    → PointSettled b w rows at times base old_ages old_values left right lowest start i node out k
unfolding settle
settled {b} {w} {rows} {at} {times} {base} {old_ages} {old_values} {left} {right} {lowest} {start} {i} {node} {kind} {out} {k} d e h =
    let asked_of : asked b w rows at old_ages old_values left right lowest start i kind = rw e at d in
    rw e (record { gives = λ v s. subst (λ us. SetMade out k (set_of lowest us)) (given_same b w rows at times base old_ages old_values left right lowest start i v kind asked_of s) h })

-- the sets of until's children as far as both have settled
pub both_stand : (s : CallSets) (of : Operands) {start i : Point} → of.left.count < 4294967296 → ChildThere s.rows.now s.at.now start i Future of.left → ChildThere s.rows.now s.at.now start i Future of.right → BothStand s of i (min of.left.count of.right.count)
both_stand s of {start} {i} few h k = record {
  left = stand_part h.sets i (min of.left.count of.right.count) (omega arith) (omega (arith, h.settled, k.settled)) (omega arith);
  right = stand_part k.sets i (min of.left.count of.right.count) (omega arith) (omega (arith, h.settled, k.settled)) (omega arith);
  word = omega arith;
}
