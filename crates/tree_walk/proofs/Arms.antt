-- The walk of a tree by how many children its node has: what each call in it asks, and what they leave together.
use Prim.Native.Nat.{ℕ, ◌+◌, ◌-◌, ◌*◌, ◌≤◌, ◌<◌, max, min}
use native.Mathlib.Omega.{arith}
use mathlib.Core.Path.{◌≡◌, refl, sym, subst, ap, ap₂, ◌∙◌}
use mathlib.Core.Bool.{Bool, true, false, cond}
use mathlib.Core.Logic.{◌⊎◌, inl, inr}
use mathlib.Core.List.{List, [], ◌∷◌}
use lib.ListN.{length, get_or}
use lib.Dec.{ltb, eqb}
use borrow.Author.Tests.{ltb-true, ltb-false}
use Rattle.meaning.specs.Outcome.{given}
use Rattle.meaning.specs.RuleFile.{Accepted, checking, node_count, node_at, children_of}
use Rattle.meaning.proofs.Accepted.{nodes_most}
use Rattle.meaning.proofs.Points.{Tested, passed, failed, tested}
use Rattle.room.specs.Room.{Sets}
use Rattle.entries.specs.Appended.{Extended}
use Rattle.method.specs.Stored.{Stored}
use Rattle.method.specs.Step.{crowded_now}
use Rattle.method.specs.Room.{weight, left_lighter, heavier, lighter, need, rows_most, sets_most}
use Rattle.method.proofs.Bounds.{below, wanted_before, before_after}
use Rattle.method.proofs.Weights.{weight-step, weight_two, need_step}
use Rattle.node_step.specs.declared.Place.{Place}
use Rattle.node_step.specs.Figures.{low_in, after_in, CallReady}
use Rattle.node_step.specs.Walks.{RoomFor, turn_set, ChildStands, ChildrenStand, OutThere, standing, Walks}
use Rattle.tree_walk.specs.declared.Sides.{Sides}
use Rattle.tree_walk.specs.Tree.{Below, first_of, WeightsThere, Ordered, kept_of, TreeReady, TreeWalks, FirstWalked, Climbs}
use Rattle.tree_walk.proofs.Trees.{first_in, second_in, sides_in, below_none, below_one, below_two, below_low, sides_are}
use Rattle.tree_walk.proofs.Standing.{stays_below, replaced, room_less, room_left, some_most, stands_all, out_as, keeps_as, keeps_then, walks_then, walks_stuck}

-- node x has the children c and d, left first; i is walked first, j second, and t says whether they change places
pub record TwoOrdered (b : List ℕ) (x c d i j : ℕ) (t : Bool) : Type 0 where
  pub children : children_of (node_at b x) ≡ c ∷ d ∷ []
  pub swapped : t ≡ left_lighter b c d
  pub first : i ≡ heavier b c d
  pub second : j ≡ lighter b c d

-- two children's sets, by which of them was walked first
sides_stand : {s : Stored} {w rows at : List ℕ} {n : ℕ} (c d h m : ℕ) (t : Bool) → ChildStands s w rows at n (cond t d c) h → ChildStands s w rows at n (cond t c d) m
    → ChildStands s w rows at n c (cond t m h) × ChildStands s w rows at n d (cond t h m)
sides_stand c d h m true p q = (q, p)
sides_stand c d h m false p q = (p, q)

beside : (all first second i j x : ℕ) → all ≡ max first (max (i + second) (i + j + x)) → i + (j + x) ≤ all
beside all first second i j x e = omega arith

module _ {s : Stored} {w os ns vs stamps f : List ℕ} (g : CallReady s w os ns vs stamps f) where
  abbrev a : Accepted
  a = g.formed.accepted.0

  ok : checking s.rule ≡ given a
  ok = g.formed.accepted.1

  pub weights_there : WeightsThere s.rule f
  weights_there = record { accepted = g.formed.accepted; there = g.figures_there; weights = λ x o. (g.each x o).weight }

  -- ---- how many sets a node has, by the figures
  pub figure_there : (y : ℕ) → y < node_count s.rule → y * 9 + 9 ≤ length f
  figure_there y o = omega (arith, g.figures_there)

  pub sets_figured : (y : ℕ) → y < node_count s.rule → after_in f y - low_in f y ≡ sets_most s w y
  sets_figured y o = ap₂ (λ p q. p - q) (g.each y o).after (g.each y o).low

  pub stood_figured : (low y : ℕ) → y < node_count s.rule → cond (eqb low 32) (after_in f y - low_in f y) 0 ≡ standing s w low y
  stood_figured low y o = ap (λ n. cond (eqb low 32) n 0) (sets_figured y o)

  pub low_first : (y : ℕ) → y < node_count s.rule → low_in f y ≤ after_in f y
  low_first y o = omega (arith, (g.each y o).after, (g.each y o).low, wanted_before s a ok g.formed.few_times g.formed.times_many y, before_after s a ok g.formed.few_times g.formed.times_many w y o)

  module _ (x : ℕ) (o : x < node_count s.rule) where
    -- node x's own step
    abbrev OwnWalks : ℕ → List ℕ → List ℕ → List ℕ → List ℕ → List ℕ → List ℕ → List ℕ → List ℕ → List ℕ → List ℕ → ℕ → Place → Type 0
    OwnWalks = Walks s w (λ y. y ≡ x) (kept_of s w x) x

    abbrev sets_for : ℕ → ℕ
    sets_for = need s.rule (sets_most s w)

    abbrev rows_for : ℕ → ℕ
    rows_for = need s.rule (rows_most s w)

    calm_below : (y z : ℕ) → z < x → Below s.rule y z → y < 32
    calm_below y z l q = omega (arith, below_low s.rule a ok y z (omega arith) q, nodes_most s.rule a ok)

    -- node x's first child's tree has no crowded node
    pub first_calm : {rows at on ov bl : List ℕ} {h : ℕ} {p : Place} → FirstWalked s w rows at on ov bl x h p → 32 ≤ p.low → p.low ≡ 32
    first_calm v n = omega (arith, v.walked.low)

    -- ---- no children
    module _ (k : children_of (node_at s.rule x) ≡ []) where
      none_weight : weight s.rule (kept_of s w) x ≡ kept_of s w x
      none_weight = let e = rw k at (weight-step s.rule a ok (kept_of s w) x o) in omega (arith, e)

      none_need : (size : ℕ → ℕ) → need s.rule size x ≡ size x
      none_need size = rw k at (need_step s.rule a ok size x o)

      pub none_room : {rows at : List ℕ} {h : ℕ} → RoomFor rows at h (sets_for x) (rows_for x) → RoomFor rows at h (sets_most s w x) (rows_most s w x)
      none_room r = room_less r (omega (arith, none_need (sets_most s w))) (omega (arith, none_need (rows_most s w)))

      pub none_walks : {h : ℕ} {rows at rows' at' on ov bl on' ov' bl' : List ℕ} {kept : ℕ} {r : Place}
          → OwnWalks h rows at rows' at' on ov bl on' ov' bl' kept r → TreeWalks s w x h rows at rows' at' on ov bl on' ov' bl' kept r
      none_walks v =
          record {
            more = v.more;
            stand = v.stand;
            row_end = v.row_end;
            low = v.low;
            inside = v.inside;
            told = v.told;
            calm = λ y p l. v.calm y (below_none k y p) l;
            few = v.few;
            on_long = v.on_long;
            ov_long = v.ov_long;
            bl_long = v.bl_long;
            keeps = λ e. keeps_as (v.keeps e) (λ y p. below_none k y p) (sym none_weight);
          }

    -- ---- one child
    module _ (c : ℕ) (k : children_of (node_at s.rule x) ≡ c ∷ []) where
      pub one_lower : c < x
      one_lower = below s.rule a ok x o c (rw k first_in)

      pub one_inside : c < node_count s.rule
      one_inside = omega (arith, one_lower)

      one_weight : weight s.rule (kept_of s w) x ≡ weight s.rule (kept_of s w) c + kept_of s w x
      one_weight = let e = rw k at (weight-step s.rule a ok (kept_of s w) x o) in omega (arith, e)

      one_need : (size : ℕ → ℕ) → need s.rule size x ≡ max (need s.rule size c) (size c + size x)
      one_need size = rw k at (need_step s.rule a ok size x o)

      module _ {rows at on ov bl : List ℕ} {h : ℕ} {p : Place} (v : FirstWalked s w rows at on ov bl x h p) (z : p.low ≡ 32) where
        one_walked : TreeWalks s w c h v.rows_begun v.at_begun rows at v.on_begun v.ov_begun v.bl_begun on ov bl v.kept_begun p
        one_walked = rw k at v.walked

        one_more : Extended v.rows_begun v.at_begun rows at h (sets_most s w c) (turn_set s w c)
        one_more = rw (stands_all s w p.low c z) at one_walked.more

        one_sets : Sets rows at (h + sets_most s w c)
        one_sets = rw (stands_all s w p.low c z) at one_walked.stand

        pub one_room : RoomFor rows at (h + sets_most s w c) (sets_most s w x) (rows_most s w x)
        one_room =
            let e : get_or at (h + sets_most s w c) 0 ≤ get_or v.at_begun h 0 + rows_most s w c = rw z at one_walked.row_end in
            room_left v.begun.room (sets_most s w c) (rows_most s w c) one_more one_sets e (omega (arith, one_need (sets_most s w))) (omega (arith, one_need (rows_most s w)))

        pub one_stand : ChildrenStand s w rows at (h + sets_most s w c) (children_of (node_at s.rule x)) h h
        one_stand = rw k (record { placed = omega arith; there = λ q u. one_more.sets q u })

        pub one_out : OutThere s w on ov bl p.kept
        one_out = out_as v.begun.out one_walked.on_long one_walked.ov_long one_walked.bl_long one_walked.few

      module _ {h : ℕ} {rows at on ov bl : List ℕ} {p : Place} where
        pub one_climbs : {rows' at' on' ov' bl' : List ℕ} {r : Place} → p.low ≡ 32 → OwnWalks h rows at rows' at' on ov bl on' ov' bl' p.kept r → Climbs s w x h rows at on ov bl p rows' at' on' ov' bl' r
        one_climbs {rows'} {at'} {on'} {ov'} {bl'} {r} z u =
            record { whole = λ rows0 at0 on0 ov0 bl0 kept0 v. go rows0 at0 on0 ov0 bl0 kept0 (rw k at v) }
          where
            go : (rows0 at0 on0 ov0 bl0 : List ℕ) (kept0 : ℕ) → TreeWalks s w c h rows0 at0 rows at on0 ov0 bl0 on ov bl kept0 p → TreeWalks s w x h rows0 at0 rows' at' on0 ov0 bl0 on' ov' bl' kept0 r
            go rows0 at0 on0 ov0 bl0 kept0 v =
                walks_then v.more (v.keeps z) (λ y q. v.calm y q (omega (arith, calm_below y c one_lower q))) v.on_long v.ov_long v.bl_long u (λ y q. below_one c k y q) (sym one_weight)

        pub one_stuck : p.low < 32 → Climbs s w x h rows at on ov bl p rows at on ov bl p
        one_stuck l =
            record { whole = λ rows0 at0 on0 ov0 bl0 kept0 v. go rows0 at0 on0 ov0 bl0 kept0 (rw k at v) }
          where
            go : (rows0 at0 on0 ov0 bl0 : List ℕ) (kept0 : ℕ) → TreeWalks s w c h rows0 at0 rows at on0 ov0 bl0 on ov bl kept0 p → TreeWalks s w x h rows0 at0 rows at on0 ov0 bl0 on ov bl kept0 p
            go rows0 at0 on0 ov0 bl0 kept0 v =
                walks_stuck v.more v.stand (omega arith) l (omega (arith, v.inside l, one_lower)) (v.told l) (λ y q u. calm y (below_one c k y q) u) v.few v.on_long v.ov_long v.bl_long
              where
                calm : (y : ℕ) → Below s.rule y c ⊎ (y ≡ x) → y < p.low → crowded_now s w y ≡ false
                calm y (inl q) u = v.calm y q u
                calm y (inr e) u = absurd (omega (arith, v.inside l, one_lower))

    -- ---- two children
    pub two_lower : (c d : ℕ) → children_of (node_at s.rule x) ≡ c ∷ d ∷ [] → (c < x) × (d < x)
    two_lower c d k = (below s.rule a ok x o c (rw k first_in), below s.rule a ok x o d (rw k second_in))

    pub two_ordered : {c d : ℕ} {r : Sides} → children_of (node_at s.rule x) ≡ c ∷ d ∷ [] → Ordered f c d r → TwoOrdered s.rule x c d r.first r.second r.swapped
    two_ordered {c} {d} k h =
        let e = sides_are s.rule a ok f weights_there x c d o k h in
        record { children = k; swapped = e.0; first = e.1; second = e.2 }

    -- c and d are its children, left first; i is walked first, j second
    module _ {c d i j : ℕ} {t : Bool} (order : TwoOrdered s.rule x c d i j t) where
      k : children_of (node_at s.rule x) ≡ c ∷ d ∷ []
      k = order.children

      ei : i ≡ heavier s.rule c d
      ei = order.first

      ej : j ≡ lighter s.rule c d
      ej = order.second

      pub first_lower : i < x
      first_lower = below s.rule a ok x o i (rw (k, ei) (sides_in s.rule c d).0)

      pub second_lower : j < x
      second_lower = below s.rule a ok x o j (rw (k, ej) (sides_in s.rule c d).1)

      pub first_inside : i < node_count s.rule
      first_inside = omega (arith, first_lower)

      pub second_inside : j < node_count s.rule
      second_inside = omega (arith, second_lower)

      two_weight : weight s.rule (kept_of s w) x ≡ weight s.rule (kept_of s w) i + weight s.rule (kept_of s w) j + kept_of s w x
      two_weight = rw (ei, ej) (omega (arith, weight_two s.rule a ok (kept_of s w) x c d o k))

      two_need : (size : ℕ → ℕ) → need s.rule size x ≡ max (need s.rule size i) (max (size i + need s.rule size j) (size i + size j + size x))
      two_need size = rw (ei, ej) (rw k at (need_step s.rule a ok size x o))

      two_cases : (y : ℕ) → Below s.rule y x → (Below s.rule y i ⊎ Below s.rule y j) ⊎ (y ≡ x)
      two_cases y q = rw (ei, ej) (below_two c d k y q)

      first_is : first_of s.rule x ≡ i
      first_is = rw (k, ei) refl

      module _ {rows at on ov bl : List ℕ} {h : ℕ} {p : Place} (v : FirstWalked s w rows at on ov bl x h p) (m : ℕ) (em : m ≡ standing s w p.low i) where
        two_walked : TreeWalks s w i h v.rows_begun v.at_begun rows at v.on_begun v.ov_begun v.bl_begun on ov bl v.kept_begun p
        two_walked = rw first_is at v.walked

        first_more : Extended v.rows_begun v.at_begun rows at h m (turn_set s w i)
        first_more = rw em two_walked.more

        first_sets : Sets rows at (h + m)
        first_sets = rw em two_walked.stand

        first_end : get_or at (h + m) 0 ≤ get_or v.at_begun h 0 + cond (eqb p.low 32) (rows_most s w i) 0
        first_end = rw em two_walked.row_end

        pub second_ready : TreeReady s w rows at on ov bl j (h + m) p.kept
        second_ready =
            record {
              inside = omega (arith, second_lower);
              room = room_left v.begun.room m (cond (eqb p.low 32) (rows_most s w i) 0) first_more first_sets first_end (omega (arith, em, some_most (eqb p.low 32) (sets_most s w i), two_need (sets_most s w))) (omega (arith, some_most (eqb p.low 32) (rows_most s w i), two_need (rows_most s w)));
              out = out_as v.begun.out two_walked.on_long two_walked.ov_long two_walked.bl_long two_walked.few;
            }

        pub first_few : h + m < 4294967296
        first_few = omega (arith, v.begun.room.few, em, some_most (eqb p.low 32) (sets_most s w i), two_need (sets_most s w))

        module _ {rows' at' on' ov' bl' : List ℕ} {q : Place} (u : TreeWalks s w j (h + m) rows at rows' at' on ov bl on' ov' bl' p.kept q) (zp : p.low ≡ 32) (zq : q.low ≡ 32) where
          m_is : m ≡ sets_most s w i
          m_is = em ∙ stands_all s w p.low i zp

          second_more : Extended rows at rows' at' (h + m) (sets_most s w j) (turn_set s w j)
          second_more = rw (stands_all s w q.low j zq) at u.more

          second_sets : Sets rows' at' (h + m + sets_most s w j)
          second_sets = rw (stands_all s w q.low j zq) at u.stand

          pub two_few : h + m + sets_most s w j < 4294967296
          two_few = omega (arith, v.begun.room.few, m_is, two_need (sets_most s w))

          pub two_room : RoomFor rows' at' (h + m + sets_most s w j) (sets_most s w x) (rows_most s w x)
          two_room =
              let e : get_or at (h + m) 0 ≤ get_or v.at_begun h 0 + rows_most s w i = rw zp at first_end in
              let e' : get_or at' (h + m + sets_most s w j) 0 ≤ get_or at (h + m) 0 + rows_most s w j = rw zq at u.row_end in
              let mid : RoomFor rows at (h + m) (sets_most s w j + sets_most s w x) (rows_most s w j + rows_most s w x) = room_left v.begun.room m (rows_most s w i) first_more first_sets e (rw m_is (beside (need s.rule (sets_most s w) x) (need s.rule (sets_most s w) i) (need s.rule (sets_most s w) j) (sets_most s w i) (sets_most s w j) (sets_most s w x) (two_need (sets_most s w)))) (omega (arith, two_need (rows_most s w))) in
              room_left mid (sets_most s w j) (rows_most s w j) second_more second_sets e' (omega arith) (omega arith)

          pub two_stand : ChildrenStand s w rows' at' (h + m + sets_most s w j) (children_of (node_at s.rule x)) (cond t (h + m) h) (cond t h (h + m))
          two_stand = rw (k, order.swapped) (sides_stand c d h (h + m) (left_lighter s.rule c d) (subst (λ (n : ℕ). ChildStands s w rows' at' (h + m + sets_most s w j) n h) ei own_i) (subst (λ (n : ℕ). ChildStands s w rows' at' (h + m + sets_most s w j) n (h + m)) ej own_j))
            where
              own_i : ChildStands s w rows' at' (h + m + sets_most s w j) i h
              own_i = record { placed = omega (arith, m_is); there = λ n l. second_more.earlier (h + n) (omega (arith, m_is)) ∙ first_more.sets n (omega (arith, m_is)) }

              own_j : ChildStands s w rows' at' (h + m + sets_most s w j) j (h + m)
              own_j = record { placed = omega arith; there = λ n l. second_more.sets n l }

          pub two_out : OutThere s w on' ov' bl' q.kept
          two_out = out_as second_ready.out u.on_long u.ov_long u.bl_long u.few

      module _ {h : ℕ} {rows at on ov bl : List ℕ} {p : Place} (m : ℕ) (em : m ≡ standing s w p.low i) {rows' at' on' ov' bl' : List ℕ} {q : Place}
          (u : TreeWalks s w j (h + m) rows at rows' at' on ov bl on' ov' bl' p.kept q) where
        module _ {rows0 at0 on0 ov0 bl0 : List ℕ} {kept0 : ℕ} (v : TreeWalks s w i h rows0 at0 rows at on0 ov0 bl0 on ov bl kept0 p) where
          both_stay : Extended rows0 at0 rows' at' h 0 (turn_set s w x)
          both_stay =
              let one : Extended rows0 at0 rows at h 0 (turn_set s w x) = stays_below v.more h (omega arith) in
              replaced one (stays_below u.more h (omega arith))

          two_stuck_walks : (r : Place) → r.kept ≡ q.kept → r.low ≡ min p.low q.low → r.low < 32 → TreeWalks s w x h rows0 at0 rows' at' on0 ov0 bl0 on' ov' bl' kept0 r
          two_stuck_walks r ek el l =
              walks_stuck both_stay u.stand (omega arith) l (omega (arith, (lows (tested (ltb p.low q.low))).0)) (lows (tested (ltb p.low q.low))).1 (λ y n t. calm y (two_cases y n) t)
              (omega (arith, u.few, v.on_long)) (u.on_long ∙ v.on_long) (u.ov_long ∙ v.ov_long) (u.bl_long ∙ v.bl_long)
            where
              lows : Tested (ltb p.low q.low) → (r.low < x) × (crowded_now s w r.low ≡ true)
              lows (passed t) =
                  let n : p.low < q.low = ltb-true p.low q.low t in
                  let e : p.low ≡ r.low = omega arith in
                  (omega (arith, v.inside (omega arith), first_lower), rw e at (v.told (omega arith)))
              lows (failed t) =
                  let n : q.low ≤ p.low = ltb-false p.low q.low t in
                  let e : q.low ≡ r.low = omega arith in
                  (omega (arith, u.inside (omega arith), second_lower), rw e at (u.told (omega arith)))

              calm : (y : ℕ) → (Below s.rule y i ⊎ Below s.rule y j) ⊎ (y ≡ x) → y < r.low → crowded_now s w y ≡ false
              calm y (inl (inl n)) t = v.calm y n (omega arith)
              calm y (inl (inr n)) t = u.calm y n (omega arith)
              calm y (inr e) t = absurd (omega (arith, (lows (tested (ltb p.low q.low))).0))

          two_walks : p.low ≡ 32 → q.low ≡ 32 → {rows'' at'' on'' ov'' bl'' : List ℕ} {r : Place} → OwnWalks h rows' at' rows'' at'' on' ov' bl' on'' ov'' bl'' q.kept r
              → TreeWalks s w x h rows0 at0 rows'' at'' on0 ov0 bl0 on'' ov'' bl'' kept0 r
          two_walks zp zq t =
              walks_then both_stay (keeps_then (v.keeps zp) v.on_long (u.keeps zq)) (λ y n. calm y n) (u.on_long ∙ v.on_long) (u.ov_long ∙ v.ov_long) (u.bl_long ∙ v.bl_long) t (λ y n. two_cases y n) (sym two_weight)
            where
              calm : (y : ℕ) → Below s.rule y i ⊎ Below s.rule y j → crowded_now s w y ≡ false
              calm y (inl n) = v.calm y n (omega (arith, calm_below y i first_lower n))
              calm y (inr n) = u.calm y n (omega (arith, calm_below y j second_lower n))

        pub two_stuck : (r : Place) → r.kept ≡ q.kept → r.low ≡ min p.low q.low → r.low < 32 → Climbs s w x h rows at on ov bl p rows' at' on' ov' bl' r
        two_stuck r ek el l = record { whole = λ rows0 at0 on0 ov0 bl0 kept0 v. two_stuck_walks (rw first_is at v) r ek el l }

        pub two_climbs : p.low ≡ 32 → q.low ≡ 32 → {rows'' at'' on'' ov'' bl'' : List ℕ} {r : Place} → OwnWalks h rows' at' rows'' at'' on' ov' bl' on'' ov'' bl'' q.kept r
            → Climbs s w x h rows at on ov bl p rows'' at'' on'' ov'' bl'' r
        two_climbs zp zq t = record { whole = λ rows0 at0 on0 ov0 bl0 kept0 v. two_walks (rw first_is at v) zp zq t }
