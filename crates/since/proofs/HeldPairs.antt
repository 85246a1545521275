-- What held pairs give: a turn of the loop over them, with the window's bounds as numbers, that the whole is what the definitions say, and that it is a run where nothing is asked of left.
use Prim.Native.Nat.{ℕ, zero, suc, ◌+◌, ◌-◌, ◌≤◌, ◌<◌, min}
use mathlib.Core.Path.{◌≡◌, refl, sym, ap, ap₂, fun_ext, ◌∙◌}
use mathlib.Core.Bool.{Bool, true, cond, ◌&&◌, and-false}
use mathlib.Core.List.{List, [], ◌∷◌, ◌++◌, map}
use native.Mathlib.Omega.{arith}
use lib.ListN.{get_or, drop}
use lib.Dec.{ltb, leb}
use borrow.Author.Tests.{ltb-true, ltb-false, lt-ltb, le-ltb, lt-leb, le-leb}
use Rattle.meaning.specs.Lists.{range, select}
use Rattle.meaning.specs.Log.{point, points_from}
use Rattle.meaning.specs.Formula.{in_window}
use Rattle.meaning.specs.Evaluator.{cut_to, valuation_of}
use Rattle.meaning.specs.Kept.{below_end, counted_age}
use Rattle.meaning.specs.declared.Point.{Point}
use Rattle.meaning.specs.declared.Window.{Window}
use Rattle.meaning.proofs.Points.{Tested, passed, failed, tested}
use Rattle.method.proofs.Lists.{select_map, map-map, select_run}
use Rattle.rowset.specs.Rows.{row_at, rows_from}
use Rattle.rowset.specs.declared.Gathered.{Gathered}
use Rattle.rowset.specs.Sets.{Gathers}
use Rattle.rowset.proofs.Growing.{Turns, goes_on, Gathering, gathers_on, map_select_one}
use Rattle.kinds.specs.Kinds.{in_mask, pair_at, pairs_from}
use Rattle.meaning.specs.declared.Left.{Left}
use Rattle.meaning.specs.declared.Left.TheVariants.{Always}
use Rattle.room.specs.declared.Child.{Child}
use Rattle.untils.proofs.Passing.{nothing-asked}
use Rattle.untils.specs.Until.{leads}
use Rattle.pairs.specs.Pairs.{PairsAdded, Below, grown_pairs}
use Rattle.since.specs.Parts.{older_rows, older_pairs, below_of, most_of}
use Rattle.since.proofs.Ages.{in_window_lem, counted_as}
use Rattle.pairs.proofs.Growing.{pairs_then}

-- chosen items, each made into another, over two tests and two ways that agree on each item
map_select_same : {A B : Type 0} (at : ℕ → A) (p q : A → Bool) (f g : A → B) → ((k : ℕ) → cond (p (at k)) (f (at k) ∷ []) [] ≡ cond (q (at k)) (g (at k) ∷ []) [])
    → (a n : ℕ) → map f (select p (map at (range a n))) ≡ map g (select q (map at (range a n)))
map_select_same at p q f g h a zero = refl
map_select_same at p q f g h a (suc n) =
    map_select_one p f (at a) (map at (range (suc a) n))
    ∙ ap₂ (λ us vs. us ++ vs) (h a) (map_select_same at p q f g h (suc a) n)
    ∙ sym (map_select_one q g (at a) (map at (range (suc a) n)))

module _ (by : ℕ) (passed : List ℕ → Bool) where
  -- by a window's bounds
  abbrev row_stays : ℕ → ℕ → List ℕ → Bool
  row_stays from below p = (leb from (get_or p 0 0 + by) && ltb (get_or p 0 0 + by) below) && passed (drop 1 p)

  abbrev pub bound_rows : ℕ → ℕ → List (List ℕ) → List (List ℕ)
  bound_rows from below held = map (drop 1) (select (row_stays from below) held)

  abbrev pair_stays : ℕ → List ℕ → Bool
  pair_stays below p = ltb (get_or p 0 0 + by) below && passed (drop 1 p)

  abbrev pub bound_pairs : ℕ → ℕ → List (List ℕ) → List (List ℕ)
  bound_pairs below most held = map (λ p. min (get_or p 0 0 + by) most ∷ drop 1 p) (select (pair_stays below) held)

  -- a turn of the loop over them, where the age, grown, is one that two words can make
  module _ (w : Window) {lowest : ℕ} (ages values : List ℕ) {old : ℕ} {all : List (List ℕ)} {x : ℕ} (few : get_or ages x 0 + by < 8589934592) where
    pub row_turned : {from below : ℕ} → from ≡ w.start → below ≡ below_of w → {out₀ : List ℕ} {n : Gathered} {out : List ℕ} {k : Gathered} → Gathering lowest (pair_at ages values) (older_rows w by passed) old out₀ n all out k x → x < old
        → {out' : List ℕ} {k' : Gathered} {t : Bool} {u : List ℕ} → Gathers lowest out k out' k' (cond t (u ∷ []) []) → t ≡ ((leb from (get_or ages x 0 + by) && ltb (get_or ages x 0 + by) below) && passed u) → u ≡ row_at values x
        → Gathering lowest (pair_at ages values) (older_rows w by passed) old out₀ n all out' k' (x + 1)
    row_turned e f t l {u = u} h g is =
        let age : ℕ = get_or ages x 0 + by in
        let stays : List ℕ → Bool = λ p. in_window w (get_or p 0 0 + by) && passed (drop 1 p) in
        gathers_on t (λ p. cond (stays p) (drop 1 p ∷ []) []) (map_select_one stays (drop 1)) l h
        (ap (λ b. cond b (u ∷ []) []) (g ∙ ap (λ b. b && passed u) (in_window_lem w age few e f)) ∙ ap (λ v. cond (in_window w age && passed v) (v ∷ []) []) is)

    pub pair_turned : {below most : ℕ} → below ≡ below_of w → most ≡ most_of w → {ages₀ values₀ : List ℕ} {n : Gathered} {ages' values' : List ℕ} {k : Gathered} → Turns (pair_at ages values) (older_pairs w by passed) old all (PairsAdded lowest ages₀ values₀ n ages' values' k) x → x < old
        → {ages'' values'' : List ℕ} {k' : Gathered} {t : Bool} {u : List ℕ} → PairsAdded lowest ages' values' k ages'' values'' k' (cond t ((min (get_or ages x 0 + by) most ∷ u) ∷ []) []) → t ≡ (ltb (get_or ages x 0 + by) below && passed u) → u ≡ row_at values x
        → Turns (pair_at ages values) (older_pairs w by passed) old all (PairsAdded lowest ages₀ values₀ n ages'' values'' k') (x + 1)
    pair_turned {most = most} e f t l {u = u} h g is =
        let age : ℕ = get_or ages x 0 + by in
        let stays : List ℕ → Bool = λ p. below_end w (get_or p 0 0 + by) && passed (drop 1 p) in
        let grown : List ℕ → List ℕ = λ p. counted_age w (get_or p 0 0 + by) ∷ drop 1 p in
        goes_on t (λ p. cond (stays p) (grown p ∷ []) []) (map_select_one stays grown) l (pairs_then h)
        (ap (λ b. cond b ((min age most ∷ u) ∷ []) []) g ∙ counted_as w age few (λ a. (a ∷ u) ∷ []) (passed u) e f ∙ ap (λ v. cond (below_end w age && passed v) ((counted_age w age ∷ v) ∷ []) []) is)

  -- by the window, where ages and what they grow by are words
  module _ (w : Window) (ages values : List ℕ) (small : by < 4294967296) (words : (k : ℕ) → get_or ages k 0 < 4294967296) where
    pub rows_bound : {from below : ℕ} → from ≡ w.start → below ≡ below_of w → (a n : ℕ) → bound_rows from below (pairs_from ages values a n) ≡ older_rows w by passed (pairs_from ages values a n)
    unfolding pairs_from
    rows_bound {from} {below} e f a n =
        map_select_same (pair_at ages values) (row_stays from below) (λ p. in_window w (get_or p 0 0 + by) && passed (drop 1 p)) (drop 1) (drop 1)
        (λ k. ap (λ t. cond (t && passed (row_at values k)) (row_at values k ∷ []) []) (in_window_lem w (get_or ages k 0 + by) (omega (arith, words k)) e f)) a n

    pub pairs-bound : {below most : ℕ} → below ≡ below_of w → most ≡ most_of w → (a n : ℕ) → bound_pairs below most (pairs_from ages values a n) ≡ older_pairs w by passed (pairs_from ages values a n)
    unfolding pairs_from
    pairs-bound {below} {most} e f a n =
        map_select_same (pair_at ages values) (pair_stays below) (λ p. below_end w (get_or p 0 0 + by) && passed (drop 1 p))
        (λ p. min (get_or p 0 0 + by) most ∷ drop 1 p) (λ p. counted_age w (get_or p 0 0 + by) ∷ drop 1 p)
        (λ k. counted_as w (get_or ages k 0 + by) (omega (arith, words k)) (λ age. (age ∷ row_at values k) ∷ []) (passed (row_at values k)) e f) a n

-- where nothing is asked of left, every row passes
pub all_pass : {left : Left} → left ≡ Always → (a : Child) (sets : Point → List (List ℕ)) (from end : Point) → (λ (u : List ℕ). true) ≡ leads left a sets from end
all_pass e a sets from end = fun_ext (λ u. nothing-asked a.lowest sets (cut_to (in_mask a.mask) (valuation_of u)) (points_from from (end.0 - from.0)) e)

-- what is chosen of a run by a test on the numbers of its items
run_chosen : {A : Type 0} (at : ℕ → A) (p : A → Bool) (n lo hi : ℕ) → lo ≤ hi → hi ≤ n → ((k : ℕ) → k < n → p (at k) ≡ (leb lo k && ltb k hi)) → select p (map at (range 0 n)) ≡ map at (range lo (hi - lo))
run_chosen at p n lo hi a b h =
    ap (select p) (sym (map-map (λ (j : Point). at j.0) point (range 0 n)))
    ∙ select_map p (λ (j : Point). at j.0) (points_from (point 0) n)
    ∙ ap (map (λ (j : Point). at j.0)) (select_run (λ j. p (at j.0)) n lo hi a b (λ j l. h j.0 l))
    ∙ map-map (λ (j : Point). at j.0) point (range lo (hi - lo))

-- where nothing is asked of left and ages don't fall, the pairs that stay are a run
module _ (by : ℕ) (ages values : List ℕ) {n : ℕ} where
  pub rows_run : {from below lo hi : ℕ} → Below ages n by below hi → Below ages hi by from lo → rows_from values lo (hi - lo) ≡ bound_rows by (λ _. true) from below (pairs_from ages values 0 n)
  unfolding pairs_from rows_from
  rows_run {from} {below} {lo} {hi} b c =
      sym
      (ap (map (drop 1)) (run_chosen (pair_at ages values) (row_stays by (λ _. true) from below) n lo hi c.most b.most (λ k l. go k l (tested (ltb k lo)) (tested (ltb k hi))))
      ∙ map-map (drop 1) (pair_at ages values) (range lo (hi - lo)))
    where
      go : (k : ℕ) → k < n → Tested (ltb k lo) → Tested (ltb k hi) → ((leb from (get_or ages k 0 + by) && ltb (get_or ages k 0 + by) below) && true) ≡ (leb lo k && ltb k hi)
      go k l (passed d) t =
          let m = ltb-true k lo d in
          rw (lt-leb lo k m, lt-leb from (get_or ages k 0 + by) (c.below k m))
      go k l (failed d) (passed t) =
          let m = ltb-false k lo d in
          let o = ltb-true k hi t in
          rw (le-leb lo k m, le-leb from (get_or ages k 0 + by) (c.others k m o), t, lt-ltb (get_or ages k 0 + by) below (b.below k o))
      go k l (failed d) (failed t) = rw (t, le-ltb (get_or ages k 0 + by) below (b.others k (ltb-false k hi t) l), and-false (leb from (get_or ages k 0 + by)), and-false (leb lo k))

  pub pairs_run : (most : ℕ) {below m : ℕ} → Below ages n by below m → grown_pairs by most (pairs_from ages values 0 m) ≡ bound_pairs by (λ _. true) below most (pairs_from ages values 0 n)
  unfolding pairs_from
  pairs_run most {below} {m} b =
      let e : m - 0 ≡ m = omega arith in
      sym (ap (grown_pairs by most) (run_chosen (pair_at ages values) (pair_stays by (λ _. true) below) n 0 m (omega arith) b.most (λ k l. go k l (tested (ltb k m))) ∙ ap (λ z. map (pair_at ages values) (range 0 z)) e))
    where
      go : (k : ℕ) → k < n → Tested (ltb k m) → (ltb (get_or ages k 0 + by) below && true) ≡ (leb 0 k && ltb k m)
      go k l (passed d) = rw (le-leb 0 k (omega arith), d, lt-ltb (get_or ages k 0 + by) below (b.below k (ltb-true k m d)))
      go k l (failed d) = rw (d, le-ltb (get_or ages k 0 + by) below (b.others k (ltb-false k m d) l), and-false (leb 0 k))

select_all : (us : List (List ℕ)) → us ≡ select (λ _. true) us
select_all [] = refl
select_all (u ∷ us) = ap (λ vs. u ∷ vs) (select_all us)

pub every_row : {left : Left} → left ≡ Always → (a : Child) (sets : Point → List (List ℕ)) (from end : Point) (us : List (List ℕ)) → us ≡ select (leads left a sets from end) us
every_row e a sets from end us = select_all us ∙ ap (λ p. select p us) (all_pass e a sets from end)
