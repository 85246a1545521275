-- A walk through the nodes' entries in slices: a node's rows and pairs, and a loop over nodes.
use Prim.Native.Nat.{ℕ, ◌+◌, ◌-◌, ◌*◌, ◌≤◌, ◌<◌}
use native.Mathlib.Numerals.{add-one}
use native.Mathlib.Omega.{arith}
use mathlib.Core.Path.{◌≡◌, refl, sym, subst, ap, ap₂, ◌∙◌}
use mathlib.Core.Bool.{Bool, true, false, ◌&&◌, true≢false}
use mathlib.Core.List.{List, []}
use lib.ListN.{length, length-map}
use lib.Dec.{eqb}
use borrow.Author.Count.{below_more}
use borrow.Author.Tests.{eqb-true, eqb-false}
use Rattle.meaning.specs.Log.{points_from}
use Rattle.meaning.specs.Lists.{all, range}
use Rattle.meaning.specs.View.{view_of}
use Rattle.meaning.specs.RuleFile.{node_at}
use Rattle.meaning.specs.declared.Point.{Point}
use Rattle.meaning.proofs.Lists.{range_length}
use Rattle.meaning.proofs.Points.{Tested, passed, failed, tested, first}
use Rattle.meaning.proofs.Rows.{all_points}
use Rattle.method.specs.WellFormed.{set_fits, pairs_fit}
use Rattle.kinds.specs.Kinds.{pairs_from}
use Rattle.entries.specs.Entries.{entry_at, entries_from, is_word, has_owner}
use Rattle.formed.specs.Tests.{MaskOf, SetsFit}
use Rattle.formed.specs.Walk.{behind, sets_rest, rows_found, pairs_found, nodes_rest, runs_fit, entries_fit}
use Rattle.formed.specs.Steps.{rest_at, OwnFirst, NodeTo}
use Rattle.formed.proofs.Masks.{rows_same}
use Rattle.formed.proofs.Walks.{walk_passes, walk_ends, walk_fits}
use Rattle.formed.proofs.Runs.{PairsFound, SetsTo}
use Rattle.formed.proofs.Ordered.{Streaked, sets_ordered}

-- ---- a node: its sets and its pairs

module _ (os : List ℕ) {ns vs : List ℕ} {count cursor x : ℕ} {low : Point} {n mask : ℕ} {b : List ℕ} (m : MaskOf b x mask) where
  -- rows that aren't in order don't fit
  pub sets_stuck : {end : Point} {to : ℕ} → cursor ≤ count → Streaked (is_word os (x * 2)) cursor count to → n ≡ end.0 - low.0 → (SetsFit ns vs cursor to low end mask → ⊥) → OwnFirst b x low n (rest_at os ns vs count cursor) → ⊥
  unfolding runs_fit
  sets_stuck {end} {to} l run e wrong o =
      let rows : Point → List (List ℕ) = rows_found x low (rest_at os ns vs count cursor) in
      wrong
      (sets_ordered os ns vs count cursor x to low mask l run n
      (λ j u v. rows_same m (rows j) ∙ (all_points (λ j. set_fits b x (rows j)) low.0 n).0 (first (all (λ j. set_fits b x (rows j)) (points_from low n)) (pairs_fit b x (view_of (node_at b x)) (pairs_found x (sets_rest x low n (rest_at os ns vs count cursor)))) o.fit) j u v) end e o.ends)

module _ {os ns vs : List ℕ} {count cursor x : ℕ} {low : Point} {n mask : ℕ} {b : List ℕ} (m : MaskOf b x mask) where
  module _ {next r : ℕ} (s : SetsTo os ns vs count cursor x low n mask next) (f : PairsFound os ns vs count next x r) where
    runs_are : runs_fit b x low n (rest_at os ns vs count cursor) ≡ pairs_fit b x (view_of (node_at b x)) (pairs_from ns vs next (r - next))
    unfolding runs_fit
    runs_are =
        let rows : Point → List (List ℕ) = rows_found x low (rest_at os ns vs count cursor) in
        ap₂ (λ t ps. t && pairs_fit b x (view_of (node_at b x)) ps)
        ((all_points (λ j. set_fits b x (rows j)) low.0 n).1 (λ j u o. sym (rows_same m (rows j)) ∙ s.fit j u o))
        (ap (pairs_found x) (sym s.rest) ∙ f.pairs)

    pub node_to : pairs_fit b x (view_of (node_at b x)) (pairs_from ns vs next (r - next)) ≡ true → NodeTo os ns vs count cursor b x low n next r
    node_to t =
        record {
          rows_first = s.onward;
          pairs_last = f.onward;
          within = f.within;
          paired = s.rest;
          rest = f.rest ∙ ap (behind (has_owner x 1)) s.rest;
          fit = runs_are ∙ t;
        }

    pub pairs_stuck : pairs_fit b x (view_of (node_at b x)) (pairs_from ns vs next (r - next)) ≡ false → OwnFirst b x low n (rest_at os ns vs count cursor) → ⊥
    pairs_stuck t o = true≢false (sym o.fit ∙ runs_are ∙ t)

-- ---- the nodes below x

not_so : (t : Bool) → (t ≡ true → ⊥) → false ≡ t
not_so true h = absurd (h refl)
not_so false h = refl

pub record NodesGoing (os ns vs : List ℕ) (count : ℕ) (b : List ℕ) (low : ℕ → Point) (end : ℕ → ℕ) (next x : ℕ) : Type 0 where
  pub within : next ≤ count
  pub rest : rest_at os ns vs count next ≡ nodes_rest low end (entries_from os ns vs 0 count) x
  pub fit : (y : ℕ) → y < x → runs_fit b y (low y) (end y - (low y).0) (nodes_rest low end (entries_from os ns vs 0 count) y) ≡ true

module _ (os ns vs : List ℕ) (count : ℕ) (b : List ℕ) (low : ℕ → Point) (end : ℕ → ℕ) where
  pub nodes_none : NodesGoing os ns vs count b low end 0 0
  nodes_none = let z : count - 0 ≡ count = omega arith in record { within = omega arith; rest = ap (entries_from os ns vs 0) z; fit = λ y l. absurd (omega arith) }

  module _ {next x : ℕ} (g : NodesGoing os ns vs count b low end next x) where
    pub nodes_more : {p r : ℕ} → NodeTo os ns vs count next b x (low x) (end x - (low x).0) p r → NodesGoing os ns vs count b low end r (x + 1)
    nodes_more s =
        record {
          within = s.within;
          rest = s.rest ∙ ap (λ es. behind (has_owner x 1) (sets_rest x (low x) (end x - (low x).0) es)) g.rest ∙ ap (nodes_rest low end (entries_from os ns vs 0 count)) (sym (add-one x));
          fit = below_more (λ y. runs_fit b y (low y) (end y - (low y).0) (nodes_rest low end (entries_from os ns vs 0 count) y) ≡ true) x g.fit (ap (runs_fit b x (low x) (end x - (low x).0)) (sym g.rest) ∙ s.fit);
        }

    pub nodes_stuck : (nodes : ℕ) → x < nodes → (OwnFirst b x (low x) (end x - (low x).0) (rest_at os ns vs count next) → ⊥) → false ≡ entries_fit b low end (entries_from os ns vs 0 count) nodes
    nodes_stuck nodes o s =
        not_so (entries_fit b low end (entries_from os ns vs 0 count) nodes)
        (λ t. s (subst (OwnFirst b x (low x) (end x - (low x).0)) (sym g.rest) (walk_fits b low end (entries_from os ns vs 0 count) nodes t x o)))

    -- behind the last node the cursor is at the end, or there are entries left
    nodes_done : next ≡ count → rest_at os ns vs count next ≡ []
    unfolding entries_from
    nodes_done e = let z : count - next ≡ 0 = omega arith in rw z

    nodes_left : rest_at os ns vs count next ≡ [] → next ≡ count
    unfolding entries_from
    nodes_left e = let h : count - next ≡ 0 = sym (length-map (range next (count - next)) (entry_at os ns vs) ∙ range_length next (count - next)) ∙ ap length e in omega (arith, g.within)

    module _ (nodes : ℕ) (e : x ≡ nodes) where
      ends : nodes_rest low end (entries_from os ns vs 0 count) nodes ≡ rest_at os ns vs count next
      ends = sym (g.rest ∙ ap (nodes_rest low end (entries_from os ns vs 0 count)) e)

      pub nothing_left : eqb next count ≡ true → nodes_rest low end (entries_from os ns vs 0 count) nodes ≡ []
      nothing_left t = ends ∙ nodes_done (eqb-true next count t)

      pub nodes_all : eqb next count ≡ entries_fit b low end (entries_from os ns vs 0 count) nodes
      nodes_all = go (tested (eqb next count))
        where
          go : Tested (eqb next count) → eqb next count ≡ entries_fit b low end (entries_from os ns vs 0 count) nodes
          go (passed t) = t ∙ sym (walk_passes b low end (entries_from os ns vs 0 count) nodes (λ y o. g.fit y (omega arith)) (nothing_left t))
          go (failed t) = t ∙ not_so (entries_fit b low end (entries_from os ns vs 0 count) nodes) (λ w. eqb-false next count t (nodes_left (sym ends ∙ walk_ends b low end (entries_from os ns vs 0 count) nodes w)))
