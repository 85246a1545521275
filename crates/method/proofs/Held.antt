-- Entries of nodes in turn, each its sets at a run of points and then its pairs: what is read off them again is those sets and pairs.
use Prim.Native.Nat.{ℕ, ◌+◌, ◌≤◌, ◌<◌}
use native.Mathlib.Omega.{arith}
use mathlib.Core.Path.{◌≡◌, refl, sym, ◌∙◌, ap}
use mathlib.Core.Bool.{Bool, true, ◌&&◌}
use mathlib.Core.Logic.{◌⊎◌, inl, inr}
use mathlib.Core.List.Memᴰ
use mathlib.Core.List.{List, [], ◌∷◌, ◌++◌, map, append-nil, Memᴰ}
use lib.ListN.{get_or, drop}
use lib.Dec.{eqb}
use borrow.Author.Tests.{eqb-true, eq-eqb, ne_eqb}
use Rattle.meaning.specs.Lists.{range, select, gather}
use Rattle.meaning.specs.Log.{point, points_from}
use Rattle.meaning.specs.Kept.{Entry, entry_of}
use Rattle.meaning.specs.declared.Point.{Point}
use Rattle.meaning.proofs.Points.{first, second, select_append, passed, failed, tested}
use Rattle.meaning.proofs.Rows.{gather_at}
use Rattle.method.specs.Stored.{held, held_pairs}
use Rattle.method.proofs.Lists.{select_no, select_yes, map_same, map_id, select_gather, select_map, map-map, gather_one, gather_none, gather_points}

-- node x has sets at points from low x on, as many as n x says, and pairs
module _ (low : ℕ → Point) (n : ℕ → ℕ) (sets : ℕ → Point → List (List ℕ)) (pairs : ℕ → List (List ℕ)) where
  abbrev pub sets_of : ℕ → List Entry
  sets_of x = gather (λ j. map (entry_of x 0 j.0) (sets x j)) (points_from (low x) (n x))

  abbrev pub pairs_of : ℕ → List Entry
  pairs_of x = map (λ p. entry_of x 1 (get_or p 0 0) (drop 1 p)) (pairs x)

  abbrev pub node_of : ℕ → List Entry
  node_of x = sets_of x ++ pairs_of x

  pub of_node : (y : ℕ) (e : Entry) → Memᴰ e (node_of y) → e.node ≡ y
  of_node y e m = go (Memᴰ.append_cases (sets_of y) m)
    where
      go : Memᴰ e (sets_of y) ⊎ Memᴰ e (pairs_of y) → e.node ≡ y
      go (inl k) =
          let (j, i, h) = gather_at (λ j. map (entry_of y 0 j.0) (sets y j)) (points_from (low y) (n y)) k in
          let (u, p, d) = Memᴰ.of_map (entry_of y 0 j.0) (sets y j) h in
          ap (λ (z : Entry). z.node) (sym d)
      go (inr k) =
          let (q, p, d) = Memᴰ.of_map (λ p. entry_of y 1 (get_or p 0 0) (drop 1 p)) (pairs y) k in
          ap (λ (z : Entry). z.node) (sym d)

  module _ (nodes x : ℕ) (o : x < nodes) where
    -- a test that asks for node x selects from node x's entries alone
    from_node : (q : Entry → Bool) → ((e : Entry) → q e ≡ true → e.node ≡ x) → select q (gather node_of (range 0 nodes)) ≡ select q (sets_of x) ++ select q (pairs_of x)
    from_node q only =
        select_gather q node_of (range 0 nodes)
        ∙ gather_one (λ y. select q (node_of y)) x 0 nodes (omega arith) (omega arith)
        (λ y u v d. select_no q (node_of y) (λ e m. elim (tested (q e)) [ passed t ↦ absurd (d (sym (of_node y e m) ∙ only e t)) | failed t ↦ t ]))
        ∙ select_append q (sets_of x) (pairs_of x)

    pub held_is : (j : Point) → (low x).0 ≤ j.0 → j.0 < (low x).0 + n x → held (gather node_of (range 0 nodes)) x j ≡ sets x j
    unfolding held
    held_is j u l =
        ap (map (λ e. e.values)) (from_node asked (λ e t. eqb-true e.node x (search (first, second))) ∙ ap (λ es. select asked (sets_of x) ++ es) none ∙ append-nil (select asked (sets_of x)) ∙ here)
        ∙ map-map (λ e. e.values) (entry_of x 0 j.0) (sets x j) ∙ map_same (sets x j)
      where
        asked : Entry → Bool
        asked e = eqb e.node x && eqb e.mark 0 && eqb e.number j.0

        none : select asked (pairs_of x) ≡ []
        none = select_map asked (λ p. entry_of x 1 (get_or p 0 0) (drop 1 p)) (pairs x) ∙ ap (map (λ p. entry_of x 1 (get_or p 0 0) (drop 1 p))) (select_no _ (pairs x) (λ p m. rw (eq-eqb x x refl)))

        rows_at : ℕ → List Entry
        rows_at k = select asked (map (entry_of x 0 k) (sets x (point k)))

        other : (k : ℕ) → (k ≡ j.0 → ⊥) → rows_at k ≡ []
        other k d = select_map asked (entry_of x 0 k) (sets x (point k)) ∙ ap (map (entry_of x 0 k)) (select_no _ (sets x (point k)) (λ p m. rw (eq-eqb x x refl, ne_eqb k j.0 d)))

        same : rows_at j.0 ≡ map (entry_of x 0 j.0) (sets x j)
        same = select_map asked (entry_of x 0 j.0) (sets x j) ∙ ap (map (entry_of x 0 j.0)) (select_yes _ (sets x j) (λ p. rw (eq-eqb x x refl, eq-eqb j.0 j.0 refl)))

        here : select asked (sets_of x) ≡ map (entry_of x 0 j.0) (sets x j)
        here =
            select_gather asked (λ k. map (entry_of x 0 k.0) (sets x k)) (points_from (low x) (n x))
            ∙ gather_points (λ k. select asked (map (entry_of x 0 k.0) (sets x k))) (low x).0 (n x)
            ∙ gather_one rows_at j.0 (low x).0 (n x) u l (λ k p q d. other k d) ∙ same

    pub held_pairs_is : ((p : List ℕ) → Memᴰ p (pairs x) → get_or p 0 0 ∷ drop 1 p ≡ p) → held_pairs (gather node_of (range 0 nodes)) x ≡ pairs x
    unfolding held_pairs
    held_pairs_is whole =
        ap (map (λ e. e.number ∷ e.values)) (from_node asked (λ e t. eqb-true e.node x (search first)) ∙ ap (λ es. es ++ select asked (pairs_of x)) none ∙ here)
        ∙ map-map (λ e. e.number ∷ e.values) (λ p. entry_of x 1 (get_or p 0 0) (drop 1 p)) (pairs x) ∙ map_id _ (pairs x) whole
      where
        asked : Entry → Bool
        asked e = eqb e.node x && eqb e.mark 1

        none : select asked (sets_of x) ≡ []
        none =
            select_gather asked (λ k. map (entry_of x 0 k.0) (sets x k)) (points_from (low x) (n x))
            ∙ gather_points (λ k. select asked (map (entry_of x 0 k.0) (sets x k))) (low x).0 (n x)
            ∙ gather_none _ (low x).0 (n x)
            (λ k u v. select_map asked (entry_of x 0 k) (sets x (point k)) ∙ ap (map (entry_of x 0 k)) (select_no _ (sets x (point k)) (λ p m. rw (eq-eqb x x refl))))

        here : select asked (pairs_of x) ≡ pairs_of x
        here = select_map asked (λ p. entry_of x 1 (get_or p 0 0) (drop 1 p)) (pairs x) ∙ ap (map (λ p. entry_of x 1 (get_or p 0 0) (drop 1 p))) (select_yes _ (pairs x) (λ p. rw (eq-eqb x x refl)))
