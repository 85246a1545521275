-- Words handed down to the children of the first x nodes.
use Prim.Native.Nat.{ℕ, ◌+◌, ◌-◌, ◌≤◌, ◌<◌, min}
use native.Mathlib.Nat.{eq-or-lt_of_le}
use native.Mathlib.Omega.{arith}
use mathlib.Core.Path.{◌≡◌, sym, ap, ◌∙◌}
use mathlib.Core.Bool.{Bool, true, false, cond}
use mathlib.Core.Logic.{◌⊎◌, inl, inr}
use mathlib.Core.List.{List, Memᴰ}
use lib.ListN.{length, get_or, set}
use lib.Seq.{get_or-set_same, get_or-set_other}
use lib.Dec.{eqb}
use borrow.Author.Tests.{eqb-true, eqb-false}
use Rattle.meaning.specs.Outcome.{given}
use Rattle.meaning.specs.RuleFile.{Accepted, checking, node_count, node_at, children_of, is_one_of, last_node}
use Rattle.meaning.specs.Kept.{parent_of}
use Rattle.meaning.specs.declared.Point.{Point}
use Rattle.meaning.specs.View.{view_of}
use Rattle.meaning.proofs.Points.{Tested, passed, failed, tested}
use Rattle.method.specs.Step.{first_wanted, wanted_from}
use Rattle.method.proofs.Parents.{parent_is, has_parent, is_one_of_lem}
use Rattle.wanted.specs.Wants.{Wants}

-- the children of the first x nodes have their words
pub record Handed (b counts out : List ℕ) (x : ℕ) : Type 0 where
  pub words : (y : ℕ) → y < node_count b - 1 → parent_of b y < x → get_or out y 0 ≡ min (get_or counts y 0) (first_wanted (view_of (node_at b (parent_of b y))).times (get_or counts (parent_of b y) 0)).0

module _ (b : List ℕ) (a : Accepted) (ok : checking b ≡ given a) (counts : List ℕ) where
  pub handed_more : {x : ℕ} {first : Point} {cs out out' : List ℕ} → Handed b counts out x → x < node_count b → first ≡ first_wanted (view_of (node_at b x)).times (get_or counts x 0) → cs ≡ children_of (node_at b x)
      → Wants counts first cs out out' → Handed b counts out' (x + 1)
  handed_more {x} {first} {cs} {out} {out'} h o f e w = record { words = λ y l u. go y l u (tested (is_one_of (children_of (node_at b x)) y)) }
    where
      now : (y : ℕ) → get_or out' y 0 ≡ cond (is_one_of (children_of (node_at b x)) y) (min (get_or counts y 0) first.0) (get_or out y 0)
      now y = rw e at (w.words y)

      go : (y : ℕ) → y < node_count b - 1 → parent_of b y < x + 1 → Tested (is_one_of (children_of (node_at b x)) y)
          → get_or out' y 0 ≡ min (get_or counts y 0) (first_wanted (view_of (node_at b (parent_of b y))).times (get_or counts (parent_of b y) 0)).0
      go y l u (passed t) =
          let p : parent_of b y ≡ x = parent_is b a ok x o y ((is_one_of_lem (children_of (node_at b x)) y).0 t) in
          rw p (rw t at (now y) ∙ ap (λ (p : Point). min (get_or counts y 0) p.0) f)
      go y l u (failed t) = (rw t at (now y)) ∙ h.words y l (let le : parent_of b y ≤ x = omega arith in under (eq-or-lt_of_le le) (has_parent b a ok y l))
        where
          under : (parent_of b y ≡ x) ⊎ (parent_of b y < x) → (z : ℕ) × (z < node_count b) × Memᴰ y (children_of (node_at b z)) → parent_of b y < x
          under (inr v) (z, k, m) = v
          under (inl q) (z, k, m) =
              let p : parent_of b y ≡ z = parent_is b a ok z k y m in
              let s : z ≡ x = omega arith in
              let r : is_one_of (children_of (node_at b z)) y ≡ true = (is_one_of_lem (children_of (node_at b z)) y).1 m in
              let d : is_one_of (children_of (node_at b x)) y ≡ true = rw s at r in
              let z : ◌≡◌ {A = Bool} true false = sym d ∙ t in
              let w : ◌≡◌ {A = ℕ} 0 1 = cc in
              absurd (omega arith)

  -- every node has its word, the last node its count
  pub handed_all : {n last : ℕ} {out : List ℕ} → node_count b ≤ n → last ≡ last_node b → last < length out → Handed b counts out n → (x : ℕ) → x < node_count b → get_or (set out last (get_or counts last 0)) x 0 ≡ (wanted_from b (λ y. get_or counts y 0) x).0
  unfolding wanted_from
  handed_all {n} {last} {out} e at l h x o = go (tested (eqb x (last_node b)))
    where
      go : Tested (eqb x (last_node b)) → get_or (set out last (get_or counts last 0)) x 0 ≡ cond (eqb x (last_node b)) (get_or counts x 0) (min (get_or counts x 0) (first_wanted (view_of (node_at b (parent_of b x))).times (get_or counts (parent_of b x) 0)).0)
      go (passed t) = let s : x ≡ last = eqb-true x (last_node b) t ∙ sym at in rw t (rw s (get_or-set_same out last (get_or counts last 0) 0 l))
      go (failed t) =
          let ne : x ≡ last_node b → ⊥ = eqb-false x (last_node b) t in
          let le : x ≤ node_count b - 1 = omega arith in
          let below : x < node_count b - 1 = other (eq-or-lt_of_le le) ne in
          rw t (get_or-set_other out last x (get_or counts last 0) 0 (λ s. ne (s ∙ at)) ∙ h.words x below (parent_under x below))
        where
          other : (x ≡ node_count b - 1) ⊎ (x < node_count b - 1) → (x ≡ last_node b → ⊥) → x < node_count b - 1
          other (inl s) ne = absurd (ne s)
          other (inr s) ne = s

          parent_under : (y : ℕ) → y < node_count b - 1 → parent_of b y < n
          parent_under y l = let (z, k, m) = has_parent b a ok y l in let p : parent_of b y ≡ z = parent_is b a ok z k y m in omega arith
