-- A node without children: it is an atom, which settles the point that is added in a call and has no pairs, and whose sets stand where they were made.
use Prim.Native.Nat.{ℕ, suc, ◌+◌, ◌-◌, ◌*◌, ◌≤◌, ◌<◌}
use native.Mathlib.Omega.{arith}
use mathlib.Core.Path.{◌≡◌, refl, sym, ap, subst, ◌∙◌}
use mathlib.Core.Bool.{true, cond, ◌&&◌}
use mathlib.Core.Logic.{◌⊎◌, inl, inr}
use mathlib.Core.List.{List, [], ◌∷◌, cons≢nil}
use lib.ListN.{length, get_or}
use lib.Dec.{eqb}
use borrow.Author.Tests.{eqb-true}
use Rattle.meaning.specs.Lists.{all}
use Rattle.meaning.specs.Order.{ascending}
use Rattle.meaning.specs.Log.{relation_in, point}
use Rattle.meaning.specs.Formula.{atom, terms_of, free, lowest_of}
use Rattle.meaning.specs.Evaluator.{atom_rows}
use Rattle.meaning.specs.View.{view_of, children_in}
use Rattle.meaning.specs.RuleFile.{node_count, node_at, formula_at, arity, children_of}
use Rattle.meaning.specs.declared.Point.{Point}
use Rattle.meaning.specs.declared.Stamp.{Stamp}
use Rattle.meaning.specs.declared.LogEnd.{LogEnd}
use Rattle.meaning.specs.declared.Terms.{Terms}
use Rattle.meaning.specs.declared.Node.{Node}
use Rattle.meaning.specs.declared.Node.TheVariants.{Atom}
use Rattle.meaning.specs.declared.Times.TheVariants.{Here}
use Rattle.method.specs.Stored.{Stored}
use Rattle.method.specs.Settle.{Inputs, settle, has_pairs}
use Rattle.method.specs.Counts.{advance}
use Rattle.method.specs.Step.{new_pairs, points_added}
use Rattle.method.specs.WellFormed.{pair_fits, pairs_fit}
use Rattle.method.proofs.Views.{Branches, none, single, double, viewed}
use Rattle.method.proofs.Bounds.{before-step, after_step}
use Rattle.rowset.specs.Sets.{Added}
use Rattle.rowset.proofs.Growing.{added_as, set_made}
use Rattle.kinds.specs.Kinds.{rows_with}
use Rattle.kinds.proofs.Atoms.{atom_reads}
use Rattle.room.specs.Room.{set_in, set_at, SetsInOrder}
use Rattle.room.specs.declared.Child.{Child}
use Rattle.room.proofs.SetsInOrder.{mark_before}
use Rattle.node_sets.specs.NodeEntries.{set_entries}
use Rattle.node_sets.specs.Blocks.{MovedDown, RoomToKeep, EntriesPut}
use Rattle.since.specs.Since.{held_in}
use Rattle.settling.specs.Inputs.{PointSettled}
use Rattle.node_step.specs.declared.Own.{Own}
use Rattle.node_step.specs.Figures.{CallReady}
use Rattle.node_step.specs.Walks.{set_words}
use Rattle.node_step.specs.Parts.{OwnFigures, BlockKept}
use Rattle.node_step.proofs.Keeping.{noted, room_then, nothing_put, block_put}
use Rattle.node_step.proofs.Numbers.{a, ok, before_is, after_is}

-- what an atom gives at a point, whatever its children's sets would be
pub atom_settled : {b w rows at times : List ℕ} {base : Point} {old_ages old_values : List ℕ} {left right : Child} {lowest : ℕ} {start i : Point} {node : Node} {r : ℕ} {t : Terms} {old out : List ℕ} {k : ℕ}
    → node ≡ Atom r t → arity b r ≡ t.count → Added lowest old 0 out k (atom_rows (terms_of t) (relation_in r (rows_with t.count w))) → PointSettled b w rows at times base old_ages old_values left right lowest start i node out k
unfolding settle
atom_settled {b} {w} {r = r} {t = t} e many h =
    rw e (record { gives = λ v s. set_made (added_as h (ap (atom_rows (terms_of t)) (atom_reads b w r t.count many ∙ sym (s.event r)))) })

module _ (node : Node) (e : children_of node ≡ []) where
  here_alone : (view_of node).times ≡ Here
  here_alone = go (viewed (λ y. atom 0 []) node).shape
    where
      go : Branches (view_of node) → (view_of node).times ≡ Here
      go (none c t) = t
      go (single x c) = absurd (cons≢nil (sym (ap children_in c) ∙ e))
      go (double x y c t) = absurd (cons≢nil (sym (ap children_in c) ∙ e))

  -- it settles every point that is there
  advance_alone : (τ : Point → Stamp) (g : LogEnd) (c : ℕ → ℕ) (from : ℕ) → advance τ g c from (view_of node) ≡ g.points
  advance_alone τ g c from = rw (e, here_alone)

  -- and has no pairs at a new point
  pairs_alone : (v : Inputs) (lowest : ℕ) (start : Point) (n : ℕ) (held : List (List ℕ)) → new_pairs v lowest node start (suc n) held ≡ []
  pairs_alone v lowest start n held = rw here_alone

  -- nor had any before
  pub none_held : (b : List ℕ) (x : ℕ) {ps : List (List ℕ)} → pairs_fit b x (view_of node) ps ≡ true → ps ≡ []
  none_held b x {ps} fit = empty ps (eqb-true (length ps) 0 (subst (λ t. cond (has_pairs t) (ascending (suc (lowest_of (free (formula_at b x)))) ps && all (pair_fits b x (view_of node).window) ps) (eqb (length ps) 0) ≡ true) here_alone fit))
    where
      empty : (qs : List (List ℕ)) → length qs ≡ 0 → qs ≡ []
      empty [] e = refl
      empty (q ∷ qs) e = absurd (omega arith)

  -- its block is its rows
  pub leaf_kept : {b w rows at times : List ℕ} {base : Point} {old_ages old_values : List ℕ} {left right : Child} {first : ℕ} {o : Own} {on ov on₁ ov₁ : List ℕ} {x kept k₁ : ℕ} → (o.before ≡ o.after) ⊎ (o.before + 1 ≡ o.after) → held_in old_ages old_values ≡ [] → RoomToKeep on ov kept
      → EntriesPut x 0 on ov on₁ ov₁ kept k₁ (set_entries x (set_at rows at first o.low) o.want (o.after - o.want.0)) → (bl : List ℕ) (l : set_words + x * 3 + 3 ≤ length bl)
      → BlockKept b w rows at times base old_ages old_values left right first o node on ov bl x kept on₁ ov₁ (noted bl x l kept k₁ k₁) k₁
  leaf_kept {old_ages = old_ages} {old_values = old_values} {o = o} new held r p bl l = record { gives = λ v s. rw (none v new) (block_put r p (nothing_put (room_then r p)) bl l) }
    where
      none : (v : Inputs) → (o.before ≡ o.after) ⊎ (o.before + 1 ≡ o.after) → new_pairs v o.lowest node (point o.before) (o.after - o.before) (held_in old_ages old_values) ≡ []
      none v (inl e) = let m : o.after - o.before ≡ 0 = omega arith in rw m held
      none v (inr e) = let m : o.after - o.before ≡ suc 0 = omega arith in rw m (pairs_alone v o.lowest (point o.before) 0 (held_in old_ages old_values))

-- so that a call settles the point of it that is added
pub new_are : {s : Stored} {w os ns vs stamps f : List ℕ} (g : CallReady s w os ns vs stamps f) (x : ℕ) (l : x < node_count s.rule) → children_of (node_at s.rule x) ≡ [] → {o : Own} → OwnFigures f x o → o.before + points_added w ≡ o.after
new_are {s} {w} g x l e h =
    let few = g.formed.few_times in
    let many = g.formed.times_many in
    omega (
      arith,
      before_is g x l h,
      after_is g x l h,
      before-step s (a g) (ok g) few many x l ∙ advance_alone (node_at s.rule x) e _ _ _ _,
      after_step s (a g) (ok g) few many w x l ∙ advance_alone (node_at s.rule x) e _ _ _ _,
    )

-- sets that are moved by none stay
pub not_moved : {rows at : List ℕ} {n m : ℕ} → SetsInOrder rows at (n + m) → MovedDown rows at rows at n (n - n) m
not_moved {rows} {at} {n} {m} laid =
    let z : n + (n - n) ≡ n = omega arith in
    record {
      more = record { rows_long = refl; at_long = refl; laid = laid; marks = λ q l. refl; earlier = λ q l. refl; sets = λ k l. ap (λ q. set_in rows at (q + k)) (sym z) };
      end = omega (arith, mark_before laid n (omega arith), ap (λ q. get_or at q 0) z, ap (λ q. get_or at (q + m) 0) z);
    }
