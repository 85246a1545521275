-- A node without children is an atom.
use Prim.Native.Nat.{ℕ}
use mathlib.Core.Path.{◌≡◌}
use mathlib.Core.Bool.{Bool, true, false, cond}
use mathlib.Core.List.{[], cons≢nil}
use lib.Dec.{eqb}
use borrow.Author.Tests.{eqb-true}
use Rattle.meaning.specs.RuleFile.{node_of, children_of, terms_of_body, sides_of, comparison_of, window_of}
use Rattle.meaning.specs.Readings.{twos_complement}
use Rattle.meaning.specs.declared.Comparison.{Comparison}
use Rattle.meaning.specs.declared.Comparison.TheVariants.{ShiftedLess}
use Rattle.meaning.specs.declared.Sides.{Sides}
use Rattle.meaning.specs.declared.Window.{Window}
use Rattle.meaning.specs.declared.Head.{Head}
use Rattle.meaning.specs.declared.Body.{Body}
use Rattle.meaning.specs.declared.Node.TheVariants.{Atom, And, AndNot, Keep, Or, Exists, Previous, Next, Since, NotSince, Until, NotUntil, Once, Eventually}
use Rattle.meaning.proofs.Points.{Tested, passed, failed, tested}
use Rattle.meaning.proofs.Shapes.{node_1}

-- every other kind has some
others : (l r : ℕ) (c d : Comparison) (s : Sides) (v : ℕ) (w : Window) (k2 k3 k4 k5 k6 k7 k8 k9 k10 k11 k12 k13 k15 : Bool)
    → children_of (cond k2 (And l r) (cond k3 (AndNot l r) (cond k4 (Keep l c s) (cond k5 (Or l r) (cond k6 (Exists l v) (cond k7 (Previous l w) (cond k8 (Next l w) (cond k9 (Since l r w) (cond k10 (NotSince l r w) (cond k11 (Until l r w) (cond k12 (NotUntil l r w) (cond k13 (Once l w) (cond k15 (Keep l d s) (Eventually l w)))))))))))))) ≡ [] → ⊥
others l r c d s v w true k3 k4 k5 k6 k7 k8 k9 k10 k11 k12 k13 k15 e = cons≢nil e
others l r c d s v w false true k4 k5 k6 k7 k8 k9 k10 k11 k12 k13 k15 e = cons≢nil e
others l r c d s v w false false true k5 k6 k7 k8 k9 k10 k11 k12 k13 k15 e = cons≢nil e
others l r c d s v w false false false true k6 k7 k8 k9 k10 k11 k12 k13 k15 e = cons≢nil e
others l r c d s v w false false false false true k7 k8 k9 k10 k11 k12 k13 k15 e = cons≢nil e
others l r c d s v w false false false false false true k8 k9 k10 k11 k12 k13 k15 e = cons≢nil e
others l r c d s v w false false false false false false true k9 k10 k11 k12 k13 k15 e = cons≢nil e
others l r c d s v w false false false false false false false true k10 k11 k12 k13 k15 e = cons≢nil e
others l r c d s v w false false false false false false false false true k11 k12 k13 k15 e = cons≢nil e
others l r c d s v w false false false false false false false false false true k12 k13 k15 e = cons≢nil e
others l r c d s v w false false false false false false false false false false true k13 k15 e = cons≢nil e
others l r c d s v w false false false false false false false false false false false true k15 e = cons≢nil e
others l r c d s v w false false false false false false false false false false false false true e = cons≢nil e
others l r c d s v w false false false false false false false false false false false false false e = cons≢nil e

pub childless : (a : ℕ) (h : Head) (w : Body) → children_of (node_of a h w) ≡ [] → node_of a h w ≡ Atom h.left (terms_of_body a h.mask w)
unfolding node_of
childless a h w e = go (tested (eqb h.kind 1))
  where
    go : Tested (eqb h.kind 1) → node_of a h w ≡ Atom h.left (terms_of_body a h.mask w)
    go (passed t) = node_1 a h w (eqb-true h.kind 1 t)
    go (failed t) =
        absurd
        (others h.left h.right (comparison_of h.right) (ShiftedLess (twos_complement w.word2)) (sides_of h.mask w) w.word0 (window_of w)
        (eqb h.kind 2) (eqb h.kind 3) (eqb h.kind 4) (eqb h.kind 5) (eqb h.kind 6) (eqb h.kind 7) (eqb h.kind 8) (eqb h.kind 9) (eqb h.kind 10) (eqb h.kind 11) (eqb h.kind 12) (eqb h.kind 13) (eqb h.kind 15) (rw t at e))
