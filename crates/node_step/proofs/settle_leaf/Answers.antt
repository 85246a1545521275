-- `settle_leaf` meets its contract: the rows that the atom has, put behind the others, are its set; of a notice it has none to settle.
use native.Mathlib.Omega.{arith}
use mathlib.Core.Path.{◌≡◌, refl, sym, ◌∙◌}
use Rattle.method.specs.Step.{points_added}
use Rattle.method.proofs.Bounds.{one_added}
use Rattle.node_step.proofs.Going.{next_settled}
use Rattle.node_step.proofs.Leaf.{atom_settled}
use Rattle.node_step.proofs.settle_leaf.Goals as goal

-- a notice adds no point
pub returns-then-points_added-eq0 : goal.returns-then-points_added-eq0
returns-then-points_added-eq0 c = let z = sym c.points_added.ensures ∙ c.if-points_added-eq0.true in
    record { one = λ e. absurd (omega (arith, z, e)); none = λ e. (refl, refl, refl) }

pub atom_at-atom-requires : goal.atom_at-atom-requires
atom_at-atom-requires c = (c.requires.leaf_ready.long, c.requires.leaf_ready.node, c.requires.leaf_ready.alone)

pub atom-k-requires : goal.atom-k-requires
atom-k-requires c = record { event_there = c.requires.leaf_ready.event; set_room = c.requires.set_room }

pub push_set-requires : goal.push_set-requires
push_set-requires c = record { set_room = record { most = c.requires.set_room.most; there = omega (arith, c.requires.set_room.there, c.out-1.given) }; space = c.requires.leaf_ready.space ((let it : points_added c.args.event.now ≡ 1 = let w = c.args.event.now in omega (arith, c.points_added.ensures, c.if-points_added-eq0.false, one_added w) in it)) }

pub shape_of-rows : goal.shape_of-rows
shape_of-rows c = c.push_set.ensures.stay.rows_long

pub shape_of-at : goal.shape_of-at
shape_of-at c = c.push_set.ensures.stay.at_long

pub shape_of-out : goal.shape_of-out
shape_of-out c = c.out-1.given

pub returns : goal.returns
returns c = let (is, many) = c.atom_at-atom.ensures in
    record {
      one = λ e times base old_ages old_values left right start i. next_settled (atom_settled is many c.atom-k.ensures) c.push_set.ensures;
      none = λ e. absurd (omega (arith, e, (let it : points_added c.args.event.now ≡ 1 = let w = c.args.event.now in omega (arith, c.points_added.ensures, c.if-points_added-eq0.false, one_added w) in it)));
    }
