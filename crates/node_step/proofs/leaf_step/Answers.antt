-- `leaf_step` meets its contract: it is the step of a node whose children's sets are none, which settles the point that is added, keeps no pairs and moves no set.
use Prim.Native.Nat.{◌+◌, ◌-◌, ◌≤◌}
use native.Mathlib.Omega.{arith}
use mathlib.Core.Path.{◌≡◌, refl, ◌∙◌}
use mathlib.Core.Bool.{true}
use mathlib.Core.Logic.{◌⊎◌, inl, inr}
use mathlib.Core.List.{◌++◌}
use lib.ListN.{length, drop}
use Rattle.meaning.specs.Log.{point}
use Rattle.meaning.specs.RuleFile.{node_at}
use Rattle.meaning.proofs.Accepted.{accepted}
use Rattle.method.specs.Step.{points_added}
use Rattle.method.proofs.Bounds.{some_added}
use Rattle.room.specs.declared.Child.{Child}
use Rattle.node_step.specs.Figures.{called}
use Rattle.node_step.specs.Walks.{set_words}
use Rattle.node_step.specs.Parts.{NextSettled, PointsSettled}
use Rattle.node_step.proofs.Numbers.{Numbers, figures_at, numbers, load_ready}
use Rattle.node_step.proofs.Going.{one_space, none_settled, one_more, told_settled}
use Rattle.node_step.proofs.Keeping.{set_room, table_stays, room_stays, sets_ready, room_then, nothing_put, rising}
use Rattle.node_step.proofs.Stepping.{Loads, base, old_ages, old_values, pairs_fit_lem, points_ready, whole, block_ready}
use Rattle.node_step.proofs.Ending.{step-crowded, step_kept}
use Rattle.node_step.proofs.Leaf.{none_held, leaf_kept, new_are, not_moved}
use Rattle.node_step.proofs.leaf_step.Goals as goal

abbrev no_child : Child
no_child = record { first = 0; low = point 0; count = 0; mask = 0; lowest = 0 }

pub own_figures-own-requires : goal.own_figures-own-requires
own_figures-own-requires c = figures_at c.requires.call_ready c.args.x c.requires.x_bound.0

pub overflow_sub-loaded : goal.overflow_sub-loaded
overflow_sub-loaded c = omega (arith, ((let it : Numbers c.args.log.points c.args.x (length c.args.stamps.now) (length c.args.owners.now) (length c.args.numbers.now) (length c.args.values.now) (length c.args.figures.now) c.own_figures-own.result = numbers c.requires.call_ready c.args.x c.requires.x_bound.0 c.own_figures-own.ensures in it)).low_before)

pub load_sets-requires : goal.load_sets-requires
load_sets-requires c = load_ready c.requires.call_ready c.args.x c.requires.x_bound.0 c.own_figures-own.ensures c.requires.room_for

pub overflow_add-h : goal.overflow_add-h
overflow_add-h c = omega (arith, (points_ready ((let it : Loads ((called c.args.rule.now c.args.log c.args.stamps.now c.args.owners.now c.args.numbers.now c.args.values.now)) c.args.event.now c.args.owners.now c.args.numbers.now c.args.values.now c.args.stamps.now c.args.figures.now c.args.x c.own_figures-own.result ((record { below = c.args.h; sets = c.args.h; left = c.args.h; right = c.args.h; kept = c.args.kept })) c.args.rows.now c.args.at.now no_child no_child (node_at c.args.rule.now c.args.x) c.load_sets.new.rows c.load_sets.new.at = record { ready = c.requires.call_ready; here = c.requires.x_bound.0; below = omega arith; room = c.requires.room_for; stand = rw c.requires.x_bound.1 tt; figures = c.own_figures-own.ensures; decoded = refl; children = rw c.requires.x_bound.1 tt; read = c.load_sets.ensures } in it))).small)

pub slice_bounds-settle_leaf-start : goal.slice_bounds-settle_leaf-start
slice_bounds-settle_leaf-start c = omega (arith, (let it : set_words ≤ length c.args.blocks.now = omega (arith, c.requires.out_there.table) in it))

pub slice_bounds-settle_leaf-end : goal.slice_bounds-settle_leaf-end
slice_bounds-settle_leaf-end c = omega (arith, (let it : set_words ≤ length c.args.blocks.now = omega (arith, c.requires.out_there.table) in it))

pub settle_leaf-done-requires : goal.settle_leaf-done-requires
settle_leaf-done-requires c = let (a, ok) = c.requires.call_ready.formed.accepted in
    record { leaf_ready = record { long = (accepted _ a ok).long; node = c.requires.x_bound.0; alone = c.requires.x_bound.1; event = c.requires.call_ready.event; space = λ e. one_space (points_ready ((let it : Loads ((called c.args.rule.now c.args.log c.args.stamps.now c.args.owners.now c.args.numbers.now c.args.values.now)) c.args.event.now c.args.owners.now c.args.numbers.now c.args.values.now c.args.stamps.now c.args.figures.now c.args.x c.own_figures-own.result ((record { below = c.args.h; sets = c.args.h; left = c.args.h; right = c.args.h; kept = c.args.kept })) c.args.rows.now c.args.at.now no_child no_child (node_at c.args.rule.now c.args.x) c.load_sets.new.rows c.load_sets.new.at = record { ready = c.requires.call_ready; here = c.requires.x_bound.0; below = omega arith; room = c.requires.room_for; stand = rw c.requires.x_bound.1 tt; figures = c.own_figures-own.ensures; decoded = refl; children = rw c.requires.x_bound.1 tt; read = c.load_sets.ensures } in it))) (omega (arith, (let it : c.own_figures-own.result.before + points_added c.args.event.now ≡ c.own_figures-own.result.after = new_are c.requires.call_ready c.args.x c.requires.x_bound.0 c.requires.x_bound.1 c.own_figures-own.ensures in it), e)) }; set_room = set_room c.args.blocks.now ((let it : set_words ≤ length c.args.blocks.now = omega (arith, c.requires.out_there.table) in it)) }

pub shape_of-rows-then-not-done : goal.shape_of-rows-then-not-done
shape_of-rows-then-not-done c = ((let it : PointsSettled c.args.rule.now c.args.event.now c.load_sets.new.rows c.load_sets.new.at c.args.stamps.now (base ((let it : Loads ((called c.args.rule.now c.args.log c.args.stamps.now c.args.owners.now c.args.numbers.now c.args.values.now)) c.args.event.now c.args.owners.now c.args.numbers.now c.args.values.now c.args.stamps.now c.args.figures.now c.args.x c.own_figures-own.result ((record { below = c.args.h; sets = c.args.h; left = c.args.h; right = c.args.h; kept = c.args.kept })) c.args.rows.now c.args.at.now no_child no_child (node_at c.args.rule.now c.args.x) c.load_sets.new.rows c.load_sets.new.at = record { ready = c.requires.call_ready; here = c.requires.x_bound.0; below = omega arith; room = c.requires.room_for; stand = rw c.requires.x_bound.1 tt; figures = c.own_figures-own.ensures; decoded = refl; children = rw c.requires.x_bound.1 tt; read = c.load_sets.ensures } in it))) (old_ages ((let it : Loads ((called c.args.rule.now c.args.log c.args.stamps.now c.args.owners.now c.args.numbers.now c.args.values.now)) c.args.event.now c.args.owners.now c.args.numbers.now c.args.values.now c.args.stamps.now c.args.figures.now c.args.x c.own_figures-own.result ((record { below = c.args.h; sets = c.args.h; left = c.args.h; right = c.args.h; kept = c.args.kept })) c.args.rows.now c.args.at.now no_child no_child (node_at c.args.rule.now c.args.x) c.load_sets.new.rows c.load_sets.new.at = record { ready = c.requires.call_ready; here = c.requires.x_bound.0; below = omega arith; room = c.requires.room_for; stand = rw c.requires.x_bound.1 tt; figures = c.own_figures-own.ensures; decoded = refl; children = rw c.requires.x_bound.1 tt; read = c.load_sets.ensures } in it))) (old_values ((let it : Loads ((called c.args.rule.now c.args.log c.args.stamps.now c.args.owners.now c.args.numbers.now c.args.values.now)) c.args.event.now c.args.owners.now c.args.numbers.now c.args.values.now c.args.stamps.now c.args.figures.now c.args.x c.own_figures-own.result ((record { below = c.args.h; sets = c.args.h; left = c.args.h; right = c.args.h; kept = c.args.kept })) c.args.rows.now c.args.at.now no_child no_child (node_at c.args.rule.now c.args.x) c.load_sets.new.rows c.load_sets.new.at = record { ready = c.requires.call_ready; here = c.requires.x_bound.0; below = omega arith; room = c.requires.room_for; stand = rw c.requires.x_bound.1 tt; figures = c.own_figures-own.ensures; decoded = refl; children = rw c.requires.x_bound.1 tt; read = c.load_sets.ensures } in it))) no_child no_child (c.args.h + (c.own_figures-own.result.before - c.own_figures-own.result.low.0)) c.own_figures-own.result.lowest (point c.own_figures-own.result.before) (point c.own_figures-own.result.after) (node_at c.args.rule.now c.args.x) c.settle_leaf-done.new.rows c.settle_leaf-done.new.at c.settle_leaf-done.result = elim (some_added c.args.event.now) [ inl z ↦ let (told, rows, at) = c.settle_leaf-done.ensures.none z in none_settled (points_ready ((let it : Loads ((called c.args.rule.now c.args.log c.args.stamps.now c.args.owners.now c.args.numbers.now c.args.values.now)) c.args.event.now c.args.owners.now c.args.numbers.now c.args.values.now c.args.stamps.now c.args.figures.now c.args.x c.own_figures-own.result ((record { below = c.args.h; sets = c.args.h; left = c.args.h; right = c.args.h; kept = c.args.kept })) c.args.rows.now c.args.at.now no_child no_child (node_at c.args.rule.now c.args.x) c.load_sets.new.rows c.load_sets.new.at = record { ready = c.requires.call_ready; here = c.requires.x_bound.0; below = omega arith; room = c.requires.room_for; stand = rw c.requires.x_bound.1 tt; figures = c.own_figures-own.ensures; decoded = refl; children = rw c.requires.x_bound.1 tt; read = c.load_sets.ensures } in it))) (omega (arith, (let it : c.own_figures-own.result.before + points_added c.args.event.now ≡ c.own_figures-own.result.after = new_are c.requires.call_ready c.args.x c.requires.x_bound.0 c.requires.x_bound.1 c.own_figures-own.ensures in it), z)) told rows at | inr e ↦ one_more (points_ready ((let it : Loads ((called c.args.rule.now c.args.log c.args.stamps.now c.args.owners.now c.args.numbers.now c.args.values.now)) c.args.event.now c.args.owners.now c.args.numbers.now c.args.values.now c.args.stamps.now c.args.figures.now c.args.x c.own_figures-own.result ((record { below = c.args.h; sets = c.args.h; left = c.args.h; right = c.args.h; kept = c.args.kept })) c.args.rows.now c.args.at.now no_child no_child (node_at c.args.rule.now c.args.x) c.load_sets.new.rows c.load_sets.new.at = record { ready = c.requires.call_ready; here = c.requires.x_bound.0; below = omega arith; room = c.requires.room_for; stand = rw c.requires.x_bound.1 tt; figures = c.own_figures-own.ensures; decoded = refl; children = rw c.requires.x_bound.1 tt; read = c.load_sets.ensures } in it))) (omega (arith, (let it : c.own_figures-own.result.before + points_added c.args.event.now ≡ c.own_figures-own.result.after = new_are c.requires.call_ready c.args.x c.requires.x_bound.0 c.requires.x_bound.1 c.own_figures-own.ensures in it), e)) ((let it : NextSettled c.args.rule.now c.args.event.now c.load_sets.new.rows c.load_sets.new.at c.args.stamps.now (base ((let it : Loads ((called c.args.rule.now c.args.log c.args.stamps.now c.args.owners.now c.args.numbers.now c.args.values.now)) c.args.event.now c.args.owners.now c.args.numbers.now c.args.values.now c.args.stamps.now c.args.figures.now c.args.x c.own_figures-own.result ((record { below = c.args.h; sets = c.args.h; left = c.args.h; right = c.args.h; kept = c.args.kept })) c.args.rows.now c.args.at.now no_child no_child (node_at c.args.rule.now c.args.x) c.load_sets.new.rows c.load_sets.new.at = record { ready = c.requires.call_ready; here = c.requires.x_bound.0; below = omega arith; room = c.requires.room_for; stand = rw c.requires.x_bound.1 tt; figures = c.own_figures-own.ensures; decoded = refl; children = rw c.requires.x_bound.1 tt; read = c.load_sets.ensures } in it))) (old_ages ((let it : Loads ((called c.args.rule.now c.args.log c.args.stamps.now c.args.owners.now c.args.numbers.now c.args.values.now)) c.args.event.now c.args.owners.now c.args.numbers.now c.args.values.now c.args.stamps.now c.args.figures.now c.args.x c.own_figures-own.result ((record { below = c.args.h; sets = c.args.h; left = c.args.h; right = c.args.h; kept = c.args.kept })) c.args.rows.now c.args.at.now no_child no_child (node_at c.args.rule.now c.args.x) c.load_sets.new.rows c.load_sets.new.at = record { ready = c.requires.call_ready; here = c.requires.x_bound.0; below = omega arith; room = c.requires.room_for; stand = rw c.requires.x_bound.1 tt; figures = c.own_figures-own.ensures; decoded = refl; children = rw c.requires.x_bound.1 tt; read = c.load_sets.ensures } in it))) (old_values ((let it : Loads ((called c.args.rule.now c.args.log c.args.stamps.now c.args.owners.now c.args.numbers.now c.args.values.now)) c.args.event.now c.args.owners.now c.args.numbers.now c.args.values.now c.args.stamps.now c.args.figures.now c.args.x c.own_figures-own.result ((record { below = c.args.h; sets = c.args.h; left = c.args.h; right = c.args.h; kept = c.args.kept })) c.args.rows.now c.args.at.now no_child no_child (node_at c.args.rule.now c.args.x) c.load_sets.new.rows c.load_sets.new.at = record { ready = c.requires.call_ready; here = c.requires.x_bound.0; below = omega arith; room = c.requires.room_for; stand = rw c.requires.x_bound.1 tt; figures = c.own_figures-own.ensures; decoded = refl; children = rw c.requires.x_bound.1 tt; read = c.load_sets.ensures } in it))) no_child no_child (c.args.h + (c.own_figures-own.result.before - c.own_figures-own.result.low.0)) c.own_figures-own.result.lowest (point c.own_figures-own.result.before) (point c.own_figures-own.result.before) (node_at c.args.rule.now c.args.x) c.settle_leaf-done.new.rows c.settle_leaf-done.new.at c.settle_leaf-done.result = c.settle_leaf-done.ensures.one e c.args.stamps.now (base ((let it : Loads ((called c.args.rule.now c.args.log c.args.stamps.now c.args.owners.now c.args.numbers.now c.args.values.now)) c.args.event.now c.args.owners.now c.args.numbers.now c.args.values.now c.args.stamps.now c.args.figures.now c.args.x c.own_figures-own.result ((record { below = c.args.h; sets = c.args.h; left = c.args.h; right = c.args.h; kept = c.args.kept })) c.args.rows.now c.args.at.now no_child no_child (node_at c.args.rule.now c.args.x) c.load_sets.new.rows c.load_sets.new.at = record { ready = c.requires.call_ready; here = c.requires.x_bound.0; below = omega arith; room = c.requires.room_for; stand = rw c.requires.x_bound.1 tt; figures = c.own_figures-own.ensures; decoded = refl; children = rw c.requires.x_bound.1 tt; read = c.load_sets.ensures } in it))) (old_ages ((let it : Loads ((called c.args.rule.now c.args.log c.args.stamps.now c.args.owners.now c.args.numbers.now c.args.values.now)) c.args.event.now c.args.owners.now c.args.numbers.now c.args.values.now c.args.stamps.now c.args.figures.now c.args.x c.own_figures-own.result ((record { below = c.args.h; sets = c.args.h; left = c.args.h; right = c.args.h; kept = c.args.kept })) c.args.rows.now c.args.at.now no_child no_child (node_at c.args.rule.now c.args.x) c.load_sets.new.rows c.load_sets.new.at = record { ready = c.requires.call_ready; here = c.requires.x_bound.0; below = omega arith; room = c.requires.room_for; stand = rw c.requires.x_bound.1 tt; figures = c.own_figures-own.ensures; decoded = refl; children = rw c.requires.x_bound.1 tt; read = c.load_sets.ensures } in it))) (old_values ((let it : Loads ((called c.args.rule.now c.args.log c.args.stamps.now c.args.owners.now c.args.numbers.now c.args.values.now)) c.args.event.now c.args.owners.now c.args.numbers.now c.args.values.now c.args.stamps.now c.args.figures.now c.args.x c.own_figures-own.result ((record { below = c.args.h; sets = c.args.h; left = c.args.h; right = c.args.h; kept = c.args.kept })) c.args.rows.now c.args.at.now no_child no_child (node_at c.args.rule.now c.args.x) c.load_sets.new.rows c.load_sets.new.at = record { ready = c.requires.call_ready; here = c.requires.x_bound.0; below = omega arith; room = c.requires.room_for; stand = rw c.requires.x_bound.1 tt; figures = c.own_figures-own.ensures; decoded = refl; children = rw c.requires.x_bound.1 tt; read = c.load_sets.ensures } in it))) no_child no_child (point c.own_figures-own.result.before) (point c.own_figures-own.result.before) in it)) ] in it)).stay.rows_long ∙ c.load_sets.ensures.more.rows_long

pub shape_of-at-then-not-done : goal.shape_of-at-then-not-done
shape_of-at-then-not-done c = ((let it : PointsSettled c.args.rule.now c.args.event.now c.load_sets.new.rows c.load_sets.new.at c.args.stamps.now (base ((let it : Loads ((called c.args.rule.now c.args.log c.args.stamps.now c.args.owners.now c.args.numbers.now c.args.values.now)) c.args.event.now c.args.owners.now c.args.numbers.now c.args.values.now c.args.stamps.now c.args.figures.now c.args.x c.own_figures-own.result ((record { below = c.args.h; sets = c.args.h; left = c.args.h; right = c.args.h; kept = c.args.kept })) c.args.rows.now c.args.at.now no_child no_child (node_at c.args.rule.now c.args.x) c.load_sets.new.rows c.load_sets.new.at = record { ready = c.requires.call_ready; here = c.requires.x_bound.0; below = omega arith; room = c.requires.room_for; stand = rw c.requires.x_bound.1 tt; figures = c.own_figures-own.ensures; decoded = refl; children = rw c.requires.x_bound.1 tt; read = c.load_sets.ensures } in it))) (old_ages ((let it : Loads ((called c.args.rule.now c.args.log c.args.stamps.now c.args.owners.now c.args.numbers.now c.args.values.now)) c.args.event.now c.args.owners.now c.args.numbers.now c.args.values.now c.args.stamps.now c.args.figures.now c.args.x c.own_figures-own.result ((record { below = c.args.h; sets = c.args.h; left = c.args.h; right = c.args.h; kept = c.args.kept })) c.args.rows.now c.args.at.now no_child no_child (node_at c.args.rule.now c.args.x) c.load_sets.new.rows c.load_sets.new.at = record { ready = c.requires.call_ready; here = c.requires.x_bound.0; below = omega arith; room = c.requires.room_for; stand = rw c.requires.x_bound.1 tt; figures = c.own_figures-own.ensures; decoded = refl; children = rw c.requires.x_bound.1 tt; read = c.load_sets.ensures } in it))) (old_values ((let it : Loads ((called c.args.rule.now c.args.log c.args.stamps.now c.args.owners.now c.args.numbers.now c.args.values.now)) c.args.event.now c.args.owners.now c.args.numbers.now c.args.values.now c.args.stamps.now c.args.figures.now c.args.x c.own_figures-own.result ((record { below = c.args.h; sets = c.args.h; left = c.args.h; right = c.args.h; kept = c.args.kept })) c.args.rows.now c.args.at.now no_child no_child (node_at c.args.rule.now c.args.x) c.load_sets.new.rows c.load_sets.new.at = record { ready = c.requires.call_ready; here = c.requires.x_bound.0; below = omega arith; room = c.requires.room_for; stand = rw c.requires.x_bound.1 tt; figures = c.own_figures-own.ensures; decoded = refl; children = rw c.requires.x_bound.1 tt; read = c.load_sets.ensures } in it))) no_child no_child (c.args.h + (c.own_figures-own.result.before - c.own_figures-own.result.low.0)) c.own_figures-own.result.lowest (point c.own_figures-own.result.before) (point c.own_figures-own.result.after) (node_at c.args.rule.now c.args.x) c.settle_leaf-done.new.rows c.settle_leaf-done.new.at c.settle_leaf-done.result = elim (some_added c.args.event.now) [ inl z ↦ let (told, rows, at) = c.settle_leaf-done.ensures.none z in none_settled (points_ready ((let it : Loads ((called c.args.rule.now c.args.log c.args.stamps.now c.args.owners.now c.args.numbers.now c.args.values.now)) c.args.event.now c.args.owners.now c.args.numbers.now c.args.values.now c.args.stamps.now c.args.figures.now c.args.x c.own_figures-own.result ((record { below = c.args.h; sets = c.args.h; left = c.args.h; right = c.args.h; kept = c.args.kept })) c.args.rows.now c.args.at.now no_child no_child (node_at c.args.rule.now c.args.x) c.load_sets.new.rows c.load_sets.new.at = record { ready = c.requires.call_ready; here = c.requires.x_bound.0; below = omega arith; room = c.requires.room_for; stand = rw c.requires.x_bound.1 tt; figures = c.own_figures-own.ensures; decoded = refl; children = rw c.requires.x_bound.1 tt; read = c.load_sets.ensures } in it))) (omega (arith, (let it : c.own_figures-own.result.before + points_added c.args.event.now ≡ c.own_figures-own.result.after = new_are c.requires.call_ready c.args.x c.requires.x_bound.0 c.requires.x_bound.1 c.own_figures-own.ensures in it), z)) told rows at | inr e ↦ one_more (points_ready ((let it : Loads ((called c.args.rule.now c.args.log c.args.stamps.now c.args.owners.now c.args.numbers.now c.args.values.now)) c.args.event.now c.args.owners.now c.args.numbers.now c.args.values.now c.args.stamps.now c.args.figures.now c.args.x c.own_figures-own.result ((record { below = c.args.h; sets = c.args.h; left = c.args.h; right = c.args.h; kept = c.args.kept })) c.args.rows.now c.args.at.now no_child no_child (node_at c.args.rule.now c.args.x) c.load_sets.new.rows c.load_sets.new.at = record { ready = c.requires.call_ready; here = c.requires.x_bound.0; below = omega arith; room = c.requires.room_for; stand = rw c.requires.x_bound.1 tt; figures = c.own_figures-own.ensures; decoded = refl; children = rw c.requires.x_bound.1 tt; read = c.load_sets.ensures } in it))) (omega (arith, (let it : c.own_figures-own.result.before + points_added c.args.event.now ≡ c.own_figures-own.result.after = new_are c.requires.call_ready c.args.x c.requires.x_bound.0 c.requires.x_bound.1 c.own_figures-own.ensures in it), e)) ((let it : NextSettled c.args.rule.now c.args.event.now c.load_sets.new.rows c.load_sets.new.at c.args.stamps.now (base ((let it : Loads ((called c.args.rule.now c.args.log c.args.stamps.now c.args.owners.now c.args.numbers.now c.args.values.now)) c.args.event.now c.args.owners.now c.args.numbers.now c.args.values.now c.args.stamps.now c.args.figures.now c.args.x c.own_figures-own.result ((record { below = c.args.h; sets = c.args.h; left = c.args.h; right = c.args.h; kept = c.args.kept })) c.args.rows.now c.args.at.now no_child no_child (node_at c.args.rule.now c.args.x) c.load_sets.new.rows c.load_sets.new.at = record { ready = c.requires.call_ready; here = c.requires.x_bound.0; below = omega arith; room = c.requires.room_for; stand = rw c.requires.x_bound.1 tt; figures = c.own_figures-own.ensures; decoded = refl; children = rw c.requires.x_bound.1 tt; read = c.load_sets.ensures } in it))) (old_ages ((let it : Loads ((called c.args.rule.now c.args.log c.args.stamps.now c.args.owners.now c.args.numbers.now c.args.values.now)) c.args.event.now c.args.owners.now c.args.numbers.now c.args.values.now c.args.stamps.now c.args.figures.now c.args.x c.own_figures-own.result ((record { below = c.args.h; sets = c.args.h; left = c.args.h; right = c.args.h; kept = c.args.kept })) c.args.rows.now c.args.at.now no_child no_child (node_at c.args.rule.now c.args.x) c.load_sets.new.rows c.load_sets.new.at = record { ready = c.requires.call_ready; here = c.requires.x_bound.0; below = omega arith; room = c.requires.room_for; stand = rw c.requires.x_bound.1 tt; figures = c.own_figures-own.ensures; decoded = refl; children = rw c.requires.x_bound.1 tt; read = c.load_sets.ensures } in it))) (old_values ((let it : Loads ((called c.args.rule.now c.args.log c.args.stamps.now c.args.owners.now c.args.numbers.now c.args.values.now)) c.args.event.now c.args.owners.now c.args.numbers.now c.args.values.now c.args.stamps.now c.args.figures.now c.args.x c.own_figures-own.result ((record { below = c.args.h; sets = c.args.h; left = c.args.h; right = c.args.h; kept = c.args.kept })) c.args.rows.now c.args.at.now no_child no_child (node_at c.args.rule.now c.args.x) c.load_sets.new.rows c.load_sets.new.at = record { ready = c.requires.call_ready; here = c.requires.x_bound.0; below = omega arith; room = c.requires.room_for; stand = rw c.requires.x_bound.1 tt; figures = c.own_figures-own.ensures; decoded = refl; children = rw c.requires.x_bound.1 tt; read = c.load_sets.ensures } in it))) no_child no_child (c.args.h + (c.own_figures-own.result.before - c.own_figures-own.result.low.0)) c.own_figures-own.result.lowest (point c.own_figures-own.result.before) (point c.own_figures-own.result.before) (node_at c.args.rule.now c.args.x) c.settle_leaf-done.new.rows c.settle_leaf-done.new.at c.settle_leaf-done.result = c.settle_leaf-done.ensures.one e c.args.stamps.now (base ((let it : Loads ((called c.args.rule.now c.args.log c.args.stamps.now c.args.owners.now c.args.numbers.now c.args.values.now)) c.args.event.now c.args.owners.now c.args.numbers.now c.args.values.now c.args.stamps.now c.args.figures.now c.args.x c.own_figures-own.result ((record { below = c.args.h; sets = c.args.h; left = c.args.h; right = c.args.h; kept = c.args.kept })) c.args.rows.now c.args.at.now no_child no_child (node_at c.args.rule.now c.args.x) c.load_sets.new.rows c.load_sets.new.at = record { ready = c.requires.call_ready; here = c.requires.x_bound.0; below = omega arith; room = c.requires.room_for; stand = rw c.requires.x_bound.1 tt; figures = c.own_figures-own.ensures; decoded = refl; children = rw c.requires.x_bound.1 tt; read = c.load_sets.ensures } in it))) (old_ages ((let it : Loads ((called c.args.rule.now c.args.log c.args.stamps.now c.args.owners.now c.args.numbers.now c.args.values.now)) c.args.event.now c.args.owners.now c.args.numbers.now c.args.values.now c.args.stamps.now c.args.figures.now c.args.x c.own_figures-own.result ((record { below = c.args.h; sets = c.args.h; left = c.args.h; right = c.args.h; kept = c.args.kept })) c.args.rows.now c.args.at.now no_child no_child (node_at c.args.rule.now c.args.x) c.load_sets.new.rows c.load_sets.new.at = record { ready = c.requires.call_ready; here = c.requires.x_bound.0; below = omega arith; room = c.requires.room_for; stand = rw c.requires.x_bound.1 tt; figures = c.own_figures-own.ensures; decoded = refl; children = rw c.requires.x_bound.1 tt; read = c.load_sets.ensures } in it))) (old_values ((let it : Loads ((called c.args.rule.now c.args.log c.args.stamps.now c.args.owners.now c.args.numbers.now c.args.values.now)) c.args.event.now c.args.owners.now c.args.numbers.now c.args.values.now c.args.stamps.now c.args.figures.now c.args.x c.own_figures-own.result ((record { below = c.args.h; sets = c.args.h; left = c.args.h; right = c.args.h; kept = c.args.kept })) c.args.rows.now c.args.at.now no_child no_child (node_at c.args.rule.now c.args.x) c.load_sets.new.rows c.load_sets.new.at = record { ready = c.requires.call_ready; here = c.requires.x_bound.0; below = omega arith; room = c.requires.room_for; stand = rw c.requires.x_bound.1 tt; figures = c.own_figures-own.ensures; decoded = refl; children = rw c.requires.x_bound.1 tt; read = c.load_sets.ensures } in it))) no_child no_child (point c.own_figures-own.result.before) (point c.own_figures-own.result.before) in it)) ] in it)).stay.at_long ∙ c.load_sets.ensures.more.at_long

pub shape_of-blocks-then-not-done : goal.shape_of-blocks-then-not-done
shape_of-blocks-then-not-done c = c.blocks-1.given.1

pub returns-then-not-done : goal.returns-then-not-done
returns-then-not-done c = step-crowded ((let it : Loads ((called c.args.rule.now c.args.log c.args.stamps.now c.args.owners.now c.args.numbers.now c.args.values.now)) c.args.event.now c.args.owners.now c.args.numbers.now c.args.values.now c.args.stamps.now c.args.figures.now c.args.x c.own_figures-own.result ((record { below = c.args.h; sets = c.args.h; left = c.args.h; right = c.args.h; kept = c.args.kept })) c.args.rows.now c.args.at.now no_child no_child (node_at c.args.rule.now c.args.x) c.load_sets.new.rows c.load_sets.new.at = record { ready = c.requires.call_ready; here = c.requires.x_bound.0; below = omega arith; room = c.requires.room_for; stand = rw c.requires.x_bound.1 tt; figures = c.own_figures-own.ensures; decoded = refl; children = rw c.requires.x_bound.1 tt; read = c.load_sets.ensures } in it)) (told_settled ((let it : PointsSettled c.args.rule.now c.args.event.now c.load_sets.new.rows c.load_sets.new.at c.args.stamps.now (base ((let it : Loads ((called c.args.rule.now c.args.log c.args.stamps.now c.args.owners.now c.args.numbers.now c.args.values.now)) c.args.event.now c.args.owners.now c.args.numbers.now c.args.values.now c.args.stamps.now c.args.figures.now c.args.x c.own_figures-own.result ((record { below = c.args.h; sets = c.args.h; left = c.args.h; right = c.args.h; kept = c.args.kept })) c.args.rows.now c.args.at.now no_child no_child (node_at c.args.rule.now c.args.x) c.load_sets.new.rows c.load_sets.new.at = record { ready = c.requires.call_ready; here = c.requires.x_bound.0; below = omega arith; room = c.requires.room_for; stand = rw c.requires.x_bound.1 tt; figures = c.own_figures-own.ensures; decoded = refl; children = rw c.requires.x_bound.1 tt; read = c.load_sets.ensures } in it))) (old_ages ((let it : Loads ((called c.args.rule.now c.args.log c.args.stamps.now c.args.owners.now c.args.numbers.now c.args.values.now)) c.args.event.now c.args.owners.now c.args.numbers.now c.args.values.now c.args.stamps.now c.args.figures.now c.args.x c.own_figures-own.result ((record { below = c.args.h; sets = c.args.h; left = c.args.h; right = c.args.h; kept = c.args.kept })) c.args.rows.now c.args.at.now no_child no_child (node_at c.args.rule.now c.args.x) c.load_sets.new.rows c.load_sets.new.at = record { ready = c.requires.call_ready; here = c.requires.x_bound.0; below = omega arith; room = c.requires.room_for; stand = rw c.requires.x_bound.1 tt; figures = c.own_figures-own.ensures; decoded = refl; children = rw c.requires.x_bound.1 tt; read = c.load_sets.ensures } in it))) (old_values ((let it : Loads ((called c.args.rule.now c.args.log c.args.stamps.now c.args.owners.now c.args.numbers.now c.args.values.now)) c.args.event.now c.args.owners.now c.args.numbers.now c.args.values.now c.args.stamps.now c.args.figures.now c.args.x c.own_figures-own.result ((record { below = c.args.h; sets = c.args.h; left = c.args.h; right = c.args.h; kept = c.args.kept })) c.args.rows.now c.args.at.now no_child no_child (node_at c.args.rule.now c.args.x) c.load_sets.new.rows c.load_sets.new.at = record { ready = c.requires.call_ready; here = c.requires.x_bound.0; below = omega arith; room = c.requires.room_for; stand = rw c.requires.x_bound.1 tt; figures = c.own_figures-own.ensures; decoded = refl; children = rw c.requires.x_bound.1 tt; read = c.load_sets.ensures } in it))) no_child no_child (c.args.h + (c.own_figures-own.result.before - c.own_figures-own.result.low.0)) c.own_figures-own.result.lowest (point c.own_figures-own.result.before) (point c.own_figures-own.result.after) (node_at c.args.rule.now c.args.x) c.settle_leaf-done.new.rows c.settle_leaf-done.new.at c.settle_leaf-done.result = elim (some_added c.args.event.now) [ inl z ↦ let (told, rows, at) = c.settle_leaf-done.ensures.none z in none_settled (points_ready ((let it : Loads ((called c.args.rule.now c.args.log c.args.stamps.now c.args.owners.now c.args.numbers.now c.args.values.now)) c.args.event.now c.args.owners.now c.args.numbers.now c.args.values.now c.args.stamps.now c.args.figures.now c.args.x c.own_figures-own.result ((record { below = c.args.h; sets = c.args.h; left = c.args.h; right = c.args.h; kept = c.args.kept })) c.args.rows.now c.args.at.now no_child no_child (node_at c.args.rule.now c.args.x) c.load_sets.new.rows c.load_sets.new.at = record { ready = c.requires.call_ready; here = c.requires.x_bound.0; below = omega arith; room = c.requires.room_for; stand = rw c.requires.x_bound.1 tt; figures = c.own_figures-own.ensures; decoded = refl; children = rw c.requires.x_bound.1 tt; read = c.load_sets.ensures } in it))) (omega (arith, (let it : c.own_figures-own.result.before + points_added c.args.event.now ≡ c.own_figures-own.result.after = new_are c.requires.call_ready c.args.x c.requires.x_bound.0 c.requires.x_bound.1 c.own_figures-own.ensures in it), z)) told rows at | inr e ↦ one_more (points_ready ((let it : Loads ((called c.args.rule.now c.args.log c.args.stamps.now c.args.owners.now c.args.numbers.now c.args.values.now)) c.args.event.now c.args.owners.now c.args.numbers.now c.args.values.now c.args.stamps.now c.args.figures.now c.args.x c.own_figures-own.result ((record { below = c.args.h; sets = c.args.h; left = c.args.h; right = c.args.h; kept = c.args.kept })) c.args.rows.now c.args.at.now no_child no_child (node_at c.args.rule.now c.args.x) c.load_sets.new.rows c.load_sets.new.at = record { ready = c.requires.call_ready; here = c.requires.x_bound.0; below = omega arith; room = c.requires.room_for; stand = rw c.requires.x_bound.1 tt; figures = c.own_figures-own.ensures; decoded = refl; children = rw c.requires.x_bound.1 tt; read = c.load_sets.ensures } in it))) (omega (arith, (let it : c.own_figures-own.result.before + points_added c.args.event.now ≡ c.own_figures-own.result.after = new_are c.requires.call_ready c.args.x c.requires.x_bound.0 c.requires.x_bound.1 c.own_figures-own.ensures in it), e)) ((let it : NextSettled c.args.rule.now c.args.event.now c.load_sets.new.rows c.load_sets.new.at c.args.stamps.now (base ((let it : Loads ((called c.args.rule.now c.args.log c.args.stamps.now c.args.owners.now c.args.numbers.now c.args.values.now)) c.args.event.now c.args.owners.now c.args.numbers.now c.args.values.now c.args.stamps.now c.args.figures.now c.args.x c.own_figures-own.result ((record { below = c.args.h; sets = c.args.h; left = c.args.h; right = c.args.h; kept = c.args.kept })) c.args.rows.now c.args.at.now no_child no_child (node_at c.args.rule.now c.args.x) c.load_sets.new.rows c.load_sets.new.at = record { ready = c.requires.call_ready; here = c.requires.x_bound.0; below = omega arith; room = c.requires.room_for; stand = rw c.requires.x_bound.1 tt; figures = c.own_figures-own.ensures; decoded = refl; children = rw c.requires.x_bound.1 tt; read = c.load_sets.ensures } in it))) (old_ages ((let it : Loads ((called c.args.rule.now c.args.log c.args.stamps.now c.args.owners.now c.args.numbers.now c.args.values.now)) c.args.event.now c.args.owners.now c.args.numbers.now c.args.values.now c.args.stamps.now c.args.figures.now c.args.x c.own_figures-own.result ((record { below = c.args.h; sets = c.args.h; left = c.args.h; right = c.args.h; kept = c.args.kept })) c.args.rows.now c.args.at.now no_child no_child (node_at c.args.rule.now c.args.x) c.load_sets.new.rows c.load_sets.new.at = record { ready = c.requires.call_ready; here = c.requires.x_bound.0; below = omega arith; room = c.requires.room_for; stand = rw c.requires.x_bound.1 tt; figures = c.own_figures-own.ensures; decoded = refl; children = rw c.requires.x_bound.1 tt; read = c.load_sets.ensures } in it))) (old_values ((let it : Loads ((called c.args.rule.now c.args.log c.args.stamps.now c.args.owners.now c.args.numbers.now c.args.values.now)) c.args.event.now c.args.owners.now c.args.numbers.now c.args.values.now c.args.stamps.now c.args.figures.now c.args.x c.own_figures-own.result ((record { below = c.args.h; sets = c.args.h; left = c.args.h; right = c.args.h; kept = c.args.kept })) c.args.rows.now c.args.at.now no_child no_child (node_at c.args.rule.now c.args.x) c.load_sets.new.rows c.load_sets.new.at = record { ready = c.requires.call_ready; here = c.requires.x_bound.0; below = omega arith; room = c.requires.room_for; stand = rw c.requires.x_bound.1 tt; figures = c.own_figures-own.ensures; decoded = refl; children = rw c.requires.x_bound.1 tt; read = c.load_sets.ensures } in it))) no_child no_child (c.args.h + (c.own_figures-own.result.before - c.own_figures-own.result.low.0)) c.own_figures-own.result.lowest (point c.own_figures-own.result.before) (point c.own_figures-own.result.before) (node_at c.args.rule.now c.args.x) c.settle_leaf-done.new.rows c.settle_leaf-done.new.at c.settle_leaf-done.result = c.settle_leaf-done.ensures.one e c.args.stamps.now (base ((let it : Loads ((called c.args.rule.now c.args.log c.args.stamps.now c.args.owners.now c.args.numbers.now c.args.values.now)) c.args.event.now c.args.owners.now c.args.numbers.now c.args.values.now c.args.stamps.now c.args.figures.now c.args.x c.own_figures-own.result ((record { below = c.args.h; sets = c.args.h; left = c.args.h; right = c.args.h; kept = c.args.kept })) c.args.rows.now c.args.at.now no_child no_child (node_at c.args.rule.now c.args.x) c.load_sets.new.rows c.load_sets.new.at = record { ready = c.requires.call_ready; here = c.requires.x_bound.0; below = omega arith; room = c.requires.room_for; stand = rw c.requires.x_bound.1 tt; figures = c.own_figures-own.ensures; decoded = refl; children = rw c.requires.x_bound.1 tt; read = c.load_sets.ensures } in it))) (old_ages ((let it : Loads ((called c.args.rule.now c.args.log c.args.stamps.now c.args.owners.now c.args.numbers.now c.args.values.now)) c.args.event.now c.args.owners.now c.args.numbers.now c.args.values.now c.args.stamps.now c.args.figures.now c.args.x c.own_figures-own.result ((record { below = c.args.h; sets = c.args.h; left = c.args.h; right = c.args.h; kept = c.args.kept })) c.args.rows.now c.args.at.now no_child no_child (node_at c.args.rule.now c.args.x) c.load_sets.new.rows c.load_sets.new.at = record { ready = c.requires.call_ready; here = c.requires.x_bound.0; below = omega arith; room = c.requires.room_for; stand = rw c.requires.x_bound.1 tt; figures = c.own_figures-own.ensures; decoded = refl; children = rw c.requires.x_bound.1 tt; read = c.load_sets.ensures } in it))) (old_values ((let it : Loads ((called c.args.rule.now c.args.log c.args.stamps.now c.args.owners.now c.args.numbers.now c.args.values.now)) c.args.event.now c.args.owners.now c.args.numbers.now c.args.values.now c.args.stamps.now c.args.figures.now c.args.x c.own_figures-own.result ((record { below = c.args.h; sets = c.args.h; left = c.args.h; right = c.args.h; kept = c.args.kept })) c.args.rows.now c.args.at.now no_child no_child (node_at c.args.rule.now c.args.x) c.load_sets.new.rows c.load_sets.new.at = record { ready = c.requires.call_ready; here = c.requires.x_bound.0; below = omega arith; room = c.requires.room_for; stand = rw c.requires.x_bound.1 tt; figures = c.own_figures-own.ensures; decoded = refl; children = rw c.requires.x_bound.1 tt; read = c.load_sets.ensures } in it))) no_child no_child (point c.own_figures-own.result.before) (point c.own_figures-own.result.before) in it)) ] in it)) c.if-not-done.true) c.requires.out_there (table_stays c.args.blocks.now ((let it : set_words ≤ length c.args.blocks.now = omega (arith, c.requires.out_there.table) in it)) ((c.settle_leaf-done.new.out)) c.blocks-1.given.0) refl

pub overflow_sub-n : goal.overflow_sub-n
overflow_sub-n c = omega (arith, ((let it : Numbers c.args.log.points c.args.x (length c.args.stamps.now) (length c.args.owners.now) (length c.args.numbers.now) (length c.args.values.now) (length c.args.figures.now) c.own_figures-own.result = numbers c.requires.call_ready c.args.x c.requires.x_bound.0 c.own_figures-own.ensures in it)).want_after)

pub keep_sets-end-requires : goal.keep_sets-end-requires
keep_sets-end-requires c = sets_ready (block_ready ((let it : Loads ((called c.args.rule.now c.args.log c.args.stamps.now c.args.owners.now c.args.numbers.now c.args.values.now)) c.args.event.now c.args.owners.now c.args.numbers.now c.args.values.now c.args.stamps.now c.args.figures.now c.args.x c.own_figures-own.result ((record { below = c.args.h; sets = c.args.h; left = c.args.h; right = c.args.h; kept = c.args.kept })) c.args.rows.now c.args.at.now no_child no_child (node_at c.args.rule.now c.args.x) c.load_sets.new.rows c.load_sets.new.at = record { ready = c.requires.call_ready; here = c.requires.x_bound.0; below = omega arith; room = c.requires.room_for; stand = rw c.requires.x_bound.1 tt; figures = c.own_figures-own.ensures; decoded = refl; children = rw c.requires.x_bound.1 tt; read = c.load_sets.ensures } in it)) ((let it : PointsSettled c.args.rule.now c.args.event.now c.load_sets.new.rows c.load_sets.new.at c.args.stamps.now (base ((let it : Loads ((called c.args.rule.now c.args.log c.args.stamps.now c.args.owners.now c.args.numbers.now c.args.values.now)) c.args.event.now c.args.owners.now c.args.numbers.now c.args.values.now c.args.stamps.now c.args.figures.now c.args.x c.own_figures-own.result ((record { below = c.args.h; sets = c.args.h; left = c.args.h; right = c.args.h; kept = c.args.kept })) c.args.rows.now c.args.at.now no_child no_child (node_at c.args.rule.now c.args.x) c.load_sets.new.rows c.load_sets.new.at = record { ready = c.requires.call_ready; here = c.requires.x_bound.0; below = omega arith; room = c.requires.room_for; stand = rw c.requires.x_bound.1 tt; figures = c.own_figures-own.ensures; decoded = refl; children = rw c.requires.x_bound.1 tt; read = c.load_sets.ensures } in it))) (old_ages ((let it : Loads ((called c.args.rule.now c.args.log c.args.stamps.now c.args.owners.now c.args.numbers.now c.args.values.now)) c.args.event.now c.args.owners.now c.args.numbers.now c.args.values.now c.args.stamps.now c.args.figures.now c.args.x c.own_figures-own.result ((record { below = c.args.h; sets = c.args.h; left = c.args.h; right = c.args.h; kept = c.args.kept })) c.args.rows.now c.args.at.now no_child no_child (node_at c.args.rule.now c.args.x) c.load_sets.new.rows c.load_sets.new.at = record { ready = c.requires.call_ready; here = c.requires.x_bound.0; below = omega arith; room = c.requires.room_for; stand = rw c.requires.x_bound.1 tt; figures = c.own_figures-own.ensures; decoded = refl; children = rw c.requires.x_bound.1 tt; read = c.load_sets.ensures } in it))) (old_values ((let it : Loads ((called c.args.rule.now c.args.log c.args.stamps.now c.args.owners.now c.args.numbers.now c.args.values.now)) c.args.event.now c.args.owners.now c.args.numbers.now c.args.values.now c.args.stamps.now c.args.figures.now c.args.x c.own_figures-own.result ((record { below = c.args.h; sets = c.args.h; left = c.args.h; right = c.args.h; kept = c.args.kept })) c.args.rows.now c.args.at.now no_child no_child (node_at c.args.rule.now c.args.x) c.load_sets.new.rows c.load_sets.new.at = record { ready = c.requires.call_ready; here = c.requires.x_bound.0; below = omega arith; room = c.requires.room_for; stand = rw c.requires.x_bound.1 tt; figures = c.own_figures-own.ensures; decoded = refl; children = rw c.requires.x_bound.1 tt; read = c.load_sets.ensures } in it))) no_child no_child (c.args.h + (c.own_figures-own.result.before - c.own_figures-own.result.low.0)) c.own_figures-own.result.lowest (point c.own_figures-own.result.before) (point c.own_figures-own.result.after) (node_at c.args.rule.now c.args.x) c.settle_leaf-done.new.rows c.settle_leaf-done.new.at true = told_settled ((let it : PointsSettled c.args.rule.now c.args.event.now c.load_sets.new.rows c.load_sets.new.at c.args.stamps.now (base ((let it : Loads ((called c.args.rule.now c.args.log c.args.stamps.now c.args.owners.now c.args.numbers.now c.args.values.now)) c.args.event.now c.args.owners.now c.args.numbers.now c.args.values.now c.args.stamps.now c.args.figures.now c.args.x c.own_figures-own.result ((record { below = c.args.h; sets = c.args.h; left = c.args.h; right = c.args.h; kept = c.args.kept })) c.args.rows.now c.args.at.now no_child no_child (node_at c.args.rule.now c.args.x) c.load_sets.new.rows c.load_sets.new.at = record { ready = c.requires.call_ready; here = c.requires.x_bound.0; below = omega arith; room = c.requires.room_for; stand = rw c.requires.x_bound.1 tt; figures = c.own_figures-own.ensures; decoded = refl; children = rw c.requires.x_bound.1 tt; read = c.load_sets.ensures } in it))) (old_ages ((let it : Loads ((called c.args.rule.now c.args.log c.args.stamps.now c.args.owners.now c.args.numbers.now c.args.values.now)) c.args.event.now c.args.owners.now c.args.numbers.now c.args.values.now c.args.stamps.now c.args.figures.now c.args.x c.own_figures-own.result ((record { below = c.args.h; sets = c.args.h; left = c.args.h; right = c.args.h; kept = c.args.kept })) c.args.rows.now c.args.at.now no_child no_child (node_at c.args.rule.now c.args.x) c.load_sets.new.rows c.load_sets.new.at = record { ready = c.requires.call_ready; here = c.requires.x_bound.0; below = omega arith; room = c.requires.room_for; stand = rw c.requires.x_bound.1 tt; figures = c.own_figures-own.ensures; decoded = refl; children = rw c.requires.x_bound.1 tt; read = c.load_sets.ensures } in it))) (old_values ((let it : Loads ((called c.args.rule.now c.args.log c.args.stamps.now c.args.owners.now c.args.numbers.now c.args.values.now)) c.args.event.now c.args.owners.now c.args.numbers.now c.args.values.now c.args.stamps.now c.args.figures.now c.args.x c.own_figures-own.result ((record { below = c.args.h; sets = c.args.h; left = c.args.h; right = c.args.h; kept = c.args.kept })) c.args.rows.now c.args.at.now no_child no_child (node_at c.args.rule.now c.args.x) c.load_sets.new.rows c.load_sets.new.at = record { ready = c.requires.call_ready; here = c.requires.x_bound.0; below = omega arith; room = c.requires.room_for; stand = rw c.requires.x_bound.1 tt; figures = c.own_figures-own.ensures; decoded = refl; children = rw c.requires.x_bound.1 tt; read = c.load_sets.ensures } in it))) no_child no_child (c.args.h + (c.own_figures-own.result.before - c.own_figures-own.result.low.0)) c.own_figures-own.result.lowest (point c.own_figures-own.result.before) (point c.own_figures-own.result.after) (node_at c.args.rule.now c.args.x) c.settle_leaf-done.new.rows c.settle_leaf-done.new.at c.settle_leaf-done.result = elim (some_added c.args.event.now) [ inl z ↦ let (told, rows, at) = c.settle_leaf-done.ensures.none z in none_settled (points_ready ((let it : Loads ((called c.args.rule.now c.args.log c.args.stamps.now c.args.owners.now c.args.numbers.now c.args.values.now)) c.args.event.now c.args.owners.now c.args.numbers.now c.args.values.now c.args.stamps.now c.args.figures.now c.args.x c.own_figures-own.result ((record { below = c.args.h; sets = c.args.h; left = c.args.h; right = c.args.h; kept = c.args.kept })) c.args.rows.now c.args.at.now no_child no_child (node_at c.args.rule.now c.args.x) c.load_sets.new.rows c.load_sets.new.at = record { ready = c.requires.call_ready; here = c.requires.x_bound.0; below = omega arith; room = c.requires.room_for; stand = rw c.requires.x_bound.1 tt; figures = c.own_figures-own.ensures; decoded = refl; children = rw c.requires.x_bound.1 tt; read = c.load_sets.ensures } in it))) (omega (arith, (let it : c.own_figures-own.result.before + points_added c.args.event.now ≡ c.own_figures-own.result.after = new_are c.requires.call_ready c.args.x c.requires.x_bound.0 c.requires.x_bound.1 c.own_figures-own.ensures in it), z)) told rows at | inr e ↦ one_more (points_ready ((let it : Loads ((called c.args.rule.now c.args.log c.args.stamps.now c.args.owners.now c.args.numbers.now c.args.values.now)) c.args.event.now c.args.owners.now c.args.numbers.now c.args.values.now c.args.stamps.now c.args.figures.now c.args.x c.own_figures-own.result ((record { below = c.args.h; sets = c.args.h; left = c.args.h; right = c.args.h; kept = c.args.kept })) c.args.rows.now c.args.at.now no_child no_child (node_at c.args.rule.now c.args.x) c.load_sets.new.rows c.load_sets.new.at = record { ready = c.requires.call_ready; here = c.requires.x_bound.0; below = omega arith; room = c.requires.room_for; stand = rw c.requires.x_bound.1 tt; figures = c.own_figures-own.ensures; decoded = refl; children = rw c.requires.x_bound.1 tt; read = c.load_sets.ensures } in it))) (omega (arith, (let it : c.own_figures-own.result.before + points_added c.args.event.now ≡ c.own_figures-own.result.after = new_are c.requires.call_ready c.args.x c.requires.x_bound.0 c.requires.x_bound.1 c.own_figures-own.ensures in it), e)) ((let it : NextSettled c.args.rule.now c.args.event.now c.load_sets.new.rows c.load_sets.new.at c.args.stamps.now (base ((let it : Loads ((called c.args.rule.now c.args.log c.args.stamps.now c.args.owners.now c.args.numbers.now c.args.values.now)) c.args.event.now c.args.owners.now c.args.numbers.now c.args.values.now c.args.stamps.now c.args.figures.now c.args.x c.own_figures-own.result ((record { below = c.args.h; sets = c.args.h; left = c.args.h; right = c.args.h; kept = c.args.kept })) c.args.rows.now c.args.at.now no_child no_child (node_at c.args.rule.now c.args.x) c.load_sets.new.rows c.load_sets.new.at = record { ready = c.requires.call_ready; here = c.requires.x_bound.0; below = omega arith; room = c.requires.room_for; stand = rw c.requires.x_bound.1 tt; figures = c.own_figures-own.ensures; decoded = refl; children = rw c.requires.x_bound.1 tt; read = c.load_sets.ensures } in it))) (old_ages ((let it : Loads ((called c.args.rule.now c.args.log c.args.stamps.now c.args.owners.now c.args.numbers.now c.args.values.now)) c.args.event.now c.args.owners.now c.args.numbers.now c.args.values.now c.args.stamps.now c.args.figures.now c.args.x c.own_figures-own.result ((record { below = c.args.h; sets = c.args.h; left = c.args.h; right = c.args.h; kept = c.args.kept })) c.args.rows.now c.args.at.now no_child no_child (node_at c.args.rule.now c.args.x) c.load_sets.new.rows c.load_sets.new.at = record { ready = c.requires.call_ready; here = c.requires.x_bound.0; below = omega arith; room = c.requires.room_for; stand = rw c.requires.x_bound.1 tt; figures = c.own_figures-own.ensures; decoded = refl; children = rw c.requires.x_bound.1 tt; read = c.load_sets.ensures } in it))) (old_values ((let it : Loads ((called c.args.rule.now c.args.log c.args.stamps.now c.args.owners.now c.args.numbers.now c.args.values.now)) c.args.event.now c.args.owners.now c.args.numbers.now c.args.values.now c.args.stamps.now c.args.figures.now c.args.x c.own_figures-own.result ((record { below = c.args.h; sets = c.args.h; left = c.args.h; right = c.args.h; kept = c.args.kept })) c.args.rows.now c.args.at.now no_child no_child (node_at c.args.rule.now c.args.x) c.load_sets.new.rows c.load_sets.new.at = record { ready = c.requires.call_ready; here = c.requires.x_bound.0; below = omega arith; room = c.requires.room_for; stand = rw c.requires.x_bound.1 tt; figures = c.own_figures-own.ensures; decoded = refl; children = rw c.requires.x_bound.1 tt; read = c.load_sets.ensures } in it))) no_child no_child (c.args.h + (c.own_figures-own.result.before - c.own_figures-own.result.low.0)) c.own_figures-own.result.lowest (point c.own_figures-own.result.before) (point c.own_figures-own.result.before) (node_at c.args.rule.now c.args.x) c.settle_leaf-done.new.rows c.settle_leaf-done.new.at c.settle_leaf-done.result = c.settle_leaf-done.ensures.one e c.args.stamps.now (base ((let it : Loads ((called c.args.rule.now c.args.log c.args.stamps.now c.args.owners.now c.args.numbers.now c.args.values.now)) c.args.event.now c.args.owners.now c.args.numbers.now c.args.values.now c.args.stamps.now c.args.figures.now c.args.x c.own_figures-own.result ((record { below = c.args.h; sets = c.args.h; left = c.args.h; right = c.args.h; kept = c.args.kept })) c.args.rows.now c.args.at.now no_child no_child (node_at c.args.rule.now c.args.x) c.load_sets.new.rows c.load_sets.new.at = record { ready = c.requires.call_ready; here = c.requires.x_bound.0; below = omega arith; room = c.requires.room_for; stand = rw c.requires.x_bound.1 tt; figures = c.own_figures-own.ensures; decoded = refl; children = rw c.requires.x_bound.1 tt; read = c.load_sets.ensures } in it))) (old_ages ((let it : Loads ((called c.args.rule.now c.args.log c.args.stamps.now c.args.owners.now c.args.numbers.now c.args.values.now)) c.args.event.now c.args.owners.now c.args.numbers.now c.args.values.now c.args.stamps.now c.args.figures.now c.args.x c.own_figures-own.result ((record { below = c.args.h; sets = c.args.h; left = c.args.h; right = c.args.h; kept = c.args.kept })) c.args.rows.now c.args.at.now no_child no_child (node_at c.args.rule.now c.args.x) c.load_sets.new.rows c.load_sets.new.at = record { ready = c.requires.call_ready; here = c.requires.x_bound.0; below = omega arith; room = c.requires.room_for; stand = rw c.requires.x_bound.1 tt; figures = c.own_figures-own.ensures; decoded = refl; children = rw c.requires.x_bound.1 tt; read = c.load_sets.ensures } in it))) (old_values ((let it : Loads ((called c.args.rule.now c.args.log c.args.stamps.now c.args.owners.now c.args.numbers.now c.args.values.now)) c.args.event.now c.args.owners.now c.args.numbers.now c.args.values.now c.args.stamps.now c.args.figures.now c.args.x c.own_figures-own.result ((record { below = c.args.h; sets = c.args.h; left = c.args.h; right = c.args.h; kept = c.args.kept })) c.args.rows.now c.args.at.now no_child no_child (node_at c.args.rule.now c.args.x) c.load_sets.new.rows c.load_sets.new.at = record { ready = c.requires.call_ready; here = c.requires.x_bound.0; below = omega arith; room = c.requires.room_for; stand = rw c.requires.x_bound.1 tt; figures = c.own_figures-own.ensures; decoded = refl; children = rw c.requires.x_bound.1 tt; read = c.load_sets.ensures } in it))) no_child no_child (point c.own_figures-own.result.before) (point c.own_figures-own.result.before) in it)) ] in it)) c.if-not-done.false in it)) refl c.requires.out_there)

pub note_block-requires : goal.note_block-requires
note_block-requires c = let b = block_ready ((let it : Loads ((called c.args.rule.now c.args.log c.args.stamps.now c.args.owners.now c.args.numbers.now c.args.values.now)) c.args.event.now c.args.owners.now c.args.numbers.now c.args.values.now c.args.stamps.now c.args.figures.now c.args.x c.own_figures-own.result ((record { below = c.args.h; sets = c.args.h; left = c.args.h; right = c.args.h; kept = c.args.kept })) c.args.rows.now c.args.at.now no_child no_child (node_at c.args.rule.now c.args.x) c.load_sets.new.rows c.load_sets.new.at = record { ready = c.requires.call_ready; here = c.requires.x_bound.0; below = omega arith; room = c.requires.room_for; stand = rw c.requires.x_bound.1 tt; figures = c.own_figures-own.ensures; decoded = refl; children = rw c.requires.x_bound.1 tt; read = c.load_sets.ensures } in it)) ((let it : PointsSettled c.args.rule.now c.args.event.now c.load_sets.new.rows c.load_sets.new.at c.args.stamps.now (base ((let it : Loads ((called c.args.rule.now c.args.log c.args.stamps.now c.args.owners.now c.args.numbers.now c.args.values.now)) c.args.event.now c.args.owners.now c.args.numbers.now c.args.values.now c.args.stamps.now c.args.figures.now c.args.x c.own_figures-own.result ((record { below = c.args.h; sets = c.args.h; left = c.args.h; right = c.args.h; kept = c.args.kept })) c.args.rows.now c.args.at.now no_child no_child (node_at c.args.rule.now c.args.x) c.load_sets.new.rows c.load_sets.new.at = record { ready = c.requires.call_ready; here = c.requires.x_bound.0; below = omega arith; room = c.requires.room_for; stand = rw c.requires.x_bound.1 tt; figures = c.own_figures-own.ensures; decoded = refl; children = rw c.requires.x_bound.1 tt; read = c.load_sets.ensures } in it))) (old_ages ((let it : Loads ((called c.args.rule.now c.args.log c.args.stamps.now c.args.owners.now c.args.numbers.now c.args.values.now)) c.args.event.now c.args.owners.now c.args.numbers.now c.args.values.now c.args.stamps.now c.args.figures.now c.args.x c.own_figures-own.result ((record { below = c.args.h; sets = c.args.h; left = c.args.h; right = c.args.h; kept = c.args.kept })) c.args.rows.now c.args.at.now no_child no_child (node_at c.args.rule.now c.args.x) c.load_sets.new.rows c.load_sets.new.at = record { ready = c.requires.call_ready; here = c.requires.x_bound.0; below = omega arith; room = c.requires.room_for; stand = rw c.requires.x_bound.1 tt; figures = c.own_figures-own.ensures; decoded = refl; children = rw c.requires.x_bound.1 tt; read = c.load_sets.ensures } in it))) (old_values ((let it : Loads ((called c.args.rule.now c.args.log c.args.stamps.now c.args.owners.now c.args.numbers.now c.args.values.now)) c.args.event.now c.args.owners.now c.args.numbers.now c.args.values.now c.args.stamps.now c.args.figures.now c.args.x c.own_figures-own.result ((record { below = c.args.h; sets = c.args.h; left = c.args.h; right = c.args.h; kept = c.args.kept })) c.args.rows.now c.args.at.now no_child no_child (node_at c.args.rule.now c.args.x) c.load_sets.new.rows c.load_sets.new.at = record { ready = c.requires.call_ready; here = c.requires.x_bound.0; below = omega arith; room = c.requires.room_for; stand = rw c.requires.x_bound.1 tt; figures = c.own_figures-own.ensures; decoded = refl; children = rw c.requires.x_bound.1 tt; read = c.load_sets.ensures } in it))) no_child no_child (c.args.h + (c.own_figures-own.result.before - c.own_figures-own.result.low.0)) c.own_figures-own.result.lowest (point c.own_figures-own.result.before) (point c.own_figures-own.result.after) (node_at c.args.rule.now c.args.x) c.settle_leaf-done.new.rows c.settle_leaf-done.new.at true = told_settled ((let it : PointsSettled c.args.rule.now c.args.event.now c.load_sets.new.rows c.load_sets.new.at c.args.stamps.now (base ((let it : Loads ((called c.args.rule.now c.args.log c.args.stamps.now c.args.owners.now c.args.numbers.now c.args.values.now)) c.args.event.now c.args.owners.now c.args.numbers.now c.args.values.now c.args.stamps.now c.args.figures.now c.args.x c.own_figures-own.result ((record { below = c.args.h; sets = c.args.h; left = c.args.h; right = c.args.h; kept = c.args.kept })) c.args.rows.now c.args.at.now no_child no_child (node_at c.args.rule.now c.args.x) c.load_sets.new.rows c.load_sets.new.at = record { ready = c.requires.call_ready; here = c.requires.x_bound.0; below = omega arith; room = c.requires.room_for; stand = rw c.requires.x_bound.1 tt; figures = c.own_figures-own.ensures; decoded = refl; children = rw c.requires.x_bound.1 tt; read = c.load_sets.ensures } in it))) (old_ages ((let it : Loads ((called c.args.rule.now c.args.log c.args.stamps.now c.args.owners.now c.args.numbers.now c.args.values.now)) c.args.event.now c.args.owners.now c.args.numbers.now c.args.values.now c.args.stamps.now c.args.figures.now c.args.x c.own_figures-own.result ((record { below = c.args.h; sets = c.args.h; left = c.args.h; right = c.args.h; kept = c.args.kept })) c.args.rows.now c.args.at.now no_child no_child (node_at c.args.rule.now c.args.x) c.load_sets.new.rows c.load_sets.new.at = record { ready = c.requires.call_ready; here = c.requires.x_bound.0; below = omega arith; room = c.requires.room_for; stand = rw c.requires.x_bound.1 tt; figures = c.own_figures-own.ensures; decoded = refl; children = rw c.requires.x_bound.1 tt; read = c.load_sets.ensures } in it))) (old_values ((let it : Loads ((called c.args.rule.now c.args.log c.args.stamps.now c.args.owners.now c.args.numbers.now c.args.values.now)) c.args.event.now c.args.owners.now c.args.numbers.now c.args.values.now c.args.stamps.now c.args.figures.now c.args.x c.own_figures-own.result ((record { below = c.args.h; sets = c.args.h; left = c.args.h; right = c.args.h; kept = c.args.kept })) c.args.rows.now c.args.at.now no_child no_child (node_at c.args.rule.now c.args.x) c.load_sets.new.rows c.load_sets.new.at = record { ready = c.requires.call_ready; here = c.requires.x_bound.0; below = omega arith; room = c.requires.room_for; stand = rw c.requires.x_bound.1 tt; figures = c.own_figures-own.ensures; decoded = refl; children = rw c.requires.x_bound.1 tt; read = c.load_sets.ensures } in it))) no_child no_child (c.args.h + (c.own_figures-own.result.before - c.own_figures-own.result.low.0)) c.own_figures-own.result.lowest (point c.own_figures-own.result.before) (point c.own_figures-own.result.after) (node_at c.args.rule.now c.args.x) c.settle_leaf-done.new.rows c.settle_leaf-done.new.at c.settle_leaf-done.result = elim (some_added c.args.event.now) [ inl z ↦ let (told, rows, at) = c.settle_leaf-done.ensures.none z in none_settled (points_ready ((let it : Loads ((called c.args.rule.now c.args.log c.args.stamps.now c.args.owners.now c.args.numbers.now c.args.values.now)) c.args.event.now c.args.owners.now c.args.numbers.now c.args.values.now c.args.stamps.now c.args.figures.now c.args.x c.own_figures-own.result ((record { below = c.args.h; sets = c.args.h; left = c.args.h; right = c.args.h; kept = c.args.kept })) c.args.rows.now c.args.at.now no_child no_child (node_at c.args.rule.now c.args.x) c.load_sets.new.rows c.load_sets.new.at = record { ready = c.requires.call_ready; here = c.requires.x_bound.0; below = omega arith; room = c.requires.room_for; stand = rw c.requires.x_bound.1 tt; figures = c.own_figures-own.ensures; decoded = refl; children = rw c.requires.x_bound.1 tt; read = c.load_sets.ensures } in it))) (omega (arith, (let it : c.own_figures-own.result.before + points_added c.args.event.now ≡ c.own_figures-own.result.after = new_are c.requires.call_ready c.args.x c.requires.x_bound.0 c.requires.x_bound.1 c.own_figures-own.ensures in it), z)) told rows at | inr e ↦ one_more (points_ready ((let it : Loads ((called c.args.rule.now c.args.log c.args.stamps.now c.args.owners.now c.args.numbers.now c.args.values.now)) c.args.event.now c.args.owners.now c.args.numbers.now c.args.values.now c.args.stamps.now c.args.figures.now c.args.x c.own_figures-own.result ((record { below = c.args.h; sets = c.args.h; left = c.args.h; right = c.args.h; kept = c.args.kept })) c.args.rows.now c.args.at.now no_child no_child (node_at c.args.rule.now c.args.x) c.load_sets.new.rows c.load_sets.new.at = record { ready = c.requires.call_ready; here = c.requires.x_bound.0; below = omega arith; room = c.requires.room_for; stand = rw c.requires.x_bound.1 tt; figures = c.own_figures-own.ensures; decoded = refl; children = rw c.requires.x_bound.1 tt; read = c.load_sets.ensures } in it))) (omega (arith, (let it : c.own_figures-own.result.before + points_added c.args.event.now ≡ c.own_figures-own.result.after = new_are c.requires.call_ready c.args.x c.requires.x_bound.0 c.requires.x_bound.1 c.own_figures-own.ensures in it), e)) ((let it : NextSettled c.args.rule.now c.args.event.now c.load_sets.new.rows c.load_sets.new.at c.args.stamps.now (base ((let it : Loads ((called c.args.rule.now c.args.log c.args.stamps.now c.args.owners.now c.args.numbers.now c.args.values.now)) c.args.event.now c.args.owners.now c.args.numbers.now c.args.values.now c.args.stamps.now c.args.figures.now c.args.x c.own_figures-own.result ((record { below = c.args.h; sets = c.args.h; left = c.args.h; right = c.args.h; kept = c.args.kept })) c.args.rows.now c.args.at.now no_child no_child (node_at c.args.rule.now c.args.x) c.load_sets.new.rows c.load_sets.new.at = record { ready = c.requires.call_ready; here = c.requires.x_bound.0; below = omega arith; room = c.requires.room_for; stand = rw c.requires.x_bound.1 tt; figures = c.own_figures-own.ensures; decoded = refl; children = rw c.requires.x_bound.1 tt; read = c.load_sets.ensures } in it))) (old_ages ((let it : Loads ((called c.args.rule.now c.args.log c.args.stamps.now c.args.owners.now c.args.numbers.now c.args.values.now)) c.args.event.now c.args.owners.now c.args.numbers.now c.args.values.now c.args.stamps.now c.args.figures.now c.args.x c.own_figures-own.result ((record { below = c.args.h; sets = c.args.h; left = c.args.h; right = c.args.h; kept = c.args.kept })) c.args.rows.now c.args.at.now no_child no_child (node_at c.args.rule.now c.args.x) c.load_sets.new.rows c.load_sets.new.at = record { ready = c.requires.call_ready; here = c.requires.x_bound.0; below = omega arith; room = c.requires.room_for; stand = rw c.requires.x_bound.1 tt; figures = c.own_figures-own.ensures; decoded = refl; children = rw c.requires.x_bound.1 tt; read = c.load_sets.ensures } in it))) (old_values ((let it : Loads ((called c.args.rule.now c.args.log c.args.stamps.now c.args.owners.now c.args.numbers.now c.args.values.now)) c.args.event.now c.args.owners.now c.args.numbers.now c.args.values.now c.args.stamps.now c.args.figures.now c.args.x c.own_figures-own.result ((record { below = c.args.h; sets = c.args.h; left = c.args.h; right = c.args.h; kept = c.args.kept })) c.args.rows.now c.args.at.now no_child no_child (node_at c.args.rule.now c.args.x) c.load_sets.new.rows c.load_sets.new.at = record { ready = c.requires.call_ready; here = c.requires.x_bound.0; below = omega arith; room = c.requires.room_for; stand = rw c.requires.x_bound.1 tt; figures = c.own_figures-own.ensures; decoded = refl; children = rw c.requires.x_bound.1 tt; read = c.load_sets.ensures } in it))) no_child no_child (c.args.h + (c.own_figures-own.result.before - c.own_figures-own.result.low.0)) c.own_figures-own.result.lowest (point c.own_figures-own.result.before) (point c.own_figures-own.result.before) (node_at c.args.rule.now c.args.x) c.settle_leaf-done.new.rows c.settle_leaf-done.new.at c.settle_leaf-done.result = c.settle_leaf-done.ensures.one e c.args.stamps.now (base ((let it : Loads ((called c.args.rule.now c.args.log c.args.stamps.now c.args.owners.now c.args.numbers.now c.args.values.now)) c.args.event.now c.args.owners.now c.args.numbers.now c.args.values.now c.args.stamps.now c.args.figures.now c.args.x c.own_figures-own.result ((record { below = c.args.h; sets = c.args.h; left = c.args.h; right = c.args.h; kept = c.args.kept })) c.args.rows.now c.args.at.now no_child no_child (node_at c.args.rule.now c.args.x) c.load_sets.new.rows c.load_sets.new.at = record { ready = c.requires.call_ready; here = c.requires.x_bound.0; below = omega arith; room = c.requires.room_for; stand = rw c.requires.x_bound.1 tt; figures = c.own_figures-own.ensures; decoded = refl; children = rw c.requires.x_bound.1 tt; read = c.load_sets.ensures } in it))) (old_ages ((let it : Loads ((called c.args.rule.now c.args.log c.args.stamps.now c.args.owners.now c.args.numbers.now c.args.values.now)) c.args.event.now c.args.owners.now c.args.numbers.now c.args.values.now c.args.stamps.now c.args.figures.now c.args.x c.own_figures-own.result ((record { below = c.args.h; sets = c.args.h; left = c.args.h; right = c.args.h; kept = c.args.kept })) c.args.rows.now c.args.at.now no_child no_child (node_at c.args.rule.now c.args.x) c.load_sets.new.rows c.load_sets.new.at = record { ready = c.requires.call_ready; here = c.requires.x_bound.0; below = omega arith; room = c.requires.room_for; stand = rw c.requires.x_bound.1 tt; figures = c.own_figures-own.ensures; decoded = refl; children = rw c.requires.x_bound.1 tt; read = c.load_sets.ensures } in it))) (old_values ((let it : Loads ((called c.args.rule.now c.args.log c.args.stamps.now c.args.owners.now c.args.numbers.now c.args.values.now)) c.args.event.now c.args.owners.now c.args.numbers.now c.args.values.now c.args.stamps.now c.args.figures.now c.args.x c.own_figures-own.result ((record { below = c.args.h; sets = c.args.h; left = c.args.h; right = c.args.h; kept = c.args.kept })) c.args.rows.now c.args.at.now no_child no_child (node_at c.args.rule.now c.args.x) c.load_sets.new.rows c.load_sets.new.at = record { ready = c.requires.call_ready; here = c.requires.x_bound.0; below = omega arith; room = c.requires.room_for; stand = rw c.requires.x_bound.1 tt; figures = c.own_figures-own.ensures; decoded = refl; children = rw c.requires.x_bound.1 tt; read = c.load_sets.ensures } in it))) no_child no_child (point c.own_figures-own.result.before) (point c.own_figures-own.result.before) in it)) ] in it)) c.if-not-done.false in it)) refl (room_stays (table_stays c.args.blocks.now ((let it : set_words ≤ length c.args.blocks.now = omega (arith, c.requires.out_there.table) in it)) ((c.settle_leaf-done.new.out)) c.blocks-1.given.0) c.requires.out_there) in
    let r = b.pairs.room in
    let p = c.keep_sets-end.ensures c.args.x in
    let k = rising r p (nothing_put (room_then r p)) in
    let f = r.few in
    (b.table, omega (arith, k), omega (arith, k), omega (arith, k))

pub shape_of-rows : goal.shape_of-rows
shape_of-rows c = ((let it : PointsSettled c.args.rule.now c.args.event.now c.load_sets.new.rows c.load_sets.new.at c.args.stamps.now (base ((let it : Loads ((called c.args.rule.now c.args.log c.args.stamps.now c.args.owners.now c.args.numbers.now c.args.values.now)) c.args.event.now c.args.owners.now c.args.numbers.now c.args.values.now c.args.stamps.now c.args.figures.now c.args.x c.own_figures-own.result ((record { below = c.args.h; sets = c.args.h; left = c.args.h; right = c.args.h; kept = c.args.kept })) c.args.rows.now c.args.at.now no_child no_child (node_at c.args.rule.now c.args.x) c.load_sets.new.rows c.load_sets.new.at = record { ready = c.requires.call_ready; here = c.requires.x_bound.0; below = omega arith; room = c.requires.room_for; stand = rw c.requires.x_bound.1 tt; figures = c.own_figures-own.ensures; decoded = refl; children = rw c.requires.x_bound.1 tt; read = c.load_sets.ensures } in it))) (old_ages ((let it : Loads ((called c.args.rule.now c.args.log c.args.stamps.now c.args.owners.now c.args.numbers.now c.args.values.now)) c.args.event.now c.args.owners.now c.args.numbers.now c.args.values.now c.args.stamps.now c.args.figures.now c.args.x c.own_figures-own.result ((record { below = c.args.h; sets = c.args.h; left = c.args.h; right = c.args.h; kept = c.args.kept })) c.args.rows.now c.args.at.now no_child no_child (node_at c.args.rule.now c.args.x) c.load_sets.new.rows c.load_sets.new.at = record { ready = c.requires.call_ready; here = c.requires.x_bound.0; below = omega arith; room = c.requires.room_for; stand = rw c.requires.x_bound.1 tt; figures = c.own_figures-own.ensures; decoded = refl; children = rw c.requires.x_bound.1 tt; read = c.load_sets.ensures } in it))) (old_values ((let it : Loads ((called c.args.rule.now c.args.log c.args.stamps.now c.args.owners.now c.args.numbers.now c.args.values.now)) c.args.event.now c.args.owners.now c.args.numbers.now c.args.values.now c.args.stamps.now c.args.figures.now c.args.x c.own_figures-own.result ((record { below = c.args.h; sets = c.args.h; left = c.args.h; right = c.args.h; kept = c.args.kept })) c.args.rows.now c.args.at.now no_child no_child (node_at c.args.rule.now c.args.x) c.load_sets.new.rows c.load_sets.new.at = record { ready = c.requires.call_ready; here = c.requires.x_bound.0; below = omega arith; room = c.requires.room_for; stand = rw c.requires.x_bound.1 tt; figures = c.own_figures-own.ensures; decoded = refl; children = rw c.requires.x_bound.1 tt; read = c.load_sets.ensures } in it))) no_child no_child (c.args.h + (c.own_figures-own.result.before - c.own_figures-own.result.low.0)) c.own_figures-own.result.lowest (point c.own_figures-own.result.before) (point c.own_figures-own.result.after) (node_at c.args.rule.now c.args.x) c.settle_leaf-done.new.rows c.settle_leaf-done.new.at c.settle_leaf-done.result = elim (some_added c.args.event.now) [ inl z ↦ let (told, rows, at) = c.settle_leaf-done.ensures.none z in none_settled (points_ready ((let it : Loads ((called c.args.rule.now c.args.log c.args.stamps.now c.args.owners.now c.args.numbers.now c.args.values.now)) c.args.event.now c.args.owners.now c.args.numbers.now c.args.values.now c.args.stamps.now c.args.figures.now c.args.x c.own_figures-own.result ((record { below = c.args.h; sets = c.args.h; left = c.args.h; right = c.args.h; kept = c.args.kept })) c.args.rows.now c.args.at.now no_child no_child (node_at c.args.rule.now c.args.x) c.load_sets.new.rows c.load_sets.new.at = record { ready = c.requires.call_ready; here = c.requires.x_bound.0; below = omega arith; room = c.requires.room_for; stand = rw c.requires.x_bound.1 tt; figures = c.own_figures-own.ensures; decoded = refl; children = rw c.requires.x_bound.1 tt; read = c.load_sets.ensures } in it))) (omega (arith, (let it : c.own_figures-own.result.before + points_added c.args.event.now ≡ c.own_figures-own.result.after = new_are c.requires.call_ready c.args.x c.requires.x_bound.0 c.requires.x_bound.1 c.own_figures-own.ensures in it), z)) told rows at | inr e ↦ one_more (points_ready ((let it : Loads ((called c.args.rule.now c.args.log c.args.stamps.now c.args.owners.now c.args.numbers.now c.args.values.now)) c.args.event.now c.args.owners.now c.args.numbers.now c.args.values.now c.args.stamps.now c.args.figures.now c.args.x c.own_figures-own.result ((record { below = c.args.h; sets = c.args.h; left = c.args.h; right = c.args.h; kept = c.args.kept })) c.args.rows.now c.args.at.now no_child no_child (node_at c.args.rule.now c.args.x) c.load_sets.new.rows c.load_sets.new.at = record { ready = c.requires.call_ready; here = c.requires.x_bound.0; below = omega arith; room = c.requires.room_for; stand = rw c.requires.x_bound.1 tt; figures = c.own_figures-own.ensures; decoded = refl; children = rw c.requires.x_bound.1 tt; read = c.load_sets.ensures } in it))) (omega (arith, (let it : c.own_figures-own.result.before + points_added c.args.event.now ≡ c.own_figures-own.result.after = new_are c.requires.call_ready c.args.x c.requires.x_bound.0 c.requires.x_bound.1 c.own_figures-own.ensures in it), e)) ((let it : NextSettled c.args.rule.now c.args.event.now c.load_sets.new.rows c.load_sets.new.at c.args.stamps.now (base ((let it : Loads ((called c.args.rule.now c.args.log c.args.stamps.now c.args.owners.now c.args.numbers.now c.args.values.now)) c.args.event.now c.args.owners.now c.args.numbers.now c.args.values.now c.args.stamps.now c.args.figures.now c.args.x c.own_figures-own.result ((record { below = c.args.h; sets = c.args.h; left = c.args.h; right = c.args.h; kept = c.args.kept })) c.args.rows.now c.args.at.now no_child no_child (node_at c.args.rule.now c.args.x) c.load_sets.new.rows c.load_sets.new.at = record { ready = c.requires.call_ready; here = c.requires.x_bound.0; below = omega arith; room = c.requires.room_for; stand = rw c.requires.x_bound.1 tt; figures = c.own_figures-own.ensures; decoded = refl; children = rw c.requires.x_bound.1 tt; read = c.load_sets.ensures } in it))) (old_ages ((let it : Loads ((called c.args.rule.now c.args.log c.args.stamps.now c.args.owners.now c.args.numbers.now c.args.values.now)) c.args.event.now c.args.owners.now c.args.numbers.now c.args.values.now c.args.stamps.now c.args.figures.now c.args.x c.own_figures-own.result ((record { below = c.args.h; sets = c.args.h; left = c.args.h; right = c.args.h; kept = c.args.kept })) c.args.rows.now c.args.at.now no_child no_child (node_at c.args.rule.now c.args.x) c.load_sets.new.rows c.load_sets.new.at = record { ready = c.requires.call_ready; here = c.requires.x_bound.0; below = omega arith; room = c.requires.room_for; stand = rw c.requires.x_bound.1 tt; figures = c.own_figures-own.ensures; decoded = refl; children = rw c.requires.x_bound.1 tt; read = c.load_sets.ensures } in it))) (old_values ((let it : Loads ((called c.args.rule.now c.args.log c.args.stamps.now c.args.owners.now c.args.numbers.now c.args.values.now)) c.args.event.now c.args.owners.now c.args.numbers.now c.args.values.now c.args.stamps.now c.args.figures.now c.args.x c.own_figures-own.result ((record { below = c.args.h; sets = c.args.h; left = c.args.h; right = c.args.h; kept = c.args.kept })) c.args.rows.now c.args.at.now no_child no_child (node_at c.args.rule.now c.args.x) c.load_sets.new.rows c.load_sets.new.at = record { ready = c.requires.call_ready; here = c.requires.x_bound.0; below = omega arith; room = c.requires.room_for; stand = rw c.requires.x_bound.1 tt; figures = c.own_figures-own.ensures; decoded = refl; children = rw c.requires.x_bound.1 tt; read = c.load_sets.ensures } in it))) no_child no_child (c.args.h + (c.own_figures-own.result.before - c.own_figures-own.result.low.0)) c.own_figures-own.result.lowest (point c.own_figures-own.result.before) (point c.own_figures-own.result.before) (node_at c.args.rule.now c.args.x) c.settle_leaf-done.new.rows c.settle_leaf-done.new.at c.settle_leaf-done.result = c.settle_leaf-done.ensures.one e c.args.stamps.now (base ((let it : Loads ((called c.args.rule.now c.args.log c.args.stamps.now c.args.owners.now c.args.numbers.now c.args.values.now)) c.args.event.now c.args.owners.now c.args.numbers.now c.args.values.now c.args.stamps.now c.args.figures.now c.args.x c.own_figures-own.result ((record { below = c.args.h; sets = c.args.h; left = c.args.h; right = c.args.h; kept = c.args.kept })) c.args.rows.now c.args.at.now no_child no_child (node_at c.args.rule.now c.args.x) c.load_sets.new.rows c.load_sets.new.at = record { ready = c.requires.call_ready; here = c.requires.x_bound.0; below = omega arith; room = c.requires.room_for; stand = rw c.requires.x_bound.1 tt; figures = c.own_figures-own.ensures; decoded = refl; children = rw c.requires.x_bound.1 tt; read = c.load_sets.ensures } in it))) (old_ages ((let it : Loads ((called c.args.rule.now c.args.log c.args.stamps.now c.args.owners.now c.args.numbers.now c.args.values.now)) c.args.event.now c.args.owners.now c.args.numbers.now c.args.values.now c.args.stamps.now c.args.figures.now c.args.x c.own_figures-own.result ((record { below = c.args.h; sets = c.args.h; left = c.args.h; right = c.args.h; kept = c.args.kept })) c.args.rows.now c.args.at.now no_child no_child (node_at c.args.rule.now c.args.x) c.load_sets.new.rows c.load_sets.new.at = record { ready = c.requires.call_ready; here = c.requires.x_bound.0; below = omega arith; room = c.requires.room_for; stand = rw c.requires.x_bound.1 tt; figures = c.own_figures-own.ensures; decoded = refl; children = rw c.requires.x_bound.1 tt; read = c.load_sets.ensures } in it))) (old_values ((let it : Loads ((called c.args.rule.now c.args.log c.args.stamps.now c.args.owners.now c.args.numbers.now c.args.values.now)) c.args.event.now c.args.owners.now c.args.numbers.now c.args.values.now c.args.stamps.now c.args.figures.now c.args.x c.own_figures-own.result ((record { below = c.args.h; sets = c.args.h; left = c.args.h; right = c.args.h; kept = c.args.kept })) c.args.rows.now c.args.at.now no_child no_child (node_at c.args.rule.now c.args.x) c.load_sets.new.rows c.load_sets.new.at = record { ready = c.requires.call_ready; here = c.requires.x_bound.0; below = omega arith; room = c.requires.room_for; stand = rw c.requires.x_bound.1 tt; figures = c.own_figures-own.ensures; decoded = refl; children = rw c.requires.x_bound.1 tt; read = c.load_sets.ensures } in it))) no_child no_child (point c.own_figures-own.result.before) (point c.own_figures-own.result.before) in it)) ] in it)).stay.rows_long ∙ c.load_sets.ensures.more.rows_long

pub shape_of-at : goal.shape_of-at
shape_of-at c = ((let it : PointsSettled c.args.rule.now c.args.event.now c.load_sets.new.rows c.load_sets.new.at c.args.stamps.now (base ((let it : Loads ((called c.args.rule.now c.args.log c.args.stamps.now c.args.owners.now c.args.numbers.now c.args.values.now)) c.args.event.now c.args.owners.now c.args.numbers.now c.args.values.now c.args.stamps.now c.args.figures.now c.args.x c.own_figures-own.result ((record { below = c.args.h; sets = c.args.h; left = c.args.h; right = c.args.h; kept = c.args.kept })) c.args.rows.now c.args.at.now no_child no_child (node_at c.args.rule.now c.args.x) c.load_sets.new.rows c.load_sets.new.at = record { ready = c.requires.call_ready; here = c.requires.x_bound.0; below = omega arith; room = c.requires.room_for; stand = rw c.requires.x_bound.1 tt; figures = c.own_figures-own.ensures; decoded = refl; children = rw c.requires.x_bound.1 tt; read = c.load_sets.ensures } in it))) (old_ages ((let it : Loads ((called c.args.rule.now c.args.log c.args.stamps.now c.args.owners.now c.args.numbers.now c.args.values.now)) c.args.event.now c.args.owners.now c.args.numbers.now c.args.values.now c.args.stamps.now c.args.figures.now c.args.x c.own_figures-own.result ((record { below = c.args.h; sets = c.args.h; left = c.args.h; right = c.args.h; kept = c.args.kept })) c.args.rows.now c.args.at.now no_child no_child (node_at c.args.rule.now c.args.x) c.load_sets.new.rows c.load_sets.new.at = record { ready = c.requires.call_ready; here = c.requires.x_bound.0; below = omega arith; room = c.requires.room_for; stand = rw c.requires.x_bound.1 tt; figures = c.own_figures-own.ensures; decoded = refl; children = rw c.requires.x_bound.1 tt; read = c.load_sets.ensures } in it))) (old_values ((let it : Loads ((called c.args.rule.now c.args.log c.args.stamps.now c.args.owners.now c.args.numbers.now c.args.values.now)) c.args.event.now c.args.owners.now c.args.numbers.now c.args.values.now c.args.stamps.now c.args.figures.now c.args.x c.own_figures-own.result ((record { below = c.args.h; sets = c.args.h; left = c.args.h; right = c.args.h; kept = c.args.kept })) c.args.rows.now c.args.at.now no_child no_child (node_at c.args.rule.now c.args.x) c.load_sets.new.rows c.load_sets.new.at = record { ready = c.requires.call_ready; here = c.requires.x_bound.0; below = omega arith; room = c.requires.room_for; stand = rw c.requires.x_bound.1 tt; figures = c.own_figures-own.ensures; decoded = refl; children = rw c.requires.x_bound.1 tt; read = c.load_sets.ensures } in it))) no_child no_child (c.args.h + (c.own_figures-own.result.before - c.own_figures-own.result.low.0)) c.own_figures-own.result.lowest (point c.own_figures-own.result.before) (point c.own_figures-own.result.after) (node_at c.args.rule.now c.args.x) c.settle_leaf-done.new.rows c.settle_leaf-done.new.at c.settle_leaf-done.result = elim (some_added c.args.event.now) [ inl z ↦ let (told, rows, at) = c.settle_leaf-done.ensures.none z in none_settled (points_ready ((let it : Loads ((called c.args.rule.now c.args.log c.args.stamps.now c.args.owners.now c.args.numbers.now c.args.values.now)) c.args.event.now c.args.owners.now c.args.numbers.now c.args.values.now c.args.stamps.now c.args.figures.now c.args.x c.own_figures-own.result ((record { below = c.args.h; sets = c.args.h; left = c.args.h; right = c.args.h; kept = c.args.kept })) c.args.rows.now c.args.at.now no_child no_child (node_at c.args.rule.now c.args.x) c.load_sets.new.rows c.load_sets.new.at = record { ready = c.requires.call_ready; here = c.requires.x_bound.0; below = omega arith; room = c.requires.room_for; stand = rw c.requires.x_bound.1 tt; figures = c.own_figures-own.ensures; decoded = refl; children = rw c.requires.x_bound.1 tt; read = c.load_sets.ensures } in it))) (omega (arith, (let it : c.own_figures-own.result.before + points_added c.args.event.now ≡ c.own_figures-own.result.after = new_are c.requires.call_ready c.args.x c.requires.x_bound.0 c.requires.x_bound.1 c.own_figures-own.ensures in it), z)) told rows at | inr e ↦ one_more (points_ready ((let it : Loads ((called c.args.rule.now c.args.log c.args.stamps.now c.args.owners.now c.args.numbers.now c.args.values.now)) c.args.event.now c.args.owners.now c.args.numbers.now c.args.values.now c.args.stamps.now c.args.figures.now c.args.x c.own_figures-own.result ((record { below = c.args.h; sets = c.args.h; left = c.args.h; right = c.args.h; kept = c.args.kept })) c.args.rows.now c.args.at.now no_child no_child (node_at c.args.rule.now c.args.x) c.load_sets.new.rows c.load_sets.new.at = record { ready = c.requires.call_ready; here = c.requires.x_bound.0; below = omega arith; room = c.requires.room_for; stand = rw c.requires.x_bound.1 tt; figures = c.own_figures-own.ensures; decoded = refl; children = rw c.requires.x_bound.1 tt; read = c.load_sets.ensures } in it))) (omega (arith, (let it : c.own_figures-own.result.before + points_added c.args.event.now ≡ c.own_figures-own.result.after = new_are c.requires.call_ready c.args.x c.requires.x_bound.0 c.requires.x_bound.1 c.own_figures-own.ensures in it), e)) ((let it : NextSettled c.args.rule.now c.args.event.now c.load_sets.new.rows c.load_sets.new.at c.args.stamps.now (base ((let it : Loads ((called c.args.rule.now c.args.log c.args.stamps.now c.args.owners.now c.args.numbers.now c.args.values.now)) c.args.event.now c.args.owners.now c.args.numbers.now c.args.values.now c.args.stamps.now c.args.figures.now c.args.x c.own_figures-own.result ((record { below = c.args.h; sets = c.args.h; left = c.args.h; right = c.args.h; kept = c.args.kept })) c.args.rows.now c.args.at.now no_child no_child (node_at c.args.rule.now c.args.x) c.load_sets.new.rows c.load_sets.new.at = record { ready = c.requires.call_ready; here = c.requires.x_bound.0; below = omega arith; room = c.requires.room_for; stand = rw c.requires.x_bound.1 tt; figures = c.own_figures-own.ensures; decoded = refl; children = rw c.requires.x_bound.1 tt; read = c.load_sets.ensures } in it))) (old_ages ((let it : Loads ((called c.args.rule.now c.args.log c.args.stamps.now c.args.owners.now c.args.numbers.now c.args.values.now)) c.args.event.now c.args.owners.now c.args.numbers.now c.args.values.now c.args.stamps.now c.args.figures.now c.args.x c.own_figures-own.result ((record { below = c.args.h; sets = c.args.h; left = c.args.h; right = c.args.h; kept = c.args.kept })) c.args.rows.now c.args.at.now no_child no_child (node_at c.args.rule.now c.args.x) c.load_sets.new.rows c.load_sets.new.at = record { ready = c.requires.call_ready; here = c.requires.x_bound.0; below = omega arith; room = c.requires.room_for; stand = rw c.requires.x_bound.1 tt; figures = c.own_figures-own.ensures; decoded = refl; children = rw c.requires.x_bound.1 tt; read = c.load_sets.ensures } in it))) (old_values ((let it : Loads ((called c.args.rule.now c.args.log c.args.stamps.now c.args.owners.now c.args.numbers.now c.args.values.now)) c.args.event.now c.args.owners.now c.args.numbers.now c.args.values.now c.args.stamps.now c.args.figures.now c.args.x c.own_figures-own.result ((record { below = c.args.h; sets = c.args.h; left = c.args.h; right = c.args.h; kept = c.args.kept })) c.args.rows.now c.args.at.now no_child no_child (node_at c.args.rule.now c.args.x) c.load_sets.new.rows c.load_sets.new.at = record { ready = c.requires.call_ready; here = c.requires.x_bound.0; below = omega arith; room = c.requires.room_for; stand = rw c.requires.x_bound.1 tt; figures = c.own_figures-own.ensures; decoded = refl; children = rw c.requires.x_bound.1 tt; read = c.load_sets.ensures } in it))) no_child no_child (c.args.h + (c.own_figures-own.result.before - c.own_figures-own.result.low.0)) c.own_figures-own.result.lowest (point c.own_figures-own.result.before) (point c.own_figures-own.result.before) (node_at c.args.rule.now c.args.x) c.settle_leaf-done.new.rows c.settle_leaf-done.new.at c.settle_leaf-done.result = c.settle_leaf-done.ensures.one e c.args.stamps.now (base ((let it : Loads ((called c.args.rule.now c.args.log c.args.stamps.now c.args.owners.now c.args.numbers.now c.args.values.now)) c.args.event.now c.args.owners.now c.args.numbers.now c.args.values.now c.args.stamps.now c.args.figures.now c.args.x c.own_figures-own.result ((record { below = c.args.h; sets = c.args.h; left = c.args.h; right = c.args.h; kept = c.args.kept })) c.args.rows.now c.args.at.now no_child no_child (node_at c.args.rule.now c.args.x) c.load_sets.new.rows c.load_sets.new.at = record { ready = c.requires.call_ready; here = c.requires.x_bound.0; below = omega arith; room = c.requires.room_for; stand = rw c.requires.x_bound.1 tt; figures = c.own_figures-own.ensures; decoded = refl; children = rw c.requires.x_bound.1 tt; read = c.load_sets.ensures } in it))) (old_ages ((let it : Loads ((called c.args.rule.now c.args.log c.args.stamps.now c.args.owners.now c.args.numbers.now c.args.values.now)) c.args.event.now c.args.owners.now c.args.numbers.now c.args.values.now c.args.stamps.now c.args.figures.now c.args.x c.own_figures-own.result ((record { below = c.args.h; sets = c.args.h; left = c.args.h; right = c.args.h; kept = c.args.kept })) c.args.rows.now c.args.at.now no_child no_child (node_at c.args.rule.now c.args.x) c.load_sets.new.rows c.load_sets.new.at = record { ready = c.requires.call_ready; here = c.requires.x_bound.0; below = omega arith; room = c.requires.room_for; stand = rw c.requires.x_bound.1 tt; figures = c.own_figures-own.ensures; decoded = refl; children = rw c.requires.x_bound.1 tt; read = c.load_sets.ensures } in it))) (old_values ((let it : Loads ((called c.args.rule.now c.args.log c.args.stamps.now c.args.owners.now c.args.numbers.now c.args.values.now)) c.args.event.now c.args.owners.now c.args.numbers.now c.args.values.now c.args.stamps.now c.args.figures.now c.args.x c.own_figures-own.result ((record { below = c.args.h; sets = c.args.h; left = c.args.h; right = c.args.h; kept = c.args.kept })) c.args.rows.now c.args.at.now no_child no_child (node_at c.args.rule.now c.args.x) c.load_sets.new.rows c.load_sets.new.at = record { ready = c.requires.call_ready; here = c.requires.x_bound.0; below = omega arith; room = c.requires.room_for; stand = rw c.requires.x_bound.1 tt; figures = c.own_figures-own.ensures; decoded = refl; children = rw c.requires.x_bound.1 tt; read = c.load_sets.ensures } in it))) no_child no_child (point c.own_figures-own.result.before) (point c.own_figures-own.result.before) in it)) ] in it)).stay.at_long ∙ c.load_sets.ensures.more.at_long

pub shape_of-blocks : goal.shape_of-blocks
shape_of-blocks c = c.blocks-2-1.given ∙ c.blocks-1.given.1

pub returns : goal.returns
returns c = let told = c.if-not-done.false in
    let table = table_stays c.args.blocks.now ((let it : set_words ≤ length c.args.blocks.now = omega (arith, c.requires.out_there.table) in it)) ((c.settle_leaf-done.new.out)) c.blocks-1.given.0 in
    let b = block_ready ((let it : Loads ((called c.args.rule.now c.args.log c.args.stamps.now c.args.owners.now c.args.numbers.now c.args.values.now)) c.args.event.now c.args.owners.now c.args.numbers.now c.args.values.now c.args.stamps.now c.args.figures.now c.args.x c.own_figures-own.result ((record { below = c.args.h; sets = c.args.h; left = c.args.h; right = c.args.h; kept = c.args.kept })) c.args.rows.now c.args.at.now no_child no_child (node_at c.args.rule.now c.args.x) c.load_sets.new.rows c.load_sets.new.at = record { ready = c.requires.call_ready; here = c.requires.x_bound.0; below = omega arith; room = c.requires.room_for; stand = rw c.requires.x_bound.1 tt; figures = c.own_figures-own.ensures; decoded = refl; children = rw c.requires.x_bound.1 tt; read = c.load_sets.ensures } in it)) ((let it : PointsSettled c.args.rule.now c.args.event.now c.load_sets.new.rows c.load_sets.new.at c.args.stamps.now (base ((let it : Loads ((called c.args.rule.now c.args.log c.args.stamps.now c.args.owners.now c.args.numbers.now c.args.values.now)) c.args.event.now c.args.owners.now c.args.numbers.now c.args.values.now c.args.stamps.now c.args.figures.now c.args.x c.own_figures-own.result ((record { below = c.args.h; sets = c.args.h; left = c.args.h; right = c.args.h; kept = c.args.kept })) c.args.rows.now c.args.at.now no_child no_child (node_at c.args.rule.now c.args.x) c.load_sets.new.rows c.load_sets.new.at = record { ready = c.requires.call_ready; here = c.requires.x_bound.0; below = omega arith; room = c.requires.room_for; stand = rw c.requires.x_bound.1 tt; figures = c.own_figures-own.ensures; decoded = refl; children = rw c.requires.x_bound.1 tt; read = c.load_sets.ensures } in it))) (old_ages ((let it : Loads ((called c.args.rule.now c.args.log c.args.stamps.now c.args.owners.now c.args.numbers.now c.args.values.now)) c.args.event.now c.args.owners.now c.args.numbers.now c.args.values.now c.args.stamps.now c.args.figures.now c.args.x c.own_figures-own.result ((record { below = c.args.h; sets = c.args.h; left = c.args.h; right = c.args.h; kept = c.args.kept })) c.args.rows.now c.args.at.now no_child no_child (node_at c.args.rule.now c.args.x) c.load_sets.new.rows c.load_sets.new.at = record { ready = c.requires.call_ready; here = c.requires.x_bound.0; below = omega arith; room = c.requires.room_for; stand = rw c.requires.x_bound.1 tt; figures = c.own_figures-own.ensures; decoded = refl; children = rw c.requires.x_bound.1 tt; read = c.load_sets.ensures } in it))) (old_values ((let it : Loads ((called c.args.rule.now c.args.log c.args.stamps.now c.args.owners.now c.args.numbers.now c.args.values.now)) c.args.event.now c.args.owners.now c.args.numbers.now c.args.values.now c.args.stamps.now c.args.figures.now c.args.x c.own_figures-own.result ((record { below = c.args.h; sets = c.args.h; left = c.args.h; right = c.args.h; kept = c.args.kept })) c.args.rows.now c.args.at.now no_child no_child (node_at c.args.rule.now c.args.x) c.load_sets.new.rows c.load_sets.new.at = record { ready = c.requires.call_ready; here = c.requires.x_bound.0; below = omega arith; room = c.requires.room_for; stand = rw c.requires.x_bound.1 tt; figures = c.own_figures-own.ensures; decoded = refl; children = rw c.requires.x_bound.1 tt; read = c.load_sets.ensures } in it))) no_child no_child (c.args.h + (c.own_figures-own.result.before - c.own_figures-own.result.low.0)) c.own_figures-own.result.lowest (point c.own_figures-own.result.before) (point c.own_figures-own.result.after) (node_at c.args.rule.now c.args.x) c.settle_leaf-done.new.rows c.settle_leaf-done.new.at true = told_settled ((let it : PointsSettled c.args.rule.now c.args.event.now c.load_sets.new.rows c.load_sets.new.at c.args.stamps.now (base ((let it : Loads ((called c.args.rule.now c.args.log c.args.stamps.now c.args.owners.now c.args.numbers.now c.args.values.now)) c.args.event.now c.args.owners.now c.args.numbers.now c.args.values.now c.args.stamps.now c.args.figures.now c.args.x c.own_figures-own.result ((record { below = c.args.h; sets = c.args.h; left = c.args.h; right = c.args.h; kept = c.args.kept })) c.args.rows.now c.args.at.now no_child no_child (node_at c.args.rule.now c.args.x) c.load_sets.new.rows c.load_sets.new.at = record { ready = c.requires.call_ready; here = c.requires.x_bound.0; below = omega arith; room = c.requires.room_for; stand = rw c.requires.x_bound.1 tt; figures = c.own_figures-own.ensures; decoded = refl; children = rw c.requires.x_bound.1 tt; read = c.load_sets.ensures } in it))) (old_ages ((let it : Loads ((called c.args.rule.now c.args.log c.args.stamps.now c.args.owners.now c.args.numbers.now c.args.values.now)) c.args.event.now c.args.owners.now c.args.numbers.now c.args.values.now c.args.stamps.now c.args.figures.now c.args.x c.own_figures-own.result ((record { below = c.args.h; sets = c.args.h; left = c.args.h; right = c.args.h; kept = c.args.kept })) c.args.rows.now c.args.at.now no_child no_child (node_at c.args.rule.now c.args.x) c.load_sets.new.rows c.load_sets.new.at = record { ready = c.requires.call_ready; here = c.requires.x_bound.0; below = omega arith; room = c.requires.room_for; stand = rw c.requires.x_bound.1 tt; figures = c.own_figures-own.ensures; decoded = refl; children = rw c.requires.x_bound.1 tt; read = c.load_sets.ensures } in it))) (old_values ((let it : Loads ((called c.args.rule.now c.args.log c.args.stamps.now c.args.owners.now c.args.numbers.now c.args.values.now)) c.args.event.now c.args.owners.now c.args.numbers.now c.args.values.now c.args.stamps.now c.args.figures.now c.args.x c.own_figures-own.result ((record { below = c.args.h; sets = c.args.h; left = c.args.h; right = c.args.h; kept = c.args.kept })) c.args.rows.now c.args.at.now no_child no_child (node_at c.args.rule.now c.args.x) c.load_sets.new.rows c.load_sets.new.at = record { ready = c.requires.call_ready; here = c.requires.x_bound.0; below = omega arith; room = c.requires.room_for; stand = rw c.requires.x_bound.1 tt; figures = c.own_figures-own.ensures; decoded = refl; children = rw c.requires.x_bound.1 tt; read = c.load_sets.ensures } in it))) no_child no_child (c.args.h + (c.own_figures-own.result.before - c.own_figures-own.result.low.0)) c.own_figures-own.result.lowest (point c.own_figures-own.result.before) (point c.own_figures-own.result.after) (node_at c.args.rule.now c.args.x) c.settle_leaf-done.new.rows c.settle_leaf-done.new.at c.settle_leaf-done.result = elim (some_added c.args.event.now) [ inl z ↦ let (told, rows, at) = c.settle_leaf-done.ensures.none z in none_settled (points_ready ((let it : Loads ((called c.args.rule.now c.args.log c.args.stamps.now c.args.owners.now c.args.numbers.now c.args.values.now)) c.args.event.now c.args.owners.now c.args.numbers.now c.args.values.now c.args.stamps.now c.args.figures.now c.args.x c.own_figures-own.result ((record { below = c.args.h; sets = c.args.h; left = c.args.h; right = c.args.h; kept = c.args.kept })) c.args.rows.now c.args.at.now no_child no_child (node_at c.args.rule.now c.args.x) c.load_sets.new.rows c.load_sets.new.at = record { ready = c.requires.call_ready; here = c.requires.x_bound.0; below = omega arith; room = c.requires.room_for; stand = rw c.requires.x_bound.1 tt; figures = c.own_figures-own.ensures; decoded = refl; children = rw c.requires.x_bound.1 tt; read = c.load_sets.ensures } in it))) (omega (arith, (let it : c.own_figures-own.result.before + points_added c.args.event.now ≡ c.own_figures-own.result.after = new_are c.requires.call_ready c.args.x c.requires.x_bound.0 c.requires.x_bound.1 c.own_figures-own.ensures in it), z)) told rows at | inr e ↦ one_more (points_ready ((let it : Loads ((called c.args.rule.now c.args.log c.args.stamps.now c.args.owners.now c.args.numbers.now c.args.values.now)) c.args.event.now c.args.owners.now c.args.numbers.now c.args.values.now c.args.stamps.now c.args.figures.now c.args.x c.own_figures-own.result ((record { below = c.args.h; sets = c.args.h; left = c.args.h; right = c.args.h; kept = c.args.kept })) c.args.rows.now c.args.at.now no_child no_child (node_at c.args.rule.now c.args.x) c.load_sets.new.rows c.load_sets.new.at = record { ready = c.requires.call_ready; here = c.requires.x_bound.0; below = omega arith; room = c.requires.room_for; stand = rw c.requires.x_bound.1 tt; figures = c.own_figures-own.ensures; decoded = refl; children = rw c.requires.x_bound.1 tt; read = c.load_sets.ensures } in it))) (omega (arith, (let it : c.own_figures-own.result.before + points_added c.args.event.now ≡ c.own_figures-own.result.after = new_are c.requires.call_ready c.args.x c.requires.x_bound.0 c.requires.x_bound.1 c.own_figures-own.ensures in it), e)) ((let it : NextSettled c.args.rule.now c.args.event.now c.load_sets.new.rows c.load_sets.new.at c.args.stamps.now (base ((let it : Loads ((called c.args.rule.now c.args.log c.args.stamps.now c.args.owners.now c.args.numbers.now c.args.values.now)) c.args.event.now c.args.owners.now c.args.numbers.now c.args.values.now c.args.stamps.now c.args.figures.now c.args.x c.own_figures-own.result ((record { below = c.args.h; sets = c.args.h; left = c.args.h; right = c.args.h; kept = c.args.kept })) c.args.rows.now c.args.at.now no_child no_child (node_at c.args.rule.now c.args.x) c.load_sets.new.rows c.load_sets.new.at = record { ready = c.requires.call_ready; here = c.requires.x_bound.0; below = omega arith; room = c.requires.room_for; stand = rw c.requires.x_bound.1 tt; figures = c.own_figures-own.ensures; decoded = refl; children = rw c.requires.x_bound.1 tt; read = c.load_sets.ensures } in it))) (old_ages ((let it : Loads ((called c.args.rule.now c.args.log c.args.stamps.now c.args.owners.now c.args.numbers.now c.args.values.now)) c.args.event.now c.args.owners.now c.args.numbers.now c.args.values.now c.args.stamps.now c.args.figures.now c.args.x c.own_figures-own.result ((record { below = c.args.h; sets = c.args.h; left = c.args.h; right = c.args.h; kept = c.args.kept })) c.args.rows.now c.args.at.now no_child no_child (node_at c.args.rule.now c.args.x) c.load_sets.new.rows c.load_sets.new.at = record { ready = c.requires.call_ready; here = c.requires.x_bound.0; below = omega arith; room = c.requires.room_for; stand = rw c.requires.x_bound.1 tt; figures = c.own_figures-own.ensures; decoded = refl; children = rw c.requires.x_bound.1 tt; read = c.load_sets.ensures } in it))) (old_values ((let it : Loads ((called c.args.rule.now c.args.log c.args.stamps.now c.args.owners.now c.args.numbers.now c.args.values.now)) c.args.event.now c.args.owners.now c.args.numbers.now c.args.values.now c.args.stamps.now c.args.figures.now c.args.x c.own_figures-own.result ((record { below = c.args.h; sets = c.args.h; left = c.args.h; right = c.args.h; kept = c.args.kept })) c.args.rows.now c.args.at.now no_child no_child (node_at c.args.rule.now c.args.x) c.load_sets.new.rows c.load_sets.new.at = record { ready = c.requires.call_ready; here = c.requires.x_bound.0; below = omega arith; room = c.requires.room_for; stand = rw c.requires.x_bound.1 tt; figures = c.own_figures-own.ensures; decoded = refl; children = rw c.requires.x_bound.1 tt; read = c.load_sets.ensures } in it))) no_child no_child (c.args.h + (c.own_figures-own.result.before - c.own_figures-own.result.low.0)) c.own_figures-own.result.lowest (point c.own_figures-own.result.before) (point c.own_figures-own.result.before) (node_at c.args.rule.now c.args.x) c.settle_leaf-done.new.rows c.settle_leaf-done.new.at c.settle_leaf-done.result = c.settle_leaf-done.ensures.one e c.args.stamps.now (base ((let it : Loads ((called c.args.rule.now c.args.log c.args.stamps.now c.args.owners.now c.args.numbers.now c.args.values.now)) c.args.event.now c.args.owners.now c.args.numbers.now c.args.values.now c.args.stamps.now c.args.figures.now c.args.x c.own_figures-own.result ((record { below = c.args.h; sets = c.args.h; left = c.args.h; right = c.args.h; kept = c.args.kept })) c.args.rows.now c.args.at.now no_child no_child (node_at c.args.rule.now c.args.x) c.load_sets.new.rows c.load_sets.new.at = record { ready = c.requires.call_ready; here = c.requires.x_bound.0; below = omega arith; room = c.requires.room_for; stand = rw c.requires.x_bound.1 tt; figures = c.own_figures-own.ensures; decoded = refl; children = rw c.requires.x_bound.1 tt; read = c.load_sets.ensures } in it))) (old_ages ((let it : Loads ((called c.args.rule.now c.args.log c.args.stamps.now c.args.owners.now c.args.numbers.now c.args.values.now)) c.args.event.now c.args.owners.now c.args.numbers.now c.args.values.now c.args.stamps.now c.args.figures.now c.args.x c.own_figures-own.result ((record { below = c.args.h; sets = c.args.h; left = c.args.h; right = c.args.h; kept = c.args.kept })) c.args.rows.now c.args.at.now no_child no_child (node_at c.args.rule.now c.args.x) c.load_sets.new.rows c.load_sets.new.at = record { ready = c.requires.call_ready; here = c.requires.x_bound.0; below = omega arith; room = c.requires.room_for; stand = rw c.requires.x_bound.1 tt; figures = c.own_figures-own.ensures; decoded = refl; children = rw c.requires.x_bound.1 tt; read = c.load_sets.ensures } in it))) (old_values ((let it : Loads ((called c.args.rule.now c.args.log c.args.stamps.now c.args.owners.now c.args.numbers.now c.args.values.now)) c.args.event.now c.args.owners.now c.args.numbers.now c.args.values.now c.args.stamps.now c.args.figures.now c.args.x c.own_figures-own.result ((record { below = c.args.h; sets = c.args.h; left = c.args.h; right = c.args.h; kept = c.args.kept })) c.args.rows.now c.args.at.now no_child no_child (node_at c.args.rule.now c.args.x) c.load_sets.new.rows c.load_sets.new.at = record { ready = c.requires.call_ready; here = c.requires.x_bound.0; below = omega arith; room = c.requires.room_for; stand = rw c.requires.x_bound.1 tt; figures = c.own_figures-own.ensures; decoded = refl; children = rw c.requires.x_bound.1 tt; read = c.load_sets.ensures } in it))) no_child no_child (point c.own_figures-own.result.before) (point c.own_figures-own.result.before) in it)) ] in it)) told in it)) refl (room_stays table c.requires.out_there) in
    rw c.note_block.ensures
    (step_kept ((let it : Loads ((called c.args.rule.now c.args.log c.args.stamps.now c.args.owners.now c.args.numbers.now c.args.values.now)) c.args.event.now c.args.owners.now c.args.numbers.now c.args.values.now c.args.stamps.now c.args.figures.now c.args.x c.own_figures-own.result ((record { below = c.args.h; sets = c.args.h; left = c.args.h; right = c.args.h; kept = c.args.kept })) c.args.rows.now c.args.at.now no_child no_child (node_at c.args.rule.now c.args.x) c.load_sets.new.rows c.load_sets.new.at = record { ready = c.requires.call_ready; here = c.requires.x_bound.0; below = omega arith; room = c.requires.room_for; stand = rw c.requires.x_bound.1 tt; figures = c.own_figures-own.ensures; decoded = refl; children = rw c.requires.x_bound.1 tt; read = c.load_sets.ensures } in it)) ((let it : PointsSettled c.args.rule.now c.args.event.now c.load_sets.new.rows c.load_sets.new.at c.args.stamps.now (base ((let it : Loads ((called c.args.rule.now c.args.log c.args.stamps.now c.args.owners.now c.args.numbers.now c.args.values.now)) c.args.event.now c.args.owners.now c.args.numbers.now c.args.values.now c.args.stamps.now c.args.figures.now c.args.x c.own_figures-own.result ((record { below = c.args.h; sets = c.args.h; left = c.args.h; right = c.args.h; kept = c.args.kept })) c.args.rows.now c.args.at.now no_child no_child (node_at c.args.rule.now c.args.x) c.load_sets.new.rows c.load_sets.new.at = record { ready = c.requires.call_ready; here = c.requires.x_bound.0; below = omega arith; room = c.requires.room_for; stand = rw c.requires.x_bound.1 tt; figures = c.own_figures-own.ensures; decoded = refl; children = rw c.requires.x_bound.1 tt; read = c.load_sets.ensures } in it))) (old_ages ((let it : Loads ((called c.args.rule.now c.args.log c.args.stamps.now c.args.owners.now c.args.numbers.now c.args.values.now)) c.args.event.now c.args.owners.now c.args.numbers.now c.args.values.now c.args.stamps.now c.args.figures.now c.args.x c.own_figures-own.result ((record { below = c.args.h; sets = c.args.h; left = c.args.h; right = c.args.h; kept = c.args.kept })) c.args.rows.now c.args.at.now no_child no_child (node_at c.args.rule.now c.args.x) c.load_sets.new.rows c.load_sets.new.at = record { ready = c.requires.call_ready; here = c.requires.x_bound.0; below = omega arith; room = c.requires.room_for; stand = rw c.requires.x_bound.1 tt; figures = c.own_figures-own.ensures; decoded = refl; children = rw c.requires.x_bound.1 tt; read = c.load_sets.ensures } in it))) (old_values ((let it : Loads ((called c.args.rule.now c.args.log c.args.stamps.now c.args.owners.now c.args.numbers.now c.args.values.now)) c.args.event.now c.args.owners.now c.args.numbers.now c.args.values.now c.args.stamps.now c.args.figures.now c.args.x c.own_figures-own.result ((record { below = c.args.h; sets = c.args.h; left = c.args.h; right = c.args.h; kept = c.args.kept })) c.args.rows.now c.args.at.now no_child no_child (node_at c.args.rule.now c.args.x) c.load_sets.new.rows c.load_sets.new.at = record { ready = c.requires.call_ready; here = c.requires.x_bound.0; below = omega arith; room = c.requires.room_for; stand = rw c.requires.x_bound.1 tt; figures = c.own_figures-own.ensures; decoded = refl; children = rw c.requires.x_bound.1 tt; read = c.load_sets.ensures } in it))) no_child no_child (c.args.h + (c.own_figures-own.result.before - c.own_figures-own.result.low.0)) c.own_figures-own.result.lowest (point c.own_figures-own.result.before) (point c.own_figures-own.result.after) (node_at c.args.rule.now c.args.x) c.settle_leaf-done.new.rows c.settle_leaf-done.new.at true = told_settled ((let it : PointsSettled c.args.rule.now c.args.event.now c.load_sets.new.rows c.load_sets.new.at c.args.stamps.now (base ((let it : Loads ((called c.args.rule.now c.args.log c.args.stamps.now c.args.owners.now c.args.numbers.now c.args.values.now)) c.args.event.now c.args.owners.now c.args.numbers.now c.args.values.now c.args.stamps.now c.args.figures.now c.args.x c.own_figures-own.result ((record { below = c.args.h; sets = c.args.h; left = c.args.h; right = c.args.h; kept = c.args.kept })) c.args.rows.now c.args.at.now no_child no_child (node_at c.args.rule.now c.args.x) c.load_sets.new.rows c.load_sets.new.at = record { ready = c.requires.call_ready; here = c.requires.x_bound.0; below = omega arith; room = c.requires.room_for; stand = rw c.requires.x_bound.1 tt; figures = c.own_figures-own.ensures; decoded = refl; children = rw c.requires.x_bound.1 tt; read = c.load_sets.ensures } in it))) (old_ages ((let it : Loads ((called c.args.rule.now c.args.log c.args.stamps.now c.args.owners.now c.args.numbers.now c.args.values.now)) c.args.event.now c.args.owners.now c.args.numbers.now c.args.values.now c.args.stamps.now c.args.figures.now c.args.x c.own_figures-own.result ((record { below = c.args.h; sets = c.args.h; left = c.args.h; right = c.args.h; kept = c.args.kept })) c.args.rows.now c.args.at.now no_child no_child (node_at c.args.rule.now c.args.x) c.load_sets.new.rows c.load_sets.new.at = record { ready = c.requires.call_ready; here = c.requires.x_bound.0; below = omega arith; room = c.requires.room_for; stand = rw c.requires.x_bound.1 tt; figures = c.own_figures-own.ensures; decoded = refl; children = rw c.requires.x_bound.1 tt; read = c.load_sets.ensures } in it))) (old_values ((let it : Loads ((called c.args.rule.now c.args.log c.args.stamps.now c.args.owners.now c.args.numbers.now c.args.values.now)) c.args.event.now c.args.owners.now c.args.numbers.now c.args.values.now c.args.stamps.now c.args.figures.now c.args.x c.own_figures-own.result ((record { below = c.args.h; sets = c.args.h; left = c.args.h; right = c.args.h; kept = c.args.kept })) c.args.rows.now c.args.at.now no_child no_child (node_at c.args.rule.now c.args.x) c.load_sets.new.rows c.load_sets.new.at = record { ready = c.requires.call_ready; here = c.requires.x_bound.0; below = omega arith; room = c.requires.room_for; stand = rw c.requires.x_bound.1 tt; figures = c.own_figures-own.ensures; decoded = refl; children = rw c.requires.x_bound.1 tt; read = c.load_sets.ensures } in it))) no_child no_child (c.args.h + (c.own_figures-own.result.before - c.own_figures-own.result.low.0)) c.own_figures-own.result.lowest (point c.own_figures-own.result.before) (point c.own_figures-own.result.after) (node_at c.args.rule.now c.args.x) c.settle_leaf-done.new.rows c.settle_leaf-done.new.at c.settle_leaf-done.result = elim (some_added c.args.event.now) [ inl z ↦ let (told, rows, at) = c.settle_leaf-done.ensures.none z in none_settled (points_ready ((let it : Loads ((called c.args.rule.now c.args.log c.args.stamps.now c.args.owners.now c.args.numbers.now c.args.values.now)) c.args.event.now c.args.owners.now c.args.numbers.now c.args.values.now c.args.stamps.now c.args.figures.now c.args.x c.own_figures-own.result ((record { below = c.args.h; sets = c.args.h; left = c.args.h; right = c.args.h; kept = c.args.kept })) c.args.rows.now c.args.at.now no_child no_child (node_at c.args.rule.now c.args.x) c.load_sets.new.rows c.load_sets.new.at = record { ready = c.requires.call_ready; here = c.requires.x_bound.0; below = omega arith; room = c.requires.room_for; stand = rw c.requires.x_bound.1 tt; figures = c.own_figures-own.ensures; decoded = refl; children = rw c.requires.x_bound.1 tt; read = c.load_sets.ensures } in it))) (omega (arith, (let it : c.own_figures-own.result.before + points_added c.args.event.now ≡ c.own_figures-own.result.after = new_are c.requires.call_ready c.args.x c.requires.x_bound.0 c.requires.x_bound.1 c.own_figures-own.ensures in it), z)) told rows at | inr e ↦ one_more (points_ready ((let it : Loads ((called c.args.rule.now c.args.log c.args.stamps.now c.args.owners.now c.args.numbers.now c.args.values.now)) c.args.event.now c.args.owners.now c.args.numbers.now c.args.values.now c.args.stamps.now c.args.figures.now c.args.x c.own_figures-own.result ((record { below = c.args.h; sets = c.args.h; left = c.args.h; right = c.args.h; kept = c.args.kept })) c.args.rows.now c.args.at.now no_child no_child (node_at c.args.rule.now c.args.x) c.load_sets.new.rows c.load_sets.new.at = record { ready = c.requires.call_ready; here = c.requires.x_bound.0; below = omega arith; room = c.requires.room_for; stand = rw c.requires.x_bound.1 tt; figures = c.own_figures-own.ensures; decoded = refl; children = rw c.requires.x_bound.1 tt; read = c.load_sets.ensures } in it))) (omega (arith, (let it : c.own_figures-own.result.before + points_added c.args.event.now ≡ c.own_figures-own.result.after = new_are c.requires.call_ready c.args.x c.requires.x_bound.0 c.requires.x_bound.1 c.own_figures-own.ensures in it), e)) ((let it : NextSettled c.args.rule.now c.args.event.now c.load_sets.new.rows c.load_sets.new.at c.args.stamps.now (base ((let it : Loads ((called c.args.rule.now c.args.log c.args.stamps.now c.args.owners.now c.args.numbers.now c.args.values.now)) c.args.event.now c.args.owners.now c.args.numbers.now c.args.values.now c.args.stamps.now c.args.figures.now c.args.x c.own_figures-own.result ((record { below = c.args.h; sets = c.args.h; left = c.args.h; right = c.args.h; kept = c.args.kept })) c.args.rows.now c.args.at.now no_child no_child (node_at c.args.rule.now c.args.x) c.load_sets.new.rows c.load_sets.new.at = record { ready = c.requires.call_ready; here = c.requires.x_bound.0; below = omega arith; room = c.requires.room_for; stand = rw c.requires.x_bound.1 tt; figures = c.own_figures-own.ensures; decoded = refl; children = rw c.requires.x_bound.1 tt; read = c.load_sets.ensures } in it))) (old_ages ((let it : Loads ((called c.args.rule.now c.args.log c.args.stamps.now c.args.owners.now c.args.numbers.now c.args.values.now)) c.args.event.now c.args.owners.now c.args.numbers.now c.args.values.now c.args.stamps.now c.args.figures.now c.args.x c.own_figures-own.result ((record { below = c.args.h; sets = c.args.h; left = c.args.h; right = c.args.h; kept = c.args.kept })) c.args.rows.now c.args.at.now no_child no_child (node_at c.args.rule.now c.args.x) c.load_sets.new.rows c.load_sets.new.at = record { ready = c.requires.call_ready; here = c.requires.x_bound.0; below = omega arith; room = c.requires.room_for; stand = rw c.requires.x_bound.1 tt; figures = c.own_figures-own.ensures; decoded = refl; children = rw c.requires.x_bound.1 tt; read = c.load_sets.ensures } in it))) (old_values ((let it : Loads ((called c.args.rule.now c.args.log c.args.stamps.now c.args.owners.now c.args.numbers.now c.args.values.now)) c.args.event.now c.args.owners.now c.args.numbers.now c.args.values.now c.args.stamps.now c.args.figures.now c.args.x c.own_figures-own.result ((record { below = c.args.h; sets = c.args.h; left = c.args.h; right = c.args.h; kept = c.args.kept })) c.args.rows.now c.args.at.now no_child no_child (node_at c.args.rule.now c.args.x) c.load_sets.new.rows c.load_sets.new.at = record { ready = c.requires.call_ready; here = c.requires.x_bound.0; below = omega arith; room = c.requires.room_for; stand = rw c.requires.x_bound.1 tt; figures = c.own_figures-own.ensures; decoded = refl; children = rw c.requires.x_bound.1 tt; read = c.load_sets.ensures } in it))) no_child no_child (c.args.h + (c.own_figures-own.result.before - c.own_figures-own.result.low.0)) c.own_figures-own.result.lowest (point c.own_figures-own.result.before) (point c.own_figures-own.result.before) (node_at c.args.rule.now c.args.x) c.settle_leaf-done.new.rows c.settle_leaf-done.new.at c.settle_leaf-done.result = c.settle_leaf-done.ensures.one e c.args.stamps.now (base ((let it : Loads ((called c.args.rule.now c.args.log c.args.stamps.now c.args.owners.now c.args.numbers.now c.args.values.now)) c.args.event.now c.args.owners.now c.args.numbers.now c.args.values.now c.args.stamps.now c.args.figures.now c.args.x c.own_figures-own.result ((record { below = c.args.h; sets = c.args.h; left = c.args.h; right = c.args.h; kept = c.args.kept })) c.args.rows.now c.args.at.now no_child no_child (node_at c.args.rule.now c.args.x) c.load_sets.new.rows c.load_sets.new.at = record { ready = c.requires.call_ready; here = c.requires.x_bound.0; below = omega arith; room = c.requires.room_for; stand = rw c.requires.x_bound.1 tt; figures = c.own_figures-own.ensures; decoded = refl; children = rw c.requires.x_bound.1 tt; read = c.load_sets.ensures } in it))) (old_ages ((let it : Loads ((called c.args.rule.now c.args.log c.args.stamps.now c.args.owners.now c.args.numbers.now c.args.values.now)) c.args.event.now c.args.owners.now c.args.numbers.now c.args.values.now c.args.stamps.now c.args.figures.now c.args.x c.own_figures-own.result ((record { below = c.args.h; sets = c.args.h; left = c.args.h; right = c.args.h; kept = c.args.kept })) c.args.rows.now c.args.at.now no_child no_child (node_at c.args.rule.now c.args.x) c.load_sets.new.rows c.load_sets.new.at = record { ready = c.requires.call_ready; here = c.requires.x_bound.0; below = omega arith; room = c.requires.room_for; stand = rw c.requires.x_bound.1 tt; figures = c.own_figures-own.ensures; decoded = refl; children = rw c.requires.x_bound.1 tt; read = c.load_sets.ensures } in it))) (old_values ((let it : Loads ((called c.args.rule.now c.args.log c.args.stamps.now c.args.owners.now c.args.numbers.now c.args.values.now)) c.args.event.now c.args.owners.now c.args.numbers.now c.args.values.now c.args.stamps.now c.args.figures.now c.args.x c.own_figures-own.result ((record { below = c.args.h; sets = c.args.h; left = c.args.h; right = c.args.h; kept = c.args.kept })) c.args.rows.now c.args.at.now no_child no_child (node_at c.args.rule.now c.args.x) c.load_sets.new.rows c.load_sets.new.at = record { ready = c.requires.call_ready; here = c.requires.x_bound.0; below = omega arith; room = c.requires.room_for; stand = rw c.requires.x_bound.1 tt; figures = c.own_figures-own.ensures; decoded = refl; children = rw c.requires.x_bound.1 tt; read = c.load_sets.ensures } in it))) no_child no_child (point c.own_figures-own.result.before) (point c.own_figures-own.result.before) in it)) ] in it)) told in it)) c.requires.out_there table refl
    (leaf_kept (node_at c.args.rule.now c.args.x) c.requires.x_bound.1 ((let it : (c.own_figures-own.result.before ≡ c.own_figures-own.result.after) ⊎ (c.own_figures-own.result.before + 1 ≡ c.own_figures-own.result.after) = elim (some_added c.args.event.now) [ inl z ↦ inl (omega (arith, (let it : c.own_figures-own.result.before + points_added c.args.event.now ≡ c.own_figures-own.result.after = new_are c.requires.call_ready c.args.x c.requires.x_bound.0 c.requires.x_bound.1 c.own_figures-own.ensures in it), z)) | inr e ↦ inr (omega (arith, (let it : c.own_figures-own.result.before + points_added c.args.event.now ≡ c.own_figures-own.result.after = new_are c.requires.call_ready c.args.x c.requires.x_bound.0 c.requires.x_bound.1 c.own_figures-own.ensures in it), e)) ] in it)) (none_held (node_at c.args.rule.now c.args.x) c.requires.x_bound.1 c.args.rule.now c.args.x (pairs_fit_lem ((let it : Loads ((called c.args.rule.now c.args.log c.args.stamps.now c.args.owners.now c.args.numbers.now c.args.values.now)) c.args.event.now c.args.owners.now c.args.numbers.now c.args.values.now c.args.stamps.now c.args.figures.now c.args.x c.own_figures-own.result ((record { below = c.args.h; sets = c.args.h; left = c.args.h; right = c.args.h; kept = c.args.kept })) c.args.rows.now c.args.at.now no_child no_child (node_at c.args.rule.now c.args.x) c.load_sets.new.rows c.load_sets.new.at = record { ready = c.requires.call_ready; here = c.requires.x_bound.0; below = omega arith; room = c.requires.room_for; stand = rw c.requires.x_bound.1 tt; figures = c.own_figures-own.ensures; decoded = refl; children = rw c.requires.x_bound.1 tt; read = c.load_sets.ensures } in it)))) b.pairs.room (c.keep_sets-end.ensures c.args.x) ((c.settle_leaf-done.new.out) ++ drop set_words c.args.blocks.now) b.table)
    (not_moved (whole ((let it : Loads ((called c.args.rule.now c.args.log c.args.stamps.now c.args.owners.now c.args.numbers.now c.args.values.now)) c.args.event.now c.args.owners.now c.args.numbers.now c.args.values.now c.args.stamps.now c.args.figures.now c.args.x c.own_figures-own.result ((record { below = c.args.h; sets = c.args.h; left = c.args.h; right = c.args.h; kept = c.args.kept })) c.args.rows.now c.args.at.now no_child no_child (node_at c.args.rule.now c.args.x) c.load_sets.new.rows c.load_sets.new.at = record { ready = c.requires.call_ready; here = c.requires.x_bound.0; below = omega arith; room = c.requires.room_for; stand = rw c.requires.x_bound.1 tt; figures = c.own_figures-own.ensures; decoded = refl; children = rw c.requires.x_bound.1 tt; read = c.load_sets.ensures } in it)) ((let it : PointsSettled c.args.rule.now c.args.event.now c.load_sets.new.rows c.load_sets.new.at c.args.stamps.now (base ((let it : Loads ((called c.args.rule.now c.args.log c.args.stamps.now c.args.owners.now c.args.numbers.now c.args.values.now)) c.args.event.now c.args.owners.now c.args.numbers.now c.args.values.now c.args.stamps.now c.args.figures.now c.args.x c.own_figures-own.result ((record { below = c.args.h; sets = c.args.h; left = c.args.h; right = c.args.h; kept = c.args.kept })) c.args.rows.now c.args.at.now no_child no_child (node_at c.args.rule.now c.args.x) c.load_sets.new.rows c.load_sets.new.at = record { ready = c.requires.call_ready; here = c.requires.x_bound.0; below = omega arith; room = c.requires.room_for; stand = rw c.requires.x_bound.1 tt; figures = c.own_figures-own.ensures; decoded = refl; children = rw c.requires.x_bound.1 tt; read = c.load_sets.ensures } in it))) (old_ages ((let it : Loads ((called c.args.rule.now c.args.log c.args.stamps.now c.args.owners.now c.args.numbers.now c.args.values.now)) c.args.event.now c.args.owners.now c.args.numbers.now c.args.values.now c.args.stamps.now c.args.figures.now c.args.x c.own_figures-own.result ((record { below = c.args.h; sets = c.args.h; left = c.args.h; right = c.args.h; kept = c.args.kept })) c.args.rows.now c.args.at.now no_child no_child (node_at c.args.rule.now c.args.x) c.load_sets.new.rows c.load_sets.new.at = record { ready = c.requires.call_ready; here = c.requires.x_bound.0; below = omega arith; room = c.requires.room_for; stand = rw c.requires.x_bound.1 tt; figures = c.own_figures-own.ensures; decoded = refl; children = rw c.requires.x_bound.1 tt; read = c.load_sets.ensures } in it))) (old_values ((let it : Loads ((called c.args.rule.now c.args.log c.args.stamps.now c.args.owners.now c.args.numbers.now c.args.values.now)) c.args.event.now c.args.owners.now c.args.numbers.now c.args.values.now c.args.stamps.now c.args.figures.now c.args.x c.own_figures-own.result ((record { below = c.args.h; sets = c.args.h; left = c.args.h; right = c.args.h; kept = c.args.kept })) c.args.rows.now c.args.at.now no_child no_child (node_at c.args.rule.now c.args.x) c.load_sets.new.rows c.load_sets.new.at = record { ready = c.requires.call_ready; here = c.requires.x_bound.0; below = omega arith; room = c.requires.room_for; stand = rw c.requires.x_bound.1 tt; figures = c.own_figures-own.ensures; decoded = refl; children = rw c.requires.x_bound.1 tt; read = c.load_sets.ensures } in it))) no_child no_child (c.args.h + (c.own_figures-own.result.before - c.own_figures-own.result.low.0)) c.own_figures-own.result.lowest (point c.own_figures-own.result.before) (point c.own_figures-own.result.after) (node_at c.args.rule.now c.args.x) c.settle_leaf-done.new.rows c.settle_leaf-done.new.at true = told_settled ((let it : PointsSettled c.args.rule.now c.args.event.now c.load_sets.new.rows c.load_sets.new.at c.args.stamps.now (base ((let it : Loads ((called c.args.rule.now c.args.log c.args.stamps.now c.args.owners.now c.args.numbers.now c.args.values.now)) c.args.event.now c.args.owners.now c.args.numbers.now c.args.values.now c.args.stamps.now c.args.figures.now c.args.x c.own_figures-own.result ((record { below = c.args.h; sets = c.args.h; left = c.args.h; right = c.args.h; kept = c.args.kept })) c.args.rows.now c.args.at.now no_child no_child (node_at c.args.rule.now c.args.x) c.load_sets.new.rows c.load_sets.new.at = record { ready = c.requires.call_ready; here = c.requires.x_bound.0; below = omega arith; room = c.requires.room_for; stand = rw c.requires.x_bound.1 tt; figures = c.own_figures-own.ensures; decoded = refl; children = rw c.requires.x_bound.1 tt; read = c.load_sets.ensures } in it))) (old_ages ((let it : Loads ((called c.args.rule.now c.args.log c.args.stamps.now c.args.owners.now c.args.numbers.now c.args.values.now)) c.args.event.now c.args.owners.now c.args.numbers.now c.args.values.now c.args.stamps.now c.args.figures.now c.args.x c.own_figures-own.result ((record { below = c.args.h; sets = c.args.h; left = c.args.h; right = c.args.h; kept = c.args.kept })) c.args.rows.now c.args.at.now no_child no_child (node_at c.args.rule.now c.args.x) c.load_sets.new.rows c.load_sets.new.at = record { ready = c.requires.call_ready; here = c.requires.x_bound.0; below = omega arith; room = c.requires.room_for; stand = rw c.requires.x_bound.1 tt; figures = c.own_figures-own.ensures; decoded = refl; children = rw c.requires.x_bound.1 tt; read = c.load_sets.ensures } in it))) (old_values ((let it : Loads ((called c.args.rule.now c.args.log c.args.stamps.now c.args.owners.now c.args.numbers.now c.args.values.now)) c.args.event.now c.args.owners.now c.args.numbers.now c.args.values.now c.args.stamps.now c.args.figures.now c.args.x c.own_figures-own.result ((record { below = c.args.h; sets = c.args.h; left = c.args.h; right = c.args.h; kept = c.args.kept })) c.args.rows.now c.args.at.now no_child no_child (node_at c.args.rule.now c.args.x) c.load_sets.new.rows c.load_sets.new.at = record { ready = c.requires.call_ready; here = c.requires.x_bound.0; below = omega arith; room = c.requires.room_for; stand = rw c.requires.x_bound.1 tt; figures = c.own_figures-own.ensures; decoded = refl; children = rw c.requires.x_bound.1 tt; read = c.load_sets.ensures } in it))) no_child no_child (c.args.h + (c.own_figures-own.result.before - c.own_figures-own.result.low.0)) c.own_figures-own.result.lowest (point c.own_figures-own.result.before) (point c.own_figures-own.result.after) (node_at c.args.rule.now c.args.x) c.settle_leaf-done.new.rows c.settle_leaf-done.new.at c.settle_leaf-done.result = elim (some_added c.args.event.now) [ inl z ↦ let (told, rows, at) = c.settle_leaf-done.ensures.none z in none_settled (points_ready ((let it : Loads ((called c.args.rule.now c.args.log c.args.stamps.now c.args.owners.now c.args.numbers.now c.args.values.now)) c.args.event.now c.args.owners.now c.args.numbers.now c.args.values.now c.args.stamps.now c.args.figures.now c.args.x c.own_figures-own.result ((record { below = c.args.h; sets = c.args.h; left = c.args.h; right = c.args.h; kept = c.args.kept })) c.args.rows.now c.args.at.now no_child no_child (node_at c.args.rule.now c.args.x) c.load_sets.new.rows c.load_sets.new.at = record { ready = c.requires.call_ready; here = c.requires.x_bound.0; below = omega arith; room = c.requires.room_for; stand = rw c.requires.x_bound.1 tt; figures = c.own_figures-own.ensures; decoded = refl; children = rw c.requires.x_bound.1 tt; read = c.load_sets.ensures } in it))) (omega (arith, (let it : c.own_figures-own.result.before + points_added c.args.event.now ≡ c.own_figures-own.result.after = new_are c.requires.call_ready c.args.x c.requires.x_bound.0 c.requires.x_bound.1 c.own_figures-own.ensures in it), z)) told rows at | inr e ↦ one_more (points_ready ((let it : Loads ((called c.args.rule.now c.args.log c.args.stamps.now c.args.owners.now c.args.numbers.now c.args.values.now)) c.args.event.now c.args.owners.now c.args.numbers.now c.args.values.now c.args.stamps.now c.args.figures.now c.args.x c.own_figures-own.result ((record { below = c.args.h; sets = c.args.h; left = c.args.h; right = c.args.h; kept = c.args.kept })) c.args.rows.now c.args.at.now no_child no_child (node_at c.args.rule.now c.args.x) c.load_sets.new.rows c.load_sets.new.at = record { ready = c.requires.call_ready; here = c.requires.x_bound.0; below = omega arith; room = c.requires.room_for; stand = rw c.requires.x_bound.1 tt; figures = c.own_figures-own.ensures; decoded = refl; children = rw c.requires.x_bound.1 tt; read = c.load_sets.ensures } in it))) (omega (arith, (let it : c.own_figures-own.result.before + points_added c.args.event.now ≡ c.own_figures-own.result.after = new_are c.requires.call_ready c.args.x c.requires.x_bound.0 c.requires.x_bound.1 c.own_figures-own.ensures in it), e)) ((let it : NextSettled c.args.rule.now c.args.event.now c.load_sets.new.rows c.load_sets.new.at c.args.stamps.now (base ((let it : Loads ((called c.args.rule.now c.args.log c.args.stamps.now c.args.owners.now c.args.numbers.now c.args.values.now)) c.args.event.now c.args.owners.now c.args.numbers.now c.args.values.now c.args.stamps.now c.args.figures.now c.args.x c.own_figures-own.result ((record { below = c.args.h; sets = c.args.h; left = c.args.h; right = c.args.h; kept = c.args.kept })) c.args.rows.now c.args.at.now no_child no_child (node_at c.args.rule.now c.args.x) c.load_sets.new.rows c.load_sets.new.at = record { ready = c.requires.call_ready; here = c.requires.x_bound.0; below = omega arith; room = c.requires.room_for; stand = rw c.requires.x_bound.1 tt; figures = c.own_figures-own.ensures; decoded = refl; children = rw c.requires.x_bound.1 tt; read = c.load_sets.ensures } in it))) (old_ages ((let it : Loads ((called c.args.rule.now c.args.log c.args.stamps.now c.args.owners.now c.args.numbers.now c.args.values.now)) c.args.event.now c.args.owners.now c.args.numbers.now c.args.values.now c.args.stamps.now c.args.figures.now c.args.x c.own_figures-own.result ((record { below = c.args.h; sets = c.args.h; left = c.args.h; right = c.args.h; kept = c.args.kept })) c.args.rows.now c.args.at.now no_child no_child (node_at c.args.rule.now c.args.x) c.load_sets.new.rows c.load_sets.new.at = record { ready = c.requires.call_ready; here = c.requires.x_bound.0; below = omega arith; room = c.requires.room_for; stand = rw c.requires.x_bound.1 tt; figures = c.own_figures-own.ensures; decoded = refl; children = rw c.requires.x_bound.1 tt; read = c.load_sets.ensures } in it))) (old_values ((let it : Loads ((called c.args.rule.now c.args.log c.args.stamps.now c.args.owners.now c.args.numbers.now c.args.values.now)) c.args.event.now c.args.owners.now c.args.numbers.now c.args.values.now c.args.stamps.now c.args.figures.now c.args.x c.own_figures-own.result ((record { below = c.args.h; sets = c.args.h; left = c.args.h; right = c.args.h; kept = c.args.kept })) c.args.rows.now c.args.at.now no_child no_child (node_at c.args.rule.now c.args.x) c.load_sets.new.rows c.load_sets.new.at = record { ready = c.requires.call_ready; here = c.requires.x_bound.0; below = omega arith; room = c.requires.room_for; stand = rw c.requires.x_bound.1 tt; figures = c.own_figures-own.ensures; decoded = refl; children = rw c.requires.x_bound.1 tt; read = c.load_sets.ensures } in it))) no_child no_child (c.args.h + (c.own_figures-own.result.before - c.own_figures-own.result.low.0)) c.own_figures-own.result.lowest (point c.own_figures-own.result.before) (point c.own_figures-own.result.before) (node_at c.args.rule.now c.args.x) c.settle_leaf-done.new.rows c.settle_leaf-done.new.at c.settle_leaf-done.result = c.settle_leaf-done.ensures.one e c.args.stamps.now (base ((let it : Loads ((called c.args.rule.now c.args.log c.args.stamps.now c.args.owners.now c.args.numbers.now c.args.values.now)) c.args.event.now c.args.owners.now c.args.numbers.now c.args.values.now c.args.stamps.now c.args.figures.now c.args.x c.own_figures-own.result ((record { below = c.args.h; sets = c.args.h; left = c.args.h; right = c.args.h; kept = c.args.kept })) c.args.rows.now c.args.at.now no_child no_child (node_at c.args.rule.now c.args.x) c.load_sets.new.rows c.load_sets.new.at = record { ready = c.requires.call_ready; here = c.requires.x_bound.0; below = omega arith; room = c.requires.room_for; stand = rw c.requires.x_bound.1 tt; figures = c.own_figures-own.ensures; decoded = refl; children = rw c.requires.x_bound.1 tt; read = c.load_sets.ensures } in it))) (old_ages ((let it : Loads ((called c.args.rule.now c.args.log c.args.stamps.now c.args.owners.now c.args.numbers.now c.args.values.now)) c.args.event.now c.args.owners.now c.args.numbers.now c.args.values.now c.args.stamps.now c.args.figures.now c.args.x c.own_figures-own.result ((record { below = c.args.h; sets = c.args.h; left = c.args.h; right = c.args.h; kept = c.args.kept })) c.args.rows.now c.args.at.now no_child no_child (node_at c.args.rule.now c.args.x) c.load_sets.new.rows c.load_sets.new.at = record { ready = c.requires.call_ready; here = c.requires.x_bound.0; below = omega arith; room = c.requires.room_for; stand = rw c.requires.x_bound.1 tt; figures = c.own_figures-own.ensures; decoded = refl; children = rw c.requires.x_bound.1 tt; read = c.load_sets.ensures } in it))) (old_values ((let it : Loads ((called c.args.rule.now c.args.log c.args.stamps.now c.args.owners.now c.args.numbers.now c.args.values.now)) c.args.event.now c.args.owners.now c.args.numbers.now c.args.values.now c.args.stamps.now c.args.figures.now c.args.x c.own_figures-own.result ((record { below = c.args.h; sets = c.args.h; left = c.args.h; right = c.args.h; kept = c.args.kept })) c.args.rows.now c.args.at.now no_child no_child (node_at c.args.rule.now c.args.x) c.load_sets.new.rows c.load_sets.new.at = record { ready = c.requires.call_ready; here = c.requires.x_bound.0; below = omega arith; room = c.requires.room_for; stand = rw c.requires.x_bound.1 tt; figures = c.own_figures-own.ensures; decoded = refl; children = rw c.requires.x_bound.1 tt; read = c.load_sets.ensures } in it))) no_child no_child (point c.own_figures-own.result.before) (point c.own_figures-own.result.before) in it)) ] in it)) told in it)) refl).laid))
