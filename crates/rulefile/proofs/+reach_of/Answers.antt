-- `rulefile::reach_of` meets its contract: the number of the node falls at each call, and what the calls give makes the node's reach.
use native.Mathlib.Omega.{arith}
use mathlib.Core.Path.{refl}
use mathlib.Core.List.Memᴰ
use Rattle.rulefile.proofs.Reach.{opened, opened_lower, opened_reach, opened_small}
use Rattle.rulefile.proofs.+reach_of.Goals as goal

pub reach_of-requires : goal.reach_of-requires
reach_of-requires t c =
    let l = opened_lower (opened c.requires c.node_at-node.ensures c.window_reach-own.ensures) c.in-One.ensures (Memᴰ.head refl) in
    (omega (arith, l.0, c.decreases), (c.requires.0, l.1))

pub overflow_add-result : goal.overflow_add-result
overflow_add-result t c =
    let o = opened c.requires c.node_at-node.ensures c.window_reach-own.ensures in
    omega (arith, c.reach_of.ensures, opened_reach o c.in-One.ensures, opened_small o c.in-One.ensures)

pub reach_of-requires-in-Two : goal.reach_of-requires-in-Two
reach_of-requires-in-Two t c =
    let l = opened_lower (opened c.requires c.node_at-node.ensures c.window_reach-own.ensures) c.in-Two.ensures (Memᴰ.head refl) in
    (omega (arith, l.0, c.decreases), (c.requires.0, l.1))

pub reach_of-requires-in-Two-2 : goal.reach_of-requires-in-Two-2
reach_of-requires-in-Two-2 t c =
    let l = opened_lower (opened c.requires c.node_at-node.ensures c.window_reach-own.ensures) c.in-Two.ensures (Memᴰ.tail (Memᴰ.head refl)) in
    (omega (arith, l.0, c.decreases), (c.requires.0, l.1))

pub overflow_add-result-in-Two : goal.overflow_add-result-in-Two
overflow_add-result-in-Two t c =
    let o = opened c.requires c.node_at-node.ensures c.window_reach-own.ensures in
    omega (arith, c.reach_of-in-Two.ensures, c.reach_of-in-Two-2.ensures, c.max.ensures, opened_reach o c.in-Two.ensures, opened_small o c.in-Two.ensures)

pub returns-in-None : goal.returns-in-None
returns-in-None t c = omega (arith, opened_reach (opened c.requires c.node_at-node.ensures c.window_reach-own.ensures) c.in-None.ensures)

pub returns-in-One : goal.returns-in-One
returns-in-One t c = omega (arith, c.reach_of.ensures, opened_reach (opened c.requires c.node_at-node.ensures c.window_reach-own.ensures) c.in-One.ensures)

pub returns-in-Two : goal.returns-in-Two
returns-in-Two t c =
    omega (arith, c.reach_of-in-Two.ensures, c.reach_of-in-Two-2.ensures, c.max.ensures, opened_reach (opened c.requires c.node_at-node.ensures c.window_reach-own.ensures) c.in-Two.ensures)
