-- What a node has that passes 4 and 5: lower children, variables below 4, and a window that adds at most the longest to the reach.
use Rattle.std.specs.Prelude.{ℕ, ◌≤◌, ◌<◌, ◌≡◌, true}
use mathlib.Core.List.{List, Memᴰ}
use Rattle.meaning.specs.Outcome.{longest_window}
use Rattle.meaning.specs.View.{view_of}
use Rattle.meaning.specs.RuleFile.{head_at, body_at, bodies, children_of, shape_fits, range_fits}
use Rattle.meaning.specs.declared.Term.{Term}
use Rattle.meaning.specs.declared.Term.TheVariants.{Variable, Constant}
use Rattle.meaning.specs.declared.Node.{Node}
use Rattle.meaning.specs.declared.Node.TheVariants.{Atom, And, AndNot, Keep, Or, Exists, Previous, Next, Since, NotSince, Until, NotUntil, Once, Eventually}
use Rattle.meaning.specs.declared.Times.{Times}
use Rattle.meaning.specs.declared.Times.TheVariants.{Here, Before, After, Past, Future}

-- node x of the file b passes 4 and 5
pub record NodeFits (b : List ℕ) (x : ℕ) : Type 0 where
  pub shape : shape_fits b x (head_at b x) (body_at (bodies b) x) ≡ true
  pub range : range_fits (head_at b x) (body_at (bodies b) x) ≡ true

abbrev pub TermBelow : Term → Type 0
TermBelow (Variable v) = v < 4
TermBelow (Constant w) = Unit

-- the variables on which a node's kind sets a condition are below 4
abbrev pub VariablesBelow : Node → Type 0
VariablesBelow (Atom r t) = Unit
VariablesBelow (And a b) = Unit
VariablesBelow (AndNot a b) = Unit
VariablesBelow (Keep a c s) = TermBelow s.first × TermBelow s.second
VariablesBelow (Or a b) = Unit
VariablesBelow (Exists a v) = v < 4
VariablesBelow (Previous a w) = Unit
VariablesBelow (Next a w) = Unit
VariablesBelow (Since a b w) = Unit
VariablesBelow (NotSince a b w) = Unit
VariablesBelow (Until a b w) = Unit
VariablesBelow (NotUntil a b w) = Unit
VariablesBelow (Once a w) = Unit
VariablesBelow (Eventually a w) = Unit

-- what a node with a window's end d adds to the greatest reach of its children
abbrev pub reach_by : ℕ → Times → ℕ
reach_by d Here = 0
reach_by d Before = 0
reach_by d After = 0
reach_by d Past = 0
reach_by d Future = d

abbrev pub window_reach : Node → ℕ
window_reach n = reach_by (view_of n).window.end (view_of n).times

-- the node n, with the number x
pub record NodeSound (x : ℕ) (n : Node) : Type 0 where
  pub lower : (c : ℕ) → Memᴰ c (children_of n) → c < x
  pub variables : VariablesBelow n
  pub adds : window_reach n ≤ longest_window
